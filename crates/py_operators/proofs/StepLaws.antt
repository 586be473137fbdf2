-- The numbers that steps lead to, and which of them are kept.
use Rattle.std.proofs.Common.{◌≡◌, ℕ, zero, suc, ◌+◌, ◌-◌, ◌*◌, ◌/◌, ◌%◌, ◌^◌, ◌≤◌, ◌<◌, ◌⊎◌, inl, inr, Bool, true, false, Option, Some, None, refl, arith, ap, sym, ◌∙◌, subst}
use Rattle.std.specs.Prelude.{ℤ, pos, negsuc, neg_ℤ, ◌+ℤ◌, ◌-ℤ◌, ◌≤ℤ◌, ◌<ℤ◌, not, IsTrue, int_lt, unsigned_abs, nat_lt, SomeIff, if◌then◌else◌}
use Rattle.std.specs.Int.{int_gap, div_ceil}
use Rattle.std.proofs.lemmas.Int.{ints}
use Rattle.std.proofs.lemmas.Bool.{cases_lt, cases_Bool}
use Rattle.std.proofs.lemmas.Bool.Decides.{nat_tests}
use Rattle.std.proofs.Math.Nat.{mul-le-mul_right}
use Rattle.amh_bits.specs.Integers.{IsKept, IsSignAndSize, with_sign, sign_of, inverse_is}
use Rattle.py_values.specs.declared.range.Span.{Span}
use Rattle.py_values.specs.Ranges.{comes_before}
use Rattle.py_operators.specs.Spans.{way, span_count, stepped, Hops, span_element, span_item}
use Rattle.py_operators.proofs.SpanLaws.{below_div_ceil, div_ceil_below, div_ceil_is, div_ceil_parts}

-- ---- the bounds of what is kept

kept_low : (z : ℤ) → IsKept z → neg_ℤ (pos (2 ^ 127)) ≤ℤ z
kept_low (pos n) h = omega (arith, ints)
kept_low (negsuc n) h = omega (arith, ints)

kept_high : (z : ℤ) → IsKept z → z <ℤ pos (2 ^ 128)
kept_high (pos n) h = omega (arith, ints)
kept_high (negsuc n) h = omega (arith, ints)

kept_within : (z : ℤ) → neg_ℤ (pos (2 ^ 127)) ≤ℤ z → z <ℤ pos (2 ^ 128) → IsKept z
kept_within (pos n) l h = omega (arith, ints)
kept_within (negsuc n) l h = omega (arith, ints)

-- ---- two ways, one after the other

pub stepped-stepped : (n step : ℤ) (h g : ℕ) → stepped (stepped n step h) step g ≡ stepped n step (h + g)
stepped-stepped n (pos s) h g = omega (arith, ints)
stepped-stepped n (negsuc k) h g = omega (arith, ints)

-- what lies between two numbers that are kept is kept
kept_on_way : (n step : ℤ) (h g : ℕ) → IsKept n → IsKept (stepped n step (h + g)) → IsKept (stepped n step h)
kept_on_way n (pos s) h g a b =
    kept_within (stepped n (pos s) h) (omega (arith, ints, kept_low n a)) (omega (arith, ints, kept_high (stepped n (pos s) (h + g)) b))
kept_on_way n (negsuc k) h g a b =
    kept_within (stepped n (negsuc k) h) (omega (arith, ints, kept_low (stepped n (negsuc k) (h + g)) b)) (omega (arith, ints, kept_high n a))

-- a way between two numbers that are kept is shorter than three times 2^127
way_kept : (n step : ℤ) (c : ℕ) → IsKept n → IsKept (stepped n step c) → c * unsigned_abs step < 2 ^ 128 + 2 ^ 127
way_kept n (pos s) c a b = omega (arith, ints, kept_low n a, kept_high (stepped n (pos s) c) b)
way_kept n (negsuc k) c a b = omega (arith, ints, kept_high n a, kept_low (stepped n (negsuc k) c) b)

-- so either half of it is shorter than 2^128
first_half : (n step : ℤ) (h g : ℕ) → h ≤ g → IsKept n → IsKept (stepped n step (h + g)) → h * unsigned_abs step < 2 ^ 128
first_half n step h g l a b =
    let w : (h + g) * unsigned_abs step < 2 ^ 128 + 2 ^ 127 = way_kept n step (h + g) a b in
    let m : h * unsigned_abs step ≤ g * unsigned_abs step = mul-le-mul_right (unsigned_abs step) l in
    omega (arith, w, m)

kept_size : (z : ℤ) → IsKept z → unsigned_abs z < 2 ^ 128
kept_size (pos n) h = h
kept_size (negsuc n) h = omega arith

second_half : (n step : ℤ) (h g : ℕ) → g ≤ h + 1 → unsigned_abs step < 2 ^ 128 → IsKept n → IsKept (stepped n step (h + g)) → g * unsigned_abs step < 2 ^ 128
second_half n step zero zero l s a b = omega arith
second_half n step zero (suc zero) l s a b = omega arith
second_half n step zero (suc (suc g)) l s a b = absurd (omega arith)
second_half n step (suc h) g l s a b =
    let w : (suc h + g) * unsigned_abs step < 2 ^ 128 + 2 ^ 127 = way_kept n step (suc h + g) a b in
    let m : g * unsigned_abs step ≤ (suc h + suc h) * unsigned_abs step = mul-le-mul_right (unsigned_abs step) (omega arith) in
    omega (arith, w, m)

-- ---- the way in two halves

stepped-with_sign : (n : ℤ) (back : Bool) (size count : ℕ) → stepped n (with_sign back size) count ≡ (if back then n -ℤ pos (count * size) else n +ℤ pos (count * size))
stepped-with_sign n false size count = omega (arith, ints)
stepped-with_sign n true zero count = omega (arith, ints)
stepped-with_sign n true (suc k) count = omega (arith, ints)

moves : (n step z : ℤ) (count : ℕ) (o : Option ℤ) → z ≡ stepped n step count → SomeIff o (IsKept z) z → Hops n step count o
moves n step z count (Some m) e h = (subst IsKept e h.0, h.1 ∙ e)
moves n step z count None e h = inr (λ k. h (subst IsKept (sym e) k))

pub moved_hops : (n step : ℤ) (back : Bool) (size way count : ℕ) (o : Option ℤ) → with_sign back size ≡ step → way ≡ count * size → SomeIff o (IsKept (if back then n -ℤ pos way else n +ℤ pos way)) (if back then n -ℤ pos way else n +ℤ pos way) → Hops n step count o
moved_hops n step back size way count o e w h =
    moves n step _ count o (ap (λ (k : ℕ). if back then n -ℤ pos k else n +ℤ pos k) w ∙ sym (stepped-with_sign n back size count) ∙ ap (λ z. stepped n z count) e) h

pub far_hops : (n step : ℤ) (back : Bool) (size count : ℕ) → IsSignAndSize back size → with_sign back size ≡ step → 2 ^ 128 ≤ count * size → Hops n step count None
far_hops n step back size count i e h = inl (rw (← e, (inverse_is back size i).1) h)

fails_at : (n step : ℤ) (c : ℕ) (o : Option ℤ) → o ≡ None → Hops n step c o → (2 ^ 128 ≤ c * unsigned_abs step) ⊎ (IsKept (stepped n step c) → ⊥)
fails_at n step c None e h = h
fails_at n step c (Some m) e h = absurd cc

pub there_at : (n step m : ℤ) (c : ℕ) (o : Option ℤ) → o ≡ Some m → Hops n step c o → m ≡ stepped n step c
there_at n step m c None e h = absurd cc
there_at n step m c (Some k) e h =
    let q : k ≡ m = cc in
    sym q ∙ h.1

half_fails : (n step : ℤ) (count h g : ℕ) → h + g ≡ count → h ≤ g → IsKept n → (2 ^ 128 ≤ h * unsigned_abs step) ⊎ (IsKept (stepped n step h) → ⊥) → IsKept (stepped n step count) → ⊥
half_fails n step count h g e l a (inl f) b =
    let b' : IsKept (stepped n step (h + g)) = rw e b in
    omega (arith, first_half n step h g l a b')
half_fails n step count h g e l a (inr f) b =
    let b' : IsKept (stepped n step (h + g)) = rw e b in
    f (kept_on_way n step h g a b')

pub half_fails_at : (n step : ℤ) (count h g : ℕ) (o : Option ℤ) → o ≡ None → Hops n step h o → h + g ≡ count → h ≤ g → IsKept n → IsKept (stepped n step count) → ⊥
half_fails_at n step count h g o e f p l a = half_fails n step count h g p l a (fails_at n step h o e f)

rest_fails : (n step m : ℤ) (count h g : ℕ) → h + g ≡ count → g ≤ h + 1 → IsKept step → m ≡ stepped n step h → IsKept n → (2 ^ 128 ≤ g * unsigned_abs step) ⊎ (IsKept (stepped m step g) → ⊥) → IsKept (stepped n step count) → ⊥
rest_fails n step m count h g e l s q a (inl f) b =
    let b' : IsKept (stepped n step (h + g)) = rw e b in
    omega (arith, second_half n step h g l (kept_size step s) a b')
rest_fails n step m count h g e l s q a (inr f) b =
    let b' : IsKept (stepped n step (h + g)) = rw e b in
    f (rw (q, stepped-stepped n step h g) b')

rest_there : (n step m r : ℤ) (count h g : ℕ) → h + g ≡ count → m ≡ stepped n step h → IsKept (stepped m step g) × (r ≡ stepped m step g) → IsKept (stepped n step count) × (r ≡ stepped n step count)
rest_there n step m r count h g e q f =
    let p : stepped m step g ≡ stepped n step count = ap (λ z. stepped z step g) q ∙ stepped-stepped n step h g ∙ ap (stepped n step) e in
    (subst IsKept p f.0, f.1 ∙ p)

-- the second half decides
pub rest_decides : (n step m : ℤ) (count h g : ℕ) (o : Option ℤ) → h + g ≡ count → g ≤ h + 1 → IsKept step → m ≡ stepped n step h → IsKept n → Hops m step g o → SomeIff o (IsKept (stepped n step count)) (stepped n step count)
rest_decides n step m count h g (Some r) e l s q a f = rest_there n step m r count h g e q f
rest_decides n step m count h g None e l s q a f = rest_fails n step m count h g e l s q a f

-- ---- elements stand before the stop exactly as long as they are counted

gap_more : (p : ℕ) (n m : ℤ) → p < int_gap n m → (n +ℤ pos p) <ℤ m
gap_more p (pos a) (pos b) h = omega (arith, ints)
gap_more p (pos a) (negsuc b) h = absurd (omega arith)
gap_more p (negsuc a) (pos b) h = omega (arith, ints)
gap_more p (negsuc a) (negsuc b) h = omega (arith, ints)

gap_above : (p : ℕ) (n m : ℤ) → (n +ℤ pos p) <ℤ m → p < int_gap n m
gap_above p (pos a) (pos b) h = omega (arith, ints)
gap_above p (pos a) (negsuc b) h = absurd (omega (arith, ints))
gap_above p (negsuc a) (pos b) h = omega (arith, ints)
gap_above p (negsuc a) (negsuc b) h = omega (arith, ints)

lt_test : (a b : ℤ) → a <ℤ b → int_lt a b ≡ true
lt_test a b h = grind (arith, ints)

test_lt : (a b : ℤ) → int_lt a b ≡ true → a <ℤ b
test_lt a b h = grind (arith, ints)

pub before_counted : (n step m : ℤ) (i : ℕ) → i < div_ceil (way step n m) (unsigned_abs step) → comes_before step (stepped n step i) m ≡ true
before_counted n (pos zero) m i h = absurd (omega arith)
before_counted n (pos (suc k)) m i h =
    let g : (n +ℤ pos (i * suc k)) <ℤ m = gap_more (i * suc k) n m (below_div_ceil i (int_gap n m) (suc k) (omega arith) h) in
    lt_test (stepped n (pos (suc k)) i) m (omega (arith, ints, g))
before_counted n (negsuc k) m i h =
    let g : (m +ℤ pos (i * suc k)) <ℤ n = gap_more (i * suc k) m n (below_div_ceil i (int_gap m n) (suc k) (omega arith) h) in
    lt_test m (stepped n (negsuc k) i) (omega (arith, ints, g))

pub counted_before : (n step m : ℤ) (i : ℕ) → comes_before step (stepped n step i) m ≡ true → i < div_ceil (way step n m) (unsigned_abs step)
counted_before n (pos zero) m i h = absurd cc
counted_before n (pos (suc k)) m i h =
    let l : stepped n (pos (suc k)) i <ℤ m = test_lt _ _ h in
    let g : (n +ℤ pos (i * suc k)) <ℤ m = omega (arith, ints, l) in
    div_ceil_below i (int_gap n m) (suc k) (omega arith) (gap_above (i * suc k) n m g)
counted_before n (negsuc k) m i h =
    let l : m <ℤ stepped n (negsuc k) i = test_lt _ _ h in
    let g : (m +ℤ pos (i * suc k)) <ℤ n = omega (arith, ints, l) in
    div_ceil_below i (int_gap m n) (suc k) (omega arith) (gap_above (i * suc k) m n g)

-- what stands before a number that is kept is kept
pub before_kept : (n step m : ℤ) (i : ℕ) → IsKept n → IsKept m → comes_before step (stepped n step i) m ≡ true → IsKept (stepped n step i)
before_kept n (pos zero) m i a b h = absurd cc
before_kept n (pos (suc k)) m i a b h =
    let l : stepped n (pos (suc k)) i <ℤ m = test_lt _ _ h in
    kept_within (stepped n (pos (suc k)) i) (omega (arith, ints, kept_low n a)) (omega (arith, ints, l, kept_high m b))
before_kept n (negsuc k) m i a b h =
    let l : m <ℤ stepped n (negsuc k) i = test_lt _ _ h in
    kept_within (stepped n (negsuc k) i) (omega (arith, ints, l, kept_low m b)) (omega (arith, ints, kept_high n a))

-- ---- elements by their number

pub some_is : {A : Type 0} (P : Type 0) (o : Option A) (x v : A) → o ≡ Some x → SomeIff o P v → x ≡ v
some_is P None x v e h = absurd cc
some_is P (Some y) x v e h =
    let q : y ≡ x = cc in
    sym q ∙ h.1

pub none_is : {A : Type 0} (P : Type 0) (o : Option A) (v : A) → o ≡ None → SomeIff o P v → P → ⊥
none_is P None v e h = h
none_is P (Some y) v e h = absurd cc

pub element_not_kept : (r : Span) (i : ℕ) → IsKept r.start → IsKept r.stop → (IsKept (stepped r.start r.step i) → ⊥) → None ≡ span_element r i
element_not_kept r i a b n =
    elim (cases_Bool (comes_before r.step (stepped r.start r.step i) r.stop)) [
      | inl t ↦ absurd (n (before_kept r.start r.step r.stop i a b t))
      | inr f ↦ rw f refl
    ]

pub element_there : (r : Span) (i : ℕ) → i < span_count r → span_element r i ≡ Some (stepped r.start r.step i)
element_there r i h = rw (before_counted r.start r.step r.stop i h) refl

pub element_past : (r : Span) (i : ℕ) → span_count r ≤ i → span_element r i ≡ None
element_past r i h =
    elim (cases_Bool (comes_before r.step (stepped r.start r.step i) r.stop)) [
      | inl t ↦ absurd (omega (arith, counted_before r.start r.step r.stop i t))
      | inr f ↦ rw f refl
    ]

-- ---- items from the end

pub item_from_start : (r : Span) (n : ℕ) → span_element r n ≡ span_item r (pos n)
item_from_start r n =
    elim (cases_lt n (span_count r)) [
      | inl l ↦ let t : nat_lt n (span_count r) ≡ true = grind (arith, nat_tests) in rw t refl
      | inr g ↦ let t : nat_lt n (span_count r) ≡ false = grind (arith, nat_tests) in rw (t, element_past r n g) refl
    ]

pub item_from_end : (r : Span) (n : ℕ) → n < span_count r → span_element r (span_count r - suc n) ≡ span_item r (negsuc n)
item_from_end r n l = let t : nat_lt n (span_count r) ≡ true = grind (arith, nat_tests) in rw t refl

pub item_before_start : (r : Span) (n : ℕ) → span_count r ≤ n → None ≡ span_item r (negsuc n)
item_before_start r n l = let t : nat_lt n (span_count r) ≡ false = grind (arith, nat_tests) in rw t refl

pub item_first : (r : Span) (n : ℤ) (back : Bool) (size : ℕ) (x : Option ℤ) → not back ≡ true → with_sign back size ≡ n → x ≡ span_element r size → x ≡ span_item r n
item_first r n true size x t e h = absurd cc
item_first r n false size x t e h = h ∙ item_from_start r size ∙ ap (span_item r) e

-- ---- a range with 2^128 elements or more goes by single steps

gap_kept : (n m : ℤ) → IsKept n → IsKept m → int_gap n m < 2 ^ 128 + 2 ^ 127
gap_kept (pos a) (pos b) h g = omega arith
gap_kept (pos a) (negsuc b) h g = omega arith
gap_kept (negsuc a) (pos b) h g = omega arith
gap_kept (negsuc a) (negsuc b) h g = omega arith

single_step : (g k : ℕ) → g < 2 ^ 128 + 2 ^ 127 → 2 ^ 128 ≤ div_ceil g (suc k) → k ≡ 0
single_step g k l h =
    let b : (2 ^ 128 - 1) * suc k < g = below_div_ceil (2 ^ 128 - 1) g (suc k) (omega arith) (omega arith) in
    omega (arith, b)

single_steps : (g : ℕ) → div_ceil g 1 ≡ g
single_steps g = div_ceil_is g 1 g (omega arith) (omega arith) (omega arith)

end_forth : (a b : ℤ) (j : ℕ) → j < int_gap a b → stepped a (pos 1) (int_gap a b - suc j) ≡ b +ℤ negsuc j
end_forth (pos a) (pos b) j l = omega (arith, ints)
end_forth (pos a) (negsuc b) j l = absurd (omega arith)
end_forth (negsuc a) (pos b) j l = omega (arith, ints)
end_forth (negsuc a) (negsuc b) j l = omega (arith, ints)

end_back : (a b : ℤ) (j : ℕ) → j < int_gap b a → stepped a (negsuc 0) (int_gap b a - suc j) ≡ b -ℤ negsuc j
end_back (pos a) (pos b) j l = omega (arith, ints)
end_back (negsuc a) (pos b) j l = absurd (omega arith)
end_back (pos a) (negsuc b) j l = omega (arith, ints)
end_back (negsuc a) (negsuc b) j l = omega (arith, ints)

-- the item from the end of a range with so many elements
item_at_end : (r : Span) (g j : ℕ) (m : ℤ) → span_count r ≡ g → j < g → stepped r.start r.step (g - suc j) ≡ m → Some m ≡ span_item r (negsuc j)
item_at_end r g j m e l q =
    let c : j < span_count r = omega arith in
    let d : span_count r - suc j < span_count r = omega arith in
    let p : stepped r.start r.step (span_count r - suc j) ≡ m = ap (λ (x : ℕ). stepped r.start r.step (x - suc j)) e ∙ q in
    ap Some (sym p) ∙ sym (element_there r (span_count r - suc j) d) ∙ item_from_end r j c

single_forth : (a b : ℤ) (j : ℕ) (m : ℤ) → j < int_gap a b → m ≡ b +ℤ negsuc j → Some m ≡ span_item (record { start = a; stop = b; step = pos 1 }) (negsuc j)
single_forth a b j m l q = item_at_end (record { start = a; stop = b; step = pos 1 }) (int_gap a b) j m (single_steps (int_gap a b)) l (end_forth a b j l ∙ sym q)

single_back : (a b : ℤ) (j : ℕ) (m : ℤ) → j < int_gap b a → m ≡ b -ℤ negsuc j → Some m ≡ span_item (record { start = a; stop = b; step = negsuc 0 }) (negsuc j)
single_back a b j m l q = item_at_end (record { start = a; stop = b; step = negsuc 0 }) (int_gap b a) j m (single_steps (int_gap b a)) l (end_back a b j l ∙ sym q)

pub far_forth : (a b step n m : ℤ) → sign_of step ≡ false → IsTrue (sign_of n) → IsKept a → IsKept b → IsKept n → 2 ^ 128 ≤ div_ceil (way step a b) (unsigned_abs step) → m ≡ b +ℤ n → Some m ≡ span_item (record { start = a; stop = b; step = step }) n
far_forth a b (negsuc k) n m s t p q i c e = absurd cc
far_forth a b (pos k) (pos j) m s t p q i c e = absurd (grind arith)
far_forth a b (pos zero) (negsuc j) m s t p q i c e = absurd (omega arith)
far_forth a b (pos (suc k)) (negsuc j) m s t p q i c e =
    let z : k ≡ 0 = single_step (int_gap a b) k (gap_kept a b p q) c in
    let c' : 2 ^ 128 ≤ div_ceil (int_gap a b) 1 = subst (λ (x : ℕ). 2 ^ 128 ≤ div_ceil (int_gap a b) (suc x)) z c in
    let l : j < int_gap a b = omega (arith, single_steps (int_gap a b), c') in
    subst (λ (x : ℕ). Some m ≡ span_item (record { start = a; stop = b; step = pos (suc x) }) (negsuc j)) (sym z) (single_forth a b j m l e)

pub far_back : (a b step n m : ℤ) → sign_of step ≡ true → IsTrue (sign_of n) → IsKept a → IsKept b → IsKept n → 2 ^ 128 ≤ div_ceil (way step a b) (unsigned_abs step) → m ≡ b -ℤ n → Some m ≡ span_item (record { start = a; stop = b; step = step }) n
far_back a b (pos k) n m s t p q i c e = absurd cc
far_back a b (negsuc k) (pos j) m s t p q i c e = absurd (grind arith)
far_back a b (negsuc k) (negsuc j) m s t p q i c e =
    let z : k ≡ 0 = single_step (int_gap b a) k (gap_kept b a q p) c in
    let c' : 2 ^ 128 ≤ div_ceil (int_gap b a) 1 = subst (λ (x : ℕ). 2 ^ 128 ≤ div_ceil (int_gap b a) (suc x)) z c in
    let l : j < int_gap b a = omega (arith, single_steps (int_gap b a), c') in
    subst (λ (x : ℕ). Some m ≡ span_item (record { start = a; stop = b; step = negsuc x }) (negsuc j)) (sym z) (single_back a b j m l e)

-- ---- the steps for a way of two parts

pub steps_for_parts : (a b s whole rests : ℕ) (o : Option ℕ) → 0 < s → rests ≡ div_ceil (a % s + b % s) s → a / s + b / s ≡ whole → SomeIff o (whole + rests < 2 ^ 128) (whole + rests) → SomeIff o (div_ceil (a + b) s < 2 ^ 128) (div_ceil (a + b) s)
steps_for_parts a b s whole rests o p e f h =
    let q : whole + rests ≡ div_ceil (a + b) s = rw (← f, e) (sym (div_ceil_parts a b s p)) in
    subst (λ (x : ℕ). SomeIff o (x < 2 ^ 128) x) q h
