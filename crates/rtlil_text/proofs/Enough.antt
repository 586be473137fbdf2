-- A bit that has a value at some depth has it at a depth of one more than the number of driven bits.
use Rattle.std.specs.Prelude.{◌≡◌, refl, ℕ, zero, suc, ◌+◌, ◌-◌, ◌≤◌, ◌&&◌, ◌==◌, Bool, true, false, cond, ◌⊎◌, List, [], ◌∷◌, map, length, Option, Some, None, is_some}
use Rattle.std.proofs.Common.{sym, ◌∙◌, ap, arith, inl, inr, ⊎_elim}
use Rattle.std.proofs.lemmas.Bool.{cases_lt, false≢true, eqb-true}
use Rattle.lists.specs.Texts.{text_eq}
use Rattle.lists.proofs.TextLaws.{text_eq_true}
use Rattle.rtlil_text.specs.declared.module.RtlModule.{RtlModule}
use Rattle.rtlil_text.specs.Sources.{Source, Constant, Net, is_input}
use Rattle.rtlil_text.specs.Drivers.{Driver, ByNone, driven_bits, drivers, is_bit, driver_in, driver}
use Rattle.rtlil_text.specs.Meaning.{State, Inputs, source_value, driven_bit, bit}
use Rattle.rtlil_text.specs.History.{depth, wire_bit}
use Rattle.rtlil_text.proofs.Among.{Among}
use Rattle.rtlil_text.proofs.Depth.{Grows, Grows-same, Grows-trans, Grows-driven, Grows-source, bit-deeper}
use Rattle.rtlil_text.proofs.Driven.{keys-drivers}

-- how many pass: std's count_by folds from the left, and does not compute at a cons
abbrev passed : {A : Type 0} → (A → Bool) → List A → ℕ
passed p [] = 0
passed p (s ∷ ss) = cond (p s) 1 0 + passed p ss

passed_small : {A : Type 0} (p : A → Bool) (ss : List A) → passed p ss ≤ length ss
passed_small p [] = omega arith
passed_small p (s ∷ ss) = omega (arith, passed_small p ss, one_small (p s))
  where
    one_small : (b : Bool) → cond b 1 0 ≤ 1
    one_small true = omega arith
    one_small false = omega arith

one_le : (a b : Bool) → (a ≡ true → b ≡ true) → cond a 1 0 ≤ cond b 1 0
one_le true b h = rw (h refl) (omega arith)
one_le false b h = omega arith

count_le : {A : Type 0} (p q : A → Bool) (ss : List A) → ((s : A) → p s ≡ true → q s ≡ true) → passed p ss ≤ passed q ss
count_le p q [] h = omega arith
count_le p q (s ∷ ss) h = omega (arith, count_le p q ss h, one_le (p s) (q s) (h s))

head_same : (a b : Bool) (m n : ℕ) → (a ≡ true → b ≡ true) → m ≤ n → cond b 1 0 + n ≤ cond a 1 0 + m → b ≡ true → a ≡ true
head_same true b m n h le all e = refl
head_same false true m n h le all e = absurd (omega arith)
head_same false false m n h le all e = e

tail_same : (a b : Bool) (m n : ℕ) → (a ≡ true → b ≡ true) → cond b 1 0 + n ≤ cond a 1 0 + m → n ≤ m
tail_same true true m n h all = omega arith
tail_same true false m n h all = absurd (false≢true (h refl))
tail_same false b m n h all = omega arith

-- where no more pass q than p, each that passes q passes p
count_same : {A : Type 0} (p q : A → Bool) (ss : List A) → ((s : A) → p s ≡ true → q s ≡ true) → passed q ss ≤ passed p ss → (s : A) → Among ss s → q s ≡ true → p s ≡ true
count_same p q [] h le s among e = absurd among
count_same p q (x ∷ ss) h le s among e =
    ⊎_elim (λ here. rw here at (head_same (p x) (q x) (passed p ss) (passed q ss) (h x) (count_le p q ss h) le (rw (← here) at e))) (λ later. count_same p q ss h (tail_same (p x) (q x) (passed p ss) (passed q ss) (h x) le) s later e) among

some_of : {A : Type 0} (x : Option A) → is_some x ≡ true → (v : A) × (x ≡ Some v)
some_of None e = absurd (false≢true e)
some_of (Some v) e = (v, refl)

grows_some : {A : Type 0} (x y : Option A) → Grows x y → is_some x ≡ true → is_some y ≡ true
grows_some x y h e = let w = some_of x e in rw (h w.0 w.1) refl

abbrev plus : ℕ → ℕ → ℕ
plus zero n = n
plus (suc k) n = suc (plus k n)

plus_is : (k n : ℕ) → plus k n ≡ k + n
plus_is zero n = omega arith
plus_is (suc k) n = omega (arith, plus_is k n)

module _ {S : Type 0} (val : ℕ → S → Option Bool) (bits : List S)
    (grows : (n : ℕ) (s : S) → Grows (val n s) (val (suc n) s))
    (stays : (n : ℕ) → ((s : S) → Grows (val (suc n) s) (val n s)) → (s : S) → Grows (val (suc (suc n)) s) (val (suc n) s))
    (outside : (n : ℕ) (s : S) → Among bits s ⊎ Grows (val (suc (suc n)) s) (val (suc n) s)) where
  has : ℕ → S → Bool
  has n s = is_some (val n s)

  count : ℕ → ℕ
  count n = passed (has n) bits

  Stable : ℕ → Type 0
  Stable n = (s : S) → Grows (val (suc n) s) (val n s)

  has_grows : (n : ℕ) (s : S) → has n s ≡ true → has (suc n) s ≡ true
  unfolding has
  has_grows n s = grows_some _ _ (grows n s)

  stable_at : (n : ℕ) → count (suc (suc n)) ≤ count (suc n) → (s : S) → Among bits s → Grows (val (suc (suc n)) s) (val (suc n) s)
  unfolding has count
  stable_at n le s among v e =
      let w = some_of (val (suc n) s) (count_same (has (suc n)) (has (suc (suc n))) bits (has_grows (suc n)) le s among (rw e refl)) in
      let f : val (suc (suc n)) s ≡ Some w.0 = grows (suc n) s w.0 w.1 in
      let g : w.0 ≡ v = cc in
      w.1 ∙ ap Some g

  stable_from : (n : ℕ) → count (suc (suc n)) ≤ count (suc n) → Stable (suc n)
  unfolding Stable
  stable_from n le s = ⊎_elim (stable_at n le s) (λ g. g) (outside n s)

  count_small : (n : ℕ) → count n ≤ length bits
  unfolding count
  count_small n = passed_small (has n) bits

  reach : (k n : ℕ) → length bits ≤ count (suc n) + k → (j : ℕ) × (j ≤ n + k) × Stable (suc j)
  reach zero n h = ⊎_elim (λ lt. absurd (omega (arith, count_small (suc (suc n))))) (λ ge. (n, omega arith, stable_from n ge)) (cases_lt (count (suc n)) (count (suc (suc n))))
  reach (suc k) n h = ⊎_elim (λ lt. let r = reach k (suc n) (omega arith) in (r.0, omega (arith, r.1), r.2)) (λ ge. (n, omega arith, stable_from n ge)) (cases_lt (count (suc n)) (count (suc (suc n))))

  stable_all : (k n : ℕ) → Stable n → Stable (plus k n)
  unfolding Stable
  stable_all zero n st = st
  stable_all (suc k) n st = stays (plus k n) (stable_all k n st)

  later : (k n : ℕ) (s : S) → Grows (val n s) (val (plus k n) s)
  later zero n s = Grows-same _
  later (suc k) n s = Grows-trans _ _ _ (later k n s) (grows (plus k n) s)

  earlier : (k n : ℕ) → Stable n → (s : S) → Grows (val (plus k n) s) (val n s)
  unfolding Stable
  earlier zero n st s = Grows-same _
  earlier (suc k) n st s = Grows-trans _ _ _ (stable_all k n st s) (earlier k n st s)

  later_to : (m n : ℕ) (s : S) → m ≤ n → Grows (val m s) (val n s)
  later_to m n s h v e = let p : plus (n - m) m ≡ n = plus_is (n - m) m ∙ omega arith in ap (λ x. val x s) (sym p) ∙ later (n - m) m s v e

  earlier_to : (m n : ℕ) → Stable m → (s : S) → m ≤ n → Grows (val n s) (val m s)
  earlier_to m n st s h v e = let p : plus (n - m) m ≡ n = plus_is (n - m) m ∙ omega arith in earlier (n - m) m st s v (ap (λ x. val x s) p ∙ e)

  -- the depth is enough
  pub enough : (n : ℕ) (s : S) → Grows (val n s) (val (suc (length bits)) s)
  enough n s =
      let r = reach (length bits) 0 (omega arith) in
      let settled : Grows (val n s) (val (suc r.0) s) = ⊎_elim (λ lt. later_to n (suc r.0) s (omega arith)) (λ ge. earlier_to (suc r.0) n r.2 s (omega arith)) (cases_lt n (suc r.0)) in
      Grows-trans _ _ _ settled (later_to (suc r.0) (suc (length bits)) s (omega (arith, r.1)))

-- ---- the bits of a module

and-split : (a b : Bool) → (a && b) ≡ true → (a ≡ true) × (b ≡ true)
and-split true b e = (refl, e)
and-split false b e = absurd (false≢true e)

is_bit-net : (wire : List ℕ) (i : ℕ) (s : Source) → is_bit wire i s ≡ true → s ≡ Net wire i
is_bit-net wire i (Constant b) e = absurd (false≢true e)
is_bit-net wire i (Net id k) e =
    let h = and-split (text_eq id wire) (k == i) e in
    let a = text_eq_true id wire h.0 in
    let b = eqb-true k i h.1 in
    (λ j. Net (a j) (b j))

-- a bit is driven, or has no driver
driven_or_none : (wire : List ℕ) (i : ℕ) (ds : List (Source × Driver)) → Among (map (λ (p : Source × Driver). p.0) ds) (Net wire i) ⊎ (driver_in wire i ds ≡ ByNone)
driven_or_none wire i [] = inr refl
driven_or_none wire i ((s, d) ∷ ds) = by (is_bit wire i s) refl (driven_or_none wire i ds)
  where
    by : (b : Bool) → is_bit wire i s ≡ b → Among (map (λ (p : Source × Driver). p.0) ds) (Net wire i) ⊎ (driver_in wire i ds ≡ ByNone) → ((s ≡ Net wire i) ⊎ Among (map (λ (p : Source × Driver). p.0) ds) (Net wire i)) ⊎ (driver_in wire i ((s, d) ∷ ds) ≡ ByNone)
    by true e rest = inl (inl (is_bit-net wire i s e))
    by false e rest = ⊎_elim (λ a. inl (inr a)) (λ n. inr (rw e n)) rest

module _ (m : RtlModule) (st : State) (inputs : Inputs) where
  value : ℕ → Source → Option Bool
  value n s = source_value (bit m st inputs n) s

  deeper : (n : ℕ) (s : Source) → Grows (value n s) (value (suc n) s)
  unfolding value
  deeper n s = Grows-source (bit m st inputs n) (bit m st inputs (suc n)) (bit-deeper m st inputs n) s

  stays_so : (n : ℕ) → ((s : Source) → Grows (value (suc n) s) (value n s)) → (s : Source) → Grows (value (suc (suc n)) s) (value (suc n) s)
  unfolding value
  stays_so n h (Constant b) = Grows-same _
  stays_so n h (Net wire i) = Grows-driven (source_value (bit m st inputs (suc n))) (source_value (bit m st inputs n)) h m st inputs wire i (driver m wire i)

  not_driven : (n : ℕ) (wire : List ℕ) (i : ℕ) → driver_in wire i (drivers m) ≡ ByNone → (b : Bool) → is_input m wire ≡ b → Grows (bit m st inputs (suc (suc n)) wire i) (bit m st inputs (suc n) wire i)
  not_driven n wire i none true e = rw e (Grows-same _)
  not_driven n wire i none false e = rw (e, none) (Grows-same _)

  elsewhere : (n : ℕ) (s : Source) → Among (driven_bits m) s ⊎ Grows (value (suc (suc n)) s) (value (suc n) s)
  unfolding value
  elsewhere n (Constant b) = inr (Grows-same _)
  elsewhere n (Net wire i) = ⊎_elim (λ a. inl (rw (keys-drivers m) at a)) (λ none. inr (not_driven n wire i none (is_input m wire) refl)) (driven_or_none wire i (drivers m))

  pub bit-enough : (n : ℕ) (wire : List ℕ) (i : ℕ) → Grows (bit m st inputs n wire i) (wire_bit m st inputs wire i)
  unfolding value wire_bit
  bit-enough n wire i = enough value (driven_bits m) deeper stays_so elsewhere n (Net wire i)

  both_grow : (x y : Option Bool) → Grows x y → Grows y x → x ≡ y
  both_grow None None p q = refl
  both_grow None (Some b) p q = q b refl
  both_grow (Some a) y p q = sym (p a refl)

  -- each bit has the value that its driver gives it from the values of the bits that it takes
  pub wire_bit-driven : (wire : List ℕ) (i : ℕ) → wire_bit m st inputs wire i ≡ driven_bit m st inputs (source_value (wire_bit m st inputs)) wire i (driver m wire i)
  unfolding wire_bit
  wire_bit-driven wire i = both_grow _ _ (bit-deeper m st inputs (depth m) wire i) (bit-enough (suc (depth m)) wire i)
