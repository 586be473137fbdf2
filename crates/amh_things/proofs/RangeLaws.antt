-- Of a range's elements the first and the last one decide its shape.
use Rattle.std.proofs.Common.{◌≡◌, ℕ, zero, suc, ◌+◌, ◌-◌, ◌*◌, ◌/◌, ◌%◌, ◌^◌, ◌≤◌, ◌<◌, ◌⊎◌, inl, inr, max, Bool, true, false, ◌||◌, List, [], ◌∷◌, refl, arith, ap, sym, ◌∙◌, zero-add, add-zero}
use Rattle.std.specs.Prelude.{ℤ, pos, negsuc, ◌+ℤ◌, ◌-ℤ◌, ◌≤ℤ◌, IsTrue, int_lt, unsigned_abs, if◌then◌else◌, nat_lt}
use Rattle.std.specs.List.{list_any}
use Rattle.std.specs.Int.{int_gap, div_ceil}
use Rattle.std.proofs.lemmas.Int.{ints}
use Rattle.std.proofs.lemmas.Bool.{cases_lt}
use Rattle.std.proofs.lemmas.Bool.Decides.{nat_tests}
use Rattle.std.proofs.Math.Nat.{mod-lt}
use Rattle.std.proofs.lemmas.Nat.{div-add-mod', mod-mul-add}
use Rattle.amh_bits.specs.Integers.{sign_of}
use Rattle.shape_rules.specs.Forms.{Form}
use Rattle.py_values.specs.Ranges.{comes_before}
use Rattle.py_builtins.specs.Scalars.{bit_length, first_from}
use Rattle.py_operators.specs.Spans.{stepped, way, span_count, numbers_from, span_numbers}
use Rattle.py_operators.proofs.SpanLaws.{div_ceil_is}
use Rattle.py_operators.proofs.StepLaws.{before_counted, counted_before}
use Rattle.amh_things.specs.Ranges.{magnitude, width_for, width_for_all, form_for_all}

-- ---- the last element

-- the rests of two parts, where they are together less than one more step, and where not
pub rest_low : (a b size : ℕ) → a % size + b % size < size → a % size + b % size ≡ (a + b) % size
rest_low a b size small =
    let both : a + b ≡ (a / size + b / size) * size + (a % size + b % size) = omega (arith, div-add-mod' a size, div-add-mod' b size) in
    sym (ap (λ n. n % size) both ∙ mod-mul-add (a / size + b / size) size (a % size + b % size) small)

pub rest_high : (a b size : ℕ) → 0 < size → size ≤ a % size + b % size → a % size - (size - b % size) ≡ (a + b) % size
rest_high a b size some more =
    let rest : ℕ = a % size - (size - b % size) in
    let small : rest < size = omega (arith, mod-lt a some, mod-lt b some) in
    let both : a + b ≡ (a / size + b / size + 1) * size + rest = omega (arith, div-add-mod' a size, div-add-mod' b size, mod-lt a some, mod-lt b some) in
    sym (ap (λ n. n % size) both ∙ mod-mul-add (a / size + b / size + 1) size rest small)

-- whole steps and what they leave are the way but for one
counts_steps : (gap size rest : ℕ) → 0 < size → rest ≡ gap % size → (div_ceil (gap + 1) size ≡ gap / size + 1) × (gap / size * size + rest ≡ gap)
counts_steps gap size rest some is =
    let whole : gap / size * size + gap % size ≡ gap = div-add-mod' gap size in
    let small : gap % size < size = mod-lt gap some in
    (div_ceil_is (gap + 1) size (gap / size + 1) some (omega (arith, whole, small)) (omega (arith, whole, small)), omega (arith, whole, is))

steps_up : (start stop : ℤ) (k gap rest q : ℕ) → IsTrue (int_lt start stop) → gap + 1 ≡ int_gap start stop → q * suc k + rest ≡ gap → stop -ℤ pos (rest + 1) ≡ stepped start (pos (suc k)) q
steps_up (pos a) (pos b) k gap rest q before is whole = omega (arith, ints)
steps_up (pos a) (negsuc b) k gap rest q before is whole = absurd (omega arith)
steps_up (negsuc a) (pos b) k gap rest q before is whole = omega (arith, ints)
steps_up (negsuc a) (negsuc b) k gap rest q before is whole = omega (arith, ints)

steps_down : (start stop : ℤ) (k gap rest q : ℕ) → IsTrue (int_lt stop start) → gap + 1 ≡ int_gap stop start → q * suc k + rest ≡ gap → stop +ℤ pos (rest + 1) ≡ stepped start (negsuc k) q
steps_down (pos a) (pos b) k gap rest q before is whole = omega (arith, ints)
steps_down (negsuc a) (pos b) k gap rest q before is whole = absurd (omega arith)
steps_down (pos a) (negsuc b) k gap rest q before is whole = omega (arith, ints)
steps_down (negsuc a) (negsuc b) k gap rest q before is whole = omega (arith, ints)

-- so many steps but one
all_but_one : (start step : ℤ) (count gap whole : ℕ) → count ≡ gap → gap ≡ whole + 1 → stepped start step whole ≡ stepped start step (count - 1)
all_but_one start step count gap whole e f = let g : whole ≡ count - 1 = omega arith in ap (stepped start step) g

pub up_is : (start stop step : ℤ) (a b rest : ℕ) → IsTrue (comes_before step start stop) → sign_of step ≡ false → a + b + 1 ≡ int_gap start stop → rest ≡ (a + b) % unsigned_abs step
    → stop -ℤ pos (rest + 1) ≡ stepped start step (div_ceil (way step start stop) (unsigned_abs step) - 1)
up_is start stop (pos zero) a b rest before up gap is = absurd cc
up_is start stop (pos (suc k)) a b rest before up gap is =
    let c = counts_steps (a + b) (suc k) rest (omega arith) is in
    steps_up start stop k (a + b) rest ((a + b) / suc k) before gap c.1 ∙ all_but_one start (pos (suc k)) (div_ceil (int_gap start stop) (suc k)) (div_ceil (a + b + 1) (suc k)) ((a + b) / suc k) (ap (λ n. div_ceil n (suc k)) (sym gap)) c.0
up_is start stop (negsuc k) a b rest before up gap is = absurd cc

pub down_is : (start stop step : ℤ) (a b rest : ℕ) → IsTrue (comes_before step start stop) → sign_of step ≡ true → a + b + 1 ≡ int_gap stop start → rest ≡ (a + b) % unsigned_abs step
    → stop +ℤ pos (rest + 1) ≡ stepped start step (div_ceil (way step start stop) (unsigned_abs step) - 1)
down_is start stop (pos s) a b rest before down gap is = absurd cc
down_is start stop (negsuc k) a b rest before down gap is =
    let c = counts_steps (a + b) (suc k) rest (omega arith) is in
    steps_down start stop k (a + b) rest ((a + b) / suc k) before gap c.1 ∙ all_but_one start (negsuc k) (div_ceil (int_gap stop start) (suc k)) (div_ceil (a + b + 1) (suc k)) ((a + b) / suc k) (ap (λ n. div_ceil n (suc k)) (sym gap)) c.0

pub no_steps : (n step : ℤ) → stepped n step 0 ≡ n
no_steps n (pos s) = omega (arith, ints)
no_steps n (negsuc s) = omega (arith, ints)

pub some_counted : (start stop step : ℤ) → IsTrue (comes_before step start stop) → 0 < div_ceil (way step start stop) (unsigned_abs step)
some_counted start stop step before = counted_before start step stop 0 (ap (λ n. comes_before step n stop) (no_steps start step) ∙ before)

pub none_counted : (start stop step : ℤ) → comes_before step start stop ≡ false → div_ceil (way step start stop) (unsigned_abs step) ≡ 0
none_counted start stop step after =
    elim (cases_lt 0 (div_ceil (way step start stop) (unsigned_abs step))) [
      | inl l ↦
          let t : comes_before step start stop ≡ true = ap (λ n. comes_before step n stop) (sym (no_steps start step)) ∙ before_counted start step stop 0 l in
          absurd cc
      | inr l ↦ omega arith
    ]

-- ---- more bits for greater numbers

test_on : (k rest : ℕ) (b : Bool) → k + 1 ≤ rest → k ≤ (if b then k else rest)
test_on k rest true h = omega arith
test_on k rest false h = omega arith

from_on : (n k : ℕ) (p : ℕ → Bool) → k ≤ first_from n p k
unfolding first_from
from_on zero k p = omega arith
from_on (suc n) k p = test_on k (first_from n p (k + 1)) (p k) (from_on n (k + 1) p)

test_before : (k m l : ℕ) (b c : Bool) → (c ≡ true → b ≡ true) → k + 1 ≤ l → m ≤ l → (if b then k else m) ≤ (if c then k else l)
test_before k m l true true h on le = omega arith
test_before k m l true false h on le = omega arith
test_before k m l false true h on le = let t : false ≡ true = h refl in absurd cc
test_before k m l false false h on le = le

from_before : (n k : ℕ) (p q : ℕ → Bool) → ((j : ℕ) → q j ≡ true → p j ≡ true) → first_from n p k ≤ first_from n q k
unfolding first_from
from_before zero k p q h = omega arith
from_before (suc n) k p q h = test_before k (first_from n p (k + 1)) (first_from n q (k + 1)) (p k) (q k) (h k) (from_on n (k + 1) q) (from_before n (k + 1) p q h)

fewer_bits : (a b : ℕ) → a ≤ b → bit_length a ≤ bit_length b
fewer_bits a b le = from_before 128 0 (λ k. nat_lt a (2 ^ k)) (λ k. nat_lt b (2 ^ k)) (λ j h. grind (arith, nat_tests))

-- ---- a number between two others

sign_between : (x y z : ℤ) → x ≤ℤ y → y ≤ℤ z → (sign_of x || (sign_of y || sign_of z)) ≡ (sign_of x || sign_of z)
sign_between (pos x) (pos y) z h g = refl
sign_between (pos x) (negsuc y) z h g = absurd (omega (arith, ints))
sign_between (negsuc x) y z h g = refl

sign_back : (x y z : ℤ) → z ≤ℤ y → y ≤ℤ x → (sign_of x || (sign_of y || sign_of z)) ≡ (sign_of x || sign_of z)
sign_back x (pos y) z h g = refl
sign_back (negsuc x) (negsuc y) z h g = refl
sign_back (pos x) (negsuc y) (pos z) h g = absurd (omega (arith, ints))
sign_back (pos x) (negsuc y) (negsuc z) h g = refl

magnitude_between : (x y z : ℤ) → x ≤ℤ y → y ≤ℤ z → (magnitude y ≤ magnitude x) ⊎ (magnitude y ≤ magnitude z)
magnitude_between x (pos y) (pos z) h g = inr (omega (arith, ints))
magnitude_between x (pos y) (negsuc z) h g = absurd (omega (arith, ints))
magnitude_between (pos x) (negsuc y) z h g = absurd (omega (arith, ints))
magnitude_between (negsuc x) (negsuc y) z h g = inl (omega (arith, ints))

less_wide : (signed : Bool) (x y : ℤ) → magnitude x ≤ magnitude y → width_for signed x ≤ width_for signed y
less_wide false x y h = fewer_bits (magnitude x) (magnitude y) h
less_wide true x y h = omega (arith, fewer_bits (magnitude x) (magnitude y) h)

width_between : (signed : Bool) (x y z : ℤ) → x ≤ℤ y → y ≤ℤ z → width_for signed y ≤ max (width_for signed x) (width_for signed z)
width_between signed x y z h g = elim (magnitude_between x y z h g) [ inl l ↦ omega (arith, less_wide signed y x l) | inr l ↦ omega (arith, less_wide signed y z l) ]

on_way : (n step : ℤ) (i m : ℕ) → ((stepped n step i ≤ℤ stepped n step (i + 1)) × (stepped n step (i + 1) ≤ℤ stepped n step (i + 1 + m))) ⊎ ((stepped n step (i + 1 + m) ≤ℤ stepped n step (i + 1)) × (stepped n step (i + 1) ≤ℤ stepped n step i))
on_way n (pos s) i m = inl (omega (arith, ints), omega (arith, ints))
on_way n (negsuc s) i m = inr (omega (arith, ints), omega (arith, ints))

-- ---- all elements

once : (a b : Bool) → a ≡ b → (a || false) ≡ (a || b)
once true b e = refl
once false b e = e

ends_signs : (a b x y : ℤ) → a ≡ b → x ≡ y → (sign_of a || sign_of x) ≡ (sign_of b || (sign_of y || false))
ends_signs a b x (pos y) e f = ap (λ z. sign_of z || sign_of x) e ∙ ap (λ z. sign_of b || sign_of z) f
ends_signs a b x (negsuc y) e f = ap (λ z. sign_of z || sign_of x) e ∙ ap (λ z. sign_of b || sign_of z) f

ends_widths : (signed : Bool) (a b x y : ℤ) → a ≡ b → x ≡ y → max (width_for signed a) (width_for signed x) ≡ max (width_for signed b) (max (width_for signed y) 0)
ends_widths signed a b x y e f =
    let g : width_for signed a ≡ width_for signed b = ap (width_for signed) e in
    let h : width_for signed x ≡ width_for signed y = ap (width_for signed) f in
    omega (arith, g, h)

widest : (a b c : ℕ) → b ≤ max a c → max a (max b c) ≡ max a c
widest a b c h = omega (arith, h)

module _ (start stop step : ℤ) where
  step_signs : (i m : ℕ) → (sign_of (stepped start step i) || (sign_of (stepped start step (i + 1)) || sign_of (stepped start step (i + 1 + m)))) ≡ (sign_of (stepped start step i) || sign_of (stepped start step (i + 1 + m)))
  step_signs i m =
      elim (on_way start step i m) [
        | inl h ↦ sign_between (stepped start step i) (stepped start step (i + 1)) (stepped start step (i + 1 + m)) h.0 h.1
        | inr h ↦ sign_back (stepped start step i) (stepped start step (i + 1)) (stepped start step (i + 1 + m)) h.0 h.1
      ]

  step_width : (signed : Bool) (i m : ℕ) → width_for signed (stepped start step (i + 1)) ≤ max (width_for signed (stepped start step i)) (width_for signed (stepped start step (i + 1 + m)))
  step_width signed i m =
      elim (on_way start step i m) [
        | inl h ↦ width_between signed (stepped start step i) (stepped start step (i + 1)) (stepped start step (i + 1 + m)) h.0 h.1
        | inr h ↦ omega (arith, width_between signed (stepped start step (i + 1 + m)) (stepped start step (i + 1)) (stepped start step i) h.0 h.1)
      ]

  signs_are : (n i : ℕ) → list_any sign_of (numbers_from (suc n) i (record { start = start; stop = stop; step = step })) ≡ (sign_of (stepped start step i) || sign_of (stepped start step (i + n)))
  unfolding numbers_from
  signs_are zero i = once (sign_of (stepped start step i)) (sign_of (stepped start step (i + 0))) (ap (λ j. sign_of (stepped start step j)) (sym (add-zero i)))
  signs_are (suc n) i =
      ap (λ b. sign_of (stepped start step i) || b) (signs_are n (i + 1))
      ∙ step_signs i n
      ∙ (let e : i + 1 + n ≡ i + suc n = omega arith in ap (λ j. sign_of (stepped start step i) || sign_of (stepped start step j)) e)

  widths_are : (signed : Bool) (n i : ℕ) → width_for_all signed (numbers_from (suc n) i (record { start = start; stop = stop; step = step })) ≡ max (width_for signed (stepped start step i)) (width_for signed (stepped start step (i + n)))
  unfolding numbers_from
  widths_are signed zero i =
      let same : width_for signed (stepped start step i) ≡ width_for signed (stepped start step (i + 0)) = ap (λ j. width_for signed (stepped start step j)) (sym (add-zero i)) in
      omega (arith, same)
  widths_are signed (suc n) i =
      ap (λ w. max (width_for signed (stepped start step i)) w) (widths_are signed n (i + 1))
      ∙ widest (width_for signed (stepped start step i)) (width_for signed (stepped start step (i + 1))) (width_for signed (stepped start step (i + 1 + n))) (step_width signed i n)
      ∙ (let e : i + 1 + n ≡ i + suc n = omega arith in ap (λ j. max (width_for signed (stepped start step i)) (width_for signed (stepped start step j))) e)

  ends_form : (n : ℕ) → form_for_all (numbers_from (suc n) 0 (record { start = start; stop = stop; step = step })) ≡ form_for_all (start ∷ stepped start step n ∷ [])
  ends_form n =
      let all : List ℤ = numbers_from (suc n) 0 (record { start = start; stop = stop; step = step }) in
      let signed : Bool = sign_of start || (sign_of (stepped start step n) || false) in
      let last : stepped start step (0 + n) ≡ stepped start step n = ap (stepped start step) (zero-add n) in
      let first : stepped start step 0 ≡ start = no_steps start step in
      let signs : list_any sign_of all ≡ signed = signs_are n 0 ∙ ends_signs (stepped start step 0) start (stepped start step (0 + n)) (stepped start step n) first last in
      let widths : width_for_all signed all ≡ width_for_all signed (start ∷ stepped start step n ∷ []) = widths_are signed n 0 ∙ ends_widths signed (stepped start step 0) start (stepped start step (0 + n)) (stepped start step n) first last in
      let of : Bool → Form = λ b. record { width = width_for_all b all; signed = b } in
      let wide : ℕ → Form = λ w. record { width = w; signed = signed } in
      ap of signs ∙ ap wide widths

  pub ends_decide : (count : ℕ) → count ≡ span_count (record { start = start; stop = stop; step = step }) → 0 < count
      → form_for_all (span_numbers (record { start = start; stop = stop; step = step })) ≡ form_for_all (start ∷ stepped start step (count - 1) ∷ [])
  ends_decide count is some =
      let one_more : count ≡ suc (count - 1) = omega arith in
      ap (λ c. form_for_all (numbers_from c 0 (record { start = start; stop = stop; step = step }))) (sym is ∙ one_more) ∙ ends_form (count - 1)

  pub none_decide : span_count (record { start = start; stop = stop; step = step }) ≡ 0 → form_for_all (span_numbers (record { start = start; stop = stop; step = step })) ≡ form_for_all []
  unfolding numbers_from
  none_decide none = ap (λ c. form_for_all (numbers_from c 0 (record { start = start; stop = stop; step = step }))) none
