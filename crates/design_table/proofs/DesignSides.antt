-- Signals of one side are not of the other, and no inputs.
use Rattle.std.specs.Prelude.{◌≡◌, refl, ℕ, ◌<◌, ◌==◌, ◌||◌, Bool, true, false, not, List, [], ◌∷◌}
use Rattle.std.specs.List.{AllByRecursion, list_any}
use Rattle.std.proofs.Common.{sym, ◌∙◌, ap, arith}
use Rattle.std.proofs.lemmas.Bool.{false≢true, false_from_ne_true, and_parts, eqb-true}
use Rattle.design_ir.specs.declared.port.Port.{Port}
use Rattle.design_ir.specs.Circuits.{is_among}
use Rattle.design_ir.specs.Designs.{share}
use Rattle.design_table.specs.Tests.{is_input_of, is_own, side_of}
use Rattle.design_table.proofs.TargetSides.{AreOwn}
use Rattle.design_table.proofs.Statements.{all_imp}

pub none_of : (b c : Bool) → b ≡ false → c ≡ false → (b || c) ≡ false
none_of false false e f = refl
none_of false true e f = f
none_of true c e f = absurd (false≢true (sym e))

pub not_among : (s : ℕ) (ys : List ℕ) → AllByRecursion (λ y. y ≡ s → ⊥) ys → is_among ys s ≡ false
not_among s [] h = refl
not_among s (y ∷ ys) h = none_of (y == s) (is_among ys s) (false_from_ne_true (y == s) (λ e. h.0 (eqb-true y s e))) (not_among s ys h.1)

never : (b : Bool) → b ≡ true → not b ≡ true → ⊥
never true e f = false≢true f
never false e f = false≢true e

module _ (ports : List Port) (sides : List ℕ) where
  no_input : (side s : ℕ) → is_own ports sides side s ≡ true → is_input_of ports s ≡ true → ⊥
  no_input side s e i = never (is_input_of ports s) i (and_parts (not (is_input_of ports s)) (side_of sides s == side) e).0

  one_side : (i j s : ℕ) → is_own ports sides i s ≡ true → is_own ports sides j s ≡ true → i ≡ j
  one_side i j s e f =
      let first = and_parts (not (is_input_of ports s)) (side_of sides s == i) e in
      let second = and_parts (not (is_input_of ports s)) (side_of sides s == j) f in
      sym (eqb-true (side_of sides s) i first.1) ∙ eqb-true (side_of sides s) j second.1

  pub sides_apart : (i j : ℕ) → i < j → (xs ys : List ℕ) → AreOwn (is_own ports sides i) xs → AreOwn (is_own ports sides j) ys → share xs ys ≡ false
  sides_apart i j lt [] ys h k = refl
  sides_apart i j lt (x ∷ xs) ys h k =
      none_of (is_among ys x) (list_any (is_among ys) xs)
      (not_among x ys (all_imp (λ y own e. omega (arith, lt, one_side i j x h.0 (ap (λ z. is_own ports sides j z) (sym e) ∙ own))) ys k))
      (sides_apart i j lt xs ys h.1 k)

  pub input_free : (side : ℕ) (ys : List ℕ) (s : ℕ) → AreOwn (is_own ports sides side) ys → is_input_of ports s ≡ true → is_among ys s ≡ false
  input_free side ys s h i = not_among s ys (all_imp (λ y own e. no_input side y own (ap (is_input_of ports) e ∙ i)) ys h)
