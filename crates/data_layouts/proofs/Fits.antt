-- The test of whether a number is of a shape.
use Rattle.std.proofs.Common.{◌≡◌, ℕ, ◌+◌, ◌*◌, ◌^◌, ◌↔◌, IsTrue, ℤ, pos, negsuc, Bool, true, false, not, ◌||◌, List, [], ◌∷◌, refl, sym, subst}
use Rattle.std.specs.List.{list_any, AllByRecursion}
use Rattle.std.proofs.lemmas.Bool.{false≢true}
use Rattle.std.proofs.lemmas.Bool.Decides.{Decides-ltb}
use Rattle.amh_bits.specs.Patterns.{wrap, IsOf}
use Rattle.amh_bits.proofs.Wraps.{wrap_is_of, wrap_same}
use Rattle.shape_rules.specs.Forms.{Form}
use Rattle.data_layouts.specs.declared.enumeration.NumberedName.{NumberedName}
use Rattle.data_layouts.specs.Enumerations.{IsEnumerated, is_of, fits}

-- a number of the shape is its own wrap
pub of_shape : (signed : Bool) (width : ℕ) (n : ℤ) → (wrap signed width n ≡ n) ↔ IsOf signed width n
of_shape signed width n = ((λ e. subst (λ x. IsOf signed width x) e (wrap_is_of signed width n)), wrap_same signed width n)

pub IsOf-is_of : (signed : Bool) (width : ℕ) (n : ℤ) → is_of signed width n ≡ true → IsOf signed width n
unfolding is_of
IsOf-is_of false width (pos n) e = (Decides-ltb n (2 ^ width)).0 e
IsOf-is_of false width (negsuc n) e = absurd (false≢true e)
IsOf-is_of true width (pos n) e = (Decides-ltb (2 * n) (2 ^ width)).0 e
IsOf-is_of true width (negsuc n) e = (Decides-ltb (2 * n + 1) (2 ^ width)).0 e

pub is_of-IsOf : (signed : Bool) (width : ℕ) (n : ℤ) → IsOf signed width n → is_of signed width n ≡ true
unfolding is_of
is_of-IsOf false width (pos n) h = (Decides-ltb n (2 ^ width)).1 h
is_of-IsOf false width (negsuc n) h = absurd h
is_of-IsOf true width (pos n) h = (Decides-ltb (2 * n) (2 ^ width)).1 h
is_of-IsOf true width (negsuc n) h = (Decides-ltb (2 * n + 1) (2 ^ width)).1 h

both_ways : (r t : Bool) → (r ≡ true → t ≡ true) → (t ≡ true → r ≡ true) → r ≡ t
both_ways true t there back = sym (there refl)
both_ways false true there back = back refl
both_ways false false there back = refl

-- a test that is true exactly at the numbers of the shape
pub is_of_by : (r : Bool) (signed : Bool) (width : ℕ) (n : ℤ) → IsTrue r ↔ IsOf signed width n → r ≡ is_of signed width n
is_of_by r signed width n h = both_ways r (is_of signed width n) (λ e. is_of-IsOf signed width n (h.0 e)) (λ e. h.1 (IsOf-is_of signed width n e))

none_or : (a b : Bool) → (not a || b) ≡ false → (a ≡ true) × (b ≡ false)
none_or true b h = (refl, h)
none_or false b h = absurd (false≢true (sym h))

-- where no number is of another shape, all are of this one
all_fit : (f : Form) (ms : List NumberedName) → list_any (λ m. not (fits f m)) ms ≡ false → AllByRecursion (λ (m : NumberedName). IsOf f.signed f.width m.number) ms
all_fit f [] h = tt
all_fit f (m ∷ ms) h = let first = none_or (fits f m) (list_any (λ x. not (fits f x)) ms) h in (IsOf-is_of f.signed f.width m.number first.0, all_fit f ms first.1)

pub enumerated : (f : Form) (given made : List NumberedName) → list_any (λ m. not (fits f m)) given ≡ false → made ≡ given → IsEnumerated (record { shape = f; members = made })
enumerated f given made h e = rw e (all_fit f given h)
