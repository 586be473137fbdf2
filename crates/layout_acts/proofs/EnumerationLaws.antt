-- Steps of the loops over the values of a class, and what an enumeration makes.
use Rattle.std.specs.Prelude.{◌≡◌, refl, ℕ, ◌<◌, ◌≤◌, ◌==◌, ◌≢◌, cond, Bool, true, false, ℤ, List, [], ◌∷◌, ◌++◌, map, length, Option, None}
use Rattle.std.specs.List.{list_any, AllByRecursion}
use Rattle.std.proofs.Common.{sym, ap, arith}
use Rattle.std.proofs.lemmas.Bool.{eqb-true}
use Rattle.amh_bits.specs.Integers.{sign_of}
use Rattle.amh_bits.specs.Patterns.{IsOf}
use Rattle.shape_rules.specs.Forms.{Form, IsForm}
use Rattle.data_layouts.specs.declared.enumeration.NumberedName.{NumberedName}
use Rattle.data_layouts.specs.Enumerations.{Enumerated, IsEnumerated}
use Rattle.amh_things.specs.declared.thing.Thing.{Thing}
use Rattle.amh_things.specs.declared.thing.Thing.TheVariants as thing
use Rattle.amh_things.specs.Ends.{Ends}
use Rattle.amh_things.specs.Held.{AreHeld}
use Rattle.amh_things.specs.Ranges.{width_for, width_for_all}
use Rattle.layout_acts.specs.Enumerations.{value_before, named_before, numbered_names, member_thing}

-- ---- names

other : (b : Bool) (member rest : Option (List NumberedName)) → b ≡ false → cond b member rest ≡ rest
other true member rest e = cc
other false member rest e = refl

no_point : (sign : ℕ) (b : Bool) → (sign == 46) ≡ b → sign ≢ 46 → b ≡ false
no_point sign true e apart = absurd (apart (eqb-true sign 46 e))
no_point sign false e apart = refl

-- a value whose name does not begin with a point is no member
pub value_other : (name : List ℕ) (n : Option ℤ) (rest : Option (List NumberedName)) → ((more : List ℕ) → name ≢ 46 ∷ more) → value_before name n rest ≡ rest
value_other [] n rest apart = refl
value_other (sign ∷ name) n rest apart =
    other (sign == 46) (named_before name n rest) rest (no_point sign (sign == 46) refl (λ e. apart name (ap (λ s. s ∷ name) e)))

-- a name without a value makes no members
pub numbered_short : (names : List (List ℕ)) → 0 < length names → numbered_names [] names ≡ None
numbered_short [] h = absurd (omega arith)
numbered_short (n ∷ ns) h = refl

-- ---- widths

-- a signed width is 1 at least
some_width : (n : ℤ) → 1 ≤ width_for true n
some_width n = omega arith

pub signed_wide : (ns : List ℤ) → list_any sign_of ns ≡ true → 1 ≤ width_for_all true ns
signed_wide [] h = cc
signed_wide (n ∷ ns) h = omega (arith, some_width n)

pub wide_enough : (ns : List ℤ) (width : ℕ) (signed : Bool) → width ≡ width_for_all signed ns → signed ≡ list_any sign_of ns → width ≤ 128 → IsForm width signed
wide_enough ns width true e s small = (omega (arith, signed_wide ns (sym s)), small)
wide_enough ns width false e s small = small

-- ---- members

-- things for numbers of a shape are held
pub members_held : (n : ℕ) (ends : Ends) (is_integer : Bool) (f : Form) (ms : List NumberedName) → IsForm f.width f.signed → AllByRecursion (λ (m : NumberedName). IsOf f.signed f.width m.number) ms → AreHeld n (map (member_thing ends is_integer f) ms)
members_held n ends is_integer f [] formed h = tt
members_held n ends is_integer f (m ∷ ms) formed h = ((formed, h.0), members_held n ends is_integer f ms formed h.1)

-- so are an enumeration and those of its members behind it
pub enumeration_held : (ends : Ends) (is_integer : Bool) (f : Form) (ms copies : List NumberedName) (e : Enumerated) (start before things : List Thing) → IsForm f.width f.signed
    → IsEnumerated e → e ≡ record { shape = f; members = ms } → copies ≡ ms → start ≡ [] → before ≡ start ++ thing.Enumeration e ∷ [] → things ≡ before ++ map (member_thing ends is_integer f) copies
    → (n : ℕ) → AreHeld n things
enumeration_held ends is_integer f ms copies e start before things formed numbers is same none one all =
    let of_shape = rw is at numbers in
    λ n. rw (all, one, none, same) (tt, members_held n ends is_integer f ms formed of_shape)
