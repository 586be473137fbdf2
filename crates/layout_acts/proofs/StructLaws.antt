-- Steps of the loop over the values of a class over `Struct`.
use Rattle.std.specs.Prelude.{◌≡◌, refl, ℕ, ◌<◌, ◌==◌, ◌≢◌, cond, Bool, true, false, List, [], ◌∷◌, length, option_map, Option, None}
use Rattle.std.proofs.Common.{ap, arith}
use Rattle.std.proofs.lemmas.Bool.{eqb-true}
use Rattle.py_values.specs.declared.val.Val.{Val}
use Rattle.py_frames.specs.declared.request.NamedVal.{NamedVal}
use Rattle.layout_acts.specs.StructClasses.{annotation_before, annotations}

other : (b : Bool) (member rest : Option (List NamedVal)) → b ≡ false → cond b member rest ≡ rest
other true member rest e = cc
other false member rest e = refl

no_colon : (sign : ℕ) (b : Bool) → (sign == 58) ≡ b → sign ≢ 58 → b ≡ false
no_colon sign true e apart = absurd (apart (eqb-true sign 58 e))
no_colon sign false e apart = refl

-- a value whose name does not begin with a colon is no annotation
pub no_annotation : (name : List ℕ) (v : Val) (rest : Option (List NamedVal)) → ((more : List ℕ) → name ≢ 58 ∷ more) → annotation_before name v rest ≡ None
no_annotation [] v rest apart = refl
no_annotation (sign ∷ name) v rest apart =
    other (sign == 58) (option_map (λ (ms : List NamedVal). record { name = name; val = v } ∷ ms) rest) None (no_colon sign (sign == 58) refl (λ e. apart name (ap (λ s. s ∷ name) e)))

-- a name without a value makes no members
pub annotations_short : (names : List (List ℕ)) → 0 < length names → annotations [] names ≡ None
annotations_short [] h = absurd (omega arith)
annotations_short (n ∷ ns) h = refl
