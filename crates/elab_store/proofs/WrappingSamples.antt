-- Wrappings, worked out: thing 5 is wrapped by 4, what came of it by 2, and that by 7. Thing 6, between them, is wrapped by 3 alone.
use Rattle.std.specs.Prelude.{◌≡◌, refl, ℕ, List, [], ◌∷◌, Some, None}
use Rattle.py_values.specs.declared.val.Val.{Val}
use Rattle.py_values.specs.declared.val.Val.TheVariants as val
use Rattle.elab_store.specs.declared.wrappings.Wrapped.{Wrapped}
use Rattle.elab_store.specs.Wrappings.{wraps_of}

thing : ℕ → Val
thing n = val.Hw (record { 0 = n })

wrapped : List Wrapped
wrapped =
    record { by = 4; over = None; inner = thing 5 }
    ∷ record { by = 2; over = Some 0; inner = thing 5 }
    ∷ record { by = 3; over = None; inner = thing 6 }
    ∷ record { by = 7; over = Some 1; inner = thing 5 }
    ∷ []

-- the outermost first; what was never made is wrapped by nothing
wraps_found : (wraps_of wrapped 3 ≡ 7 ∷ 2 ∷ 4 ∷ []) × (wraps_of wrapped 1 ≡ 2 ∷ 4 ∷ []) × (wraps_of wrapped 0 ≡ 4 ∷ []) × (wraps_of wrapped 2 ≡ 3 ∷ []) × (wraps_of wrapped 4 ≡ [])
unfolding thing wrapped
wraps_found = (refl, refl, refl, refl, refl)
