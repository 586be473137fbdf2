-- What is wrapped: by which wrappings, and what stands within. (Amaranth guide: Renaming domains, Control flow modifiers.)
use Rattle.std.specs.Prelude.{ℕ, zero, suc, List, [], ◌∷◌, length, slice_get, Option, Some, None}
use Rattle.std.specs.Option.{option_map_or}
use Rattle.py_values.specs.declared.val.Val.{Val}
use Rattle.elab_store.specs.declared.wrappings.Wrapped.{Wrapped}

-- the wrappings of a wrapped thing, the outermost first; each thing was made behind the one within it, so there are never more of them
-- than wrapped things
abbrev pub wraps_from : ℕ → List Wrapped → Option ℕ → List ℕ
wraps_from zero ws k = []
wraps_from (suc n) ws None = []
wraps_from (suc n) ws (Some k) = option_map_or (λ (w : Wrapped). w.by ∷ wraps_from n ws w.over) (slice_get ws k) []

abbrev pub wraps_of : List Wrapped → ℕ → List ℕ
wraps_of ws k = wraps_from (length ws) ws (Some k)
