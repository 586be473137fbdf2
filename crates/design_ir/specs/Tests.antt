-- Tests that the code makes, as functions.
use Rattle.std.specs.Prelude.{ℕ, suc, nat_lt, nat_le, ◌&&◌, Bool, true, not, List, [], ◌∷◌}
use Rattle.design_ir.specs.declared.ids.DomainId.{DomainId}
use Rattle.design_ir.specs.Circuits.{Circuit, is_input, is_clock}

-- an input that is no clock
abbrev pub is_settable : Circuit → ℕ → Bool
is_settable c s = is_input c s && not (is_clock c s)

-- numbers of so many domains, each past the one before it
abbrev pub ascends : ℕ → ℕ → List DomainId → Bool
ascends count least [] = true
ascends count least (d ∷ ds) = nat_le least d.0 && (nat_lt d.0 count && ascends count (suc d.0) ds)
