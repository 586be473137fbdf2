-- The settled environments of a fragment over a list of events.
use Rattle.std.specs.Prelude.{ℕ, ◌==◌, if◌then◌else◌, List, [], ◌∷◌, map, ℤ, pos}
use Rattle.std.specs.List.{list_any}
use Rattle.design_ir.specs.declared.domain.Domain.{Domain}
use Rattle.design_ir.specs.declared.memory.Memory.{Memory}
use Rattle.design_ir.specs.declared.fragment.Fragment.{Fragment}
use Rattle.design_ir.specs.Pools.{Pooled}
use Rattle.design_ir.specs.Circuits.{State, at}
use Rattle.fragment_laws.specs.Parts.{all_memories}
use Rattle.fragment_laws.specs.Surroundings.{Surroundings}
use Rattle.fragment_laws.specs.Settling.{for_each, inits, IsSettled}
use Rattle.fragment_laws.specs.Stepping.{Happening, step}

-- clocks begin at 0, each other signal at its init
abbrev pub first_number : Pooled → List Domain → ℕ → ℤ
first_number q domains s = if list_any (λ (d : Domain). d.clk.0 == s) domains then pos 0 else at (inits q) s

abbrev pub first_state : Pooled → Fragment → Surroundings → State
first_state q f w = record { held = for_each q (first_number q w.domains); rows = map (λ (m : Memory). m.rows) (all_memories f) }

-- settled environments from a state on: before the first event, and after each one
abbrev pub HistoryFrom : Pooled → Fragment → Surroundings → State → List Happening → List (List ℤ) → Type 0
HistoryFrom q f w st [] (env ∷ []) = IsSettled q f w st env
HistoryFrom q f w st (e ∷ es) (env ∷ envs) = IsSettled q f w st env × HistoryFrom q f w (step q f w st env e) es envs
HistoryFrom q f w st [] [] = ⊥
HistoryFrom q f w st [] (env ∷ more ∷ envs) = ⊥
HistoryFrom q f w st (e ∷ es) [] = ⊥

abbrev pub History : Pooled → Fragment → Surroundings → List Happening → List (List ℤ) → Type 0
History q f w es envs = HistoryFrom q f w (first_state q f w) es envs
