-- What asynchronous resets leave, number by number.
use Rattle.std.specs.Prelude.{◌≡◌, ℕ, ◌<◌, ◌&&◌, Bool, if◌then◌else◌, List, length, slice_get, ℤ, Option, Some, None}
use Rattle.std.specs.List.{list_any}
use Rattle.design_ir.specs.declared.ids.DomainId.{DomainId}
use Rattle.design_ir.specs.declared.signal.Sig.{Sig}
use Rattle.design_ir.specs.declared.event.Event.{Event}
use Rattle.design_ir.specs.declared.process.DesignProcess.{DesignProcess}
use Rattle.design_ir.specs.Guards.{driven}
use Rattle.design_ir.specs.Circuits.{Circuit, State, option_test, at, is_among}
use Rattle.design_ir.specs.Steps.{is_cleared, moved, step}

-- a signal is driven by the process, whose domain has an asynchronous reset that is 1
abbrev pub clears : Circuit → List ℤ → ℕ → DesignProcess → Bool
clears c held s p = option_test (λ (d : DomainId). is_cleared c held d.0) p.domain && is_among (driven c.pool p.body) s

-- a signal is a register of a domain whose asynchronous reset is 1
abbrev pub is_under_reset : Circuit → List ℤ → ℕ → Bool
is_under_reset c held s = list_any (clears c held s) c.processes

-- what a signal has after its reset: its init, but where it is reset-less
abbrev pub own : Option Sig → ℤ → ℤ
own None n = n
own (Some x) n = if x.reset_less then n else x.init

-- after an event such a register has its init, and every other number is what the event left before
abbrev pub ResetsAct : Type 0
ResetsAct =
    (c : Circuit) (st : State) (env : List ℤ) (e : Event) (s : ℕ) → s < length (moved c st env e).held
    → at (step c st env e).held s ≡ (if is_under_reset c (moved c st env e).held s then own (slice_get c.pool.signals s) (at (moved c st env e).held s) else at (moved c st env e).held s)
