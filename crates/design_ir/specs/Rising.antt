-- Designs all of whose domains are rising and reset at edges alone, and what an event is in them.
use Rattle.std.specs.Prelude.{◌≡◌, ℕ, ◌==◌, ◌&&◌, Bool, false, List, ℤ, slice_get, fold, Option}
use Rattle.std.specs.List.{AllByRecursion, list_any}
use Rattle.shape_rules.specs.Operators.{is_zero}
use Rattle.design_ir.specs.declared.ids.DomainId.{DomainId}
use Rattle.design_ir.specs.declared.domain.Domain.{Domain}
use Rattle.design_ir.specs.declared.event.Event.{Event}
use Rattle.design_ir.specs.declared.process.DesignProcess.{DesignProcess}
use Rattle.design_ir.specs.Circuits.{Circuit, State, option_test, at}
use Rattle.design_ir.specs.Steps.{is_active, cleared, moved, step}

-- a domain samples at rising edges, and its reset acts at these alone
pub record IsRisingSync (d : Domain) : Type 0 where
  pub rising : d.falling ≡ false
  pub sync_reset : d.async_reset ≡ false

abbrev pub AllRisingSync : Circuit → Type 0
AllRisingSync c = AllByRecursion IsRisingSync c.domains

-- the domain is listed and its clock is 0
abbrev pub rises : Circuit → List ℤ → List DomainId → ℕ → Bool
rises c env listed d =
    list_any (λ (x : DomainId). x.0 == d) listed && option_test (λ (x : Domain). is_zero (at env x.clk.0)) (slice_get c.domains d)

-- a domain is active where it rises
abbrev pub ActiveIsRising : Type 0
ActiveIsRising = (c : Circuit) → AllRisingSync c → (env : List ℤ) (listed : List DomainId) (d : ℕ) → is_active c env listed d ≡ rises c env listed d

-- no process is cleared
abbrev pub NothingIsCleared : Type 0
NothingIsCleared = (c : Circuit) → AllRisingSync c → (held cur : List ℤ) (p : DesignProcess) → cleared c held cur p ≡ cur

-- an event leaves what it does before asynchronous resets
abbrev pub StepsAreMoves : Type 0
StepsAreMoves = (c : Circuit) → AllRisingSync c → (st : State) (env : List ℤ) (e : Event) → step c st env e ≡ moved c st env e
