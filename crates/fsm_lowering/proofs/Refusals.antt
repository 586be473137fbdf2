-- Which refusal is told.
use Rattle.std.proofs.Common.{◌≡◌, refl, List, ℕ, true, Some}
use Rattle.design_ir.specs.Pools.{Pooled}
use Rattle.module_dsl.specs.Builders.{Built}
use Rattle.fsm_lowering.specs.declared.refusal.FsmStop.TheVariants.{Repeated}
use Rattle.fsm_lowering.specs.States.{is_between, is_entered}
use Rattle.fsm_lowering.specs.Machines.{Machine}
use Rattle.fsm_lowering.specs.Calls.{state_refusal, is_begun}

pub state_refusal-repeated : (q : Pooled) (m : Machine) (b : Built) (name : List ℕ) → is_between m.stage ≡ true → is_begun m ≡ true → is_entered m.states name ≡ true → state_refusal q m b name ≡ Some Repeated
state_refusal-repeated q m b name between begun entered = rw (between, begun, entered) refl
