use Rattle.fsm_lowering.proofs.StateLaws.{condition_in-exactly}
use Rattle.fsm_lowering.proofs.machine.Fsm.held.Goals as goal

pub returns-clause-exactly : goal.returns-clause-exactly
returns-clause-exactly c =
    rw (c.condition_in.ensures, c.as_slice.ensures.value, ← c.self.view_is) (condition_in-exactly c.self.inside.states.items c.args.name.now c.self.invariant.conditions)
