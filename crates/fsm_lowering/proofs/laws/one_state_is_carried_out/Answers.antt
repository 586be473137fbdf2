use Rattle.fsm_lowering.proofs.Meaning.{one_state, register_number-signal}
use Rattle.fsm_lowering.proofs.laws.one_state_is_carried_out.Goals as goal

pub returns-clause-state : goal.returns-clause-state
returns-clause-state c = one_state

pub returns-clause-register : goal.returns-clause-register
returns-clause-register c = register_number-signal
