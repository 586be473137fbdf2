use Rattle.fsm_lowering.proofs.Unsettled.{unsettled_signal, unsettled_expr, unsettled_others, in_state-apart, state_number-apart}
use Rattle.fsm_lowering.proofs.laws.register_stays_unsettled.Goals as goal

pub returns-clause-signals : goal.returns-clause-signals
returns-clause-signals c = unsettled_signal

pub returns-clause-expressions : goal.returns-clause-expressions
returns-clause-expressions c = unsettled_expr

pub returns-clause-others : goal.returns-clause-others
returns-clause-others c = unsettled_others

pub returns-clause-calls : goal.returns-clause-calls
returns-clause-calls c = λ q s m n. (in_state-apart q s m n, state_number-apart q s n)
