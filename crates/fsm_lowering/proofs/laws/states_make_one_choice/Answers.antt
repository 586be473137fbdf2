use Rattle.fsm_lowering.proofs.OneChoice.{makes_one_choice}
use Rattle.fsm_lowering.proofs.laws.states_make_one_choice.Goals as goal

pub returns : goal.returns
returns c = makes_one_choice
