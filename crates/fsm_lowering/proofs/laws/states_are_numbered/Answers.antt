use Rattle.fsm_lowering.proofs.StateLaws.{number_of-place, number_of-fits}
use Rattle.fsm_lowering.proofs.Widths.{range_width-least}
use Rattle.fsm_lowering.proofs.laws.states_are_numbered.Goals as goal

pub returns-clause-numbers : goal.returns-clause-numbers
returns-clause-numbers c = λ states first k s are at. number_of-place states k s are.distinct at

pub returns-clause-fit : goal.returns-clause-fit
returns-clause-fit c = number_of-fits

pub returns-clause-least : goal.returns-clause-least
returns-clause-least c = range_width-least
