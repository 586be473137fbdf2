use Rattle.netlist_laws.proofs.MadeOperators.{makes_operator}
use Rattle.netlist_laws.proofs.laws.operators_are_made.Goals as goal

pub returns : goal.returns
returns c = makes_operator
