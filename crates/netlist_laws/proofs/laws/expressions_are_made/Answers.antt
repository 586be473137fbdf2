use Rattle.netlist_laws.proofs.MadeExpressions.{makes_expression}
use Rattle.netlist_laws.proofs.laws.expressions_are_made.Goals as goal

pub returns : goal.returns
returns c = makes_expression
