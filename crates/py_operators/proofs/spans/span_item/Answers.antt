use Rattle.py_operators.proofs.StepLaws.{item_first}
use Rattle.py_operators.proofs.spans.span_item.Goals as goal

pub returns-then-not-n : goal.returns-then-not-n
returns-then-not-n c = item_first c.args.r.now c.args.n c.n.inside.negative c.n.inside.size c.span_element.result c.if-not-n.true c.n.view_is c.span_element.ensures
