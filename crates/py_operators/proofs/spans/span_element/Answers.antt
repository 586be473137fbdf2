use Rattle.py_operators.proofs.StepLaws.{element_not_kept, none_is}
use Rattle.py_operators.specs.Spans.{stepped}
use Rattle.py_operators.proofs.spans.span_element.Goals as goal

pub returns-in-None : goal.returns-in-None
returns-in-None c =
    element_not_kept c.args.r.now c.args.i c.note_kept.ensures c.note_kept-2.ensures (none_is _ c.stepped.result (stepped c.args.r.now.start c.args.r.now.step c.args.i) c.in-None.is c.stepped.ensures)
