use Rattle.py_operators.proofs.StepLaws.{element_there}
use Rattle.py_operators.proofs.spans.span_number.Goals as goal

pub unreachable-requires : goal.unreachable-requires
unreachable-requires c =
    let e = element_there c.args.r.now c.args.i c.requires in cc

pub returns : goal.returns
returns c =
    let e = element_there c.args.r.now c.args.i c.requires in cc
