use Rattle.std.proofs.Common.{◌+◌, ◌/◌, sym}
use Rattle.py_operators.proofs.StepLaws.{steps_for_parts, some_is}
use Rattle.py_operators.proofs.spans.steps_for_way.Goals as goal

pub returns-in-Some : goal.returns-in-Some
returns-in-Some c =
    steps_for_parts c.args.a c.args.b c.args.size c.in-Some.whole c.steps_for_rests-rests.result c.checked_add-in-Some.result c.requires c.steps_for_rests-rests.ensures (sym (some_is _ c.checked_add.result c.in-Some.whole (c.args.a / c.args.size + c.args.b / c.args.size) c.in-Some.is c.checked_add.ensures)) c.checked_add-in-Some.ensures
