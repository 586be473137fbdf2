use Rattle.std.proofs.Common.{ap, List}
use Rattle.py_tree.specs.Programs.{step_of}
use Rattle.py_frames.specs.declared.frame.Frame.{Frame}
use Rattle.py_statements.specs.Augmented.{change_seen}
use Rattle.py_statements.proofs.ChangeLaws.{right_none, right_some}
use Rattle.py_statements.proofs.augment.right_came.Goals as goal

pub returns-in-Past-clause-moves : goal.returns-in-Past-clause-moves
returns-in-Past-clause-moves c = right_none c.args.functions.now c.args.frozen.now c.args.going.now c.args.budget (step_of c.args.s) c.args.changed c.args.old c.args.right c.in-Past.ensures

pub returns-in-Ok-clause-moves : goal.returns-in-Ok-clause-moves
returns-in-Ok-clause-moves c = right_some c.args.functions.now c.args.frozen.now c.augmented.result c.args.going.now (record c.args.going.now { frames = c.push.new.self }) c.augmented.new.going c.args.budget c.args.s (change_seen c.in-Part.change) c.args.changed c.args.old c.args.right c.in-Part.ensures (ap (λ (z : List Frame). record c.args.going.now { frames = z }) c.in-Ok.ensures) c.augmented.ensures.moves
