use Rattle.std.proofs.Common.{ap, List}
use Rattle.py_tree.specs.Programs.{step_of}
use Rattle.py_frames.specs.declared.frame.Frame.{Frame}
use Rattle.py_statements.specs.Augmented.{change_seen}
use Rattle.py_statements.proofs.ChangeLaws.{index_none, index_some}
use Rattle.py_statements.proofs.augment.index_came.Goals as goal

pub returns-in-Past-clause-moves : goal.returns-in-Past-clause-moves
returns-in-Past-clause-moves c = index_none c.args.functions.now c.args.frozen.now c.args.going.now c.args.budget (step_of c.args.s) c.args.over.now c.args.index.now c.in-Past.ensures

pub returns-in-Ok-clause-moves : goal.returns-in-Ok-clause-moves
returns-in-Ok-clause-moves c = index_some c.args.functions.now c.args.frozen.now c.indexed.result c.args.going.now (record c.args.going.now { frames = c.push.new.self }) c.indexed.new.going c.args.budget c.args.s (change_seen c.in-Part.change) c.args.over.now c.args.index.now c.place_of-place.result c.in-Part.ensures c.place_of-place.ensures (ap (λ (z : List Frame). record c.args.going.now { frames = z }) c.in-Ok.ensures) c.indexed.ensures.moves
