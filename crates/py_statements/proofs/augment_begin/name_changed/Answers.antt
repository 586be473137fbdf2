use Rattle.py_tree.specs.Seen.{tree}
use Rattle.py_frames.specs.Parts.{operator_of}
use Rattle.py_statements.proofs.AugmentBegins.{name_begins, name_stops}
use Rattle.py_statements.proofs.augment_begin.name_changed.Goals as goal

pub returns-in_default-clause-moves : goal.returns-in_default-clause-moves
returns-in_default-clause-moves c = rw c.stopped.ensures (name_stops c.args.functions.now c.args.frozen.now c.args.going.now c.args.budget c.args.target.now.place c.args.s.now.place c.args.name.now (operator_of c.args.sign) (tree c.args.right.now) (tree c.args.target.now) c.requires.seen c.in_default.ensures)

pub returns-clause-moves : goal.returns-clause-moves
returns-clause-moves c = name_begins c.args.functions.now c.args.frozen.now c.wait_for.result c.args.going.now c.wait_for.new.going c.args.budget c.args.target.now.place c.args.s.now.place c.args.name.now c.args.sign (tree c.args.right.now) (tree c.args.target.now) c.in-Some.old c.args.s.now c.in-Ok.stmt c.requires.step c.requires.seen c.in-Ok.ensures c.in-Some.ensures c.wait_for.ensures.moves
