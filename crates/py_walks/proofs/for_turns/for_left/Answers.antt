-- A turn ends the loop.
use Rattle.py_tree.specs.Programs.{step_of}
use Rattle.py_frames.specs.Stmt_frames.{for_walks}
use Rattle.py_walks.proofs.ForLaws.{body_over}
use Rattle.py_walks.proofs.for_turns.for_left.Goals as goal

pub returns-in-Some-clause-moves : goal.returns-in-Some-clause-moves
returns-in-Some-clause-moves c = body_over c.args.functions.now c.args.frozen.now c.args.going.now c.args.budget c.args.got c.in-Some.left (λ k. for_walks k c.args.walk (step_of c.args.stmt.now)) c.in-Some.ensures
