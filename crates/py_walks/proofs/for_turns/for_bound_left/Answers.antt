-- What leaves goes on as it is.
use Rattle.std.proofs.Common.{sym, ◌∙◌}
use Rattle.py_tree.specs.Programs.{step_of}
use Rattle.py_frames.specs.Stmt_frames.{for_bound}
use Rattle.py_walks.proofs.WalkLaws.{next_left}
use Rattle.py_walks.proofs.for_turns.for_bound_left.Goals as goal

pub returns-then-left-clause-moves : goal.returns-then-left-clause-moves
returns-then-left-clause-moves c = next_left c.args.functions.now c.args.frozen.now c.args.going.now c.args.budget c.args.got (λ k. for_bound k c.args.walk (step_of c.args.stmt)) (sym c.leaves-left.ensures ∙ c.if-left.true)
