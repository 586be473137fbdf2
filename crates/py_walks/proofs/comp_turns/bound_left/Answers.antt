-- What leaves goes on as it is.
use Rattle.std.proofs.Common.{sym, ◌∙◌}
use Rattle.py_frames.specs.Walk_frames.{comp_of, with_comp}
use Rattle.py_walks.specs.Walk_parts.{where_made}
use Rattle.py_walks.proofs.WalkLaws.{next_left}
use Rattle.py_walks.proofs.comp_turns.bound_left.Goals as goal

pub returns-then-left-clause-moves : goal.returns-then-left-clause-moves
returns-then-left-clause-moves c = next_left c.args.functions.now c.args.frozen.now c.args.going.now c.args.budget c.args.got (λ k. with_comp (comp_of c.args.comp) (λ x. where_made k x c.args.walk c.args.outer c.args.done)) (sym c.leaves-left.ensures ∙ c.if-left.true)
