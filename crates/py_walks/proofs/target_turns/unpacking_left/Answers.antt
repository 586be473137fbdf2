-- What leaves goes on as it is.
use Rattle.std.proofs.Common.{sym, ◌∙◌}
use Rattle.py_tree.specs.Seen.{tree}
use Rattle.py_frames.specs.Parts.{trees_from}
use Rattle.py_frames.specs.Expressions.{assign_each}
use Rattle.py_frames.specs.Walk_frames.{targets_in}
use Rattle.py_walks.proofs.WalkLaws.{next_left}
use Rattle.py_walks.proofs.target_turns.unpacking_left.Goals as goal

pub returns-then-left-clause-moves : goal.returns-then-left-clause-moves
returns-then-left-clause-moves c = next_left c.args.functions.now c.args.frozen.now c.args.going.now c.args.budget c.args.got (λ k. assign_each k (trees_from c.args.n (targets_in (tree c.args.node))) c.args.vals) (sym c.leaves-left.ensures ∙ c.if-left.true)
