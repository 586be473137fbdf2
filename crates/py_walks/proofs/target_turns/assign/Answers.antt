-- Nothing goes to what is no target.
use Rattle.std.proofs.Common.{sym, ◌∙◌}
use Rattle.py_tree.specs.Seen.{tree}
use Rattle.py_walks.proofs.TargetLaws.{other_target}
use Rattle.py_walks.proofs.target_turns.assign.Goals as goal

pub returns-clause-moves : goal.returns-clause-moves
returns-clause-moves c = rw c.stopped.ensures (other_target c.args.functions.now c.args.frozen.now c.args.going.now c.args.budget c.place_of.result (tree c.args.target.now) c.args.v (sym c.is_target-fits.ensures ∙ c.if-fits.false) c.place_of.ensures)
