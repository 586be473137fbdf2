-- The next target takes the next value, or there is none.
use Rattle.py_tree.specs.Seen.{tree}
use Rattle.py_frames.specs.Parts.{trees_from}
use Rattle.py_frames.specs.Walk_frames.{targets_in}
use Rattle.py_walks.proofs.TargetLaws.{each_next, each_ends, each_empty}
use Rattle.py_walks.proofs.target_turns.assign_each.Goals as goal

pub returns-in-Past-clause-moves : goal.returns-in-Past-clause-moves
returns-in-Past-clause-moves c = each_ends c.args.functions.now c.args.frozen.now c.args.going.now c.args.budget c.args.n (targets_in (tree c.args.node)) c.args.vals c.in-Past.ensures

pub returns-in-Empty-clause-moves : goal.returns-in-Empty-clause-moves
returns-in-Empty-clause-moves c = each_empty c.args.functions.now c.args.frozen.now c.args.going.now c.args.budget (trees_from c.args.n (targets_in (tree c.args.node))) c.args.vals c.in-Empty.ensures

pub returns-in-Ok-clause-moves : goal.returns-in-Ok-clause-moves
returns-in-Ok-clause-moves c = each_next c.args.functions.now c.args.frozen.now c.assign_under.result c.args.going.now c.assign_under.new.going c.args.budget c.args.n c.in-Ok.next c.args.node (tree c.in-Part.target) c.args.vals c.in-First.vals c.in-First.v c.in-Ok.ensures c.in-Part.ensures c.in-First.ensures c.assign_under.ensures.moves
