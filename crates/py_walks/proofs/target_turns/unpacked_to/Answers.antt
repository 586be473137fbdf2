-- The units of so many targets are spent, and then the elements go to them.
use Rattle.py_tree.specs.Seen.{tree}
use Rattle.py_frames.specs.Walk_frames.{targets_in}
use Rattle.py_walks.proofs.TargetLaws.{spread_goes, spread_stops}
use Rattle.py_walks.proofs.target_turns.unpacked_to.Goals as goal

pub returns-in-Ok-clause-moves : goal.returns-in-Ok-clause-moves
returns-in-Ok-clause-moves c = spread_goes c.args.functions.now c.args.frozen.now c.assign_each.result c.args.going.now c.spend.new.going c.assign_each.new.going c.args.budget c.args.count tt c.args.place (targets_in (tree c.args.node)) c.args.vals c.in-Ok.ensures c.assign_each.ensures.grows c.assign_each.ensures.moves

pub returns-in-Err-clause-moves : goal.returns-in-Err-clause-moves
returns-in-Err-clause-moves c = spread_stops c.args.functions.now c.args.frozen.now c.in-Err.halt c.args.going.now c.spend.new.going c.args.budget c.args.count c.args.place (targets_in (tree c.args.node)) c.args.vals c.in-Err.ensures
