-- A turn spends its unit, and its element goes to the targets.
use Rattle.py_tree.specs.Seen.{tree}
use Rattle.py_tree.specs.Programs.{steps_of}
use Rattle.py_walks.proofs.ForLaws.{for_spends, for_stops}
use Rattle.py_walks.proofs.for_turns.for_turn.Goals as goal

pub returns-in-Ok-spend-clause-moves : goal.returns-in-Ok-spend-clause-moves
returns-in-Ok-spend-clause-moves c = for_spends c.args.functions.now c.args.frozen.now c.element_given.result c.args.going.now c.spend.new.going c.element_given.new.going c.args.budget tt c.args.s.now.place (tree c.args.targets.now) _ _ _ c.in-Ok-share.stmt c.args.walk.now c.in-Ok.walk c.args.v c.requires.kind c.in-Ok-share.ensures c.in-Ok.ensures c.in-Ok-spend.ensures c.element_given.ensures.grows c.element_given.ensures.moves

pub returns-in-Err-clause-moves : goal.returns-in-Err-clause-moves
returns-in-Err-clause-moves c = for_stops c.args.functions.now c.args.frozen.now c.in-Err.halt c.args.going.now c.spend.new.going c.args.budget c.args.s.now.place (tree c.args.targets.now) (steps_of c.args._body.now) c.args.walk.now c.args.v c.in-Err.ensures
