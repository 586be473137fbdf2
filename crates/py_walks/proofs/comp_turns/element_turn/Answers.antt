-- A turn spends its unit, and its element goes to the targets.
use Rattle.std.proofs.Common.{refl}
use Rattle.py_tree.specs.Seen.{tree}
use Rattle.py_walks.specs.Walk_parts.{comp_seen}
use Rattle.py_walks.proofs.CompLaws.{turn_spends, turn_stops}
use Rattle.py_walks.proofs.comp_turns.element_turn.Goals as goal

pub returns-in-Ok-spend-clause-moves : goal.returns-in-Ok-spend-clause-moves
returns-in-Ok-spend-clause-moves c = turn_spends c.args.functions.now c.args.frozen.now c.assign_under.result c.args.going.now c.spend.new.going c.assign_under.new.going c.args.budget tt c.args.comp (comp_seen c.args.parts.now) c.args.parts.now.place c.args.walk.now c.in-Ok.walk c.args.outer c.args.done c.args.v (tree c.args.parts.now.targets) c.requires.kind refl refl c.in-Ok.ensures c.in-Ok-spend.ensures c.assign_under.ensures.grows c.assign_under.ensures.moves

pub returns-in-Err-clause-moves : goal.returns-in-Err-clause-moves
returns-in-Err-clause-moves c = turn_stops c.args.functions.now c.args.frozen.now c.in-Err.halt c.args.going.now c.spend.new.going c.args.budget (comp_seen c.args.parts.now) c.args.parts.now.place c.args.walk.now c.args.outer c.args.done c.args.v refl c.in-Err.ensures
