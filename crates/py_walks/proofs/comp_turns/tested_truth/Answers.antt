-- The truth of a condition decides.
use Rattle.py_walks.specs.Walk_parts.{comp_seen}
use Rattle.py_walks.proofs.CompLaws.{tested_holds, tested_fails, tested_stops}
use Rattle.py_walks.proofs.comp_turns.tested_truth.Goals as goal

pub returns-then-holds-clause-moves : goal.returns-then-holds-clause-moves
returns-then-holds-clause-moves c = tested_holds c.args.functions.now c.args.frozen.now c.element_begun.result c.args.going.now c.element_begun.new.going c.args.budget (comp_seen c.args.parts.now) c.args.walk c.args.outer c.args.done c.args.v _ c.place_of.result c.in-Ok.holds c.requires.test c.place_of.ensures c.in-Ok.ensures c.if-holds.true c.element_begun.ensures.moves

pub returns-else-holds-clause-moves : goal.returns-else-holds-clause-moves
returns-else-holds-clause-moves c = tested_fails c.args.functions.now c.args.frozen.now c.walks_on.result c.args.going.now c.walks_on.new.going c.args.budget (comp_seen c.args.parts.now) c.args.walk c.args.outer c.args.done c.args.v _ c.place_of.result c.in-Ok.holds c.requires.test c.place_of.ensures c.in-Ok.ensures c.if-holds.false c.walks_on.ensures.moves

pub returns-in-Err-clause-moves : goal.returns-in-Err-clause-moves
returns-in-Err-clause-moves c = tested_stops c.args.functions.now c.args.frozen.now c.in-Err.halt c.args.going.now c.args.budget (comp_seen c.args.parts.now) c.args.walk c.args.outer c.args.done c.args.v _ c.place_of.result c.requires.test c.place_of.ensures c.in-Err.ensures
