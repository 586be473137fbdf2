-- The elements of a value, in a scope of their own.
use Rattle.std.proofs.Common.{refl}
use Rattle.py_frames.specs.Asking.{most}
use Rattle.py_frames.specs.Walk_frames.{comp_over}
use Rattle.py_walks.specs.Walk_parts.{comp_seen}
use Rattle.py_walks.proofs.CompLaws.{over_goes, enter_stops}
use Rattle.py_walks.proofs.comp_turns.comp_over.Goals as goal

pub returns-in-Ok-clause-moves : goal.returns-in-Ok-clause-moves
returns-in-Ok-clause-moves c = over_goes c.args.functions.now c.args.frozen.now c.walks_on.result c.args.going.now c.enter_scope.new.going c.walks_on.new.going c.args.budget c.row_size-size.result _ (comp_seen c.args.parts.now) c.args.row (record { over = c.args.row; next = 0; size = c.row_size-size.result; turns = most }) _ c.requires.row c.row_size-size.ensures refl c.new-done.ensures c.in-Ok.ensures.moves c.walks_on.ensures.moves

pub returns-in-Err-clause-moves : goal.returns-in-Err-clause-moves
returns-in-Err-clause-moves c = enter_stops c.args.functions.now c.args.frozen.now c.in-Err.halt c.args.going.now c.enter_scope.new.going c.args.budget _ (λ k. comp_over k (comp_seen c.args.parts.now) c.args.row) c.in-Err.ensures.moves
