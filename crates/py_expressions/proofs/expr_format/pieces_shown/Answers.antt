use Rattle.std.proofs.Common.{◌+◌, drop, arith}
use Rattle.py_expressions.proofs.ExprFormat.{front_of, none_left, piece_stops, piece_goes, pieces_end}
use Rattle.py_expressions.proofs.expr_format.pieces_shown.Goals as goal

pub returns-in-Err-clause-moves : goal.returns-in-Err-clause-moves
returns-in-Err-clause-moves c = piece_stops c.args.functions.now c.args.frozen.now c.in-Err.halt c.args.going.now c.loop-piece.going c.piece_shown.new.going c.args.budget c.loop-piece.done c.piece-item.result (drop c.loop-piece.piece-index c.args.pieces.now) (drop (c.loop-piece.piece-index + 1) c.args.pieces.now) c.args.pieces.now c.args.place c.loop-piece.invariant.shown (front_of c.as_slice-piece-items.result.now c.args.pieces.now c.loop-piece.piece-index c.piece-item.result c.as_slice-piece-items.ensures c.loop-piece-test.true c.piece-item.is) c.in-Err.ensures.grows (c.in-Err.ensures.shown (drop (c.loop-piece.piece-index + 1) c.args.pieces.now))

pub loop-piece-preserved : goal.loop-piece-preserved
loop-piece-preserved c = record {
  shown = piece_goes c.args.functions.now c.args.frozen.now c.args.going.now c.loop-piece.going c.piece_shown.new.going c.args.budget c.loop-piece.done c.piece_shown.new.done c.piece-item.result (drop c.loop-piece.piece-index c.args.pieces.now) (drop (c.loop-piece.piece-index + 1) c.args.pieces.now) c.args.pieces.now c.args.place c.loop-piece.invariant.shown (front_of c.as_slice-piece-items.result.now c.args.pieces.now c.loop-piece.piece-index c.piece-item.result c.as_slice-piece-items.ensures c.loop-piece-test.true c.piece-item.is) c.in-Ok.ensures.grows (c.in-Ok.ensures.shown (drop (c.loop-piece.piece-index + 1) c.args.pieces.now));
  left = c.in-Ok.ensures.left;
  grows = omega (arith, c.in-Ok.ensures.grows, c.loop-piece.invariant.grows);
}

pub returns-clause-moves : goal.returns-clause-moves
returns-clause-moves c = pieces_end c.args.functions.now c.args.frozen.now c.new_text.result c.args.going.now c.loop-piece.going c.new_text.new.going c.args.budget c.loop-piece.done (drop c.loop-piece.piece-index c.args.pieces.now) c.args.pieces.now c.args.place c.loop-piece.invariant.shown (none_left c.as_slice-piece-items.result.now c.args.pieces.now c.loop-piece.piece-index c.as_slice-piece-items.ensures c.loop-piece-test.false) c.new_text.ensures.used c.new_text.ensures.moves
