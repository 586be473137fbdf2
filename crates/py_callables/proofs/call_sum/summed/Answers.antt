-- Additions one after the other, up to one for which the store is asked.
use Rattle.std.proofs.Common.{arith}
use Rattle.py_callables.proofs.SumLaws.{summed_none, summed_asks, summed_more, summed_refused}
use Rattle.py_callables.proofs.call_sum.summed.Goals as goal

pub returns-then-asks_operator-clause-moves : goal.returns-then-asks_operator-clause-moves
returns-then-asks_operator-clause-moves c =
    c.loop-at.invariant.goes _ _ c.addition_asked.ensures.grows
    (summed_asks c.args.functions.now c.args.frozen.now c.addition_asked.result c.loop-at.going c.addition_asked.new.going c.args.budget c.loop-at.at c.loop-at.sum c.index-as_slice-at.result c.args.row c.loop-at.row c.as_slice.result.now c.args.place (omega (arith, c.loop-at-test.true, c.len.ensures)) c.loop-at.invariant.row c.as_slice.ensures c.index-as_slice-at.is c.addition_asked.ensures.moves)

pub loop-at-preserved : goal.loop-at-preserved
loop-at-preserved c = record {
  goes = λ r z more h. c.loop-at.invariant.goes r z (omega (arith, c.in-Ok.ensures.grows, more))
      (summed_more c.args.functions.now c.args.frozen.now r c.loop-at.going c.added.new.going z c.args.budget c.loop-at.at c.loop-at.sum c.index-as_slice-at.result c.in-Ok.v c.args.row c.loop-at.row c.as_slice.result.now c.args.place (omega (arith, c.loop-at-test.true, c.len.ensures)) c.loop-at.invariant.row c.as_slice.ensures c.index-as_slice-at.is c.in-Ok.ensures.adds more h);
  row = c.loop-at.invariant.row;
  left = c.in-Ok.ensures.left;
  grows = omega (arith, c.loop-at.invariant.grows, c.in-Ok.ensures.grows);
}

pub returns-in-Err-clause-moves : goal.returns-in-Err-clause-moves
returns-in-Err-clause-moves c =
    c.loop-at.invariant.goes _ _ c.in-Err.ensures.grows
    (summed_refused c.args.functions.now c.args.frozen.now c.in-Err.halt c.loop-at.going c.added.new.going c.args.budget c.loop-at.at c.loop-at.sum c.index-as_slice-at.result c.args.row c.loop-at.row c.as_slice.result.now c.args.place (omega (arith, c.loop-at-test.true, c.len.ensures)) c.loop-at.invariant.row c.as_slice.ensures c.index-as_slice-at.is c.in-Err.ensures.adds)

pub returns-clause-moves : goal.returns-clause-moves
returns-clause-moves c =
    c.loop-at.invariant.goes _ _ (omega arith)
    (summed_none c.args.functions.now c.args.frozen.now c.give.result c.loop-at.going c.loop-at.going c.args.budget c.loop-at.at c.loop-at.sum c.args.row c.loop-at.row c.args.place c.loop-at.invariant.row (omega (arith, c.loop-at-test.false, c.len.ensures)) c.give.ensures)
