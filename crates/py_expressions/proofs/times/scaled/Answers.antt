use Rattle.std.proofs.Common.{arith}
use Rattle.py_expressions.proofs.ExprTimes.{next_whole, past_limit}
use Rattle.py_expressions.proofs.times.scaled.Goals as goal

pub loop-turn-preserved : goal.loop-turn-preserved
loop-turn-preserved c = record {
  whole = next_whole c.args.n c.loop-turn.quotient c.args.by c.loop-turn.rest c.next_digit-next.result.digit c.next_digit-next.result.rest c.loop-turn._turn c.loop-turn.invariant.whole c.next_digit-next.ensures.whole;
  below = c.next_digit-next.ensures.below;
}

pub returns-then-quotient-ge-LIMIT : goal.returns-then-quotient-ge-LIMIT
returns-then-quotient-ge-LIMIT c = past_limit c.args.n c.args.by c.loop-turn.quotient c.loop-turn.rest c.loop-turn._turn c.args.zeros c.loop-turn.invariant.whole (omega arith) c.if-quotient-ge-LIMIT.true c.requires
