use Rattle.std.proofs.Common.{◌+◌, ◌-◌, ◌++◌, replicate}
use Rattle.memory_cells.proofs.Loops.{one_more, replicate_next}
use Rattle.memory_cells.proofs.bits.push_repeated.Goals as goal

pub loop-i-preserved : goal.loop-i-preserved
loop-i-preserved c =
    let n = c.args.count in
    let x = c.args.bit in
    one_more c.loop-i.bits c.push.new.self (c.args.bits.now ++ replicate n x) (replicate (n - c.loop-i.i) x) (replicate (n - (c.loop-i.i + 1)) x) x
    (replicate_next n c.loop-i.i x c.loop-i-test.true) c.in_ok-push.ensures.ok c.loop-i.invariant
