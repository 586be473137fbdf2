use Rattle.std.proofs.Common.{◌^◌, arith}
use Rattle.std.specs.Prelude.{nat_le}
use Rattle.std.specs.List.{find, range_with_len}
use Rattle.netlist.proofs.LowerMemories.{small_width, width_turn, width_found, width_end}
use Rattle.netlist.proofs.memories.row_width.Goals as goal

pub loop-w-preserved : goal.loop-w-preserved
loop-w-preserved c =
    let d = c.args.depth in
    let w = c.loop-w.w in
    width_turn d w (find (λ v. nat_le d (2 ^ v)) (range_with_len 0 17)) c.loop-w-test.true (omega (arith, small_width w c.loop-w-test.true)) c.loop-w.invariant

pub returns-then-depth-w : goal.returns-then-depth-w
returns-then-depth-w c =
    let d = c.args.depth in
    let w = c.loop-w.w in
    width_found d w (find (λ v. nat_le d (2 ^ v)) (range_with_len 0 17)) c.loop-w-test.true (omega (arith, small_width w c.loop-w-test.true)) c.loop-w.invariant

pub returns : goal.returns
returns c = width_end c.args.depth c.loop-w.w (find (λ v. nat_le c.args.depth (2 ^ v)) (range_with_len 0 17)) (omega arith) c.loop-w.invariant
