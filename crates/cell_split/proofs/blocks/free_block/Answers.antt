use Rattle.std.proofs.Common.{arith}
use Rattle.cell_split.proofs.BlockLaws.{all_taken}
use Rattle.cell_split.proofs.blocks.free_block.Goals as goal

pub unreachable-requires : goal.unreachable-requires
unreachable-requires c =
    let full = all_taken c.args.taken.now (λ p lt. c.loop-block.invariant p (omega (arith, lt, c.loop-block-test.false))) in
    absurd (omega (arith, full, c.requires))
