use Rattle.std.proofs.Common.{◌≡◌, ◌<◌, ℕ, true}
use Rattle.cell_split.specs.Blocks.{is_taken}
use Rattle.cell_split.proofs.blocks.free_block.Given as goal

abbrev pub invariant-loop-block : goal.invariant-loop-block
invariant-loop-block l = (p : ℕ) → p < l.block → is_taken l.taken p ≡ true
