use Rattle.std.proofs.Common.{refl}
use Rattle.cell_split.proofs.BlockLaws.{set_count}
use Rattle.cell_split.proofs.blocks.mark_block.Goals as goal

pub returns-then-block-taken-clause-one : goal.returns-then-block-taken-clause-one
returns-then-block-taken-clause-one c = set_count c.args.taken.now _ c.args.block c.if-block-taken.true refl
