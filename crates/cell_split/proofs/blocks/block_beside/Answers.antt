use Rattle.std.proofs.Common.{◌^◌, ◌*◌, refl, arith}
use Rattle.rtlil_text.specs.Rules.{module_ids}
use Rattle.cell_split.proofs.BlockLaws.{ids_free}
use Rattle.cell_split.proofs.blocks.block_beside.Goals as goal

pub free_block-requires : goal.free_block-requires
free_block-requires c = omega (arith, c.mark_all.ensures.size, c.mark_all.ensures.few, c.requires.more, c.requires.none)

pub returns-clause-free : goal.returns-clause-free
returns-clause-free c =
    ids_free c.mark_all.new.taken c.free_block.result (c.free_block.result * 2 ^ 64) (module_ids c.args.rtl.now) refl c.free_block.ensures.within c.free_block.ensures.free c.mark_all.ensures.marked
