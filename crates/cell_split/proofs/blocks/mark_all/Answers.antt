use Rattle.std.proofs.Common.{◌∙◌, arith}
use Rattle.rtlil_text.specs.declared.module.RtlWire.{RtlWire}
use Rattle.rtlil_text.specs.declared.module.RtlMemory.{RtlMemory}
use Rattle.cell_split.proofs.BlockLaws.{marks_then, ids_kept, length_ids, all_marked}
use Rattle.cell_split.proofs.blocks.mark_all.Goals as goal

pub returns-clause-size : goal.returns-clause-size
returns-clause-size c = c.mark_cells.ensures.kept.size ∙ c.mark_memories.ensures.kept.size ∙ c.mark_wires.ensures.kept.size

pub returns-clause-few : goal.returns-clause-few
returns-clause-few c = omega (arith, length_ids c.args.rtl.now, c.mark_wires.ensures.few, c.mark_memories.ensures.few, c.mark_cells.ensures.few)

pub returns-clause-marked : goal.returns-clause-marked
returns-clause-marked c =
    let m = c.args.rtl.now in
    let first = c.mark_wires.new.taken in
    let second = c.mark_memories.new.taken in
    let third = c.mark_cells.new.taken in
    all_marked third m
    (ids_kept (λ (w : RtlWire). w.id) first third m.wires (marks_then first second third c.mark_memories.ensures.kept c.mark_cells.ensures.kept) c.mark_wires.ensures.marked)
    (ids_kept (λ (r : RtlMemory). r.id) second third m.memories c.mark_cells.ensures.kept c.mark_memories.ensures.marked)
    c.mark_cells.ensures.marked
