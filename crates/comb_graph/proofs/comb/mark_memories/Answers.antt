use Rattle.std.proofs.Common.{◌≡◌, ◌∙◌, ◌<◌, length, Some, slice_get, refl, sym, subst}
use Rattle.std.specs.List.{AllByRecursion, flat_map}
use Rattle.std.proofs.lemmas.Option.{slice_get_read}
use Rattle.design_ir.specs.declared.memory.MemRead.{MemRead}
use Rattle.design_ir.specs.Designs.{IsMemory}
use Rattle.comb_graph.specs.CombTargets.{IsMarked, comb_word, comb_words}
use Rattle.digraph.proofs.Members.{all_at}
use Rattle.comb_graph.proofs.CombMarks.{marked_turn}
use Rattle.comb_graph.proofs.CombFinds.{reads_there}
use Rattle.comb_graph.proofs.comb.mark_memories.Goals as goal

pub mark_reads-requires : goal.mark_reads-requires
mark_reads-requires c =
    let design = c.args.design.now in
    let items = c.as_slice-memory-items.result.now in
    let i = c.loop-memory.memory-index in
    let at : slice_get items i ≡ Some c.memory-item.result = slice_get_read items (length items) i c.memory-item.result refl c.loop-memory-test.true c.memory-item.is in
    let same : items ≡ design.memories = c.as_slice-memory-items.ensures ∙ c.memories.ensures in
    let rules = all_at (IsMemory design) items i c.memory-item.result (subst (AllByRecursion (IsMemory design)) (sym same) c.requires.rules.memories) at in
    let there = reads_there design c.memory-item.result rules in
    subst (λ n. AllByRecursion (λ (r : MemRead). r.word.0 < n) c.as_slice.result.now) (sym (c.loop-memory.invariant.size ∙ c.requires.signals))
    (subst (λ rs. AllByRecursion (λ (r : MemRead). r.word.0 < length design.pool.signals) rs) (sym c.as_slice.ensures) there)

pub loop-memory-preserved : goal.loop-memory-preserved
loop-memory-preserved c =
    let items = c.as_slice-memory-items.result.now in
    let i = c.loop-memory.memory-index in
    let at : slice_get items i ≡ Some c.memory-item.result = slice_get_read items (length items) i c.memory-item.result refl c.loop-memory-test.true c.memory-item.is in
    let given = subst (λ rs. IsMarked (flat_map comb_word rs) c.loop-memory.signals.items c.mark_reads.new.signals.items) c.as_slice.ensures c.mark_reads.ensures in
    marked_turn comb_words items i c.memory-item.result c.args.signals.now.items c.loop-memory.signals.items c.mark_reads.new.signals.items at c.loop-memory.invariant given
