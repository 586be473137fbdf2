use Rattle.std.proofs.Common.{◌≡◌, ◌∙◌, length, Some, slice_get, refl, sym, subst}
use Rattle.std.specs.List.{AllByRecursion}
use Rattle.std.proofs.lemmas.Option.{slice_get_read}
use Rattle.design_ir.specs.Designs.{IsProcess}
use Rattle.design_ir.specs.Guards.{block_exprs}
use Rattle.design_ir.specs.Named.{AllBelow}
use Rattle.comb_graph.specs.CombTargets.{comb_targets}
use Rattle.comb_graph.proofs.GraphDesigns.{process_names}
use Rattle.comb_graph.proofs.CombMarks.{marked_turn}
use Rattle.comb_graph.proofs.drives.mark_processes.Goals as goal

pub mark_process-requires : goal.mark_process-requires
mark_process-requires c =
    let design = c.args.design.now in
    let items = c.as_slice-process-items.result.now in
    let i = c.loop-process.process-index in
    let at : slice_get items i ≡ Some c.process-item.result = slice_get_read items (length items) i c.process-item.result refl c.loop-process-test.true c.process-item.is in
    let same : items ≡ design.processes = c.as_slice-process-items.ensures ∙ c.processes.ensures.value in
    let all = subst (AllByRecursion (IsProcess design)) (sym same) c.processes.ensures.rules.processes in
    subst (λ n. AllBelow n (block_exprs c.process-item.result.body)) (sym (c.loop-process.invariant.size ∙ c.requires)) (process_names design items i c.process-item.result all at)

pub loop-process-preserved : goal.loop-process-preserved
loop-process-preserved c =
    let items = c.as_slice-process-items.result.now in
    let i = c.loop-process.process-index in
    let at : slice_get items i ≡ Some c.process-item.result = slice_get_read items (length items) i c.process-item.result refl c.loop-process-test.true c.process-item.is in
    marked_turn comb_targets items i c.process-item.result c.args.exprs.now.items c.loop-process.exprs.items c.mark_process.new.exprs.items at c.loop-process.invariant c.mark_process.ensures
