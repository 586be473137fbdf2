use Rattle.std.proofs.Common.{◌≡◌, ◌∙◌, List, [], refl, sym, subst, length, Some, slice_get}
use Rattle.std.specs.List.{flat_map, AllByRecursion}
use Rattle.std.proofs.lemmas.Option.{slice_get_read}
use Rattle.design_ir.specs.declared.process.DesignProcess.{DesignProcess}
use Rattle.design_ir.specs.Designs.{IsProcess}
use Rattle.design_ir.specs.Guards.{guarded, block_exprs}
use Rattle.design_ir.specs.Named.{AllBelow}
use Rattle.comb_graph.specs.Rankings.{bit_of}
use Rattle.comb_graph.specs.Told.{first_place}
use Rattle.comb_graph.proofs.GraphDesigns.{process_names}
use Rattle.comb_graph.proofs.ToldLaws.{flat_none, flat_found}
use Rattle.comb_graph.proofs.told.in_processes.Goals as goal

pub in_block-requires : goal.in_block-requires
in_block-requires c =
    let design = c.args.design.now in
    let items = c.as_slice-process-items.result.now in
    let i = c.loop-process.process-index in
    let item = c.process-item.result in
    let at : slice_get items i ≡ Some item = slice_get_read items (length items) i item refl c.loop-process-test.true c.process-item.is in
    let same : items ≡ design.processes = c.as_slice-process-items.ensures ∙ c.processes.ensures.value in
    let all = subst (AllByRecursion (IsProcess design)) (sym same) c.processes.ensures.rules.processes in
    subst (λ n. AllBelow n (block_exprs item.body)) (sym c.requires) (process_names design items i item all at)

pub returns-in-Some : goal.returns-in-Some
returns-in-Some c =
    let design = c.args.design.now in
    let table = c.args.table.now in
    let b = bit_of c.args.bit in
    let items = c.as_slice-process-items.result.now in
    let i = c.loop-process.process-index in
    let item = c.process-item.result in
    let at : slice_get items i ≡ Some item = slice_get_read items (length items) i item refl c.loop-process-test.true c.process-item.is in
    let same : items ≡ design.processes = c.as_slice-process-items.ensures ∙ c.processes.ensures.value in
    let found = flat_found table b (λ (p : DesignProcess). guarded [] p.body) items i item c.in-Some.place at c.loop-process.invariant (sym (c.in_block.ensures []) ∙ c.in-Some.is) in
    sym (subst (λ (ps : List DesignProcess). first_place table b (flat_map (λ (p : DesignProcess). guarded [] p.body) ps) ≡ Some c.in-Some.place) same found)

pub loop-process-preserved : goal.loop-process-preserved
loop-process-preserved c =
    let items = c.as_slice-process-items.result.now in
    let i = c.loop-process.process-index in
    let item = c.process-item.result in
    let at : slice_get items i ≡ Some item = slice_get_read items (length items) i item refl c.loop-process-test.true c.process-item.is in
    flat_none c.args.table.now (bit_of c.args.bit) (λ (p : DesignProcess). guarded [] p.body) items i item at c.loop-process.invariant (sym (c.in_block.ensures []) ∙ c.in_default.is)
