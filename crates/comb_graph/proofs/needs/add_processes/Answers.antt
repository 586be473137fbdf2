use Rattle.std.proofs.Common.{◌≡◌, ◌∙◌, [], refl, sym, subst, length, Some, slice_get}
use Rattle.std.proofs.lemmas.Option.{slice_get_read}
use Rattle.std.specs.List.{AllByRecursion}
use Rattle.design_ir.specs.Designs.{IsProcess}
use Rattle.comb_graph.specs.Places.{bit_nodes}
use Rattle.comb_graph.proofs.GraphMeanings.{means_more}
use Rattle.comb_graph.proofs.GraphTables.{places_more}
use Rattle.comb_graph.proofs.GraphDesigns.{process_names, process_turn}
use Rattle.comb_graph.proofs.needs.add_processes.Goals as goal

pub add_process-requires : goal.add_process-requires
add_process-requires c =
    let g = c.args.graph.now in
    let h = c.loop-process.graph in
    let design = c.args.design.now in
    let items = c.as_slice-process-items.result.now in
    let i = c.loop-process.process-index in
    let at : slice_get items i ≡ Some c.process-item.result = slice_get_read items (length items) i c.process-item.result refl c.loop-process-test.true c.process-item.is in
    let same : items ≡ design.processes = c.as_slice-process-items.ensures ∙ c.processes.ensures.value in
    let all = subst (AllByRecursion (IsProcess design)) (sym same) c.processes.ensures.rules.processes in
    record {
      rules = c.requires.rules;
      places = places_more g h design.pool c.args.tables.0.now c.known.ensures c.loop-process.invariant.extends c.requires.places;
      aims = c.requires.aims;
      count = c.requires.count;
      guard = means_more g h (bit_nodes design.pool) c.args.guard [] c.known.ensures c.loop-process.invariant.extends c.requires.guard;
      names = process_names design items i c.process-item.result all at;
    }

pub loop-process-preserved : goal.loop-process-preserved
loop-process-preserved c =
    let items = c.as_slice-process-items.result.now in
    let i = c.loop-process.process-index in
    let at : slice_get items i ≡ Some c.process-item.result = slice_get_read items (length items) i c.process-item.result refl c.loop-process-test.true c.process-item.is in
    process_turn c.args.graph.now c.loop-process.graph c.add_process.new.graph c.args.design.now.pool items i c.process-item.result at c.loop-process.invariant c.in_ok-add_process.ensures
