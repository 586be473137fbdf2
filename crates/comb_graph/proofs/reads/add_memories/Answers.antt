use Rattle.std.proofs.Common.{◌≡◌, refl, length, Some, slice_get}
use Rattle.std.proofs.lemmas.Option.{slice_get_read}
use Rattle.comb_graph.specs.Rules.{memory_rules}
use Rattle.comb_graph.proofs.GraphTables.{places_more}
use Rattle.comb_graph.proofs.ReadLaws.{list_turn}
use Rattle.comb_graph.proofs.reads.add_memories.Goals as goal

pub add_memory-requires-clause-places : goal.add_memory-requires-clause-places
add_memory-requires-clause-places c = places_more c.args.graph.now c.loop-memory.graph c.args.design.now.pool c.args.firsts.now c.known.ensures c.loop-memory.invariant.extends c.requires.places

pub loop-memory-preserved : goal.loop-memory-preserved
loop-memory-preserved c =
    let pool = c.args.design.now.pool in
    let items = c.as_slice-memory-items.result.now in
    let i = c.loop-memory.memory-index in
    let item = c.memory-item.result in
    let at : slice_get items i ≡ Some item = slice_get_read items (length items) i item refl c.loop-memory-test.true c.memory-item.is in
    list_turn c.args.graph.now c.loop-memory.graph c.add_memory.new.graph pool (memory_rules pool) items i item at c.loop-memory.invariant c.in_ok-add_memory.ensures
