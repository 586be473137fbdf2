use Rattle.std.proofs.Common.{◌≡◌, refl, length, Some, slice_get}
use Rattle.std.proofs.lemmas.Option.{slice_get_read}
use Rattle.comb_graph.specs.Rules.{read_rules}
use Rattle.comb_graph.proofs.GraphTables.{places_more}
use Rattle.comb_graph.proofs.ReadLaws.{list_turn}
use Rattle.comb_graph.proofs.reads.add_memory.Goals as goal

pub add_read-requires-clause-places : goal.add_read-requires-clause-places
add_read-requires-clause-places c = places_more c.args.graph.now c.loop-read.graph c.args.design.now.pool c.args.firsts.now c.known.ensures c.loop-read.invariant.extends c.requires.places

pub loop-read-preserved : goal.loop-read-preserved
loop-read-preserved c =
    let pool = c.args.design.now.pool in
    let items = c.as_slice-read-items.result.now in
    let i = c.loop-read.read-index in
    let item = c.read-item.result in
    let at : slice_get items i ≡ Some item = slice_get_read items (length items) i item refl c.loop-read-test.true c.read-item.is in
    list_turn c.args.graph.now c.loop-read.graph c.add_read.new.graph pool (read_rules pool) items i item at c.loop-read.invariant c.in_ok-add_read.ensures
