use Rattle.std.proofs.Common.{arith}
use Rattle.py_heap.specs.Heaps.{seen}
use Rattle.elab_wrappers.proofs.GivenLaws.{two_first, pair_found}
use Rattle.elab_wrappers.proofs.names.pairs_of_row.Goals as goal

pub loop-rest-preserved : goal.loop-rest-preserved
loop-rest-preserved c =
    pair_found (seen c.args.frozen.now c.args.heap.now) c.loop-rest.rest.now _ c.k-item.result c.v-item.result _ c.in-Some.pair c.loop-rest.pairs c.push.new.self _
    (two_first c.loop-rest.rest.now c.k-item.result c.v-item.result (omega (arith, c.in-len2-up.len_at_least)) c.k-item.is c.v-item.is) c.in_ok-pair.ensures c.in-Some.is c.in_ok-push-in-Some.ensures.ok c.loop-rest.invariant
