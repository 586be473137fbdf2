use Rattle.std.proofs.Common.{arith}
use Rattle.std.specs.Option.{option_copied}
use Rattle.py_heap.specs.Heaps.{seen}
use Rattle.elab_store.specs.Held.{held_of}
use Rattle.elab_wrappers.proofs.GivenLaws.{two_first, control_found}
use Rattle.elab_wrappers.proofs.controls.controls_of_row.Goals as goal

pub loop-rest-preserved : goal.loop-rest-preserved
loop-rest-preserved c =
    control_found (seen c.args.frozen.now c.args.heap.now) (held_of c.args.elaboration.now) c.loop-rest.rest.now _ c.k-item.result c.v-item.result (option_copied c.in_ok-name.name) _ c.in-Some.x c.loop-rest.named c.push.new.self _
    (two_first c.loop-rest.rest.now c.k-item.result c.v-item.result (omega (arith, c.in-len2-up.len_at_least)) c.k-item.is c.v-item.is) c.in_ok-name.ensures c.in_ok-x.ensures c.in-Some.is c.in_ok-push-in-Some.ensures.ok c.loop-rest.invariant
