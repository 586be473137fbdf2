use Rattle.std.proofs.Common.{◌<◌, length, take, sym, subst, arith}
use Rattle.std.proofs.lemmas.List.{length-take}
use Rattle.fragment_walks.specs.Reads.{own_signals}
use Rattle.fragment_walks.proofs.Lists.{all_index, take-push}
use Rattle.fragment_walks.proofs.Outs.{own_inside}
use Rattle.domain_transforms.specs.Placed.{ArePlaces}
use Rattle.domain_transforms.proofs.places.places_of.Goals as goal

pub add_place-requires : goal.add_place-requires
add_place-requires c =
    let n = length c.loop-k.places.items in
    all_index (λ s. s < n) (own_signals c.at.result.now) (own_inside c.args.pool.now c.loop-k.k c.at.result.now n c.count-count.ensures.rules c.at.ensures c.loop-k.invariant.size)

pub loop-k-preserved : goal.loop-k-preserved
loop-k-preserved c =
    let es = c.args.pool.now.exprs in
    let k = c.loop-k.k in
    subst (λ xs. ArePlaces xs c.add_place.new.places.items) (sym (take-push es k c.at.result.now c.at.ensures))
    (c.add_place.ensures (take k es) (omega (arith, length-take k es, c.loop-k-test.true, c.count-count.ensures.value)) c.loop-k.invariant)
