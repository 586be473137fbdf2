use Rattle.std.proofs.Common.{◌≡◌, ◌∙◌, ℕ, ◌+◌, ◌^◌, ◌<◌, [], ◌∷◌, ◌++◌, sym, subst, ap, length}
use Rattle.design_ir.specs.Values.{form}
use Rattle.design_ir.specs.Needed.{every, needed, needed_indices}
use Rattle.comb_graph.specs.Meanings.{Means}
use Rattle.comb_graph.specs.Places.{HasPlaces, HasBits, HasNode, bit_nodes}
use Rattle.comb_graph.proofs.GraphMeanings.{extends_then}
use Rattle.comb_graph.proofs.GraphTables.{places_more, places_push}
use Rattle.comb_graph.proofs.needs.place.Goals as goal

pub place_whole-requires-clause-bits : goal.place_whole-requires-clause-bits
place_whole-requires-clause-bits c = λ k in'.
    let pool = c.args.design.now.pool in
    subst (λ n. Means c.place_bits.new.graph (bit_nodes pool) (n + k) (needed pool c.args.e.0 k)) (sym c.size-first.ensures.value) (c.in_ok-place_bits.ensures.bits k in')

pub place_indices-requires-clause-places : goal.place_indices-requires-clause-places
place_indices-requires-clause-places c =
    let pool = c.args.design.now.pool in
    places_more c.args.graph.now c.place_whole.new.graph pool c.args.firsts.now c.known.ensures
    (extends_then c.args.graph.now c.place_bits.new.graph c.place_whole.new.graph (bit_nodes pool) c.in_ok-place_bits.ensures.extends c.in_ok-place_whole.ensures.extends) c.requires.places

pub returns-clause-places : goal.returns-clause-places
returns-clause-places c =
    let pool = c.args.design.now.pool in
    let g = c.args.graph.now in
    let h1 = c.place_bits.new.graph in
    let h2 = c.place_whole.new.graph in
    let h3 = c.place_indices.new.graph in
    let firsts = c.args.firsts.now in
    let there : length firsts < length pool.exprs = subst (λ n. n < length pool.exprs) c.requires.next c.requires.there in
    let small : g.size < 2 ^ 63 = subst (λ n. n < 2 ^ 63) c.size-first.ensures.value c.size-first.ensures.small in
    let bits = subst (λ n. HasBits g h1 pool n (form pool n).width) c.requires.next c.in_ok-place_bits.ensures in
    let whole = subst (λ n. HasNode h1 h2 pool (every (form pool n) (needed pool n))) c.requires.next c.in_ok-place_whole.ensures in
    let indices = subst (λ n. HasNode h2 h3 pool (needed_indices pool n)) c.requires.next c.in_ok-place_indices.ensures in
    let all = places_push g h1 h2 h3 pool firsts c.requires.rules c.known.ensures c.known-2.ensures c.known-3.ensures c.requires.places there small bits whole indices in
    let pushed : c.push.new.self ≡ firsts ++ g.size ∷ [] = c.in_ok-push.ensures.ok ∙ ap (λ (n : ℕ). firsts ++ n ∷ []) c.size-first.ensures.value in
    subst (HasPlaces h3 pool) (sym pushed) all

pub returns-clause-extends : goal.returns-clause-extends
returns-clause-extends c =
    let count = bit_nodes c.args.design.now.pool in
    extends_then c.args.graph.now c.place_bits.new.graph c.place_indices.new.graph count c.in_ok-place_bits.ensures.extends
    (extends_then c.place_bits.new.graph c.place_whole.new.graph c.place_indices.new.graph count c.in_ok-place_whole.ensures.extends c.in_ok-place_indices.ensures.extends)

pub returns-clause-signals : goal.returns-clause-signals
returns-clause-signals c = λ a b below leads.
    c.in_ok-place_bits.ensures.signals a b below (c.in_ok-place_whole.ensures.signals a b below (c.in_ok-place_indices.ensures.signals a b below leads))
