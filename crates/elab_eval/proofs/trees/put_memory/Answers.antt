use Rattle.std.proofs.Common.{◌≡◌, ◌∙◌, sym, ap, refl, length, Some}
use Rattle.std.specs.Prelude.{slice_get}
use Rattle.std.proofs.lemmas.Bool.{ltb-true}
use Rattle.std.proofs.lemmas.Option.{slice_get_read}
use Rattle.elab_store.specs.Stores.{Stored}
use Rattle.elab_eval.proofs.TreeLaws.{memory_got}
use Rattle.elab_eval.proofs.trees.put_memory.Goals as goal

pub returns : goal.returns
returns c =
    let own = c.deref.result.now in
    let k = c.args.k in
    let looked = c.in-Some.ensures.lookup in
    let at : slice_get own k ≡ Some c.in-Some.memory.now = slice_get_read own (length own) k c.in-Some.memory.now refl (ltb-true k (length own) (sym looked.0)) looked.1 in
    let here : slice_get c.args.store.now.memories k ≡ slice_get own k = ap (λ (x : Stored). slice_get x.memories k) (sym c.store.view_is) ∙ ap (λ ms. slice_get ms k) (sym c.deref.ensures.value) in
    memory_got c.args.store.now c.args.node k c.in-Some.memory.now c.node_name.result.now c.new-domains.result c.new-processes.result c.in_ok-own.own c.args.behind c.with_node.result (here ∙ at)
    c.node_name.ensures c.new-domains.ensures c.new-processes.ensures c.in_ok-own.ensures c.with_node.ensures
