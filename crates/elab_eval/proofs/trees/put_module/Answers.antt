use Rattle.std.proofs.Common.{◌≡◌, ◌∙◌, sym, ap, refl, length, Some}
use Rattle.std.specs.Prelude.{slice_get}
use Rattle.std.proofs.lemmas.Bool.{ltb-true}
use Rattle.std.proofs.lemmas.Option.{slice_get_read}
use Rattle.elab_store.specs.ClockDomains.{defined_by}
use Rattle.elab_store.specs.Stores.{Stored}
use Rattle.elab_eval.proofs.TreeLaws.{module_got}
use Rattle.elab_eval.proofs.trees.put_module.Goals as goal

pub returns : goal.returns
returns g c =
    let s : Stored = record c.args.store.now { modules = g.built } in
    let modules = c.args.modules.now in
    let m = c.args.m in
    let looked = c.in-Some-Some.ensures.lookup in
    let at : slice_get modules m ≡ Some (Some c.in-Some-Some.fragment) =
    slice_get_read modules (length modules) m c.in-Some-Some.field-0.now refl (ltb-true m (length modules) (sym looked.0)) looked.1 ∙ ap Some c.in-Some-Some.field-0-is in
    module_got s c.args.node m c.in-Some-Some.fragment c.node_name.result.now c.in_ok-domains.domains c.in_ok-processes.processes c.new-none.result c.args.behind c.with_node.result (ap (λ ms. slice_get ms m) (sym c.requires.0) ∙ at)
    c.node_name.ensures (c.in_ok-domains.ensures ∙ ap (λ (x : Stored). defined_by m x.clock_domains) c.store.view_is) (c.in_ok-processes.ensures ∙ c.as_slice.ensures) c.new-none.ensures c.with_node.ensures
