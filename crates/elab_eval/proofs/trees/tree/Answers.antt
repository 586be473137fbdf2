use Rattle.std.proofs.Common.{◌∙◌, sym, ap, map}
use Rattle.std.specs.Prelude.{option_and_then}
use Rattle.elab_store.specs.Stores.{Stored}
use Rattle.elab_eval.specs.Elaborates.{module_in, root_module}
use Rattle.elab_eval.specs.Trees.{finished}
use Rattle.elab_eval.proofs.TreeLaws.{root_open, below_open, stopped_as, top_there, top_refused, top_module, top_absent, top_made, top_got}
use Rattle.elab_eval.proofs.StandingLaws.{top_there_stands, all_with_modules}
use Rattle.elab_eval.proofs.WrappedLaws.{wrappings_more}
use Rattle.elab_eval.proofs.trees.tree.Goals as goal

pub returns-then-absent-clause-tree : goal.returns-then-absent-clause-tree
returns-then-absent-clause-tree g c =
    let s : Stored = record c.args.store.now { modules = g.built } in
    stopped_as c.raised.result _ c.args.pool.now _ c.raised.ensures (root_open s (root_module s) c.args.pool.now (sym c.is_root_open-absent.ensures ∙ c.if-absent.true))

pub returns-then-opened-clause-tree : goal.returns-then-opened-clause-tree
returns-then-opened-clause-tree g c =
    let s : Stored = record c.args.store.now { modules = g.built } in
    stopped_as c.raised-then-opened.result _ c.args.pool.now _ c.raised-then-opened.ensures (below_open s (root_module s) c.args.pool.now (sym c.is_any_open-opened.ensures ∙ c.if-opened.true))

pub trees_of-requires : goal.trees_of-requires
trees_of-requires g c =
    let s : Stored = record c.args.store.now { modules = g.built } in
    let top = top_there s (root_module s) (sym c.is_root_open-absent.ensures ∙ c.if-absent.false) (sym c.is_any_open-opened.ensures ∙ c.if-opened.false) in
    (c.as_slice-3.ensures.value ∙ c.in-Ok.ensures ∙ ap (map finished) c.requires.0, (c.requires.1.0, (c.requires.1.1, top.nodes)))

pub returns-in-Err-clause-tree : goal.returns-in-Err-clause-tree
returns-in-Err-clause-tree g c =
    let s : Stored = record c.args.store.now { modules = g.built } in
    let top = top_there s (root_module s) (sym c.is_root_open-absent.ensures ∙ c.if-absent.false) (sym c.is_any_open-opened.ensures ∙ c.if-opened.false) in
    top_refused s (root_module s) c.args.pool.now c.trees_of.new.pool c.trees_of.new.pool c.in-Err.stop top c.in-Err.ensures.trees

pub returns-in_default-module_in-clause-tree : goal.returns-in_default-module_in-clause-tree
returns-in_default-module_in-clause-tree g c =
    let s : Stored = record c.args.store.now { modules = g.built } in
    let top = top_there s (root_module s) (sym c.is_root_open-absent.ensures ∙ c.if-absent.false) (sym c.is_any_open-opened.ensures ∙ c.if-opened.false) in
    top_absent s (root_module s) top c.module_in.result (c.module_in.ensures ∙ ap (λ (x : Stored). option_and_then finished (module_in g.built x.top.root)) c.store.view_is) c.in_default-module_in.is

pub root_wrapped-requires-clause-stands : goal.root_wrapped-requires-clause-stands
root_wrapped-requires-clause-stands g c =
    let s : Stored = record c.args.store.now { modules = g.built } in
    let top = top_there s (root_module s) (sym c.is_root_open-absent.ensures ∙ c.if-absent.false) (sym c.is_any_open-opened.ensures ∙ c.if-opened.false) in
    let found = c.module_in.ensures ∙ ap (λ (x : Stored). option_and_then finished (module_in g.built x.top.root)) c.store.view_is in
    let is = top_made s top.built c.in-Ok-trees_of.below c.in-Some.root c.in-Ok-with_root.root (top_module s (root_module s) top c.module_in.result c.in-Some.root found c.in-Some.is) c.in-Ok-with_root.ensures in
    top_there_stands c.args.store.now g.built c.args.pool.now c.trees_of.new.pool top.built c.in-Ok-trees_of.below c.in-Ok-with_root.root c.known.ensures c.requires.1.0 c.requires.1.1 top.is is c.in-Ok-trees_of.ensures.stand

pub root_wrapped-requires-clause-wrappings : goal.root_wrapped-requires-clause-wrappings
root_wrapped-requires-clause-wrappings g c = wrappings_more c.args.pool.now c.trees_of.new.pool c.args.store.now.wrappings c.in-Ok-trees_of.ensures.stand.more c.requires.1.0.wrappings

pub returns-in-Ok-with_root-clause-tree : goal.returns-in-Ok-with_root-clause-tree
returns-in-Ok-with_root-clause-tree g c =
    let s : Stored = record c.args.store.now { modules = g.built } in
    let top = top_there s (root_module s) (sym c.is_root_open-absent.ensures ∙ c.if-absent.false) (sym c.is_any_open-opened.ensures ∙ c.if-opened.false) in
    let found = c.module_in.ensures ∙ ap (λ (x : Stored). option_and_then finished (module_in g.built x.top.root)) c.store.view_is in
    let is = top_made s top.built c.in-Ok-trees_of.below c.in-Some.root c.in-Ok-with_root.root (top_module s (root_module s) top c.module_in.result c.in-Some.root found c.in-Some.is) c.in-Ok-with_root.ensures in
    top_got s (root_module s) c.args.pool.now c.trees_of.new.pool c.root_wrapped.new.pool c.in-Ok-trees_of.below c.in-Ok-with_root.root c.root_wrapped.result top c.in-Ok-trees_of.ensures.trees is c.root_wrapped.ensures.tree

pub returns-in-Ok-with_root-clause-stands : goal.returns-in-Ok-with_root-clause-stands
returns-in-Ok-with_root-clause-stands g c = all_with_modules c.args.store.now g.built c.root_wrapped.new.pool c.root_wrapped.result c.root_wrapped.ensures.stands
