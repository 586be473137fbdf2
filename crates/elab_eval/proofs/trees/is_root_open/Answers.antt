use Rattle.std.proofs.Common.{◌∙◌, sym, ap, true}
use Rattle.std.specs.Prelude.{slice_get}
use Rattle.std.specs.Option.{option_map_or}
use Rattle.elab_store.specs.Stores.{Stored}
use Rattle.elab_eval.specs.Elaborates.{is_open, module_in}
use Rattle.elab_eval.specs.Trees.{is_missing}
use Rattle.elab_eval.proofs.TreeLaws.{open_at}
use Rattle.elab_eval.proofs.trees.is_root_open.Goals as goal

pub returns-in_default : goal.returns-in_default
returns-in_default g c = ap (λ r. option_map_or is_open (module_in g.built r) true) (sym c.in_default.is ∙ ap (λ (x : Stored). x.top.root) c.store.view_is)

pub returns : goal.returns
returns g c =
    c.is_missing.ensures ∙ ap (λ ms. is_missing (slice_get ms c.in-Some.m)) c.requires ∙ sym (open_at g.built c.in-Some.m)
    ∙ ap (λ r. option_map_or is_open (module_in g.built r) true) (sym c.in-Some.is ∙ ap (λ (x : Stored). x.top.root) c.store.view_is)
