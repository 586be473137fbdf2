use Rattle.std.proofs.Common.{◌∙◌, sym, ap}
use Rattle.std.specs.Prelude.{slice_get}
use Rattle.elab_store.specs.Stores.{Stored}
use Rattle.elab_eval.specs.Elaborates.{is_open_in}
use Rattle.elab_eval.specs.Trees.{is_missing}
use Rattle.elab_eval.proofs.TreeLaws.{open_at}
use Rattle.elab_eval.proofs.trees.is_open_in.Goals as goal

pub returns-in-Module : goal.returns-in-Module
returns-in-Module g c =
    let s : Stored = record c.args.store.now { modules = g.built } in
    c.is_missing.ensures ∙ ap (λ ms. is_missing (slice_get ms c.in-Module.m)) c.requires ∙ sym (open_at g.built c.in-Module.m) ∙ ap (is_open_in s) (sym c.in-Module.is)
