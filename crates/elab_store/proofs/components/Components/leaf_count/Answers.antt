use Rattle.std.proofs.Common.{◌≡◌, sym, ◌∙◌, ap, arith}
use Rattle.std.proofs.lemmas.Bool.{ltb-false}
use Rattle.elab_store.specs.Components.{Components}
use Rattle.elab_store.specs.Leaves.{leaf_count}
use Rattle.elab_store.proofs.LeafLaws.{count_past}
use Rattle.elab_store.proofs.components.Components.leaf_count.Goals as goal

pub returns-in-None : goal.returns-in-None
returns-in-None c =
    let past = ltb-false _ _ (sym c.in-None.ensures.lookup.0) in
    count_past c.self.inside.signatures.items c.self.inside.counts.items c.args.number c.self.invariant (omega (arith, past, c.deref.ensures.len))
    ∙ ap (λ (x : Components). leaf_count x.signatures c.args.number) c.self.view_is
