use Rattle.std.proofs.Common.{◌≡◌, ◌++◌, ◌∷◌, [], sym, ◌∙◌, ap, subst, List, ℕ, length, false}
use Rattle.elab_store.specs.declared.members.NamedMember.{NamedMember}
use Rattle.elab_store.specs.Components.{Components}
use Rattle.elab_store.specs.Leaves.{Signatures, AreCounts, all_leaves, leaves_in, cut}
use Rattle.elab_store.proofs.LeafLaws.{counts_more}
use Rattle.elab_store.proofs.components.Components.keep_signature.Goals as goal

pub invariant_of-self-in-Ok : goal.invariant_of-self-in-Ok
invariant_of-self-in-Ok c =
    let sigs = c.self.inside.signatures.items in
    let count = c.count-count.ensures
    ∙ ap (λ (x : Components). cut (length (all_leaves (leaves_in (length x.signatures) x.signatures) false [] c.as_slice.result.now))) (sym c.self.view_is)
    ∙ ap (λ (ms : List NamedMember). cut (length (all_leaves (leaves_in (length sigs) sigs) false [] ms))) c.as_slice.ensures in
    let more = counts_more sigs c.self.inside.counts.items c.args.members c.count-count.result c.self.invariant count in
    let counted : AreCounts (sigs ++ c.args.members ∷ []) c.push.new.self.items = subst (λ (cs : List ℕ). AreCounts (sigs ++ c.args.members ∷ []) cs) (sym c.in_ok-push.ensures.items) more in
    subst (λ (s : Signatures). AreCounts s c.push.new.self.items) (sym c.in-Ok.ensures.items) counted
