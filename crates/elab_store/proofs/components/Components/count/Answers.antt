use Rattle.std.proofs.Common.{◌≡◌, ◌+◌, sym, ◌∙◌, ap, refl, length, false, drop, []}
use Rattle.std.proofs.lemmas.Option.{slice_get_read}
use Rattle.elab_store.specs.Leaves.{cut, form_count, all_leaves, leaves_in}
use Rattle.elab_store.proofs.LeafLaws.{cut_twice, total_more}
use Rattle.elab_store.proofs.components.Components.count.Goals as goal

pub loop-m-preserved : goal.loop-m-preserved
loop-m-preserved c =
    let sigs = c.args.self.now.signatures in
    let ms = c.args.members.now in
    let i = c.loop-m.m-index in
    let m = c.m-item.result in
    let at = slice_get_read ms (length ms) i m refl c.loop-m-test.true c.m-item.is in (
      ap cut c.cut-total.ensures ∙ cut_twice (c.loop-m.total + c.form_count.result) ∙ sym c.cut-total.ensures,
      ap (λ n. cut (n + length (all_leaves (leaves_in (length sigs) sigs) false [] (drop (i + 1) ms)))) c.cut-total.ensures ∙ total_more sigs (length sigs) false ms i m c.loop-m.total c.form_count.result _ at (c.form_count.ensures ∙ ap (λ k. cut (form_count sigs k m.member.form)) c.signature_count-before.ensures) c.loop-m.invariant.1,
    )
