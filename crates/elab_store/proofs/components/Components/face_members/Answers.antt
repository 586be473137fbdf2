use Rattle.std.proofs.Common.{◌≡◌, ◌++◌, ◌∷◌, [], ◌+◌, sym, ◌∙◌, ap, refl, length, drop, arith, Some, Option, List}
use Rattle.std.specs.Option.{option_copied}
use Rattle.std.proofs.lemmas.Option.{slice_get_read}
use Rattle.elab_store.specs.declared.faces.FaceMember.{FaceMember}
use Rattle.elab_store.specs.Leaves.{form_count, turned_by}
use Rattle.elab_store.specs.Faces.{members_from, member_as}
use Rattle.elab_store.proofs.FaceLaws.{all_count, total_of, count_few, from_more, count_more}
use Rattle.elab_store.proofs.LeafLaws.{cut_few}
use Rattle.elab_store.proofs.components.Components.face_members.Goals as goal

pub overflow_add-first : goal.overflow_add-first
overflow_add-first c =
    let sigs = c.args.self.now.signatures in
    let f = c.args.face in
    let ms = c.as_slice-m-items.result.now in
    let there = sym c.signature.ensures ∙ ap option_copied c.in-Some.is ∙ ap Some (sym c.as_slice-m-items.ensures) in
    let i = c.loop-m.m-index in
    let m = c.m-item.result in
    let at = slice_get_read ms (length ms) i m refl c.loop-m-test.true c.m-item.is in
    let few = count_few sigs f ms i m c.loop-m.first f.first there at c.requires.few c.loop-m.invariant.1.1 c.loop-m.invariant.1.0 in
    let count : c.form_count.result ≡ form_count sigs f.signature m.member.form = c.form_count.ensures ∙ cut_few (form_count sigs f.signature m.member.form) few in
    let more = count_more sigs f ms i m c.loop-m.first f.first at c.loop-m.invariant.1.0 in
    omega (arith, count, more, c.requires.within, total_of sigs f ms there, c.end_count-ends.ensures, c.end_count-ends.type_inv)

pub loop-m-preserved : goal.loop-m-preserved
loop-m-preserved c =
    let sigs = c.args.self.now.signatures in
    let f = c.args.face in
    let ms = c.as_slice-m-items.result.now in
    let i = c.loop-m.m-index in
    let m = c.m-item.result in
    let there = sym c.signature.ensures ∙ ap option_copied c.in-Some.is ∙ ap Some (sym c.as_slice-m-items.ensures) in
    let at = slice_get_read ms (length ms) i m refl c.loop-m-test.true c.m-item.is in
    let few = count_few sigs f ms i m c.loop-m.first f.first there at c.requires.few c.loop-m.invariant.1.1 c.loop-m.invariant.1.0 in
    let count : c.form_count.result ≡ form_count sigs f.signature m.member.form = c.form_count.ensures ∙ cut_few (form_count sigs f.signature m.member.form) few in
    let pushed = c.in_ok-push.ensures.ok
    ∙ ap (λ (o : Option FaceMember). c.loop-m.all ++ o ∷ []) (c.member_as.ensures ∙ ap (λ b. member_as f.signature b c.loop-m.first m.member.form) c.turned_by-is_out.ensures) in (
      ap (λ n. c.push.new.self ++ members_from sigs f (c.loop-m.first + n) (drop (i + 1) ms)) count
          ∙ ap (λ (xs : List (Option FaceMember)). xs ++ members_from sigs f (c.loop-m.first + form_count sigs f.signature m.member.form) (drop (i + 1) ms)) pushed
          ∙ from_more sigs f ms i m c.loop-m.first c.loop-m.all _ at c.loop-m.invariant.0,
      (
        ap (λ n. c.loop-m.first + n + all_count sigs f (drop (i + 1) ms)) count ∙ count_more sigs f ms i m c.loop-m.first f.first at c.loop-m.invariant.1.0,
        omega (arith, c.loop-m.invariant.1.1),
      ),
    )
