use Rattle.std.proofs.Common.{◌≡◌, sym, ◌∙◌, ap, arith}
use Rattle.elab_store.specs.declared.members.MemberForm.{MemberForm}
use Rattle.elab_store.specs.Leaves.{cut, form_count}
use Rattle.elab_store.proofs.LeafLaws.{count_before, count_behind}
use Rattle.elab_store.proofs.components.Components.form_count.Goals as goal

pub returns-in-Nested : goal.returns-in-Nested
returns-in-Nested c =
    let sigs = c.args.self.now.signatures in
    c.leaf_count.ensures ∙ count_before sigs c.args.before c.in-Nested.n (omega (arith, c.if-n-before.true)) ∙ ap (λ (x : MemberForm). cut (form_count sigs c.args.before x)) (sym c.in-Nested.is)

pub returns-in-Nested-2 : goal.returns-in-Nested-2
returns-in-Nested-2 c =
    let sigs = c.args.self.now.signatures in
    count_behind sigs c.args.before c.in-Nested.n (omega (arith, c.if-n-before.false)) ∙ ap (λ (x : MemberForm). cut (form_count sigs c.args.before x)) (sym c.in-Nested.is)
