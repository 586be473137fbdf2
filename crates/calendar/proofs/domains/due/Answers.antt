use Rattle.std.proofs.Common.{◌≡◌, ◌∙◌, ap, sym, ℕ, arith, ◌++◌, [], ◌∷◌, List, true, false}
use Rattle.std.proofs.lemmas.List.{append-nil}
use Rattle.design_ir.specs.declared.ids.DomainId.{DomainId}
use Rattle.calendar.specs.Due.{due_domains}
use Rattle.calendar.proofs.DueLaws.{due_more, event_at}
use Rattle.calendar.proofs.domains.due.Goals as goal
use Rattle.calendar.proofs.domains.due.Goals.{then-is_due_in+in_ok-push, else-is_due_in}

pub loop-number-preserved : goal.loop-number-preserved
loop-number-preserved c =
    let number = c.loop-number.number in
    elim c.if-is_due_in.branch [
      | then-is_due_in+in_ok-push w ↦
          w.due-is ∙ w.in_ok-push.ensures.ok ∙ ap (λ (ds : List DomainId). ds ++ record { 0 = number } ∷ []) c.loop-number.invariant
          ∙ sym (due_more c.args.clocks.now number c.args.at true (sym c.is_due_in.ensures ∙ w.if-is_due_in.true))
      | else-is_due_in w ↦
          w.due-is ∙ c.loop-number.invariant ∙ sym (due_more c.args.clocks.now number c.args.at false (sym c.is_due_in.ensures ∙ w.if-is_due_in.false) ∙ append-nil _)
    ]

pub returns-clause-event : goal.returns-clause-event
returns-clause-event c =
    let number : c.loop-number.number ≡ c.args.domains = omega (arith, c.loop-number-test.false, c.loop-number.auto.number-end) in
    event_at c.args.clocks.now c.args.domains c.args.at c.loop-number.due c.requires.within (c.loop-number.invariant ∙ ap (λ (n : ℕ). due_domains c.args.clocks.now n c.args.at) number)
