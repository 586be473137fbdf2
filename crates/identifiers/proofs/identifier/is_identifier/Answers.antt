use Rattle.std.proofs.Common.{◌≡◌, IfOk, subst, sym}
use Rattle.identifiers.proofs.IdentifierLaws.{with_form, without_form}
use Rattle.identifiers.proofs.identifier.is_identifier.Goals as goal

pub returns-then-has_form-clause-value : goal.returns-then-has_form-clause-value
returns-then-has_form-clause-value c = subst (λ x. IfOk c.is_in_nfkc.result (λ b. b ≡ x)) (with_form c.args.text.now c.utf8.text (sym c.if-has_form.ensures)) c.is_in_nfkc.ensures.value

pub returns-else-has_form-clause-value : goal.returns-else-has_form-clause-value
returns-else-has_form-clause-value c = without_form c.args.text.now (sym c.if-has_form.ensures)
