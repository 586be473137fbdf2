use Rattle.std.proofs.Common.{Some, refl, ◌∙◌, ap, sym}
use Rattle.module_dsl.specs.declared.step.OpenBlock.TheVariants as block
use Rattle.module_dsl.proofs.ProgressMoves.{left_chain-is, left_choice-is, left_case-is}
use Rattle.module_dsl.proofs.progress.Progress.leave.Goals as goal

pub returns-in-Some-Branch-clause-left : goal.returns-in-Some-Branch-clause-left
returns-in-Some-Branch-clause-left c = λ b h.
    left_chain-is b c.args.self.now c.end.new.self c.in-Some-Branch.field-0-0 h (sym c.innermost.ensures ∙ c.in-Some-Branch.is ∙ ap Some c.in-Some-Branch.field-0-is) c.end.ensures

pub returns-in-Some-Last-clause-left : goal.returns-in-Some-Last-clause-left
returns-in-Some-Last-clause-left c = λ b h.
    left_choice-is b c.args.self.now c.end-in-Some-Last.new.self (block.Last c.in-Some-Last.field-0-0) refl h (sym c.innermost.ensures ∙ c.in-Some-Last.is ∙ ap Some c.in-Some-Last.field-0-is) c.end-in-Some-Last.ensures

pub returns-in-Some-Switch-clause-left : goal.returns-in-Some-Switch-clause-left
returns-in-Some-Switch-clause-left c = λ b h.
    left_choice-is b c.args.self.now c.end-in-Some-Switch.new.self (block.Switch c.in-Some-Switch.field-0-0) refl h (sym c.innermost.ensures ∙ c.in-Some-Switch.is ∙ ap Some c.in-Some-Switch.field-0-is) c.end-in-Some-Switch.ensures

pub returns-in-Some-Case-clause-left : goal.returns-in-Some-Case-clause-left
returns-in-Some-Case-clause-left c = λ b h.
    left_case-is b c.args.self.now c.end_case.new.self c.in-Some-Case.subject c.in-Some-Case.field-0-1 h (sym c.innermost.ensures ∙ c.in-Some-Case.is ∙ ap Some c.in-Some-Case.field-0-is) c.end_case.ensures
