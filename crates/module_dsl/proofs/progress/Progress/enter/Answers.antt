use Rattle.std.proofs.Common.{◌∙◌, ap, sym, subst}
use Rattle.module_dsl.specs.declared.step.OpenBlock.TheVariants as block
use Rattle.module_dsl.specs.Blocks.{entered, in_switch, is_none, may_begin}
use Rattle.module_dsl.specs.Progress.{IsProgress}
use Rattle.module_dsl.proofs.ProgressMoves.{begun-is, gone_on-is, case_begun-is, switch_first, not_false}
use Rattle.module_dsl.proofs.Results.{ok_so}
use Rattle.module_dsl.proofs.progress.Progress.enter.Goals as goal

pub returns-in-If-clause-entered : goal.returns-in-If-clause-entered
returns-in-If-clause-entered c =
    ok_so c.begin.result c.begin.ensures.begun
    (λ m b h may.
    let e = c.in-If.is in
    subst (λ o. IsProgress (entered o b) c.begin.new.self) (sym e)
    (begun-is b (block.Branch c.in-If.c) c.args.self.now c.begin.new.self h (not_false (in_switch b.around) (sym (ap (λ o. may_begin o b) e) ∙ may)) m))

pub returns-in-Switch-clause-entered : goal.returns-in-Switch-clause-entered
returns-in-Switch-clause-entered c =
    ok_so c.begin-in-Switch.result c.begin-in-Switch.ensures.begun
    (λ m b h may.
    let e = c.in-Switch.is in
    subst (λ o. IsProgress (entered o b) c.begin-in-Switch.new.self) (sym e)
    (begun-is b (block.Switch c.in-Switch.v) c.args.self.now c.begin-in-Switch.new.self h (not_false (in_switch b.around) (sym (ap (λ o. may_begin o b) e) ∙ may)) m))

pub returns-in-Elif-clause-entered : goal.returns-in-Elif-clause-entered
returns-in-Elif-clause-entered c =
    ok_so c.go_on.result c.go_on.ensures.begun
    (λ m b h may.
    let e = c.in-Elif.is in
    subst (λ o. IsProgress (entered o b) c.go_on.new.self) (sym e)
    (gone_on-is b (block.Branch c.in-Elif.c) c.args.self.now c.go_on.new.self h (not_false (is_none b.chain) (sym (ap (λ o. may_begin o b) e) ∙ may)) m))

pub returns-in-Else-clause-entered : goal.returns-in-Else-clause-entered
returns-in-Else-clause-entered c =
    ok_so c.go_on-in-Else.result c.go_on-in-Else.ensures.begun
    (λ m b h may.
    let e = c.in-Else.is in
    subst (λ o. IsProgress (entered o b) c.go_on-in-Else.new.self) (sym e)
    (gone_on-is b (block.Last c.in-Else.c) c.args.self.now c.go_on-in-Else.new.self h (not_false (is_none b.chain) (sym (ap (λ o. may_begin o b) e) ∙ may)) m))

pub returns-in-Case-clause-entered : goal.returns-in-Case-clause-entered
returns-in-Case-clause-entered c = λ b h may.
    let e = c.in-Case.is in
    let s = switch_first b c.args.self.now h (sym (ap (λ o. may_begin o b) e) ∙ may) in
    subst (λ o. IsProgress (entered o b) c.begin_case.new.self) (sym e)
    (case_begun-is c.in-Case.condition b c.args.self.now c.begin_case.new.self s.subject h s.first (c.begin_case.ensures.begun s.subject s.first))
