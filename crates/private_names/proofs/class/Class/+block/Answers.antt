use Rattle.std.proofs.Common.{◌≡◌, ◌∙◌, sym, ap, map, arith}
use Rattle.std.proofs.lemmas.Result.{IfOk-weaker}
use Rattle.py_tree.specs.declared.stmt.Block.{out-Block}
use Rattle.py_tree.specs.Steps.{steps, branches}
use Rattle.py_tree.specs.Programs.{step_of, kind_step}
use Rattle.private_names.specs.Statements.{mangled_step, mangled_steps}
use Rattle.private_names.proofs.Layers.{step_of_kind, steps_of_block, block_of_steps}
use Rattle.private_names.proofs.Outside.{statement_outside}
use Rattle.private_names.proofs.Rows.{all_made, step_within, steps_within, branch_within, branches_within}
use Rattle.private_names.proofs.class.Class.+block.Goals as goal

pub block-returns : goal.block-returns
block-returns t c =
    let class = c.args.self.now.name in
    let all = (out-Block c.args.block.now).stmts.value.items in
    let same = c.as_slice-stmt-items.ensures.value ∙ ap (λ v. v.items) c.deref.ensures in
    block_of_steps c.in_ok-new.field-0
    ∙ ap (λ v. steps (map step_of v.items)) c.in_ok-new.ensures.ok
    ∙ ap steps (all_made (step_within class) c.as_slice-stmt-items.result.now all c.loop-stmt.stmt-index _ same (omega (arith, c.loop-stmt-test.false)) c.loop-stmt.invariant)
    ∙ steps_within class all
    ∙ ap (mangled_steps class) (steps_of_block c.args.block.now)

pub branches-returns : goal.branches-returns
branches-returns t c = let class = c.args.self.now.name in ap branches (all_made (branch_within class) c.as_slice-branch-items.result.now c.args.all.now.items c.loop-branch.branch-index _ c.as_slice-branch-items.ensures.value (omega (arith, c.loop-branch-test.false)) c.loop-branch.invariant) ∙ branches_within class c.args.all.now.items

pub stmt-returns-then-not-has_body : goal.stmt-returns-then-not-has_body
stmt-returns-then-not-has_body t c =
    let class = c.args.self.now.name in
    let s = c.args.stmt.now in
    IfOk-weaker c.share.result _ (λ made. step_of made ≡ mangled_step class (step_of s)) (λ made h. h ∙ statement_outside class (step_of s) (c.is_none.ensures.0 c.if-is_none.true) (sym c.has_body.ensures ∙ c.if-not-has_body.true)) c.share.ensures

pub stmt-returns : goal.stmt-returns
stmt-returns t c =
    let class = c.args.self.now.name in
    let s = c.args.stmt.now in
    IfOk-weaker c.new.result _ (λ made. step_of made ≡ mangled_step class (step_of s)) (λ made h. h ∙ c.in_ok-kind.ensures s.place ∙ ap (λ k. mangled_step class (kind_step k s.place)) c.deref.ensures ∙ ap (mangled_step class) (step_of_kind s)) c.new.ensures
