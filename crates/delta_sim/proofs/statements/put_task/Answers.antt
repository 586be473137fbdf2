use Rattle.std.proofs.Common.{◌≡◌, ◌<◌, ℕ, length, sym, ap, ◌∙◌, subst, true, get_or}
use Rattle.design_ir.specs.declared.ids.ExprId.{ExprId}
use Rattle.design_ir.specs.Circuits.{is_among}
use Rattle.design_ir.specs.Statements.{statement_of}
use Rattle.design_ir.specs.Targets.{is_target}
use Rattle.design_ir.specs.Trees.{statements}
use Rattle.sim_plans.specs.Tasks.{places_of}
use Rattle.sim_plans.proofs.StatementTurns.{statements_length, picked_exprs, picked_targets, picked_turn, statement_fits}
use Rattle.sim_plans.proofs.Turns.{all_here, any_default}
use Rattle.sim_plans.proofs.Walks.{statement_length}
use Rattle.delta_sim.proofs.statements.put_task.Goals as goal

pub statement-requires : goal.statement-requires
statement-requires c =
    let is = c.as_slice-i-items.result.now in
    let j = c.loop-i.i-index in
    let i : ℕ = get_or is j 0 in
    let all = c.as_slice-all.result.now in
    let inside = all_here (λ k. k < length (statements c.args.body.now)) is j i c.loop-i-test.true (any_default is j 0 i c.loop-i-test.true) c.loop-i.invariant.inside in
    let long : length (statements c.args.body.now) ≡ length all = ap (λ b. length (statements b)) (sym c.as_slice-all.ensures.value) ∙ statements_length all in
    let here : i < length all = subst (λ n. i < n) long inside.0 in
    here

pub put_stmt-requires-clause-computed : goal.put_stmt-requires-clause-computed
put_stmt-requires-clause-computed c =
    let is = c.as_slice-i-items.result.now in
    let j = c.loop-i.i-index in
    let i : ℕ = get_or is j 0 in
    let all = c.as_slice-all.result.now in
    let inside = all_here (λ k. k < length (statements c.args.body.now)) is j i c.loop-i-test.true (any_default is j 0 i c.loop-i-test.true) c.loop-i.invariant.inside in
    let long : length (statements c.args.body.now) ≡ length all = ap (λ b. length (statements b)) (sym c.as_slice-all.ensures.value) ∙ statements_length all in
    let here : i < length all = subst (λ n. i < n) long inside.0 in
    (picked_exprs c.args.body.now all (sym c.as_slice-all.ensures.value) is j i c.statement.result.now c.loop-i-test.true (any_default is j 0 i c.loop-i-test.true) here c.statement.ensures (λ (e : ExprId). is_among (places_of c.args.task.now.exprs) e.0 ≡ true) c.loop-i.invariant.computed).0

pub put_stmt-requires-clause-targets : goal.put_stmt-requires-clause-targets
put_stmt-requires-clause-targets c =
    let is = c.as_slice-i-items.result.now in
    let j = c.loop-i.i-index in
    let i : ℕ = get_or is j 0 in
    let all = c.as_slice-all.result.now in
    let inside = all_here (λ k. k < length (statements c.args.body.now)) is j i c.loop-i-test.true (any_default is j 0 i c.loop-i-test.true) c.loop-i.invariant.inside in
    let long : length (statements c.args.body.now) ≡ length all = ap (λ b. length (statements b)) (sym c.as_slice-all.ensures.value) ∙ statements_length all in
    let here : i < length all = subst (λ n. i < n) long inside.0 in
    (picked_targets c.args.body.now all (sym c.as_slice-all.ensures.value) is j i c.statement.result.now c.loop-i-test.true (any_default is j 0 i c.loop-i-test.true) here c.statement.ensures (λ (e : ExprId). is_target c.args.design.now.pool e.0 ≡ true) c.loop-i.invariant.targets).0

pub loop-i-preserved : goal.loop-i-preserved
loop-i-preserved c =
    let is = c.as_slice-i-items.result.now in
    let j = c.loop-i.i-index in
    let i : ℕ = get_or is j 0 in
    let all = c.as_slice-all.result.now in
    let inside = all_here (λ k. k < length (statements c.args.body.now)) is j i c.loop-i-test.true (any_default is j 0 i c.loop-i-test.true) c.loop-i.invariant.inside in
    let long : length (statements c.args.body.now) ≡ length all = ap (λ b. length (statements b)) (sym c.as_slice-all.ensures.value) ∙ statements_length all in
    let here : i < length all = subst (λ n. i < n) long inside.0 in
    let p = c.args.design.now.pool in
    let s = c.statement.result.now in
    let of = sym c.as_slice-all.ensures.value in
    let at = any_default is j 0 i c.loop-i-test.true in
    record {
      signals = statement_length p c.args.env.now s c.loop-i.cur c.put_stmt.new.cur c.put_stmt.ensures ∙ c.loop-i.invariant.signals;
      fits = statement_fits p c.args.env.now (statement_of s) c.loop-i.cur c.put_stmt.new.cur c.put_stmt.ensures c.loop-i.invariant.fits;
      inside = inside.1;
      computed = (picked_exprs c.args.body.now all of is j i s c.loop-i-test.true at here c.statement.ensures (λ (e : ExprId). is_among (places_of c.args.task.now.exprs) e.0 ≡ true) c.loop-i.invariant.computed).1;
      targets = (picked_targets c.args.body.now all of is j i s c.loop-i-test.true at here c.statement.ensures (λ (e : ExprId). is_target p e.0 ≡ true) c.loop-i.invariant.targets).1;
      put = picked_turn c.args.body.now all of is j i s c.loop-i-test.true at here c.statement.ensures p c.args.env.now c.loop-i.cur c.put_stmt.new.cur _ c.put_stmt.ensures c.loop-i.invariant.put;
    }
