use Rattle.std.proofs.Common.{◌≡◌, ◌<◌, ℕ, [], length, sym, ap, ◌∙◌, subst, get_or, slice_index_or}
use Rattle.design_ir.specs.declared.ids.ExprId.{ExprId}
use Rattle.design_ir.specs.Trees.{statements}
use Rattle.sim_plans.proofs.DrivenLists.{picked_turn}
use Rattle.sim_plans.proofs.StatementTurns.{statements_length, picked_exprs}
use Rattle.sim_plans.proofs.Turns.{all_here, any_default}
use Rattle.sim_plans.proofs.driven.driven_picked.Goals as goal

pub statement-requires : goal.statement-requires
statement-requires c =
    let is = c.args.places.now in
    let j = c.loop-i.i-index in
    let i : ℕ = get_or is j 0 in
    let all = c.as_slice-all.result.now in
    let inside = all_here (λ k. k < length (statements c.args.body.now)) is j i c.loop-i-test.true (any_default is j 0 i c.loop-i-test.true) c.loop-i.invariant.inside in
    let long : length (statements c.args.body.now) ≡ length all = ap (λ b. length (statements b)) (sym c.as_slice-all.ensures.value) ∙ statements_length all in
    let here : i < length all = subst (λ n. i < n) long inside.0 in
    here

pub add_stmt-requires : goal.add_stmt-requires
add_stmt-requires c =
    let is = c.args.places.now in
    let j = c.loop-i.i-index in
    let i : ℕ = get_or is j 0 in
    let all = c.as_slice-all.result.now in
    let inside = all_here (λ k. k < length (statements c.args.body.now)) is j i c.loop-i-test.true (any_default is j 0 i c.loop-i-test.true) c.loop-i.invariant.inside in
    let long : length (statements c.args.body.now) ≡ length all = ap (λ b. length (statements b)) (sym c.as_slice-all.ensures.value) ∙ statements_length all in
    let here : i < length all = subst (λ n. i < n) long inside.0 in
    let n = length c.args.targets.now in
    (picked_exprs c.args.body.now all (sym c.as_slice-all.ensures.value) is j i c.statement.result.now c.loop-i-test.true (any_default is j 0 i c.loop-i-test.true) here c.statement.ensures (λ (e : ExprId). e.0 < n) c.loop-i.invariant.there).0

pub loop-i-preserved : goal.loop-i-preserved
loop-i-preserved c =
    let is = c.args.places.now in
    let j = c.loop-i.i-index in
    let i : ℕ = get_or is j 0 in
    let all = c.as_slice-all.result.now in
    let inside = all_here (λ k. k < length (statements c.args.body.now)) is j i c.loop-i-test.true (any_default is j 0 i c.loop-i-test.true) c.loop-i.invariant.inside in
    let long : length (statements c.args.body.now) ≡ length all = ap (λ b. length (statements b)) (sym c.as_slice-all.ensures.value) ∙ statements_length all in
    let here : i < length all = subst (λ n. i < n) long inside.0 in
    let b = c.args.body.now in
    let s = c.statement.result.now in
    let of = sym c.as_slice-all.ensures.value in
    let at = any_default is j 0 i c.loop-i-test.true in
    let n = length c.args.targets.now in
    record {
      inside = inside.1;
      there = (picked_exprs b all of is j i s c.loop-i-test.true at here c.statement.ensures (λ (e : ExprId). e.0 < n) c.loop-i.invariant.there).1;
      all = picked_turn (λ k. slice_index_or c.args.targets.now k []) b all of is j i s c.loop-i-test.true at here c.statement.ensures c.loop-i.signals c.add_stmt.new.signals _ c.in_ok-add_stmt.ensures c.loop-i.invariant.all;
    }
