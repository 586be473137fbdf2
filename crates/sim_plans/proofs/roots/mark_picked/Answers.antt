use Rattle.std.proofs.Common.{◌≡◌, ◌<◌, ℕ, length, sym, ap, ◌∙◌, subst, get_or}
use Rattle.design_ir.specs.declared.ids.ExprId.{ExprId}
use Rattle.design_ir.specs.Guards.{statement_exprs}
use Rattle.design_ir.specs.Statements.{statement_of}
use Rattle.design_ir.specs.Trees.{statements}
use Rattle.sim_plans.specs.Reading.{AreBelow}
use Rattle.sim_plans.specs.Tasks.{places_of, statement_targets, statement_values}
use Rattle.sim_plans.proofs.Marks.{marked_length}
use Rattle.sim_plans.proofs.Rooting.{picked_targets_turn, picked_values_turn}
use Rattle.sim_plans.proofs.StatementTurns.{statements_length, picked_exprs}
use Rattle.sim_plans.proofs.Turns.{all_here, any_default}
use Rattle.sim_plans.proofs.roots.mark_picked.Goals as goal

pub statement-requires : goal.statement-requires
statement-requires c =
    let is = c.args.places.now in
    let j = c.loop-i.i-index in
    let i : ℕ = get_or is j 0 in
    let all = c.as_slice-all.result.now in
    let inside = all_here (λ k. k < length (statements c.args.body.now)) is j i c.loop-i-test.true (any_default is j 0 i c.loop-i-test.true) c.loop-i.invariant.inside in
    let long : length (statements c.args.body.now) ≡ length all = ap (λ b. length (statements b)) (sym c.as_slice-all.ensures.value) ∙ statements_length all in
    let here : i < length all = subst (λ n. i < n) long inside.0 in
    here

pub mark_stmt-requires-clause-aims : goal.mark_stmt-requires-clause-aims
mark_stmt-requires-clause-aims c =
    let is = c.args.places.now in
    let j = c.loop-i.i-index in
    let i : ℕ = get_or is j 0 in
    let all = c.as_slice-all.result.now in
    let inside = all_here (λ k. k < length (statements c.args.body.now)) is j i c.loop-i-test.true (any_default is j 0 i c.loop-i-test.true) c.loop-i.invariant.inside in
    let long : length (statements c.args.body.now) ≡ length all = ap (λ b. length (statements b)) (sym c.as_slice-all.ensures.value) ∙ statements_length all in
    let here : i < length all = subst (λ n. i < n) long inside.0 in
    let n = length c.args.aims.now.marks in
    subst (λ m. AreBelow m (statement_exprs (statement_of c.statement.result.now))) (sym c.loop-i.invariant.same_aims)
    (picked_exprs c.args.body.now all (sym c.as_slice-all.ensures.value) is j i c.statement.result.now c.loop-i-test.true (any_default is j 0 i c.loop-i-test.true) here c.statement.ensures (λ (e : ExprId). e.0 < n) c.loop-i.invariant.there).0

pub mark_stmt-requires-clause-values : goal.mark_stmt-requires-clause-values
mark_stmt-requires-clause-values c =
    let is = c.args.places.now in
    let j = c.loop-i.i-index in
    let i : ℕ = get_or is j 0 in
    let all = c.as_slice-all.result.now in
    let inside = all_here (λ k. k < length (statements c.args.body.now)) is j i c.loop-i-test.true (any_default is j 0 i c.loop-i-test.true) c.loop-i.invariant.inside in
    let long : length (statements c.args.body.now) ≡ length all = ap (λ b. length (statements b)) (sym c.as_slice-all.ensures.value) ∙ statements_length all in
    let here : i < length all = subst (λ n. i < n) long inside.0 in
    let n = length c.args.values.now.marks in
    subst (λ m. AreBelow m (statement_exprs (statement_of c.statement.result.now))) (sym c.loop-i.invariant.same_values)
    (picked_exprs c.args.body.now all (sym c.as_slice-all.ensures.value) is j i c.statement.result.now c.loop-i-test.true (any_default is j 0 i c.loop-i-test.true) here c.statement.ensures (λ (e : ExprId). e.0 < n) c.loop-i.invariant.there_too).0

pub loop-i-preserved : goal.loop-i-preserved
loop-i-preserved c =
    let is = c.args.places.now in
    let j = c.loop-i.i-index in
    let i : ℕ = get_or is j 0 in
    let all = c.as_slice-all.result.now in
    let inside = all_here (λ k. k < length (statements c.args.body.now)) is j i c.loop-i-test.true (any_default is j 0 i c.loop-i-test.true) c.loop-i.invariant.inside in
    let long : length (statements c.args.body.now) ≡ length all = ap (λ b. length (statements b)) (sym c.as_slice-all.ensures.value) ∙ statements_length all in
    let here : i < length all = subst (λ n. i < n) long inside.0 in
    let b = c.args.body.now in
    let s = c.statement.result.now in
    let of = sym c.as_slice-all.ensures.value in
    let at = any_default is j 0 i c.loop-i-test.true in
    let n = length c.args.aims.now.marks in
    let m = length c.args.values.now.marks in
    record {
      same_aims = ap length c.mark_stmt.ensures.aims ∙ marked_length (places_of (statement_targets (statement_of s))) c.loop-i.aims.marks ∙ c.loop-i.invariant.same_aims;
      same_values = ap length c.mark_stmt.ensures.values ∙ marked_length (places_of (statement_values (statement_of s))) c.loop-i.values.marks ∙ c.loop-i.invariant.same_values;
      inside = inside.1;
      there = (picked_exprs b all of is j i s c.loop-i-test.true at here c.statement.ensures (λ (e : ExprId). e.0 < n) c.loop-i.invariant.there).1;
      there_too = (picked_exprs b all of is j i s c.loop-i-test.true at here c.statement.ensures (λ (e : ExprId). e.0 < m) c.loop-i.invariant.there_too).1;
      aims = picked_targets_turn b all of is j i s c.loop-i-test.true at here c.statement.ensures c.loop-i.aims.marks c.mark_stmt.new.aims.marks _ c.mark_stmt.ensures.aims c.loop-i.invariant.aims;
      values = picked_values_turn b all of is j i s c.loop-i-test.true at here c.statement.ensures c.loop-i.values.marks c.mark_stmt.new.values.marks _ c.mark_stmt.ensures.values c.loop-i.invariant.values;
    }
