use Rattle.std.proofs.Common.{◌<◌, length, rules, sym, ap, ◌∙◌, subst}
use Rattle.design_ir.specs.declared.ids.ExprId.{ExprId}
use Rattle.design_ir.specs.Guards.{block_exprs, statement_exprs}
use Rattle.design_ir.specs.Statements.{statement_of}
use Rattle.sim_plans.specs.Reading.{AreBelow}
use Rattle.sim_plans.specs.Tasks.{places_of, block_targets, block_values, statement_targets, statement_values}
use Rattle.sim_plans.proofs.Marks.{marked_length}
use Rattle.sim_plans.proofs.Rooting.{targets_turn, values_turn, arm_targets_turn, arm_values_turn}
use Rattle.sim_plans.proofs.StatementTurns.{exprs_turn, arm_exprs}
use Rattle.std.proofs.lemmas.List.{length-set}
use Rattle.sim_plans.proofs.roots.+roots.Goals as goal

pub mark_arms-mark_body-requires : goal.mark_arms-mark_body-requires
mark_arms-mark_body-requires t c =
    let aims = arm_exprs (λ (e : ExprId). e.0 < length c.args.aims.now.marks) c.as_slice-arm-items.result.now c.loop-arm.arm-index c.arm-item.result c.loop-arm-test.true c.arm-item.is c.loop-arm.invariant.there in
    let values = arm_exprs (λ (e : ExprId). e.0 < length c.args.values.now.marks) c.as_slice-arm-items.result.now c.loop-arm.arm-index c.arm-item.result c.loop-arm-test.true c.arm-item.is c.loop-arm.invariant.there_too in
    let long = ap length c.mark.ensures.marks ∙ length-set c.loop-arm.values.marks c.arm-item.result.condition.0 _ ∙ c.loop-arm.invariant.same_values in
    (search rules, (subst (λ n. AreBelow n (block_exprs c.arm-item.result.body)) (sym c.loop-arm.invariant.same_aims) aims.1, subst (λ n. AreBelow n (block_exprs c.arm-item.result.body)) (sym long) values.1))

pub mark_arms-loop-arm-preserved : goal.mark_arms-loop-arm-preserved
mark_arms-loop-arm-preserved t c =
    let arms = c.as_slice-arm-items.result.now in
    let i = c.loop-arm.arm-index in
    let a = c.arm-item.result in
    let aims = arm_exprs (λ (e : ExprId). e.0 < length c.args.aims.now.marks) arms i a c.loop-arm-test.true c.arm-item.is c.loop-arm.invariant.there in
    let values = arm_exprs (λ (e : ExprId). e.0 < length c.args.values.now.marks) arms i a c.loop-arm-test.true c.arm-item.is c.loop-arm.invariant.there_too in
    let long = ap length c.mark.ensures.marks ∙ length-set c.loop-arm.values.marks a.condition.0 _ ∙ c.loop-arm.invariant.same_values in
    record {
      same_aims = ap length c.mark_body.ensures.aims ∙ marked_length (places_of (block_targets a.body)) c.loop-arm.aims.marks ∙ c.loop-arm.invariant.same_aims;
      same_values = ap length c.mark_body.ensures.values ∙ marked_length (places_of (block_values a.body)) c.mark.new.marks.marks ∙ long;
      there = aims.2;
      there_too = values.2;
      aims = arm_targets_turn arms i a c.loop-arm.aims.marks c.mark_body.new.aims.marks _ c.loop-arm-test.true c.arm-item.is c.mark_body.ensures.aims c.loop-arm.invariant.aims;
      values = arm_values_turn arms i a c.loop-arm.values.marks c.mark.new.marks.marks c.mark_body.new.values.marks _ c.loop-arm-test.true c.arm-item.is c.mark.ensures.marks c.mark_body.ensures.values c.loop-arm.invariant.values;
    }

pub mark_body-mark_stmt-requires : goal.mark_body-mark_stmt-requires
mark_body-mark_stmt-requires t c =
    let aims = exprs_turn (λ (e : ExprId). e.0 < length c.args.aims.now.marks) c.as_slice-s-items.result.now c.loop-s.s-index c.s-item.result c.loop-s-test.true c.s-item.is c.loop-s.invariant.there in
    let values = exprs_turn (λ (e : ExprId). e.0 < length c.args.values.now.marks) c.as_slice-s-items.result.now c.loop-s.s-index c.s-item.result c.loop-s-test.true c.s-item.is c.loop-s.invariant.there_too in
    (search rules, (subst (λ n. AreBelow n (statement_exprs (statement_of c.s-item.result))) (sym c.loop-s.invariant.same_aims) aims.0, subst (λ n. AreBelow n (statement_exprs (statement_of c.s-item.result))) (sym c.loop-s.invariant.same_values) values.0))

pub mark_body-loop-s-preserved : goal.mark_body-loop-s-preserved
mark_body-loop-s-preserved t c =
    let ss = c.as_slice-s-items.result.now in
    let i = c.loop-s.s-index in
    let s = c.s-item.result in
    let aims = exprs_turn (λ (e : ExprId). e.0 < length c.args.aims.now.marks) ss i s c.loop-s-test.true c.s-item.is c.loop-s.invariant.there in
    let values = exprs_turn (λ (e : ExprId). e.0 < length c.args.values.now.marks) ss i s c.loop-s-test.true c.s-item.is c.loop-s.invariant.there_too in
    record {
      same_aims = ap length c.mark_stmt.ensures.aims ∙ marked_length (places_of (statement_targets (statement_of s))) c.loop-s.aims.marks ∙ c.loop-s.invariant.same_aims;
      same_values = ap length c.mark_stmt.ensures.values ∙ marked_length (places_of (statement_values (statement_of s))) c.loop-s.values.marks ∙ c.loop-s.invariant.same_values;
      there = aims.1;
      there_too = values.1;
      aims = targets_turn ss i s c.loop-s.aims.marks c.mark_stmt.new.aims.marks _ c.loop-s-test.true c.s-item.is c.mark_stmt.ensures.aims c.loop-s.invariant.aims;
      values = values_turn ss i s c.loop-s.values.marks c.mark_stmt.new.values.marks _ c.loop-s-test.true c.s-item.is c.mark_stmt.ensures.values c.loop-s.invariant.values;
    }
