use Rattle.std.proofs.Common.{◌≡◌, length, rules, sym, ap, ◌∙◌, subst, true}
use Rattle.shape_rules.specs.Operators.{is_zero}
use Rattle.design_ir.specs.declared.ids.ExprId.{ExprId}
use Rattle.design_ir.specs.Circuits.{is_among}
use Rattle.design_ir.specs.Statements.{statement_of}
use Rattle.design_ir.specs.Targets.{is_target}
use Rattle.design_ir.proofs.NumbersFit.{FitsSignals}
use Rattle.sim_plans.specs.Tasks.{places_of}
use Rattle.sim_plans.proofs.StatementTurns.{exprs_turn, targets_turn, arm_exprs, arm_targets, statement_fits}
use Rattle.sim_plans.proofs.Walks.{statement_length, block_turn, choices_turn}
use Rattle.delta_sim.proofs.statements.+statements.Goals as goal

pub put_arms-put_body-requires : goal.put_arms-put_body-requires
put_arms-put_body-requires t c =
    let exprs = arm_exprs (λ (e : ExprId). is_among (places_of c.args.task.now.exprs) e.0 ≡ true) c.as_slice-arm-items.result.now c.loop-arm.arm-index c.arm-item.result c.loop-arm-test.true c.arm-item.is c.loop-arm.invariant.computed in
    let targets = arm_targets (λ (e : ExprId). is_target c.args.design.now.pool e.0 ≡ true) c.as_slice-arm-items.result.now c.loop-arm.arm-index c.arm-item.result c.loop-arm-test.true c.arm-item.is c.loop-arm.invariant.targets in
    (search rules, (c.requires.read, (exprs.1, (targets.0, (ap length c.loop-arm.invariant.same ∙ c.requires.signals, subst (FitsSignals c.args.design.now.pool) (sym c.loop-arm.invariant.same) c.requires.fits)))))

pub put_arms-loop-arm-preserved : goal.put_arms-loop-arm-preserved
put_arms-loop-arm-preserved t c =
    let p = c.args.design.now.pool in
    let exprs = arm_exprs (λ (e : ExprId). is_among (places_of c.args.task.now.exprs) e.0 ≡ true) c.as_slice-arm-items.result.now c.loop-arm.arm-index c.arm-item.result c.loop-arm-test.true c.arm-item.is c.loop-arm.invariant.computed in
    let targets = arm_targets (λ (e : ExprId). is_target p e.0 ≡ true) c.as_slice-arm-items.result.now c.loop-arm.arm-index c.arm-item.result c.loop-arm-test.true c.arm-item.is c.loop-arm.invariant.targets in
    record {
      same = c.loop-arm.invariant.same;
      computed = exprs.2;
      targets = targets.1;
      put = choices_turn p c.args.env.now c.as_slice-arm-items.result.now c.loop-arm.arm-index c.arm-item.result c.loop-arm.cur _ c.loop-arm-test.true c.arm-item.is (sym (c.if-not-is_zero.ensures ∙ ap is_zero c.number_of.ensures)) c.loop-arm.invariant.put;
    }

pub put_body-put_stmt-requires : goal.put_body-put_stmt-requires
put_body-put_stmt-requires t c =
    let exprs = exprs_turn (λ (e : ExprId). is_among (places_of c.args.task.now.exprs) e.0 ≡ true) c.as_slice-s-items.result.now c.loop-s.s-index c.s-item.result c.loop-s-test.true c.s-item.is c.loop-s.invariant.computed in
    let targets = targets_turn (λ (e : ExprId). is_target c.args.design.now.pool e.0 ≡ true) c.as_slice-s-items.result.now c.loop-s.s-index c.s-item.result c.loop-s-test.true c.s-item.is c.loop-s.invariant.targets in
    (search rules, (c.requires.read, (exprs.0, (targets.0, (c.loop-s.invariant.signals, c.loop-s.invariant.fits)))))

pub put_body-loop-s-preserved : goal.put_body-loop-s-preserved
put_body-loop-s-preserved t c =
    let p = c.args.design.now.pool in
    let exprs = exprs_turn (λ (e : ExprId). is_among (places_of c.args.task.now.exprs) e.0 ≡ true) c.as_slice-s-items.result.now c.loop-s.s-index c.s-item.result c.loop-s-test.true c.s-item.is c.loop-s.invariant.computed in
    let targets = targets_turn (λ (e : ExprId). is_target p e.0 ≡ true) c.as_slice-s-items.result.now c.loop-s.s-index c.s-item.result c.loop-s-test.true c.s-item.is c.loop-s.invariant.targets in
    record {
      signals = statement_length p c.args.env.now c.s-item.result c.loop-s.cur c.put_stmt.new.cur c.put_stmt.ensures ∙ c.loop-s.invariant.signals;
      fits = statement_fits p c.args.env.now (statement_of c.s-item.result) c.loop-s.cur c.put_stmt.new.cur c.put_stmt.ensures c.loop-s.invariant.fits;
      computed = exprs.1;
      targets = targets.1;
      put = block_turn p c.args.env.now c.as_slice-s-items.result.now c.loop-s.s-index c.s-item.result c.loop-s.cur c.put_stmt.new.cur _ c.loop-s-test.true c.s-item.is c.put_stmt.ensures c.loop-s.invariant.put;
    }
