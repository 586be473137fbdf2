use Rattle.std.proofs.Common.{◌≡◌, length, drop}
use Rattle.design_ir.specs.Guards.{block_exprs, choices_exprs}
use Rattle.design_ir.specs.Put.{put, put_choices}
use Rattle.design_ir.specs.Trees.{block_size, statement_size, choices_size}
use Rattle.design_ir.specs.Statements.{statement_of, block_of, choices_of}
use Rattle.design_ir.proofs.NumbersFit.{FitsSignals}
use Rattle.sim_plans.specs.Tasks.{AreAmong, AreTargetsOf, block_targets, choices_targets}
use Rattle.delta_sim.proofs.statements.+statements.Given as goal

abbrev pub decreases-put_arms : goal.decreases-put_arms
decreases-put_arms l = choices_size l.arms.now

abbrev pub decreases-put_body : goal.decreases-put_body
decreases-put_body l = block_size l.body.now

abbrev pub decreases-put_stmt : goal.decreases-put_stmt
decreases-put_stmt l = statement_size (statement_of l.s.now)

abbrev pub invariant-put_arms-loop-arm : goal.invariant-put_arms-loop-arm
invariant-put_arms-loop-arm l = record {
  same : l.cur ≡ l.fn.cur;
  computed : AreAmong l.task.exprs (choices_exprs (choices_of (drop l.arm-index l.arm-items)));
  targets : AreTargetsOf l.design.pool (choices_targets (choices_of (drop l.arm-index l.arm-items)));
  put : put_choices l.design.pool l.env (choices_of (drop l.arm-index l.arm-items)) l.cur ≡ put_choices l.design.pool l.env l.arms l.fn.cur;
}

abbrev pub invariant-put_body-loop-s : goal.invariant-put_body-loop-s
invariant-put_body-loop-s l = record {
  signals : length l.cur ≡ length l.design.pool.signals;
  fits : FitsSignals l.design.pool l.cur;
  computed : AreAmong l.task.exprs (block_exprs (block_of (drop l.s-index l.s-items)));
  targets : AreTargetsOf l.design.pool (block_targets (block_of (drop l.s-index l.s-items)));
  put : put l.design.pool l.env (block_of (drop l.s-index l.s-items)) l.cur ≡ put l.design.pool l.env l.body l.fn.cur;
}
