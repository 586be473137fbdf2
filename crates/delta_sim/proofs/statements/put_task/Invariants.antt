use Rattle.std.proofs.Common.{◌≡◌, ◌<◌, length, drop}
use Rattle.std.specs.List.{AllByRecursion}
use Rattle.design_ir.specs.Guards.{block_exprs}
use Rattle.design_ir.specs.Put.{put}
use Rattle.design_ir.specs.Trees.{statements}
use Rattle.design_ir.proofs.NumbersFit.{FitsSignals}
use Rattle.sim_plans.specs.Tasks.{AreAmong, AreTargetsOf, block_targets, picked}
use Rattle.delta_sim.proofs.statements.put_task.Given as goal

abbrev pub invariant-loop-i : goal.invariant-loop-i
invariant-loop-i l = record {
  signals : length l.cur ≡ length l.design.pool.signals;
  fits : FitsSignals l.design.pool l.cur;
  inside : AllByRecursion (λ i. i < length (statements l.body)) (drop l.i-index l.i-items);
  computed : AreAmong l.task.exprs (block_exprs (picked l.body (drop l.i-index l.i-items)));
  targets : AreTargetsOf l.design.pool (block_targets (picked l.body (drop l.i-index l.i-items)));
  put : put l.design.pool l.env (picked l.body (drop l.i-index l.i-items)) l.cur ≡ put l.design.pool l.env (picked l.body l.task.statements) l.fn.cur;
}
