use Rattle.std.proofs.Common.{◌≡◌, ◌<◌, length}
use Rattle.design_ir.specs.Targets.{is_open_target}
use Rattle.module_dsl.proofs.target.base_of.Given as goal

abbrev pub invariant-loop-a : goal.invariant-loop-a
invariant-loop-a l = (l.base.0 < length l.pool.exprs) × (is_open_target l.pool l.base.0 ≡ is_open_target l.pool l.fn.e.0)

abbrev pub decreases-loop-a : goal.decreases-loop-a
decreases-loop-a l = l.base.0
