use Rattle.std.proofs.Common.{◌≡◌, [], false, take}
use Rattle.design_ir.specs.Pools.{answers}
use Rattle.design_table.specs.Tests.{is_own, side_step}
use Rattle.design_table.proofs.tables.side_targets.Given as goal

abbrev pub invariant-loop-k : goal.invariant-loop-k
invariant-loop-k l = l.marks.items ≡ answers false (side_step (is_own l.ports l.sides l.side)) [] (take l.k l.pool.exprs)
