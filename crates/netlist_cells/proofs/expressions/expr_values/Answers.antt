use Rattle.std.proofs.Common.{length}
use Rattle.netlist_cells.proofs.LowerJoined.{below_get}
use Rattle.netlist_cells.proofs.expressions.expr_values.Goals as goal

pub expr_value-requires : goal.expr_value-requires
expr_value-requires c = below_get (length c.args.design.now.pool.exprs) c.args.es.now c.loop-e.e-index (record { 0 = 0 }) c.requires c.loop-e-test.true
