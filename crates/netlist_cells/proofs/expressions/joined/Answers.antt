use Rattle.std.proofs.Common.{◌-◌, length, arith}
use Rattle.netlist_cells.proofs.LowerJoined.{below_get}
use Rattle.netlist_cells.proofs.expressions.joined.Goals as goal

pub expr_value-requires : goal.expr_value-requires
expr_value-requires c =
    let es = c.args.es.now in
    below_get (length c.args.design.now.pool.exprs) es (length es - 1 - c.loop-i.i) (record { 0 = 0 }) c.requires (omega arith)
