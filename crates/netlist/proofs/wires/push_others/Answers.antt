use Rattle.std.proofs.Common.{◌++◌, length, arith}
use Rattle.std.specs.List.{flat_map, range_with_len}
use Rattle.netlist_laws.specs.Module.{signal_wires}
use Rattle.netlist.proofs.LowerWires.{rows_turn}
use Rattle.netlist.proofs.wires.push_others.Goals as goal

pub loop-i-preserved : goal.loop-i-preserved
loop-i-preserved c =
    let d = c.args.design.now in
    let n = length d.pool.signals in
    let l = c.loop-i in
    rows_turn (signal_wires d) l.i n l.wires.items c.push_hidden.new.wires.items (c.args.wires.now.items ++ flat_map (signal_wires d) (range_with_len 0 n)) (omega (arith, c.signals-i-end.ensures)) c.in_ok-push_hidden.ensures l.invariant
