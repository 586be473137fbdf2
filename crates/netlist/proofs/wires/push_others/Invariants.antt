use Rattle.std.proofs.Common.{◌≡◌, ◌++◌, ◌-◌, length}
use Rattle.std.specs.List.{flat_map, range_with_len}
use Rattle.netlist_laws.specs.Module.{signal_wires}
use Rattle.netlist.proofs.wires.push_others.Given as goal

abbrev pub invariant-loop-i : goal.invariant-loop-i
invariant-loop-i l =
    l.wires.items ++ flat_map (signal_wires l.design) (range_with_len l.i (length l.design.pool.signals - l.i))
    ≡ l.initial.wires.items ++ flat_map (signal_wires l.design) (range_with_len 0 (length l.design.pool.signals))
