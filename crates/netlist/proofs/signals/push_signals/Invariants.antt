use Rattle.std.proofs.Common.{◌≡◌, ◌-◌, map, length}
use Rattle.std.specs.List.{range_with_len}
use Rattle.netlist_laws.specs.Expressions.{and_also}
use Rattle.netlist_laws.specs.Module.{signal_drawing}
use Rattle.netlist.specs.Tables.{together}
use Rattle.netlist.proofs.signals.push_signals.Given as goal

abbrev pub invariant-loop-i : goal.invariant-loop-i
invariant-loop-i l =
    and_also l.drawing (together (map (signal_drawing l.design) (range_with_len l.i (length l.design.pool.signals - l.i))))
    ≡ and_also l.initial.drawing (together (map (signal_drawing l.design) (range_with_len 0 (length l.design.pool.signals))))
