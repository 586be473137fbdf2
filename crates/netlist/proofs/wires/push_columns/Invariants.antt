use Rattle.std.proofs.Common.{◌≡◌, ◌++◌, drop}
use Rattle.netlist_laws.specs.Module.{column_wires}
use Rattle.netlist.proofs.wires.push_columns.Given as goal

abbrev pub invariant-loop-k : goal.invariant-loop-k
invariant-loop-k l = l.wires.items ++ column_wires l.design l.k (drop l.k l.design.columns) ≡ l.initial.wires.items ++ column_wires l.design 0 l.design.columns
