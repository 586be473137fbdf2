use Rattle.std.proofs.Common.{◌≡◌, ◌-◌, length, drop}
use Rattle.netlist_laws.specs.Expressions.{joined}
use Rattle.netlist_laws.specs.Module.{expr_value}
use Rattle.netlist_cells.proofs.expressions.joined.Given as goal

abbrev pub invariant-loop-i : goal.invariant-loop-i
invariant-loop-i l = l.spec ≡ joined (expr_value l.design) (drop (length l.es - l.i) l.es)
