use Rattle.std.proofs.Common.{◌≡◌, ◌++◌, ◌-◌, replicate, false}
use Rattle.netlist.proofs.read_signals.unread.Given as goal

abbrev pub invariant-loop-i : goal.invariant-loop-i
invariant-loop-i l = l.reads.items ++ replicate (l.count - l.i) false ≡ replicate l.count false
