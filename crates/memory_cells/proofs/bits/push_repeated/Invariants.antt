use Rattle.std.proofs.Common.{◌≡◌, ◌++◌, ◌-◌, replicate}
use Rattle.memory_cells.proofs.bits.push_repeated.Given as goal

abbrev pub invariant-loop-i : goal.invariant-loop-i
invariant-loop-i l = l.bits ++ replicate (l.count - l.i) l.bit ≡ l.initial.bits ++ replicate l.count l.bit
