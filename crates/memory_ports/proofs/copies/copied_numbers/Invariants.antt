use Rattle.std.proofs.Common.{◌≡◌, take}
use Rattle.memory_ports.proofs.copies.copied_numbers.Given as goal

abbrev pub invariant-loop-n : goal.invariant-loop-n
invariant-loop-n l = l.copy ≡ take l.n-index l.numbers
