use Rattle.std.proofs.Common.{◌≡◌, take}
use Rattle.fragment_walks.specs.Marks.{numbers}
use Rattle.fragment_walks.specs.Numbers.{lowered}
use Rattle.fragment_walks.proofs.numbers.lower_all.Given as goal

abbrev pub invariant-loop-e : goal.invariant-loop-e
invariant-loop-e l = l.firsts.items ≡ lowered (numbers (take l.e-index l.items)) l.number l.fn.firsts.items
