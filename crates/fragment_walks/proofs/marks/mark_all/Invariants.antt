use Rattle.std.proofs.Common.{◌≡◌, take}
use Rattle.fragment_walks.specs.Marks.{marked, numbers}
use Rattle.fragment_walks.proofs.marks.mark_all.Given as goal

abbrev pub invariant-loop-e : goal.invariant-loop-e
invariant-loop-e l = l.marks.items ≡ marked (numbers (take l.e-index l.items)) l.fn.marks.items
