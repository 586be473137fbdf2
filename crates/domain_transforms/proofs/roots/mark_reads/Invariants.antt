use Rattle.std.proofs.Common.{◌≡◌, take}
use Rattle.std.specs.List.{flat_map}
use Rattle.fragment_walks.specs.Marks.{marked, numbers}
use Rattle.domain_transforms.specs.Placed.{read_exprs}
use Rattle.domain_transforms.proofs.roots.mark_reads.Given as goal

abbrev pub invariant-loop-read : goal.invariant-loop-read
invariant-loop-read l = l.marks.items ≡ marked (numbers (flat_map read_exprs (take l.read-index l.reads))) l.fn.marks.items
