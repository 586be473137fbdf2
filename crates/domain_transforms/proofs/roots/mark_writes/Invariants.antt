use Rattle.std.proofs.Common.{◌≡◌, take}
use Rattle.std.specs.List.{flat_map}
use Rattle.fragment_walks.specs.Marks.{marked, numbers}
use Rattle.domain_transforms.specs.Placed.{write_exprs}
use Rattle.domain_transforms.proofs.roots.mark_writes.Given as goal

abbrev pub invariant-loop-write : goal.invariant-loop-write
invariant-loop-write l = l.marks.items ≡ marked (numbers (flat_map write_exprs (take l.write-index l.writes))) l.fn.marks.items
