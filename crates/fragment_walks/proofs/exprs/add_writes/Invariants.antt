use Rattle.std.proofs.Common.{◌≡◌, ◌++◌, take}
use Rattle.std.specs.List.{flat_map}
use Rattle.fragment_walks.specs.Held.{write_exprs}
use Rattle.fragment_walks.proofs.exprs.add_writes.Given as goal

abbrev pub invariant-loop-write : goal.invariant-loop-write
invariant-loop-write l = l.ids ≡ l.fn.ids ++ flat_map write_exprs (take l.write-index l.writes)
