use Rattle.std.proofs.Common.{◌≡◌, ◌++◌, take}
use Rattle.std.specs.List.{flat_map}
use Rattle.fragment_walks.specs.Held.{read_exprs}
use Rattle.fragment_walks.proofs.exprs.add_reads.Given as goal

abbrev pub invariant-loop-read : goal.invariant-loop-read
invariant-loop-read l = l.ids ≡ l.fn.ids ++ flat_map read_exprs (take l.read-index l.reads)
