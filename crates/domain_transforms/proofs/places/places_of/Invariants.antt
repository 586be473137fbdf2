use Rattle.std.proofs.Common.{take}
use Rattle.domain_transforms.specs.Placed.{ArePlaces}
use Rattle.domain_transforms.proofs.places.places_of.Given as goal

abbrev pub invariant-loop-k : goal.invariant-loop-k
invariant-loop-k l = ArePlaces (take l.k l.pool.exprs) l.places.items
