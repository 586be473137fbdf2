use Rattle.std.proofs.Common.{◌≡◌, drop}
use Rattle.design_ir.specs.Values.{form}
use Rattle.comb_graph.specs.Places.{first_of, joined_at}
use Rattle.comb_graph.proofs.places.joined.Given as goal

abbrev pub invariant-loop-item : goal.invariant-loop-item
invariant-loop-item l = joined_at (form l.design.pool) (first_of l.firsts) (drop l.item-index l.items) l.low ≡ joined_at (form l.design.pool) (first_of l.firsts) l.items l.fn.k
