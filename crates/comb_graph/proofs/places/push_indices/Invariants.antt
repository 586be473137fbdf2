use Rattle.std.proofs.Common.{◌≡◌, ◌++◌, map, take}
use Rattle.design_ir.specs.Values.{form}
use Rattle.comb_graph.specs.Places.{first_of, indices_at}
use Rattle.comb_graph.proofs.places.push_indices.Given as goal

abbrev pub invariant-loop-item : goal.invariant-loop-item
invariant-loop-item l = l.out ≡ l.fn.out ++ map (indices_at (form l.design.pool) (first_of l.firsts)) (take l.item-index l.items)
