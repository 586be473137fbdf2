use Rattle.std.proofs.Common.{◌≡◌, ◌∷◌, map, take}
use Rattle.design_ir.specs.Values.{form}
use Rattle.comb_graph.specs.Places.{first_of, whole_at}
use Rattle.comb_graph.proofs.places.picked.Given as goal

abbrev pub invariant-loop-item : goal.invariant-loop-item
invariant-loop-item l = l.out ≡ whole_at (form l.design.pool) (first_of l.firsts) l.fn.index ∷ map (whole_at (form l.design.pool) (first_of l.firsts)) (take l.item-index l.items)
