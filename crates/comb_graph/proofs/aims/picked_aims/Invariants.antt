use Rattle.std.proofs.Common.{◌≡◌, map, take}
use Rattle.std.specs.List.{flat_map, filter_map}
use Rattle.design_ir.specs.declared.ids.ExprId.{ExprId}
use Rattle.design_ir.specs.Targets.{aims, loose}
use Rattle.comb_graph.specs.Seen.{seen}
use Rattle.comb_graph.proofs.aims.picked_aims.Given as goal

abbrev pub invariant-loop-item : goal.invariant-loop-item
invariant-loop-item l = map seen l.row ≡ filter_map (loose l.width) (flat_map (λ (e : ExprId). aims l.design.pool e.0) (take l.item-index l.items))
