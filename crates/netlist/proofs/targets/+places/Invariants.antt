use Rattle.std.proofs.Common.{◌≡◌, take}
use Rattle.std.specs.List.{flat_map}
use Rattle.design_ir.specs.declared.ids.ExprId.{ExprId}
use Rattle.netlist_laws.specs.Latest.{places}
use Rattle.netlist.proofs.targets.+places.Given as goal

abbrev pub decreases-places : goal.decreases-places
decreases-places l = l.target.0

abbrev pub invariant-loop-e : goal.invariant-loop-e
invariant-loop-e l = l.bits.items ≡ flat_map (λ (e : ExprId). places l.design.pool e.0) (take l.e-index l.e-items)
