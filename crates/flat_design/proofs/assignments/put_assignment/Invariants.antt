use Rattle.std.specs.Prelude.{◌∷◌, [], List, take}
use Rattle.amh_host.specs.declared.place.Place.{Place}
use Rattle.design_ir.specs.PoolRules.{IsPool}
use Rattle.design_ir.specs.Guards.{Guard}
use Rattle.flat_design.specs.Growing.{IsMore}
use Rattle.flat_design.specs.Shown.{SoFar, AreSlots}
use Rattle.flat_design.specs.Begun.{IsBegun}
use Rattle.flat_design.proofs.ShownAssignments.{midway}
use Rattle.flat_design.proofs.assignments.put_assignment.Given as goal

abbrev pub invariant-loop-write : goal.invariant-loop-write
invariant-loop-write l = record {
  more : IsMore l.initial.latest.pool l.latest.pool;
  rules : IsPool l.latest.pool;
  shown : (t : SoFar) (gs : List Guard) (place : Place)
      → IsBegun t gs l.initial.latest.pool l.initial.latest.slots.items l.active (l.fn.target ∷ l.value ∷ []) (record { guards = gs; target = l.fn.target; value = l.value; place = place } ∷ [])
      → AreSlots (midway t l.initial.latest.pool (record { guards = gs; target = l.fn.target; value = l.value; place = place }) (take l.write-index l.write-items)) l.latest.pool l.latest.slots.items;
}
