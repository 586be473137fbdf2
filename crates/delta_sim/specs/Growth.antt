-- A simulator of a design stays one where the design grows by expressions, and has had the same events. (A testbench puts
-- expressions to a design that runs.)
use Rattle.std.specs.Prelude.{List}
use Rattle.design_ir.specs.declared.event.Event.{Event}
use Rattle.design_ir.specs.PoolRules.{IsPool}
use Rattle.design_ir.specs.Circuits.{Circuit}
use Rattle.design_ir.specs.Designs.{IsDesign}
use Rattle.fragment_laws.specs.Growth.{IsGrown}
use Rattle.delta_sim.specs.Standing.{Simulated, IsSimOf, Stands}

-- what holds of it with the one design holds of it with the other
pub record GoesOnWith (c d : Circuit) (s : Simulated) : Type 0 where
  pub of_design : IsSimOf c s → IsSimOf d s
  pub stands : (events : List Event) → Stands c events s → Stands d events s

abbrev pub GrowthKeepsSimulators : Type 0
GrowthKeepsSimulators = (c d : Circuit) → IsPool c.pool → IsDesign c → IsGrown c d → (s : Simulated) → GoesOnWith c d s
