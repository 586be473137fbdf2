-- What is proved of flat designs.
use Rattle.std.specs.Prelude.{◌↔◌, List, ℤ}
use Rattle.design_ir.specs.declared.event.Event.{Event}
use Rattle.design_ir.specs.PoolRules.{IsPool}
use Rattle.design_ir.specs.Targets.{Bit}
use Rattle.design_ir.specs.Designs.{IsDesign}
use Rattle.design_ir.specs.Circuits.{Circuit}
use Rattle.design_ir.specs.Legal.{AllLegal}
use Rattle.design_ir.specs.Histories.{History}
use Rattle.comb_graph.specs.Orders.{IsOrder}
use Rattle.flat_design.specs.Flat.{IsFlat}

-- an order of the bits of a design is one of the flat design's
abbrev pub FlatKeepsOrders : Type 0
FlatKeepsOrders = (c d : Circuit) (order : List Bit) → IsPool c.pool → IsDesign c → IsFlat c d → IsOrder c order → IsOrder d order

-- the settled environments of both over legal events are the same
abbrev pub FlatHasTheHistory : Type 0
FlatHasTheHistory =
    (c d : Circuit) (events : List Event) (envs : List (List ℤ)) → IsPool c.pool → IsPool d.pool → IsDesign c → IsDesign d → IsFlat c d → AllLegal c events → History d events envs ↔ History c events envs
