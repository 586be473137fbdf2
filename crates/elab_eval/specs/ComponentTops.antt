-- The ports of a component that is the top. (Amaranth standard library reference 0.5, "Interfaces and connections", "Components": the members of
-- its signature. That a component without one is refused is this project's own rule.)
use Rattle.std.specs.Prelude.{List, Option, Some, None}
use Rattle.py_values.specs.declared.val.ObjId.{ObjId}
use Rattle.design_ir.specs.declared.port.Port.{Port}
use Rattle.clock_domains.specs.declared.top.TopPorts.{TopPorts}
use Rattle.clock_domains.specs.declared.top.TopPorts.TheVariants.{Members}
use Rattle.elab_store.specs.Components.{ports_at}
use Rattle.elab_store.specs.Stores.{Stored}

-- those that were made for it
abbrev pub made_ports : Option (List Port) → Option TopPorts
made_ports None = None
made_ports (Some ports) = Some (Members ports)

abbrev pub component_ports : Stored → ObjId → Option TopPorts
component_ports s o = made_ports (ports_at s.components.objects o.0)
