use Rattle.std.proofs.Common.{◌-◌, length}
use Rattle.design_ir.specs.declared.port.Port.{Port}
use Rattle.netlist_cells.specs.Places.{ArePlaces, is_port_of}
use Rattle.netlist_cells.proofs.tables.port_places.Given as goal

abbrev pub invariant-loop-j : goal.invariant-loop-j
invariant-loop-j l = ArePlaces Port is_port_of l.design.ports (l.count - l.j) (length l.design.pool.signals) l.places.items
