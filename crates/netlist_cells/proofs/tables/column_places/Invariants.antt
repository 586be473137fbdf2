use Rattle.std.proofs.Common.{◌-◌, length}
use Rattle.design_ir.specs.declared.port.Column.{Column}
use Rattle.netlist_cells.specs.Places.{ArePlaces, shows_signal}
use Rattle.netlist_cells.proofs.tables.column_places.Given as goal

abbrev pub invariant-loop-j : goal.invariant-loop-j
invariant-loop-j l = ArePlaces Column shows_signal l.design.columns (l.count - l.j) (length l.design.pool.signals) l.places.items
