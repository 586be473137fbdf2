use Rattle.std.proofs.Common.{◌-◌, length}
use Rattle.design_ir.specs.declared.process.DesignProcess.{DesignProcess}
use Rattle.netlist_laws.specs.Module.{drives}
use Rattle.netlist_cells.specs.Places.{ArePlaces}
use Rattle.netlist.proofs.drivers.driver_places.Given as goal

abbrev pub invariant-loop-j : goal.invariant-loop-j
invariant-loop-j l = ArePlaces DesignProcess (drives l.design) l.design.processes (l.count - l.j) (length l.design.pool.signals) l.places.items
