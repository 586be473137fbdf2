-- A module with the columns of a design.
use Rattle.std.specs.Prelude.{◌≡◌, ℕ, List, ◌++◌, map, All}
use Rattle.std.specs.List.{enumerate_from}
use Rattle.design_ir.specs.declared.port.Column.{Column}
use Rattle.design_ir.specs.Values.{signal_form}
use Rattle.design_ir.specs.Circuits.{Circuit}
use Rattle.rtlil_text.specs.declared.module.RtlWire.{RtlWire}
use Rattle.rtlil_text.specs.declared.module.RtlModule.{RtlModule}
use Rattle.rtlil_text.specs.declared.module.WirePort.{WirePort}
use Rattle.rtlil_text.specs.declared.module.WirePort.TheVariants.{Inner}
use Rattle.netlist_laws.specs.Module.{public_id, port_of}

-- the id, the width and the port of the wire of column k
abbrev pub column_fields : Circuit → (ℕ × Column) → List ℕ × (ℕ × WirePort)
column_fields c (k, x) = (public_id x.name, ((signal_form c.pool.signals x.sig.0).width, port_of c k x.sig.0))

abbrev pub wire_fields : RtlWire → List ℕ × (ℕ × WirePort)
wire_fields w = (w.id, (w.width, w.port))

-- the columns' wires come first, in order, and no other wire is a port
pub record Corresponds (c : Circuit) (m : RtlModule) : Type 0 where
  pub firsts : List RtlWire
  pub others : List RtlWire
  pub wires : m.wires ≡ firsts ++ others
  pub columns : map wire_fields firsts ≡ map (column_fields c) (enumerate_from 0 c.columns)
  pub inner : All (λ (w : RtlWire). w.port ≡ Inner) others
