-- The first values of a module: registers that statements drive begin with their inits.
-- Source: Amaranth guide, Initial values; Yosys manual, RTLIL text representation: Attribute statements.
use Rattle.std.specs.Prelude.{◌≡◌, ℕ, ◌&&◌, Bool, if◌then◌else◌, List, map, take, length, Option, Some, None, is_some}
use Rattle.std.specs.List.{list_any}
use Rattle.design_ir.specs.declared.port.Column.{Column}
use Rattle.design_ir.specs.declared.process.DesignProcess.{DesignProcess}
use Rattle.design_ir.specs.Guards.{driven}
use Rattle.design_ir.specs.Circuits.{Circuit, is_among}
use Rattle.rtlil_text.specs.declared.module.RtlWire.{RtlWire}
use Rattle.rtlil_text.specs.declared.module.RtlModule.{RtlModule}
use Rattle.rtlil_text.specs.Inits.{InitsAreOfRegisters}
use Rattle.netlist_laws.specs.Module.{init_bits}

-- statements of a domain drive the signal
abbrev pub is_stated : Circuit → ℕ → Bool
is_stated c s = list_any (λ (p : DesignProcess). is_some p.domain && is_among (driven c.pool p.body) s) c.processes

-- the bits of its init, and nothing for any other signal
abbrev pub begins_with : Circuit → ℕ → Option (List Bool)
begins_with c s = if is_stated c s then Some (init_bits c s) else None

-- the wires of columns, which come first, begin as their signals do; and of all wires those alone have a first value that registers drive
pub record HasFirstValues (c : Circuit) (m : RtlModule) : Type 0 where
  pub columns : map (λ (w : RtlWire). w.init) (take (length c.columns) m.wires) ≡ map (λ (x : Column). begins_with c x.sig.0) c.columns
  pub registers : InitsAreOfRegisters m
