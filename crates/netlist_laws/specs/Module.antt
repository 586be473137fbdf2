-- The module of a design.
use Rattle.std.specs.Prelude.{List, ◌++◌, map, length}
use Rattle.std.specs.List.{flat_map, range_with_len}
use Rattle.design_ir.specs.Circuits.{Circuit}
use Rattle.rtlil_text.specs.declared.module.RtlModule.{RtlModule}
use Rattle.netlist_laws.specs.Operators.{Drawing}
pub use Rattle.netlist_laws.specs.SignalDrawings.{public_id, column_of, wire_id, signal_value, expr_value, is_there, is_read, drives, driving_at, undriven, driving_by, driving, is_clocked, init_bits, at_first, at_last, bits_at_last, side_of, port_of, first_value, column_wire, column_wires, signal_wires, expr_wires, drawn_from, drawings, domain_of, reset_of, is_async, Heeding, NoReset, AtEdges, AtOnce, heeding_of, heeding, clock_at, no_clock, clock_of, edge_parameters, register_cell, clear_parameters, clear_cell, register_drawing, link_to, driving_drawing, signal_drawing, Driving, ByEvents, ByComb, ByClock, ByRead, ByNothing}
use Rattle.netlist_laws.specs.MemoryDrawings.{memory_drawings, memory_lines}

-- ---- the module

-- the drawings of signals and of memories
abbrev pub other_drawings : Circuit → List Drawing
other_drawings c = map (signal_drawing c) (range_with_len 0 (length c.pool.signals)) ++ memory_drawings c

abbrev pub all_drawings : Circuit → List Drawing
all_drawings c = drawings c ++ other_drawings c

unfoldable pub module_of : Circuit → RtlModule
module_of c = record {
  wires =
      column_wires c 0 c.columns ++ flat_map (signal_wires c) (range_with_len 0 (length c.pool.signals))
      ++ flat_map (expr_wires c) (range_with_len 0 (length c.pool.exprs)) ++ flat_map (λ (d : Drawing). d.wires) (all_drawings c);
  memories = memory_lines c;
  cells = flat_map (λ (d : Drawing). d.cells) (all_drawings c);
  links = flat_map (λ (d : Drawing). d.links) (all_drawings c);
}
