-- The drawings of a design are in its module, and each of their cells and links drives what it names first.
use Rattle.std.specs.Prelude.{◌≡◌, ◌<◌, ◌^◌, ℕ, List, map, length, Contains, Some, slice_get}
use Rattle.std.specs.List.{flat_map, range_with_len}
use Rattle.std.proofs.Common.{arith}
use Rattle.design_ir.specs.PoolRules.{IsPool}
use Rattle.design_ir.specs.Circuits.{Circuit}
use Rattle.design_ir.specs.Designs.{IsDesign}
use Rattle.rtlil_text.specs.declared.cell.RtlCell.{RtlCell}
use Rattle.rtlil_text.specs.declared.module.RtlLink.{RtlLink}
use Rattle.rtlil_text.specs.Sources.{Net, spec_bits}
use Rattle.rtlil_text.specs.Drivers.{ByCell, ByLink, output_bits, driver}
use Rattle.rtlil_text.proofs.Among.{Among, Contains-among, Among-left, Among-right, Among-map, Among-flat_map}
use Rattle.rtlil_text.proofs.Driven.{driver-cell, driver-link}
use Rattle.netlist_laws.specs.Operators.{Drawing}
use Rattle.netlist_laws.specs.Expressions.{part_total}
use Rattle.netlist_laws.specs.Module.{drawings, signal_drawing, other_drawings, all_drawings, module_of}
use Rattle.netlist_laws.specs.MemoryDrawings.{memories_of, all_parts, memory_drawings}
use Rattle.netlist_laws.proofs.ModuleHeld.{Among-range}
use Rattle.netlist_laws.proofs.PartsFit.{CellLaws}
use Rattle.netlist_laws.proofs.ModuleRules.{module_rules}

module _ (c : Circuit) where
  -- ---- the drawings

  pub signal_among : (s : ℕ) → s < length c.pool.signals → Among (all_drawings c) (signal_drawing c s)
  signal_among s p =
      let R = range_with_len 0 (length c.pool.signals) in
      Among-right (drawings c) (other_drawings c) (signal_drawing c s)
      (Among-left (map (signal_drawing c) R) (memory_drawings c) (signal_drawing c s) (Among-map (signal_drawing c) R s (Among-range 0 (length c.pool.signals) s (omega arith) (omega arith))))

  -- ---- their cells and links

  pub cell_held : (d : Drawing) (x : RtlCell) → Among (all_drawings c) d → Among d.cells x → Contains (module_of c).cells x
  unfolding module_of
  cell_held d x a b = Contains-among (flat_map (λ (d : Drawing). d.cells) (all_drawings c)) x (Among-flat_map (λ (d : Drawing). d.cells) (all_drawings c) d x a b)

  pub link_held : (d : Drawing) (l : RtlLink) → Among (all_drawings c) d → Among d.links l → Contains (module_of c).links l
  unfolding module_of
  link_held d l a b = Contains-among (flat_map (λ (d : Drawing). d.links) (all_drawings c)) l (Among-flat_map (λ (d : Drawing). d.links) (all_drawings c) d l a b)

  module _ (pool : IsPool c.pool) (h : IsDesign c) (few : part_total c.pool.exprs < 10 ^ 63) (laws : CellLaws) (few_parts : length (all_parts (memories_of c)) < 10 ^ 18) where
    pub driven_by_cell : (d : Drawing) (x : RtlCell) (k : ℕ) (id : List ℕ) (i : ℕ) → Among (all_drawings c) d → Among d.cells x → slice_get (output_bits x) k ≡ Some (Net id i) → driver (module_of c) id i ≡ ByCell x k
    driven_by_cell d x k id i a b e = driver-cell (module_of c) x k id i (module_rules c pool h laws few_parts few) (cell_held d x a b) e

    pub driven_by_link : (d : Drawing) (l : RtlLink) (k : ℕ) (id : List ℕ) (i : ℕ) → Among (all_drawings c) d → Among d.links l → slice_get (spec_bits l.left) k ≡ Some (Net id i) → driver (module_of c) id i ≡ ByLink l k
    driven_by_link d l k id i a b e = driver-link (module_of c) l k id i (module_rules c pool h laws few_parts few) (link_held d l a b) e
