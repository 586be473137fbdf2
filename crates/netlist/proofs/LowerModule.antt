-- The module from what was drawn.
use Rattle.std.proofs.Common.{◌≡◌, List, [], ◌++◌, map, length, sym, ap, ◌∙◌}
use Rattle.std.specs.List.{flat_map, range_with_len}
use Rattle.std.proofs.lemmas.List.Concat.{flat_map-append}
use Rattle.design_ir.specs.Circuits.{Circuit}
use Rattle.rtlil_text.specs.declared.module.RtlMemory.{RtlMemory}
use Rattle.netlist_laws.specs.Operators.{Drawing}
use Rattle.netlist_laws.specs.Expressions.{and_also}
use Rattle.netlist_laws.specs.Module.{column_wires, signal_wires, expr_wires, drawings, signal_drawing, module_of}
use Rattle.netlist_laws.specs.MemoryDrawings.{memory_drawings, memory_lines}
use Rattle.netlist.specs.Tables.{together, drawn_module, drawn_signals}
use Rattle.netlist_cells.proofs.LowerItems.{and_also_assoc}

pub together_append : (ds es : List Drawing) → and_also (together ds) (together es) ≡ together (ds ++ es)
together_append ds es =
    λ i. record { wires = sym (flat_map-append (λ (d : Drawing). d.wires) ds es) i; cells = sym (flat_map-append (λ (d : Drawing). d.cells) ds es) i; links = sym (flat_map-append (λ (d : Drawing). d.links) ds es) i }

-- with the memories it is the module of the design
pub module_is : (c : Circuit) → drawn_module (memory_lines c) (and_also (drawn_signals c) (together (memory_drawings c))) ≡ module_of c
unfolding module_of
module_is c =
    let start : Drawing = record { wires = column_wires c 0 c.columns ++ flat_map (signal_wires c) (range_with_len 0 (length c.pool.signals)) ++ flat_map (expr_wires c) (range_with_len 0 (length c.pool.exprs)); cells = []; links = [] } in
    let exprs : List Drawing = drawings c in
    let signals : List Drawing = map (signal_drawing c) (range_with_len 0 (length c.pool.signals)) in
    let memories : List Drawing = memory_drawings c in
    ap (drawn_module (memory_lines c))
    (and_also_assoc (and_also start (together exprs)) (together signals) (together memories) ∙ ap (and_also (and_also start (together exprs))) (together_append signals memories)
    ∙ and_also_assoc start (together exprs) (together (signals ++ memories)) ∙ ap (and_also start) (together_append exprs (signals ++ memories)))

pub module_drawn : (c : Circuit) (lines : List RtlMemory) (before after : Drawing) → before ≡ drawn_signals c → lines ≡ memory_lines c → after ≡ and_also before (together (memory_drawings c)) → drawn_module lines after ≡ module_of c
module_drawn c lines before after b l a = (λ i. drawn_module (l i) (a i)) ∙ ap (λ (x : Drawing). drawn_module (memory_lines c) (and_also x (together (memory_drawings c)))) b ∙ module_is c
