-- Each bit of each wire that is no input has exactly one driver in the module of a design.
use Rattle.std.specs.Prelude.{◌≡◌, nat_lt, ℕ, false, List, [], ◌∷◌, ◌++◌, length, IsPermutation, slice_get}
use Rattle.std.specs.List.{flat_map, range_with_len}
use Rattle.std.proofs.Common.{sym, ap, ◌∙◌, arith, subst, append-nil}
use Rattle.std.proofs.lemmas.Bool.{cond_both, ltb-false}
use Rattle.std.proofs.lemmas.List.Concat.{flat_map-append}
use Rattle.std.proofs.lemmas.List.Sorted.{IsPermutation-trans, IsPermutation-sym, IsPermutation-append, IsPermutation-append_left, IsPermutation-append_comm}
use Rattle.design_ir.specs.Values.{form}
use Rattle.design_ir.specs.PoolRules.{IsPool}
use Rattle.design_ir.specs.Circuits.{Circuit}
use Rattle.design_ir.specs.Designs.{IsDesign}
use Rattle.rtlil_text.specs.declared.module.RtlWire.{RtlWire}
use Rattle.rtlil_text.specs.Sources.{Source}
use Rattle.rtlil_text.specs.Drivers.{output_bits, driven_bits, inner_bits}
use Rattle.netlist_laws.specs.Ids.{value_id}
use Rattle.netlist_laws.specs.Operators.{Drawing, inner_wire}
use Rattle.netlist_laws.specs.Expressions.{part_total}
use Rattle.netlist_laws.specs.Module.{column_wires, signal_wires, expr_wires, drawings, other_drawings, all_drawings, module_of}
use Rattle.netlist_laws.proofs.Permuted.{IsPermutation-inner_two, IsPermutation-flat_map, flat_map-nested}
use Rattle.netlist_laws.proofs.Drives.{block, owed_bits, left_bits, drawn_bits, own_bits}
use Rattle.netlist_laws.proofs.ManyDrawn.{expr_bits, drawn_from_are}
use Rattle.netlist_laws.proofs.SignalsDrawn.{signal_bits}
use Rattle.netlist_laws.proofs.OthersDrawn.{others_drawn}
use Rattle.netlist_laws.proofs.ColumnSignals.{signal_wires-bits}

-- what two groups of drawings drive, where each drives what it makes and its own wires
grouped : (madeE ownE madeS ownS front : List Source) → IsPermutation front madeS → IsPermutation ((madeE ++ ownE) ++ (madeS ++ ownS)) ((front ++ madeE) ++ (ownE ++ ownS))
grouped madeE ownE madeS ownS front h =
    let made : IsPermutation (madeE ++ madeS) (front ++ madeE) =
    IsPermutation-trans (madeE ++ madeS) (madeS ++ madeE) (front ++ madeE) (IsPermutation-append_comm madeE madeS) (IsPermutation-append_left madeE madeS front (IsPermutation-sym front madeS h)) in
    IsPermutation-trans ((madeE ++ ownE) ++ (madeS ++ ownS)) ((madeE ++ madeS) ++ (ownE ++ ownS)) ((front ++ madeE) ++ (ownE ++ ownS)) (IsPermutation-inner_two madeE ownE madeS ownS)
    (IsPermutation-append_left (ownE ++ ownS) (madeE ++ madeS) (front ++ madeE) made)

-- all drawings drive the bits of their cells and links, whichever drawing each is of
all_drawn : (ds : List Drawing) → IsPermutation (flat_map output_bits (flat_map (λ (d : Drawing). d.cells) ds) ++ flat_map left_bits (flat_map (λ (d : Drawing). d.links) ds)) (flat_map drawn_bits ds)
all_drawn ds =
    let cells = flat_map-nested output_bits (λ (d : Drawing). d.cells) ds in
    let links = flat_map-nested left_bits (λ (d : Drawing). d.links) ds in
    subst (λ u. IsPermutation u (flat_map drawn_bits ds)) (λ i. sym cells i ++ sym links i) (IsPermutation-flat_map (λ (d : Drawing). flat_map output_bits d.cells) (λ (d : Drawing). flat_map left_bits d.links) ds)

-- the wires of expressions owe all their bits
expr_wires-bits : (c : Circuit) (k : ℕ) → flat_map owed_bits (expr_wires c k) ≡ expr_bits c k
expr_wires-bits c k =
    let w : ℕ = (form c.pool k).width in
    cond_both (nat_lt 0 w) (inner_wire (value_id k) w ∷ []) [] (λ (ws : List RtlWire). flat_map owed_bits ws ≡ block (value_id k) w) (λ _. append-nil (block (value_id k) w)) (λ t. nothing_owed w t)
  where
    nothing_owed : (w : ℕ) → nat_lt 0 w ≡ false → [] ≡ block (value_id k) w
    nothing_owed w t = let z : 0 ≡ w = omega (arith, ltb-false 0 w t) in ap (block (value_id k)) z

pub module_drivers : (c : Circuit) → IsPool c.pool → IsDesign c → IsPermutation (driven_bits (module_of c)) (inner_bits (module_of c))
unfolding module_of
module_drivers c pool h =
    let R = range_with_len 0 (length c.pool.signals) in
    let Q = range_with_len 0 (length c.pool.exprs) in
    let C = column_wires c 0 c.columns in
    let S = flat_map (signal_wires c) R in
    let X = flat_map (expr_wires c) Q in
    let D = drawings c in
    let G = other_drawings c in
    let ds = all_drawings c in
    let W : List RtlWire = flat_map (λ (d : Drawing). d.wires) ds in
    let parts = (drawn_from_are c pool 0 0 (part_total c.pool.exprs) c.pool.exprs (λ i lt. ap (slice_get c.pool.exprs) (omega arith)) (omega arith)).drives in
    let steps = (others_drawn c h).drives in
    let madeE = flat_map (expr_bits c) Q in
    let madeS = flat_map (signal_bits c) R in
    let front : IsPermutation (flat_map owed_bits C ++ flat_map owed_bits S) madeS = signal_wires-bits c h in
    let shown : flat_map owed_bits X ≡ madeE = flat_map-nested owed_bits (expr_wires c) Q ∙ (λ i. flat_map (λ k. expr_wires-bits c k i) Q) in
    let own : flat_map owed_bits W ≡ flat_map own_bits D ++ flat_map own_bits G = flat_map-nested owed_bits (λ (d : Drawing). d.wires) ds ∙ flat_map-append own_bits D G in
    let inner : flat_map owed_bits (((C ++ S) ++ X) ++ W) ≡ ((flat_map owed_bits C ++ flat_map owed_bits S) ++ madeE) ++ (flat_map own_bits D ++ flat_map own_bits G) =
    flat_map-append owed_bits ((C ++ S) ++ X) W ∙ (λ i. flat_map-append owed_bits (C ++ S) X i ++ flat_map owed_bits W) ∙ (λ i. (flat_map-append owed_bits C S i ++ shown i) ++ own i) in
    let both : IsPermutation (flat_map drawn_bits D ++ flat_map drawn_bits G) ((madeE ++ flat_map own_bits D) ++ (madeS ++ flat_map own_bits G)) =
    IsPermutation-append (flat_map drawn_bits D) (madeE ++ flat_map own_bits D) (flat_map drawn_bits G) (madeS ++ flat_map own_bits G) parts steps in
    let drawn : IsPermutation (flat_map output_bits (flat_map (λ (d : Drawing). d.cells) ds) ++ flat_map left_bits (flat_map (λ (d : Drawing). d.links) ds)) (flat_map drawn_bits D ++ flat_map drawn_bits G) =
    subst (IsPermutation (flat_map output_bits (flat_map (λ (d : Drawing). d.cells) ds) ++ flat_map left_bits (flat_map (λ (d : Drawing). d.links) ds))) (flat_map-append drawn_bits D G) (all_drawn ds) in
    let all = IsPermutation-trans (flat_map output_bits (flat_map (λ (d : Drawing). d.cells) ds) ++ flat_map left_bits (flat_map (λ (d : Drawing). d.links) ds)) (flat_map drawn_bits D ++ flat_map drawn_bits G) (((flat_map owed_bits C ++ flat_map owed_bits S) ++ madeE) ++ (flat_map own_bits D ++ flat_map own_bits G)) drawn
    (IsPermutation-trans (flat_map drawn_bits D ++ flat_map drawn_bits G) ((madeE ++ flat_map own_bits D) ++ (madeS ++ flat_map own_bits G)) (((flat_map owed_bits C ++ flat_map owed_bits S) ++ madeE) ++ (flat_map own_bits D ++ flat_map own_bits G)) both
    (grouped madeE (flat_map own_bits D) madeS (flat_map own_bits G) (flat_map owed_bits C ++ flat_map owed_bits S) front)) in
    subst (IsPermutation (flat_map output_bits (flat_map (λ (d : Drawing). d.cells) ds) ++ flat_map left_bits (flat_map (λ (d : Drawing). d.links) ds))) (sym inner) all
