-- Where each bit of an expression's wire has a value, so has each bit of the parts of its drawing.
use Rattle.std.specs.Prelude.{◌≡◌, ℕ, suc, ◌+◌, ◌==◌, ◌^◌, ◌<◌, ◌≤◌, nat_lt, max, cond, Bool, true, false, List, [], ◌∷◌, map, pos}
use Rattle.std.proofs.Common.{refl, sym, arith, subst}
use Rattle.std.proofs.lemmas.Bool.{cond_both, eqb-false}
use Rattle.std.proofs.lemmas.List.Elements.{All-nil}
use Rattle.shape_rules.specs.Forms.{Form, unsigned}
use Rattle.shape_rules.specs.declared.cell.CellKind.{CellKind}
use Rattle.shape_rules.specs.declared.cell.CellKind.TheVariants as kind
use Rattle.design_ir.specs.declared.ids.ExprId.{ExprId}
use Rattle.design_ir.specs.declared.expr.Pattern.{Pattern}
use Rattle.design_ir.specs.declared.expr.Expr.{Expr}
use Rattle.design_ir.specs.declared.expr.Expr.TheVariants as expr
use Rattle.rtlil_text.specs.declared.sig.SigPart.{SigPart}
use Rattle.rtlil_text.specs.declared.cell.RtlCell.{RtlCell}
use Rattle.rtlil_text.specs.declared.module.RtlWire.{RtlWire}
use Rattle.rtlil_text.specs.Sources.{spec_bits}
use Rattle.rtlil_text.specs.Cells.{bit_at}
use Rattle.rtlil_text.specs.Meaning.{source_value}
use Rattle.rtlil_text.specs.History.{Wires}
use Rattle.rtlil_text.proofs.Among.{AllByRecursion-append}
use Rattle.netlist_laws.specs.Ids.{part_id}
use Rattle.netlist_laws.specs.Cells.{unary_cell, binary_cell, mux_cell}
use Rattle.netlist_laws.specs.Operands.{wire_part, const_spec, at_width, at_form, const_operand}
use Rattle.netlist_laws.specs.Operators.{Value, Drawing, nothing, inner_wire, whole, one_bit, as_form, linked, one_cell}
use Rattle.netlist_laws.specs.Carried.{ObeysCell, Obeys}
use Rattle.netlist_laws.specs.Expressions.{and_also, truth_spec, truth_drawing, chosen, amount_drawing, amount_operand, part_form, stride_form, stride_operand, selected, picked, picked_of, in_reach, matched, no_match, matched_within, matched_any, shown, drawn}
use Rattle.netlist_laws.proofs.Whole.{IsWhole}
use Rattle.netlist_laws.proofs.Drawn.{first_cell, second_cell}
use Rattle.netlist_laws.proofs.Bitwise.{or_bitwise}
use Rattle.netlist_laws.proofs.Comparisons.{eq_whole}
use Rattle.netlist_laws.proofs.ShiftOperators.{shr_whole, sshr_whole}
use Rattle.netlist_laws.proofs.Linked.{linked_bit}
use Rattle.netlist_laws.proofs.Choices.{also_first, also_second}
use Rattle.netlist_laws.proofs.BitsThere.{IsThere, IsDefined, AreRead, mux_takes, bitwise_takes, whole_takes, part_there}
use Rattle.netlist_laws.proofs.OperatorParts.{AreDefined, form_defined, bit_defined, either_parts, operator_parts}

module _ (wires : Wires) where
  -- ---- choices

  truth_parts : (t u : Bool) (empty all : List SigPart) (id : List ℕ) (two : Drawing) → two.wires ≡ inner_wire id 1 ∷ [] → IsThere (bit_at (source_value wires) (spec_bits (cond t empty (cond u all (one_bit id)))) 0)
      → AreDefined wires (cond t nothing (cond u nothing two)).wires
  truth_parts true u empty all id two e h = tt
  truth_parts false true empty all id two e h = tt
  truth_parts false false empty all id two e h = subst (AreDefined wires) (sym e) (bit_defined wires id h, tt)

  also_parts : (d e : Drawing) → AreDefined wires d.wires → AreDefined wires e.wires → AreDefined wires (and_also d e).wires
  also_parts d e p q = AllByRecursion-append (λ (w : RtlWire). IsDefined wires w.id w.width) d.wires e.wires p q

  chosen_parts : (n : ℕ) (s a b y : Value) → 1 ≤ y.form.width → IsDefined wires y.id y.form.width → Obeys wires (chosen n s a b y) → AreDefined wires (chosen n s a b y).wires
  chosen_parts n s a b y some h o =
      let low = at_width b.id b.form y.form.width in
      let high = at_width a.id a.form y.form.width in
      let choice : RtlCell = mux_cell (part_id (n + 2)) y.form.width low high (truth_spec n s) (whole y) in
      let test : RtlCell = unary_cell kind.ReduceOr (part_id n) (as_form s s.form) 1 (one_bit (part_id (n + 1))) in
      let two : Drawing = record { wires = inner_wire (part_id (n + 1)) 1 ∷ []; cells = test ∷ []; links = [] } in
      let t = mux_takes wires (part_id (n + 2)) y.form.width low high (truth_spec n s) y.id y.form.width 0 some (first_cell wires choice [] (also_second wires (truth_drawing n s) (one_cell choice) o).cells) (h 0 some) in
      also_parts (truth_drawing n s) (one_cell choice) (truth_parts (s.form.width == 0) (s.form.width == 1) (const_spec 1 (pos 0)) (whole s) (part_id (n + 1)) two refl t.choice) tt

  -- ---- parts at an offset

  amount_parts : (t : Bool) (id : List ℕ) (f g : Form) (v : Value) (two : Drawing) → two.wires ≡ inner_wire id g.width ∷ [] → AreRead wires (cond t (as_form v f) (at_form id g g)).spec → AreDefined wires (cond t nothing two).wires
  amount_parts true id f g v two e h = tt
  amount_parts false id f g v two e h = subst (AreDefined wires) (sym e) (form_defined wires id g h, tt)

  selected_parts : (n : ℕ) (a offset : Value) (stride : ℕ) (y : Value) → 1 ≤ y.form.width → IsDefined wires y.id y.form.width → Obeys wires (selected n a offset stride y) → AreDefined wires (selected n a offset stride y).wires
  selected_parts n a offset stride y some h obeys =
      let g : Form = part_form a.form y.form.width in
      let id : List ℕ = part_id (n + 3) in
      let k : CellKind = cond a.form.signed kind.Sshr kind.Shr in
      let makes : IsWhole k = cond_both a.form.signed kind.Sshr kind.Shr IsWhole (λ _. sshr_whole) (λ _. shr_whole) in
      let move : RtlCell = binary_cell k (part_id (n + 2)) (as_form a g) (amount_operand n offset stride) g.width (wire_part id 0 g.width) in
      let shift : Drawing = record { wires = inner_wire id g.width ∷ []; cells = move ∷ []; links = record { left = whole y; right = wire_part id 0 y.form.width } ∷ [] } in
      let strides : Form = stride_form offset.form in
      let times : RtlCell = binary_cell kind.Mul (part_id n) (as_form offset strides) (stride_operand offset.form stride) strides.width (wire_part (part_id (n + 1)) 0 strides.width) in
      let two : Drawing = record { wires = inner_wire (part_id (n + 1)) strides.width ∷ []; cells = times ∷ []; links = [] } in
      either_parts wires (offset.form.width == 0) (linked y (at_width a.id a.form y.form.width)) (and_also (amount_drawing n offset stride) shift) tt
      (λ _ o.
      let drawn = also_second wires (amount_drawing n offset stride) shift o in
      let link : Obeys wires (linked y (wire_part id 0 y.form.width)) = record { cells = All-nil (ObeysCell wires); links = drawn.links } in
      let first : IsThere (wires id 0) = part_there wires id y.form.width 0 some (subst IsThere (linked_bit wires y (wire_part id 0 y.form.width) 0 link some) (h 0 some)) in
      let w = whole_takes wires k (part_id (n + 2)) (as_form a g) (amount_operand n offset stride) g.width id g.width 0 makes (omega (arith, some)) (first_cell wires move [] drawn.cells) first in
      also_parts (amount_drawing n offset stride) shift (amount_parts (stride == 1) (part_id (n + 1)) offset.form strides offset two refl w.second) (w.output, tt))
      obeys

  -- ---- items by an index

  picked_parts : (n : ℕ) (index : Value) (i : ℕ) (first : Value) (more : List Value) (into : Value) → 1 ≤ into.form.width → IsDefined wires into.id into.form.width
      → Obeys wires (picked n index i first more into) → AreDefined wires (picked n index i first more into).wires
  picked_parts n index i first [] into some h o = tt
  picked_parts n index i first (second ∷ more) into some h o =
      let w : ℕ = into.form.width in
      let same = binary_cell kind.Eq (part_id n) (as_form index index.form) (const_operand index.form (pos i)) 1 (one_bit (part_id (n + 1))) in
      let own = at_width first.id first.form w in
      let others = wire_part (part_id (n + 3)) 0 w in
      let choose = mux_cell (part_id (n + 2)) w others own (one_bit (part_id (n + 1))) (whole into) in
      let one : Drawing = record { wires = inner_wire (part_id (n + 1)) 1 ∷ inner_wire (part_id (n + 3)) w ∷ []; cells = same ∷ choose ∷ []; links = [] } in
      let rest : Value = record { id = part_id (n + 3); form = into.form } in
      let behind : Drawing = picked (n + 4) index (suc i) second more rest in
      let cell = second_cell wires same choose [] (also_first wires one behind o).cells in
      let takes = λ (j : ℕ) (l : j < w). mux_takes wires (part_id (n + 2)) w others own (one_bit (part_id (n + 1))) into.id w j l cell (h j l) in
      let defined : IsDefined wires (part_id (n + 3)) w = λ j l. part_there wires (part_id (n + 3)) w j l (takes j l).first in
      (bit_defined wires (part_id (n + 1)) (takes 0 some).choice, (defined, picked_parts (n + 4) index (suc i) second more rest some defined (also_second wires one behind o)))

  picked_of_parts : (n : ℕ) (index : Value) (items : List Value) (y : Value) → 1 ≤ y.form.width → IsDefined wires y.id y.form.width → Obeys wires (picked_of n index items y) → AreDefined wires (picked_of n index items y).wires
  picked_of_parts n index [] y some h o = tt
  picked_of_parts n index (first ∷ more) y some h o = picked_parts n index 0 first more y some h o

  -- ---- patterns

  within_parts : (n : ℕ) (g : Form) (a : Value) (p : Pattern) → IsDefined wires (part_id (n + 3)) 1 → Obeys wires (matched_within n g a p) → AreDefined wires (matched_within n g a p).wires
  within_parts n g a p h obeys = by (nat_lt p.bits (2 ^ g.width)) obeys
    where
      masked : RtlCell
      masked = binary_cell kind.And (part_id n) (record { spec = at_width a.id (unsigned a.form.width) g.width; form = g }) (const_operand g (pos p.mask)) g.width (wire_part (part_id (n + 1)) 0 g.width)

      same : RtlCell
      same = binary_cell kind.Eq (part_id (n + 2)) (at_form (part_id (n + 1)) g g) (const_operand g (pos p.bits)) 1 (one_bit (part_id (n + 3)))

      by : (t : Bool) → Obeys wires (cond t (matched n g a p) (no_match n)) → AreDefined wires (cond t (matched n g a p) (no_match n)).wires
      by false o = (h, tt)
      by true o =
          let w = whole_takes wires kind.Eq (part_id (n + 2)) (at_form (part_id (n + 1)) g g) (const_operand g (pos p.bits)) 1 (part_id (n + 3)) 1 0 eq_whole (omega arith) (second_cell wires masked same [] o.cells) (h 0 (omega arith)) in
          (form_defined wires (part_id (n + 1)) g w.first, (h, tt))

  matched_parts : (n : ℕ) (a : Value) (ps : List Pattern) (into : Value) → 1 ≤ into.form.width → IsDefined wires into.id into.form.width → Obeys wires (matched_any n a ps into) → AreDefined wires (matched_any n a ps into).wires
  matched_parts n a [] into some h o = tt
  matched_parts n a (p ∷ ps) into some h o =
      let g : Form = unsigned (max 1 a.form.width) in
      let one : Form = unsigned 1 in
      let rest : Value = record { id = part_id (n + 5); form = one } in
      let here : Drawing = matched_within n g a p in
      let behind : Drawing = matched_any (n + 6) a ps rest in
      let or : RtlCell = binary_cell kind.Or (part_id (n + 4)) (at_form (part_id (n + 3)) one one) (at_form (part_id (n + 5)) one one) 1 (whole into) in
      let either_one : Drawing = record { wires = inner_wire (part_id (n + 5)) 1 ∷ []; cells = or ∷ []; links = [] } in
      let after = also_second wires here (and_also either_one behind) o in
      let t = bitwise_takes wires kind.Or _ (part_id (n + 4)) (at_form (part_id (n + 3)) one one) (at_form (part_id (n + 5)) one one) 1 into.id into.form.width 0 or_bitwise some
      (first_cell wires or [] (also_first wires either_one behind after).cells) (h 0 some) in
      let third : IsDefined wires (part_id (n + 3)) 1 = bit_defined wires (part_id (n + 3)) t.0 in
      let fifth : IsDefined wires (part_id (n + 5)) 1 = bit_defined wires (part_id (n + 5)) t.1 in
      also_parts here (and_also either_one behind) (within_parts n g a p third (also_first wires here (and_also either_one behind) o))
      (fifth, matched_parts (n + 6) a ps rest (omega arith) fifth (also_second wires either_one behind after))

  -- ---- all expressions

  shown_parts : (signal value : ℕ → Value) (n : ℕ) (y : Value) (e : Expr) → 1 ≤ y.form.width → IsDefined wires y.id y.form.width → Obeys wires (shown signal value n y e) → AreDefined wires (shown signal value n y e).wires
  shown_parts signal value n y (expr.Const c s) some h o = tt
  shown_parts signal value n y (expr.Sig s) some h o = tt
  shown_parts signal value n y (expr.Unary op a) some h o = operator_parts wires op n (value a.0) (record { id = []; form = unsigned 0 }) y some h o
  shown_parts signal value n y (expr.Binary op a b) some h o = operator_parts wires op n (value a.0) (value b.0) y some h o
  shown_parts signal value n y (expr.Mux s a b) some h o = chosen_parts n (value s.0) (value a.0) (value b.0) y some h o
  shown_parts signal value n y (expr.Slice a low width) some h o = tt
  shown_parts signal value n y (expr.Cat es) some h o = tt
  shown_parts signal value n y (expr.Part a offset width stride) some h o = selected_parts n (value a.0) (value offset.0) stride y some h o
  shown_parts signal value n y (expr.Pick index es) some h o = picked_of_parts n (value index.0) (in_reach (value index.0).form.width (map (λ (e : ExprId). value e.0) es)) y some h o
  shown_parts signal value n y (expr.Cast a signed) some h o = tt
  shown_parts signal value n y (expr.Matches a patterns) some h o = matched_parts n (value a.0) patterns y some h o
  shown_parts signal value n y (expr.Reset domain place) some h o = tt

  pub drawn_parts : (signal value : ℕ → Value) (n : ℕ) (y : Value) (e : Expr) → IsDefined wires y.id y.form.width → Obeys wires (drawn signal value n y e) → AreDefined wires (drawn signal value n y e).wires
  drawn_parts signal value n y e h obeys =
      either_parts wires (y.form.width == 0) nothing (shown signal value n y e) tt (λ t o. shown_parts signal value n y e (let some : 1 ≤ y.form.width = omega (arith, eqb-false y.form.width 0 t) in some) h o) obeys
