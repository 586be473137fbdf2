-- The cells of expressions keep nothing: each goes by its operands alone.
use Rattle.std.specs.Prelude.{◌≡◌, ℕ, suc, ◌+◌, ◌==◌, ◌^◌, nat_lt, max, cond, Bool, true, false, List, [], ◌∷◌, map, Option, codes, ℤ, pos}
use Rattle.std.specs.List.{AllByRecursion}
use Rattle.std.proofs.Common.{refl}
use Rattle.std.proofs.lemmas.Bool.{cond_both, false≢true}
use Rattle.shape_rules.specs.Forms.{Form, unsigned}
use Rattle.shape_rules.specs.Operators.{work_form}
use Rattle.shape_rules.specs.declared.op.Op.{Op}
use Rattle.shape_rules.specs.declared.op.Op.TheVariants as op
use Rattle.shape_rules.specs.declared.cell.CellKind.{CellKind}
use Rattle.shape_rules.specs.declared.cell.CellKind.TheVariants as kind
use Rattle.shape_rules.specs.declared.cell.CellKind.TheVariants.{Dff, Adff, MemoryRead, MemoryWrite, MemoryInit}
use Rattle.design_ir.specs.declared.ids.ExprId.{ExprId}
use Rattle.design_ir.specs.declared.expr.Pattern.{Pattern}
use Rattle.design_ir.specs.declared.expr.Expr.{Expr}
use Rattle.design_ir.specs.declared.expr.Expr.TheVariants as expr
use Rattle.rtlil_text.specs.declared.cell.RtlCell.{RtlCell}
use Rattle.rtlil_text.specs.declared.module.RtlModule.{RtlModule}
use Rattle.rtlil_text.specs.Sources.{Source, end_width, number_at}
use Rattle.rtlil_text.specs.CellTables.{output_of}
use Rattle.rtlil_text.specs.Cells.{cell_bit}
use Rattle.rtlil_text.specs.Meaning.{State, is_kept_kind, is_kept, comb_bit}
use Rattle.rtlil_text.proofs.Among.{AllByRecursion-append}
use Rattle.netlist_laws.specs.Cells.{unary_cell, binary_cell, mux_cell}
use Rattle.netlist_laws.specs.Operands.{wire_part, const_spec, at_width, at_form}
use Rattle.netlist_laws.specs.Ids.{part_id}
use Rattle.netlist_laws.specs.Operators.{Value, Drawing, nothing, inner_wire, whole, one_bit, as_form, linked, reduced, shifted, magnitude, operated, operator_drawing, one_cell}
use Rattle.netlist_laws.specs.Expressions.{and_also, truth_spec, truth_drawing, chosen, amount_drawing, amount_operand, part_form, stride_form, stride_operand, selected, picked, picked_of, in_reach, matched, no_match, matched_within, matched_any, shown, drawn}

-- a kind that goes by the operands alone, and is of no memory
abbrev pub is_logic_kind : CellKind → Bool
is_logic_kind Dff = false
is_logic_kind Adff = false
is_logic_kind MemoryRead = false
is_logic_kind MemoryWrite = false
is_logic_kind MemoryInit = false
is_logic_kind kind = true

abbrev pub IsLogic : RtlCell → Type 0
IsLogic c = is_logic_kind c.kind ≡ true

abbrev pub AreLogic : Drawing → Type 0
AreLogic d = AllByRecursion IsLogic d.cells

unkept_kind : (n : ℕ) (k : CellKind) → is_logic_kind k ≡ true → is_kept_kind n k ≡ false
unkept_kind n Dff h = absurd (false≢true h)
unkept_kind n Adff h = absurd (false≢true h)
unkept_kind n MemoryRead h = absurd (false≢true h)
unkept_kind n kind h = refl

pub logic_unkept : (c : RtlCell) → IsLogic c → is_kept c ≡ false
logic_unkept c h = unkept_kind (number_at c (codes "\\CLK_ENABLE")) c.kind h

pub logic_bit : (m : RtlModule) (st : State) (value : Source → Option Bool) (c : RtlCell) (k : ℕ) (kind : CellKind) → is_logic_kind kind ≡ true → comb_bit m st value c k kind ≡ cell_bit value c (end_width c (output_of kind)) k kind
logic_bit m st value c k MemoryRead h = absurd (false≢true h)
logic_bit m st value c k kind h = refl

-- ---- operators

either : (t : Bool) (d e : Drawing) → AreLogic d → AreLogic e → AreLogic (cond t d e)
either t d e p q = cond_both t d e AreLogic (λ _. p) (λ _. q)

unary_logic : (k : CellKind) (empty : ℤ) (n : ℕ) (a y : Value) → is_logic_kind k ≡ true → AreLogic (reduced k empty n a y)
unary_logic k empty n a y h =
    either (a.form.width == 0) (linked y (const_spec 1 empty)) (one_cell (unary_cell k (part_id n) (as_form a a.form) 1 (whole y))) tt (h, tt)

moved_logic : (k : CellKind) (signed : Bool) (n : ℕ) (a b y : Value) → is_logic_kind k ≡ true → AreLogic (shifted k signed n a b y)
moved_logic k signed n a b y h =
    either (b.form.width == 0) (linked y (at_width a.id a.form y.form.width))
    (one_cell (binary_cell k (part_id n) (at_form a.id a.form (record { width = y.form.width; signed = signed })) (as_form b b.form) y.form.width (whole y))) tt (h, tt)

operated_logic : (o : Op) (n : ℕ) (g : Form) (a b y : Value) → AreLogic (operated o n g a b y)
operated_logic op.Add n g a b y = (refl, tt)
operated_logic op.Sub n g a b y = (refl, tt)
operated_logic op.Neg n g a b y = (refl, tt)
operated_logic op.Mul n g a b y = (refl, tt)
operated_logic op.Div n g a b y = (refl, (refl, (refl, (refl, tt))))
operated_logic op.Mod n g a b y = (refl, (refl, (refl, (refl, tt))))
operated_logic op.Abs n g a b y = either a.form.signed (magnitude n g a y) (linked y (whole a)) (refl, (refl, (refl, tt))) tt
operated_logic op.Not n g a b y = (refl, tt)
operated_logic op.And n g a b y = (refl, tt)
operated_logic op.Or n g a b y = (refl, tt)
operated_logic op.Xor n g a b y = (refl, tt)
operated_logic op.Eq n g a b y = (refl, tt)
operated_logic op.Ne n g a b y = (refl, (refl, tt))
operated_logic op.Lt n g a b y = (refl, tt)
operated_logic op.Le n g a b y = (refl, tt)
operated_logic op.Gt n g a b y = (refl, tt)
operated_logic op.Ge n g a b y = (refl, tt)
operated_logic op.Any n g a b y = unary_logic kind.ReduceOr (pos 0) n a y refl
operated_logic op.All n g a b y = unary_logic kind.ReduceAnd (pos 1) n a y refl
operated_logic op.Parity n g a b y = unary_logic kind.ReduceXor (pos 0) n a y refl
operated_logic op.Shl n g a b y = moved_logic kind.Shl a.form.signed n a b y refl
operated_logic op.Shr n g a b y =
    either a.form.signed (shifted kind.Sshr true n a b y) (shifted kind.Shr false n a b y) (moved_logic kind.Sshr true n a b y refl) (moved_logic kind.Shr false n a b y refl)

operator_logic : (o : Op) (n : ℕ) (a b y : Value) → AreLogic (operator_drawing o n a b y)
unfolding operator_drawing
operator_logic o n a b y =
    either (y.form.width == 0) nothing (operated o n (work_form o a.form b.form) a b y) tt (operated_logic o n (work_form o a.form b.form) a b y)

-- ---- other expressions

also_logic : (d e : Drawing) → AreLogic d → AreLogic e → AreLogic (and_also d e)
also_logic d e p q = AllByRecursion-append IsLogic d.cells e.cells p q

truth_logic : (n : ℕ) (s : Value) → AreLogic (truth_drawing n s)
truth_logic n s =
    let two : Drawing = record { wires = inner_wire (part_id (n + 1)) 1 ∷ []; cells = unary_cell kind.ReduceOr (part_id n) (as_form s s.form) 1 (one_bit (part_id (n + 1))) ∷ []; links = [] } in
    either (s.form.width == 0) nothing (cond (s.form.width == 1) nothing two) tt (either (s.form.width == 1) nothing two tt (refl, tt))

chosen_logic : (n : ℕ) (s a b y : Value) → AreLogic (chosen n s a b y)
chosen_logic n s a b y =
    let choice : RtlCell = mux_cell (part_id (n + 2)) y.form.width (at_width b.id b.form y.form.width) (at_width a.id a.form y.form.width) (truth_spec n s) (whole y) in
    also_logic (truth_drawing n s) (one_cell choice) (truth_logic n s) (refl, tt)

amount_logic : (n : ℕ) (offset : Value) (stride : ℕ) → AreLogic (amount_drawing n offset stride)
amount_logic n offset stride =
    let g : Form = stride_form offset.form in
    let two : Drawing = record {
      wires = inner_wire (part_id (n + 1)) g.width ∷ [];
      cells = binary_cell kind.Mul (part_id n) (as_form offset g) (stride_operand offset.form stride) g.width (wire_part (part_id (n + 1)) 0 g.width) ∷ [];
      links = [];
    } in
    either (stride == 1) nothing two tt (refl, tt)

selected_logic : (n : ℕ) (a offset : Value) (stride : ℕ) (y : Value) → AreLogic (selected n a offset stride y)
selected_logic n a offset stride y =
    let g : Form = part_form a.form y.form.width in
    let k : CellKind = cond a.form.signed kind.Sshr kind.Shr in
    let logic : is_logic_kind k ≡ true = cond_both a.form.signed kind.Sshr kind.Shr (λ (k : CellKind). is_logic_kind k ≡ true) (λ _. refl) (λ _. refl) in
    let shift : Drawing = record {
      wires = inner_wire (part_id (n + 3)) g.width ∷ [];
      cells = binary_cell k (part_id (n + 2)) (as_form a g) (amount_operand n offset stride) g.width (wire_part (part_id (n + 3)) 0 g.width) ∷ [];
      links = record { left = whole y; right = wire_part (part_id (n + 3)) 0 y.form.width } ∷ [];
    } in
    either (offset.form.width == 0) (linked y (at_width a.id a.form y.form.width)) (and_also (amount_drawing n offset stride) shift) tt
    (also_logic (amount_drawing n offset stride) shift (amount_logic n offset stride) (logic, tt))

picked_logic : (n : ℕ) (index : Value) (i : ℕ) (first : Value) (more : List Value) (into : Value) → AreLogic (picked n index i first more into)
picked_logic n index i first [] into = tt
picked_logic n index i first (second ∷ more) into = (refl, (refl, picked_logic (n + 4) index (suc i) second more (record { id = part_id (n + 3); form = into.form })))

picked_of_logic : (n : ℕ) (index : Value) (items : List Value) (y : Value) → AreLogic (picked_of n index items y)
picked_of_logic n index [] y = tt
picked_of_logic n index (first ∷ more) y = picked_logic n index 0 first more y

within_logic : (n : ℕ) (g : Form) (a : Value) (p : Pattern) → AreLogic (matched_within n g a p)
within_logic n g a p = either (nat_lt p.bits (2 ^ g.width)) (matched n g a p) (no_match n) (refl, (refl, tt)) tt

matched_logic : (n : ℕ) (a : Value) (ps : List Pattern) (into : Value) → AreLogic (matched_any n a ps into)
matched_logic n a [] into = tt
matched_logic n a (p ∷ ps) into =
    let g : Form = unsigned (max 1 a.form.width) in
    let rest : Drawing = matched_any (n + 6) a ps (record { id = part_id (n + 5); form = unsigned 1 }) in
    let either_one : Drawing = record {
      wires = inner_wire (part_id (n + 5)) 1 ∷ [];
      cells = binary_cell kind.Or (part_id (n + 4)) (at_form (part_id (n + 3)) (unsigned 1) (unsigned 1)) (at_form (part_id (n + 5)) (unsigned 1) (unsigned 1)) 1 (whole into) ∷ [];
      links = [];
    } in
    also_logic (matched_within n g a p) (and_also either_one rest) (within_logic n g a p) (refl, matched_logic (n + 6) a ps (record { id = part_id (n + 5); form = unsigned 1 }))

shown_logic : (signal value : ℕ → Value) (n : ℕ) (y : Value) (e : Expr) → AreLogic (shown signal value n y e)
shown_logic signal value n y (expr.Const c s) = tt
shown_logic signal value n y (expr.Sig s) = tt
shown_logic signal value n y (expr.Unary o a) = operator_logic o n (value a.0) (record { id = []; form = unsigned 0 }) y
shown_logic signal value n y (expr.Binary o a b) = operator_logic o n (value a.0) (value b.0) y
shown_logic signal value n y (expr.Mux s a b) = chosen_logic n (value s.0) (value a.0) (value b.0) y
shown_logic signal value n y (expr.Slice a low width) = tt
shown_logic signal value n y (expr.Cat es) = tt
shown_logic signal value n y (expr.Part a offset width stride) = selected_logic n (value a.0) (value offset.0) stride y
shown_logic signal value n y (expr.Pick index es) = picked_of_logic n (value index.0) (in_reach (value index.0).form.width (map (λ (e : ExprId). value e.0) es)) y
shown_logic signal value n y (expr.Cast a signed) = tt
shown_logic signal value n y (expr.Matches a patterns) = matched_logic n (value a.0) patterns y
shown_logic signal value n y (expr.Reset domain place) = tt

-- the drawing of an expression has cells of logic alone
pub drawn_logic : (signal value : ℕ → Value) (n : ℕ) (y : Value) (e : Expr) → AreLogic (drawn signal value n y e)
drawn_logic signal value n y e = either (y.form.width == 0) nothing (shown signal value n y e) tt (shown_logic signal value n y e)
