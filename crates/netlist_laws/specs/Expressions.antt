-- The wires, cells and links of each expression.
use Rattle.std.specs.Prelude.{ℕ, suc, ◌+◌, ◌*◌, ◌^◌, ◌==◌, false, max, if◌then◌else◌, nat_lt, List, [], ◌∷◌, ◌++◌, length, map, take, replicate, pos}
use Rattle.shape_rules.specs.Forms.{Form, unsigned}
use Rattle.shape_rules.specs.declared.cell.CellKind.TheVariants as kind
use Rattle.design_ir.specs.declared.ids.ExprId.{ExprId}
use Rattle.design_ir.specs.declared.expr.Pattern.{Pattern}
use Rattle.design_ir.specs.declared.expr.Expr.{Expr}
use Rattle.design_ir.specs.declared.expr.Expr.TheVariants as expr
use Rattle.rtlil_text.specs.declared.sig.SigPart.{SigPart}
use Rattle.netlist_laws.specs.Ids.{part_id}
use Rattle.netlist_laws.specs.Cells.{Operand, unary_cell, binary_cell, mux_cell}
use Rattle.netlist_laws.specs.Operands.{wire_part, const_part, const_spec, at_width, at_form, const_operand}
use Rattle.netlist_laws.specs.Operators.{Value, Drawing, nothing, inner_wire, whole, one_bit, as_form, linked, operator_drawing}

-- one drawing and another
abbrev pub and_also : Drawing → Drawing → Drawing
and_also d e = record { wires = d.wires ++ e.wires; cells = d.cells ++ e.cells; links = d.links ++ e.links }

-- ---- whether a value is not 0

-- the bit itself where there is one alone, else part n + 1
abbrev pub truth_spec : ℕ → Value → List SigPart
truth_spec n s =
    if s.form.width == 0 then const_spec 1 (pos 0)
    else (if s.form.width == 1 then whole s else one_bit (part_id (n + 1)))

abbrev pub truth_drawing : ℕ → Value → Drawing
truth_drawing n s =
    if s.form.width == 0 then nothing
    else (if s.form.width == 1 then nothing
    else record {
      wires = inner_wire (part_id (n + 1)) 1 ∷ [];
      cells = unary_cell kind.ReduceOr (part_id n) (as_form s s.form) 1 (one_bit (part_id (n + 1))) ∷ [];
      links = [];
    })

-- ---- choices

-- a where s is not 0, else b
abbrev pub chosen : ℕ → (s a b y : Value) → Drawing
chosen n s a b y =
    and_also (truth_drawing n s) (record {
      wires = [];
      cells = mux_cell (part_id (n + 2)) y.form.width (at_width b.id b.form y.form.width) (at_width a.id a.form y.form.width) (truth_spec n s) (whole y) ∷ [];
      links = [];
    })

-- ---- parts at an offset

-- the offset times the stride, at a width that holds it
abbrev pub stride_form : Form → Form
stride_form f = unsigned (max 1 f.width + 8)

-- a stride of that shape: a byte behind zeros, since no constant here has more than 128 bits
abbrev pub stride_operand : Form → ℕ → Operand
stride_operand f stride = record { spec = const_part (replicate (max 1 f.width) false) ++ const_spec 8 (pos stride); form = stride_form f }

-- the amount by which a is shifted: the offset, or parts n and n + 1 where it is in strides
abbrev pub amount_operand : ℕ → Value → ℕ → Operand
amount_operand n offset stride =
    if stride == 1 then as_form offset offset.form else at_form (part_id (n + 1)) (stride_form offset.form) (stride_form offset.form)

abbrev pub amount_drawing : ℕ → Value → ℕ → Drawing
amount_drawing n offset stride =
    if stride == 1 then nothing
    else record {
      wires = inner_wire (part_id (n + 1)) (stride_form offset.form).width ∷ [];
      cells =
          binary_cell kind.Mul (part_id n) (as_form offset (stride_form offset.form)) (stride_operand offset.form stride) (stride_form offset.form).width
          (wire_part (part_id (n + 1)) 0 (stride_form offset.form).width) ∷ [];
      links = [];
    }

-- the shape at which a is shifted: the wider of its own and the part's
abbrev pub part_form : Form → ℕ → Form
part_form f width = record { width = max f.width width; signed = f.signed }

-- the bits of a from an offset on: those behind its end are zeros, or its sign
abbrev pub selected : ℕ → (a offset : Value) → ℕ → Value → Drawing
selected n a offset stride y =
    if offset.form.width == 0 then linked y (at_width a.id a.form y.form.width)
    else and_also (amount_drawing n offset stride) (record {
      wires = inner_wire (part_id (n + 3)) (part_form a.form y.form.width).width ∷ [];
      cells =
          binary_cell (if a.form.signed then kind.Sshr else kind.Shr) (part_id (n + 2)) (as_form a (part_form a.form y.form.width)) (amount_operand n offset stride) (part_form a.form y.form.width).width
          (wire_part (part_id (n + 3)) 0 (part_form a.form y.form.width).width) ∷ [];
      links = record { left = whole y; right = wire_part (part_id (n + 3)) 0 y.form.width } ∷ [];
    })

-- ---- items by an index

-- The first of these where the index is i, else as the others say; the last where there are no others. The result goes to
-- `into`, and part n is the first that is free.
abbrev pub picked : ℕ → Value → ℕ → Value → List Value → Value → Drawing
picked n index i first [] into = linked into (at_width first.id first.form into.form.width)
picked n index i first (second ∷ more) into =
    and_also (record {
      wires = inner_wire (part_id (n + 1)) 1 ∷ inner_wire (part_id (n + 3)) into.form.width ∷ [];
      cells =
          binary_cell kind.Eq (part_id n) (as_form index index.form) (const_operand index.form (pos i)) 1 (one_bit (part_id (n + 1)))
          ∷ mux_cell (part_id (n + 2)) into.form.width (wire_part (part_id (n + 3)) 0 into.form.width) (at_width first.id first.form into.form.width) (one_bit (part_id (n + 1))) (whole into) ∷ [];
      links = [];
    }) (picked (n + 4) index (suc i) second more (record { id = part_id (n + 3); form = into.form }))

-- the items that an index of this width can pick: one behind them is picked by none
abbrev pub in_reach : ℕ → List Value → List Value
in_reach width items = take (2 ^ width) items

abbrev pub picked_of : ℕ → Value → List Value → Value → Drawing
picked_of n index [] y = nothing
picked_of n index (first ∷ more) y = picked n index 0 first more y

-- ---- patterns

-- whether a has the pattern's bits under its mask, worked at the width g; a bit behind it is never there
abbrev pub matched : ℕ → Form → Value → Pattern → Drawing
matched n g a p = record {
  wires = inner_wire (part_id (n + 1)) g.width ∷ inner_wire (part_id (n + 3)) 1 ∷ [];
  cells =
      binary_cell kind.And (part_id n) (record { spec = at_width a.id (unsigned a.form.width) g.width; form = g }) (const_operand g (pos p.mask)) g.width (wire_part (part_id (n + 1)) 0 g.width)
      ∷ binary_cell kind.Eq (part_id (n + 2)) (at_form (part_id (n + 1)) g g) (const_operand g (pos p.bits)) 1 (one_bit (part_id (n + 3))) ∷ [];
  links = [];
}

abbrev pub no_match : ℕ → Drawing
no_match n = record { wires = inner_wire (part_id (n + 3)) 1 ∷ []; cells = []; links = record { left = one_bit (part_id (n + 3)); right = const_spec 1 (pos 0) } ∷ [] }

abbrev pub matched_within : ℕ → Form → Value → Pattern → Drawing
matched_within n g a p = if nat_lt p.bits (2 ^ g.width) then matched n g a p else no_match n

-- whether a has one of these patterns
abbrev pub matched_any : ℕ → Value → List Pattern → Value → Drawing
matched_any n a [] into = linked into (const_spec 1 (pos 0))
matched_any n a (p ∷ ps) into =
    and_also (matched_within n (unsigned (max 1 a.form.width)) a p) (and_also (record {
      wires = inner_wire (part_id (n + 5)) 1 ∷ [];
      cells = binary_cell kind.Or (part_id (n + 4)) (at_form (part_id (n + 3)) (unsigned 1) (unsigned 1)) (at_form (part_id (n + 5)) (unsigned 1) (unsigned 1)) 1 (whole into) ∷ [];
      links = [];
    }) (matched_any (n + 6) a ps (record { id = part_id (n + 5); form = unsigned 1 })))

-- ---- all expressions

-- the bits of values one above the other, the first the lowest
abbrev pub joined : (ℕ → Value) → List ExprId → List SigPart
joined value [] = []
joined value (e ∷ es) = joined value es ++ whole (value e.0)

-- how many parts an expression takes
abbrev pub part_count : Expr → ℕ
part_count (expr.Const n s) = 0
part_count (expr.Sig s) = 0
part_count (expr.Unary o a) = 7
part_count (expr.Binary o a b) = 7
part_count (expr.Mux s a b) = 3
part_count (expr.Slice a low width) = 0
part_count (expr.Cat es) = 0
part_count (expr.Part a offset width stride) = 4
part_count (expr.Pick index es) = 4 * length es
part_count (expr.Cast a signed) = 0
part_count (expr.Matches a patterns) = 6 * length patterns
part_count (expr.Reset domain place) = 0

-- how many all of them take
abbrev pub part_total : List Expr → ℕ
part_total [] = 0
part_total (e ∷ es) = part_count e + part_total es

-- what gives y the expression, where the wires of signals and of other expressions are known; a reset that nothing uses is 0
abbrev pub shown : (signal value : ℕ → Value) → ℕ → Value → Expr → Drawing
shown signal value n y (expr.Const c s) = linked y (const_spec s.width c)
shown signal value n y (expr.Sig s) = linked y (whole (signal s.0))
shown signal value n y (expr.Unary o a) = operator_drawing o n (value a.0) (record { id = []; form = unsigned 0 }) y
shown signal value n y (expr.Binary o a b) = operator_drawing o n (value a.0) (value b.0) y
shown signal value n y (expr.Mux s a b) = chosen n (value s.0) (value a.0) (value b.0) y
shown signal value n y (expr.Slice a low width) = linked y (wire_part (value a.0).id low width)
shown signal value n y (expr.Cat es) = linked y (joined value es)
shown signal value n y (expr.Part a offset width stride) = selected n (value a.0) (value offset.0) stride y
shown signal value n y (expr.Pick index es) = picked_of n (value index.0) (in_reach (value index.0).form.width (map (λ (e : ExprId). value e.0) es)) y
shown signal value n y (expr.Cast a signed) = linked y (whole (value a.0))
shown signal value n y (expr.Matches a patterns) = matched_any n (value a.0) patterns y
shown signal value n y (expr.Reset domain place) = linked y (const_spec 1 (pos 0))

-- an expression without bits takes nothing
abbrev pub drawn : (signal value : ℕ → Value) → ℕ → Value → Expr → Drawing
drawn signal value n y e = if y.form.width == 0 then nothing else shown signal value n y e
