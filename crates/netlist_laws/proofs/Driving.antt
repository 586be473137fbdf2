-- The drawing of each operator drives its inner wires and its result, each bit once.
use Rattle.std.proofs.Common.{◌≡◌, ℕ, ◌+◌, ◌==◌, Bool, true, false, List, [], ◌++◌, refl, sym, ◌∙◌, ap, append_assoc, append-nil, ℤ, pos}
use Rattle.std.specs.List.{flat_map}
use Rattle.std.proofs.lemmas.Bool.{cond_both, eqb-true}
use Rattle.shape_rules.specs.Forms.{Form}
use Rattle.shape_rules.specs.Operators.{work_form}
use Rattle.shape_rules.specs.declared.op.Op.{Op}
use Rattle.shape_rules.specs.declared.op.Op.TheVariants as op
use Rattle.shape_rules.specs.declared.cell.CellKind.{CellKind}
use Rattle.shape_rules.specs.declared.cell.CellKind.TheVariants as kind
use Rattle.rtlil_text.specs.declared.sig.SigPart.{SigPart}
use Rattle.rtlil_text.specs.declared.cell.RtlCell.{RtlCell}
use Rattle.rtlil_text.specs.Sources.{Source, spec_bits}
use Rattle.rtlil_text.specs.Drivers.{output_bits, wire_bits}
use Rattle.netlist_laws.specs.Ids.{part_id}
use Rattle.netlist_laws.specs.Cells.{unary_cell, binary_cell}
use Rattle.netlist_laws.specs.Operands.{wire_part, const_spec, at_width, at_form}
use Rattle.netlist_laws.specs.Operators.{Value, Drawing, nothing, inner_wire, whole, as_form, one_cell, linked, reduced, shifted, unequal, divided, magnitude, operated, operator_drawing}
use Rattle.netlist_laws.specs.Drives.{drawn_bits, DrivesOperator}
use Rattle.netlist_laws.proofs.Places.{spec_bits-wire_part}

-- the inner wires are driven, and then the result
abbrev Drives : Drawing → Value → Type 0
Drives d y = drawn_bits d ≡ flat_map wire_bits d.wires ++ spec_bits (whole y)

drives_drawn : (o : Op) → ((n : ℕ) (g : Form) (a b y : Value) → Drives (operated o n g a b y) y) → DrivesOperator o
unfolding operator_drawing
drives_drawn o law n a b y =
    cond_both (y.form.width == 0) nothing (operated o n (work_form o a.form b.form) a b y) (λ (d : Drawing). Drives d y)
    (λ none. ap (λ (w : ℕ). spec_bits (wire_part y.id 0 w)) (sym (eqb-true y.form.width 0 none)))
    (λ some. law n (work_form o a.form b.form) a b y)

-- ---- lists of bits, in their order

last_alone : (s : List Source) → (s ++ []) ++ [] ≡ s
last_alone s = append-nil (s ++ []) ∙ append-nil s

behind_one : (p s : List Source) → (p ++ (s ++ [])) ++ [] ≡ (p ++ []) ++ s
behind_one p s = append-nil (p ++ (s ++ [])) ∙ ap (λ q. p ++ q) (append-nil s) ∙ sym (ap (λ q. q ++ s) (append-nil p))

behind_two : (p q s : List Source) → (p ++ (q ++ (s ++ []))) ++ [] ≡ (p ++ (q ++ [])) ++ s
behind_two p q s = append-nil (p ++ (q ++ (s ++ []))) ∙ ap (λ t. p ++ (q ++ t)) (append-nil s) ∙ sym (append_assoc p q s) ∙ sym (ap (λ t. (p ++ t) ++ s) (append-nil q))

behind_three : (p q r s : List Source) → (p ++ (q ++ (r ++ (s ++ [])))) ++ [] ≡ (p ++ (q ++ (r ++ []))) ++ s
behind_three p q r s =
    append-nil (p ++ (q ++ (r ++ (s ++ [])))) ∙ ap (λ t. p ++ (q ++ (r ++ t))) (append-nil s) ∙ ap (λ t. p ++ t) (sym (append_assoc q r s)) ∙ sym (append_assoc p (q ++ r) s)
    ∙ sym (ap (λ t. (p ++ (q ++ t)) ++ s) (append-nil r))

-- the bits of an inner wire, as a spec and as a wire
inner_bits_are : (id : List ℕ) (width : ℕ) → spec_bits (wire_part id 0 width) ≡ wire_bits (inner_wire id width)
inner_bits_are id width = spec_bits-wire_part id 0 width

-- ---- one cell, or one link

one_drives : (y : Value) (c : RtlCell) → output_bits c ≡ spec_bits (whole y) → Drives (one_cell c) y
one_drives y c e = ap (λ s. (s ++ []) ++ []) e ∙ last_alone (spec_bits (whole y))

link_drives : (y : Value) (spec : List SigPart) → Drives (linked y spec) y
link_drives y spec = append-nil (spec_bits (whole y))

reduced_drives : (k : CellKind) (empty : ℤ) (n : ℕ) (a y : Value) → output_bits (unary_cell k (part_id n) (as_form a a.form) 1 (whole y)) ≡ spec_bits (whole y) → Drives (reduced k empty n a y) y
reduced_drives k empty n a y e =
    cond_both (a.form.width == 0) (linked y (const_spec 1 empty)) (one_cell (unary_cell k (part_id n) (as_form a a.form) 1 (whole y))) (λ (d : Drawing). Drives d y)
    (λ none. link_drives y (const_spec 1 empty))
    (λ some. one_drives y (unary_cell k (part_id n) (as_form a a.form) 1 (whole y)) e)

shifted_drives : (k : CellKind) (signed : Bool) (n : ℕ) (a b y : Value) → output_bits (binary_cell k (part_id n) (at_form a.id a.form (record { width = y.form.width; signed = signed })) (as_form b b.form) y.form.width (whole y)) ≡ spec_bits (whole y) → Drives (shifted k signed n a b y) y
shifted_drives k signed n a b y e =
    let cell = binary_cell k (part_id n) (at_form a.id a.form (record { width = y.form.width; signed = signed })) (as_form b b.form) y.form.width (whole y) in
    cond_both (b.form.width == 0) (linked y (at_width a.id a.form y.form.width)) (one_cell cell) (λ (d : Drawing). Drives d y)
    (λ none. link_drives y (at_width a.id a.form y.form.width))
    (λ some. one_drives y cell e)

-- ---- several cells

unequal_drives : (n : ℕ) (g : Form) (a b y : Value) → Drives (unequal n g a b y) y
unequal_drives n g a b y =
    ap (λ p. (p ++ (spec_bits (whole y) ++ [])) ++ []) (inner_bits_are (part_id (n + 1)) 1) ∙ behind_one (wire_bits (inner_wire (part_id (n + 1)) 1)) (spec_bits (whole y))

magnitude_drives : (n : ℕ) (g : Form) (a y : Value) → Drives (magnitude n g a y) y
magnitude_drives n g a y =
    let s : List Source = spec_bits (whole y) in
    let test : List Source = wire_bits (inner_wire (part_id (n + 1)) 1) in
    ap (λ p. (p ++ (spec_bits (wire_part (part_id (n + 3)) 0 g.width) ++ (s ++ []))) ++ []) (inner_bits_are (part_id (n + 1)) 1)
    ∙ ap (λ p. (test ++ (p ++ (s ++ []))) ++ []) (inner_bits_are (part_id (n + 3)) g.width)
    ∙ behind_two test (wire_bits (inner_wire (part_id (n + 3)) g.width)) s

divided_drives : (k : CellKind) (n : ℕ) (g : Form) (a b y : Value) → output_bits (binary_cell k (part_id (n + 4)) (as_form a g) (at_form (part_id (n + 3)) g g) g.width (wire_part (part_id (n + 5)) 0 g.width)) ≡ spec_bits (wire_part (part_id (n + 5)) 0 g.width) → Drives (divided k n g a b y) y
divided_drives k n g a b y e =
    let s : List Source = spec_bits (whole y) in
    let out : List Source = output_bits (binary_cell k (part_id (n + 4)) (as_form a g) (at_form (part_id (n + 3)) g g) g.width (wire_part (part_id (n + 5)) 0 g.width)) in
    let test : List Source = wire_bits (inner_wire (part_id (n + 1)) 1) in
    let guarded : List Source = wire_bits (inner_wire (part_id (n + 3)) g.width) in
    ap (λ p. (p ++ (spec_bits (wire_part (part_id (n + 3)) 0 g.width) ++ (out ++ (s ++ [])))) ++ []) (inner_bits_are (part_id (n + 1)) 1)
    ∙ ap (λ p. (test ++ (p ++ (out ++ (s ++ [])))) ++ []) (inner_bits_are (part_id (n + 3)) g.width)
    ∙ ap (λ p. (test ++ (guarded ++ (p ++ (s ++ [])))) ++ []) (e ∙ inner_bits_are (part_id (n + 5)) g.width)
    ∙ behind_three test guarded (wire_bits (inner_wire (part_id (n + 5)) g.width)) s

-- ---- all operators

pub drives_operator : (o : Op) → DrivesOperator o
drives_operator op.Div = drives_drawn op.Div (λ n g a b y. divided_drives kind.DivFloor n g a b y refl)
drives_operator op.Mod = drives_drawn op.Mod (λ n g a b y. divided_drives kind.ModFloor n g a b y refl)
drives_operator op.Abs =
    drives_drawn op.Abs (λ n g a b y. cond_both a.form.signed (magnitude n g a y) (linked y (whole a)) (λ (d : Drawing). Drives d y) (λ sign. magnitude_drives n g a y) (λ sign. link_drives y (whole a)))
drives_operator op.Ne = drives_drawn op.Ne (λ n g a b y. unequal_drives n g a b y)
drives_operator op.Any = drives_drawn op.Any (λ n g a b y. reduced_drives kind.ReduceOr (pos 0) n a y refl)
drives_operator op.All = drives_drawn op.All (λ n g a b y. reduced_drives kind.ReduceAnd (pos 1) n a y refl)
drives_operator op.Parity = drives_drawn op.Parity (λ n g a b y. reduced_drives kind.ReduceXor (pos 0) n a y refl)
drives_operator op.Shl = drives_drawn op.Shl (λ n g a b y. shifted_drives kind.Shl a.form.signed n a b y refl)
drives_operator op.Shr =
    drives_drawn op.Shr (λ n g a b y. cond_both a.form.signed (shifted kind.Sshr true n a b y) (shifted kind.Shr false n a b y) (λ (d : Drawing). Drives d y) (λ sign. shifted_drives kind.Sshr true n a b y refl) (λ sign. shifted_drives kind.Shr false n a b y refl))
drives_operator op.Add = drives_drawn op.Add (λ n g a b y. last_alone (spec_bits (whole y)))
drives_operator op.Sub = drives_drawn op.Sub (λ n g a b y. last_alone (spec_bits (whole y)))
drives_operator op.Neg = drives_drawn op.Neg (λ n g a b y. last_alone (spec_bits (whole y)))
drives_operator op.Mul = drives_drawn op.Mul (λ n g a b y. last_alone (spec_bits (whole y)))
drives_operator op.Not = drives_drawn op.Not (λ n g a b y. last_alone (spec_bits (whole y)))
drives_operator op.And = drives_drawn op.And (λ n g a b y. last_alone (spec_bits (whole y)))
drives_operator op.Or = drives_drawn op.Or (λ n g a b y. last_alone (spec_bits (whole y)))
drives_operator op.Xor = drives_drawn op.Xor (λ n g a b y. last_alone (spec_bits (whole y)))
drives_operator op.Eq = drives_drawn op.Eq (λ n g a b y. last_alone (spec_bits (whole y)))
drives_operator op.Lt = drives_drawn op.Lt (λ n g a b y. last_alone (spec_bits (whole y)))
drives_operator op.Le = drives_drawn op.Le (λ n g a b y. last_alone (spec_bits (whole y)))
drives_operator op.Gt = drives_drawn op.Gt (λ n g a b y. last_alone (spec_bits (whole y)))
drives_operator op.Ge = drives_drawn op.Ge (λ n g a b y. last_alone (spec_bits (whole y)))
