-- From the wire of a result, bit by bit, to the operator that a drawing makes.
use Rattle.std.proofs.Common.{◌≡◌, ℕ, ◌≤◌, Bool, true, false, cond, List, ◌∷◌, ap, subst, arith, ℤ}
use Rattle.std.specs.Prelude.{All}
use Rattle.std.proofs.lemmas.Bool.{ne_eqb}
use Rattle.std.proofs.lemmas.List.Elements.{All-head, All-tail}
use Rattle.shape_rules.specs.Forms.{Form, IsForm}
use Rattle.shape_rules.specs.Operators.{form_of, work_form, integer_of}
use Rattle.shape_rules.specs.Stops.{IsTaken}
use Rattle.shape_rules.specs.declared.op.Op.{Op}
use Rattle.rtlil_text.specs.declared.cell.RtlCell.{RtlCell}
use Rattle.rtlil_text.specs.History.{Wires}
use Rattle.netlist_laws.specs.Operators.{Value, Drawing, nothing, operated, operator_drawing}
use Rattle.netlist_laws.specs.Carried.{IsIn, ObeysCell, Obeys, MakesOperator}
use Rattle.netlist_laws.proofs.Reading.{HasBits, HasSign, has_carried, carries_bits}

-- a signed shape has a bit
pub sign_some : (w : ℕ) (s : Bool) → IsForm w s → s ≡ true → 1 ≤ w
sign_some w false f e = cc
sign_some w true f e = f.0

pub form_sign : (f : Form) → IsForm f.width f.signed → HasSign f
form_sign f i = sign_some f.width f.signed i

-- a result with bits is drawn
pub operator_drawing-some : (o : Op) (n : ℕ) (a b y : Value) → 1 ≤ y.form.width → operator_drawing o n a b y ≡ operated o n (work_form o a.form b.form) a b y
unfolding operator_drawing
operator_drawing-some o n a b y h =
    let d : Drawing = operated o n (work_form o a.form b.form) a b y in
    ap (λ (t : Bool). cond t nothing d) (ne_eqb y.form.width 0 (λ e. omega arith))

-- the same law for a result with bits, of bits
abbrev pub MakesBits : Op → Type 0
MakesBits o =
    (wires : Wires) (n : ℕ) (a b y : Value) (x z : ℤ) → IsForm a.form.width a.form.signed → IsForm b.form.width b.form.signed → IsTaken o a.form b.form → y.form ≡ form_of o a.form b.form
    → IsIn a.form x → IsIn b.form z → HasBits wires a.id a.form.width x → HasBits wires b.id b.form.width z → 1 ≤ y.form.width
    → Obeys wires (operated o n (work_form o a.form b.form) a b y) → HasBits wires y.id y.form.width (integer_of o a.form x b.form z)

pub makes_bits : (o : Op) → MakesBits o → MakesOperator o
makes_bits o law wires n a b y x z p q t e f g c d obeys i h =
    let drawn = subst (Obeys wires) (operator_drawing-some o n a b y (omega arith)) obeys in
    carries_bits wires y (integer_of o a.form x b.form z) (law wires n a b y x z p q t e f g (has_carried wires a x c) (has_carried wires b z d) (omega arith) drawn) i h

-- ---- the first cells of a drawing

pub first_cell : (wires : Wires) (c : RtlCell) (cs : List RtlCell) → All (ObeysCell wires) (c ∷ cs) → ObeysCell wires c
first_cell wires c cs h = All-head (ObeysCell wires) c cs h

pub second_cell : (wires : Wires) (c d : RtlCell) (cs : List RtlCell) → All (ObeysCell wires) (c ∷ d ∷ cs) → ObeysCell wires d
second_cell wires c d cs h = first_cell wires d cs (All-tail (ObeysCell wires) c (d ∷ cs) h)

pub third_cell : (wires : Wires) (c d e : RtlCell) (cs : List RtlCell) → All (ObeysCell wires) (c ∷ d ∷ e ∷ cs) → ObeysCell wires e
third_cell wires c d e cs h = second_cell wires d e cs (All-tail (ObeysCell wires) c (d ∷ e ∷ cs) h)

pub fourth_cell : (wires : Wires) (c d e f : RtlCell) (cs : List RtlCell) → All (ObeysCell wires) (c ∷ d ∷ e ∷ f ∷ cs) → ObeysCell wires f
fourth_cell wires c d e f cs h = third_cell wires d e f cs (All-tail (ObeysCell wires) c (d ∷ e ∷ f ∷ cs) h)
