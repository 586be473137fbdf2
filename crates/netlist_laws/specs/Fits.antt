-- Drawings that keep the rules of a module.
use Rattle.std.specs.Prelude.{◌≡◌, ◌<◌, ◌≤◌, ℕ, List, length, None, All, Contains}
use Rattle.std.specs.List.{AllByRecursion}
use Rattle.shape_rules.specs.Forms.{IsForm}
use Rattle.shape_rules.specs.Operators.{form_of}
use Rattle.shape_rules.specs.Stops.{IsTaken}
use Rattle.shape_rules.specs.declared.op.Op.{Op}
use Rattle.design_ir.specs.declared.ids.ExprId.{ExprId}
use Rattle.design_ir.specs.declared.signal.Sig.{Sig}
use Rattle.design_ir.specs.declared.expr.Expr.{Expr}
use Rattle.design_ir.specs.Named.{named}
use Rattle.design_ir.specs.Values.{signal_form, form_step}
use Rattle.design_ir.specs.PoolRules.{IsInRange, bad_operand, greatest_width, shape_stop}
use Rattle.rtlil_text.specs.declared.module.RtlWire.{RtlWire}
use Rattle.rtlil_text.specs.declared.module.RtlModule.{RtlModule}
use Rattle.rtlil_text.specs.Rules.{WireFits, CellFits, LinkFits}
use Rattle.netlist_laws.specs.Operators.{Value, Drawing, operator_drawing}
use Rattle.netlist_laws.specs.Expressions.{drawn}

-- a wire of this id and width is among these
pub record HasWire (wires : List RtlWire) (id : List ℕ) (width : ℕ) : Type 0 where
  pub wire : RtlWire
  pub among : Contains wires wire
  pub named : wire.id ≡ id
  pub wide : wire.width ≡ width

-- the value's wire is among these; a value without bits has none
abbrev pub HasValue : List RtlWire → Value → Type 0
HasValue wires v = 1 ≤ v.form.width → HasWire wires v.id v.form.width

pub record DrawingFits (m : RtlModule) (d : Drawing) : Type 0 where
  pub wires : All WireFits d.wires
  pub cells : All (CellFits m) d.cells
  pub links : All (LinkFits m) d.links

-- in a module with the wires of the operands, of the result and of the drawing, the drawing keeps the rules
abbrev pub FitsOperator : Op → Type 0
FitsOperator o =
    (m : RtlModule) (n : ℕ) (a b y : Value) → IsForm a.form.width a.form.signed → IsForm b.form.width b.form.signed → IsTaken o a.form b.form → y.form ≡ form_of o a.form b.form
    → HasValue m.wires a → HasValue m.wires b → HasValue m.wires y → All (Contains m.wires) (operator_drawing o n a b y).wires
    → DrawingFits m (operator_drawing o n a b y)

-- an expression with a shape, and with a wire where it has bits
pub record HasWires (m : RtlModule) (value : ℕ → Value) (e : ExprId) : Type 0 where
  pub shape : IsForm (value e.0).form.width (value e.0).form.signed
  pub wire : HasValue m.wires (value e.0)

-- the same of an expression that a pool may have
abbrev pub FitsExpression : Expr → Type 0
FitsExpression e =
    (m : RtlModule) (signals : List Sig) (signal value : ℕ → Value) (n : ℕ) (y : Value) → ((s : ℕ) → (signal s).form ≡ signal_form signals s) → ((s : ℕ) → s < length signals → HasValue m.wires (signal s))
    → IsInRange signals (λ k. (value k).form) e → shape_stop (bad_operand (λ k. (value k).form) e) (greatest_width signals (λ k. (value k).form) e) ≡ None
    → y.form ≡ form_step signals (λ k. (value k).form) e → AllByRecursion (HasWires m value) (named e) → HasValue m.wires y → All (Contains m.wires) (drawn signal value n y e).wires
    → DrawingFits m (drawn signal value n y e)
