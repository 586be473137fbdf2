-- Wires of expressions that have the bits of their integers, each bit where those of signals that it needs are there.
use Rattle.std.specs.Prelude.{◌≡◌, ◌<◌, ℕ, ◌==◌, List, Some, None, ⊤, ℤ}
use Rattle.std.specs.List.{AllByRecursion}
use Rattle.amh_bits.specs.Patterns.{int_bit}
use Rattle.shape_rules.specs.Forms.{Form, IsForm}
use Rattle.design_ir.specs.declared.ids.ExprId.{ExprId}
use Rattle.design_ir.specs.declared.signal.Sig.{Sig}
use Rattle.design_ir.specs.declared.expr.Expr.{Expr}
use Rattle.design_ir.specs.declared.expr.Expr.TheVariants as expr
use Rattle.design_ir.specs.Named.{named}
use Rattle.design_ir.specs.Values.{signal_form, form_step, value_step}
use Rattle.design_ir.specs.PoolRules.{IsInRange, bad_operand, greatest_width, shape_stop}
use Rattle.design_ir.specs.Targets.{Bit}
use Rattle.design_ir.specs.Needed.{bits_step}
use Rattle.design_ir.specs.Circuits.{at}
use Rattle.rtlil_text.specs.History.{Wires}
use Rattle.netlist_laws.specs.Operators.{Value}
use Rattle.netlist_laws.specs.Carried.{IsIn, Obeys}
use Rattle.netlist_laws.specs.Expressions.{drawn}

-- signals with their numbers and wires, and the expressions before one with their integers, needs and wires
pub record Known : Type 0 where
  pub signals : List Sig
  pub env : List ℤ
  pub num : ℕ → ℤ
  pub needed : ℕ → ℕ → List Bit
  pub signal : ℕ → Value
  pub value : ℕ → Value

-- the shape of an expression, which is that of its wire
abbrev pub known_form : Known → ℕ → Form
known_form c k = (c.value k).form

-- bit k of the value's wire is that of an integer
abbrev pub HasBit : Wires → Value → ℤ → ℕ → Type 0
HasBit wires v x k = wires v.id k ≡ Some (int_bit x k == 1)

abbrev pub SignalHas : Wires → Known → Bit → Type 0
SignalHas wires c b = HasBit wires (c.signal b.sig) (at c.env b.sig) b.index

-- where the wires of signals have the bits that a bit needs, the value's wire has that bit of an integer
abbrev pub Follows : Wires → Known → (ℕ → List Bit) → Value → ℤ → Type 0
Follows wires c bits v x = (k : ℕ) → k < v.form.width → AllByRecursion (SignalHas wires c) (bits k) → HasBit wires v x k

pub record IsMade (wires : Wires) (c : Known) (e : ExprId) : Type 0 where
  pub shape : IsForm (known_form c e.0).width (known_form c e.0).signed
  pub integer : IsIn (known_form c e.0) (c.num e.0)
  pub bits : Follows wires c (c.needed e.0) (c.value e.0) (c.num e.0)

-- a stride is a byte
abbrev pub HasByteStride : Expr → Type 0
HasByteStride (expr.Part a offset width stride) = stride < 256
HasByteStride e = ⊤

-- where the expressions that it names are made, its drawing makes an expression that a pool may have
abbrev pub MakesExpression : Expr → Type 0
MakesExpression e =
    (wires : Wires) (c : Known) (n : ℕ) (y : Value) → ((s : ℕ) → (c.signal s).form ≡ signal_form c.signals s)
    → IsInRange c.signals (known_form c) e → shape_stop (bad_operand (known_form c) e) (greatest_width c.signals (known_form c) e) ≡ None → HasByteStride e
    → y.form ≡ form_step c.signals (known_form c) e → AllByRecursion (IsMade wires c) (named e)
    → Obeys wires (drawn c.signal c.value n y e) → Follows wires c (bits_step (known_form c) c.needed e) y (value_step (known_form c) c.env c.num e)
