-- Operands: what an operator or a call takes for a value. Amaranth language guide 0.5, "Values": a value as it is, and an integer or a
-- boolean as a constant. That a constant has at least one bit is this project's own rule.
use Rattle.std.specs.Prelude.{◌≡◌, ℕ, ◌+◌, ◌<◌, List, [], ◌∷◌, ◌++◌, length, ℤ, slice_get, Option, option_map, Some, None}
use Rattle.amh_bits.specs.Integers.{sign_of}
use Rattle.amh_bits.specs.Patterns.{IsOf}
use Rattle.shape_rules.specs.Forms.{Form, IsForm}
use Rattle.design_ir.specs.declared.ids.ExprId.{ExprId}
use Rattle.design_ir.specs.declared.expr.Expr.{Expr}
use Rattle.design_ir.specs.declared.expr.Expr.TheVariants.{Const}
use Rattle.design_ir.specs.Pools.{Pooled}
use Rattle.design_ir.specs.Values.{form}
use Rattle.py_values.specs.declared.val.Val.{Val}
use Rattle.py_values.specs.declared.val.Val.TheVariants as val
use Rattle.py_values.specs.Numbers.{number_of}
use Rattle.py_builtins.specs.Scalars.{width_of}
use Rattle.amh_things.specs.declared.thing.Member.{Member}
use Rattle.amh_things.specs.declared.thing.Thing.{Thing}
use Rattle.amh_things.specs.declared.operand.Operand.{Operand}
use Rattle.amh_things.specs.declared.operand.Operand.TheVariants.{Held, Number}
use Rattle.amh_things.specs.Things.{held_expr, shown_member}

-- the shape of a number: the least width that has it, at least 1, signed where the number is negative
abbrev pub constant_form : ℤ → Form
constant_form n = record { width = width_of n; signed = sign_of n }

abbrev pub number_operand : ℤ → Operand
number_operand n = Number n (constant_form n)

abbrev pub held_operand : Pooled → ExprId → Operand
held_operand p e = Held e (form p e.0)

-- a member is its number, of the shape of its enumeration
abbrev pub member_operand : Member → Operand
member_operand m = Number m.number m.shape

abbrev pub thing_operand : Option Operand → Option Member → Option Operand
thing_operand (Some x) m = Some x
thing_operand None m = option_map member_operand m

-- what a value of the program is as an operand; a shape, an array, an enumeration, a name, a method and whatever is no number is none
abbrev pub operand_of : Pooled → List Thing → Val → Option Operand
operand_of p things (val.Hw h) = thing_operand (option_map (held_operand p) (held_expr (slice_get things h.0))) (shown_member (slice_get things h.0))
operand_of p things v = option_map number_operand (number_of v)

abbrev pub operand_form : Operand → Form
operand_form (Held e f) = f
operand_form (Number n f) = f

-- ---- the expressions of operands

-- the constant that an operand brings, where it is a number
abbrev pub operand_constants : Operand → List Expr
operand_constants (Held e f) = []
operand_constants (Number n f) = Const n f ∷ []

-- the expression that an operand is, where the next constant gets number k
abbrev pub operand_id : ℕ → Operand → ExprId
operand_id k (Held e f) = e
operand_id k (Number n f) = record { 0 = k }

-- the constants of operands, in order
abbrev pub constants : List Operand → List Expr
constants [] = []
constants (x ∷ xs) = operand_constants x ++ constants xs

-- the expressions that operands are, where the next constant gets number k
abbrev pub operand_ids : ℕ → List Operand → List ExprId
operand_ids k [] = []
operand_ids k (x ∷ xs) = operand_id k x ∷ operand_ids (k + length (operand_constants x)) xs

-- ---- operands of a pool

-- an operand whose shape is the one that it has in the pool, or a number of its shape
abbrev pub IsOperand : Pooled → Operand → Type 0
IsOperand p (Held e f) = (e.0 < length p.exprs) × (f ≡ form p e.0)
IsOperand p (Number n f) = IsForm f.width f.signed × IsOf f.signed f.width n
