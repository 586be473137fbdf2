-- What a value of the program stands for where a shape or a value is wanted. Amaranth language guide 0.5, "Shapes" and "Values".
use Rattle.std.specs.Prelude.{◌≡◌, ◌+◌, nat_lt, if◌then◌else◌, ℤ, pos, negsuc, List, length, slice_get, option_map, Option, Some, None, Result, Ok, Err, ⊤}
use Rattle.shape_rules.specs.Forms.{Form, unsigned}
use Rattle.design_ir.specs.declared.ids.ExprId.{ExprId}
use Rattle.design_ir.specs.declared.expr.Expr.{Expr}
use Rattle.design_ir.specs.Pools.{Pooled}
use Rattle.py_values.specs.declared.val.Val.{Val}
use Rattle.py_values.specs.declared.val.Val.TheVariants as val
use Rattle.py_heap.specs.Heaps.{Seen}
use Rattle.py_values.specs.Numbers.{number_of}
use Rattle.py_frames.specs.declared.request.Cause.{Cause}
use Rattle.py_frames.specs.declared.request.Cause.TheVariants.{Raised, Width, Limit}
use Rattle.amh_things.specs.declared.thing.Thing.{Thing}
use Rattle.amh_things.specs.declared.operand.Operand.{Operand}
use Rattle.amh_things.specs.declared.plan.PlanStop.{PlanStop}
use Rattle.amh_things.specs.declared.plan.PlanStop.TheVariants as stop
use Rattle.amh_things.specs.Things.{shown_shape}
use Rattle.amh_things.specs.Operands.{operand_of, operand_form, operand_constants, operand_id}
use Rattle.amh_things.specs.Plans.{grown_by}
use Rattle.amh_things.specs.Ranges.{range_shape}

-- ---- shapes

-- an integer from 0 is so many bits without a sign, at most 128
abbrev pub number_shape : Option ℤ → Result Form Cause
number_shape (Some (pos n)) = if nat_lt 128 n then Err Width else Ok (unsigned n)
number_shape (Some (negsuc n)) = Err Raised
number_shape None = Err Raised

abbrev pub thing_shape : Option Form → Result Form Cause
thing_shape (Some f) = Ok f
thing_shape None = Err Raised

-- the shape that a value of the program is: a shape, a number, or a range
abbrev pub shape_meant : Seen → List Thing → Val → Result Form Cause
shape_meant s things (val.Hw h) = thing_shape (shown_shape (slice_get things h.0))
shape_meant s things (val.Range o) = range_shape s o
shape_meant s things v = number_shape (number_of v)

-- ---- values

-- the shape of the value that a value of the program is
abbrev pub form_meant : Pooled → List Thing → Val → Option Form
form_meant p things v = option_map operand_form (operand_of p things v)

-- the expression of an operand, and what a pool gets before it
abbrev pub operand_meant : Pooled → Option Operand → Result (ExprId × List Expr) Cause
operand_meant p None = Err Raised
operand_meant p (Some x) =
    if nat_lt 262144 (length p.exprs + length (operand_constants x)) then Err Limit
    else Ok (operand_id (length p.exprs) x, operand_constants x)

-- the expression that a value of the program is: a value's own, or a constant that the pool gets
abbrev pub expr_meant : Pooled → List Thing → Val → Result (ExprId × List Expr) Cause
expr_meant p things v = operand_meant p (operand_of p things v)

-- what comes out: the expression, and the pool with what it gets; a refusal changes nothing
abbrev pub Gives : Result (ExprId × List Expr) Cause → Result ExprId PlanStop → Pooled → Pooled → Type 0
Gives (Ok x) (Ok e) p q = (e ≡ x.0) × (q ≡ grown_by p x.1)
Gives (Err why) (Ok e) p q = ⊥
Gives owed (Err (stop.Refused why)) p q = (owed ≡ Err why) × (q ≡ p)
Gives owed (Err stop.NoMemory) p q = ⊤
