-- Calls of names. Amaranth language guide 0.5, "Shapes" (unsigned, signed), "Values" (Const) and "Operators" (Mux): the parameters have
-- Amaranth's names.
use Rattle.std.specs.Prelude.{ℕ, zero, suc, nat_lt, if◌then◌else◌, false, ℤ, pos, negsuc, List, [], ◌∷◌, ◌+◌, length, Option, Some, None, Result, Ok, Err, codes}
use Rattle.amh_bits.specs.Patterns.{wrap}
use Rattle.shape_rules.specs.Forms.{Form, signed_form, common}
use Rattle.design_ir.specs.declared.expr.Expr.TheVariants.{Const, Mux}
use Rattle.design_ir.specs.Pools.{Pooled}
use Rattle.py_values.specs.declared.val.Hw.{Hw}
use Rattle.py_values.specs.declared.val.Val.{Val}
use Rattle.py_values.specs.declared.val.Val.TheVariants as val
use Rattle.py_heap.specs.Heaps.{Seen}
use Rattle.py_values.specs.Numbers.{number_of}
use Rattle.py_frames.specs.declared.request.Cause.{Cause}
use Rattle.py_frames.specs.declared.request.Cause.TheVariants.{Raised, Width}
use Rattle.amh_things.specs.declared.thing.Thing.{Thing}
use Rattle.amh_things.specs.declared.thing.Thing.TheVariants as thing
use Rattle.amh_things.specs.declared.thing.ThingName.{ThingName}
use Rattle.amh_things.specs.declared.thing.ThingName.TheVariants as name
use Rattle.amh_things.specs.declared.operand.Operand.{Operand}
use Rattle.amh_things.specs.Ends.{Ends}
use Rattle.amh_things.specs.declared.plan.Plan.{Plan}
use Rattle.amh_things.specs.Operands.{constant_form, operand_of, operand_form, operand_constants, operand_id, constants}
use Rattle.amh_things.specs.Members.{counted, numbering}
use Rattle.amh_things.specs.Plans.{ends_of, value_made, valued_made, thing_made, refusal_of, unless}
use Rattle.amh_things.specs.Meant.{number_shape, shape_meant}
use Rattle.amh_things.specs.Arguments.{Arguments, argument, fits}

-- ---- `unsigned(width)`, `signed(width)`

-- so many bits with a sign, 1 at least
abbrev pub signed_shape : Option ℤ → Result Form Cause
signed_shape (Some (pos zero)) = Err Raised
signed_shape (Some (pos (suc n))) = if nat_lt 128 (suc n) then Err Width else Ok (signed_form (suc n))
signed_shape (Some (negsuc n)) = Err Raised
signed_shape None = Err Raised

abbrev pub number_in : Option Val → Option ℤ
number_in None = None
number_in (Some v) = number_of v

abbrev pub shape_made : Ends → Result Form Cause → Result Plan Cause
shape_made ends (Ok f) = Ok (thing_made ends (thing.Shape f))
shape_made ends (Err why) = Err why

abbrev pub width_parameters : List (List ℕ)
width_parameters = codes "width" ∷ []

abbrev pub width_of_call : Arguments → Option ℤ
width_of_call a = if fits width_parameters a then number_in (argument a 0 (codes "width")) else None

-- ---- `Const(value, shape=None)`: the number is wrapped to its shape

-- without a shape it is the least one
abbrev pub shape_given : Seen → List Thing → ℤ → Option Val → Result Form Cause
shape_given s things n None = Ok (constant_form n)
shape_given s things n (Some val.None) = Ok (constant_form n)
shape_given s things n (Some v) = shape_meant s things v

-- of an enumeration's shape it is a value of that
abbrev pub constant_made : Ends → Option Hw → ℤ → Result Form Cause → Result Plan Cause
constant_made ends of n (Ok f) = Ok (valued_made ends of [] (Const (wrap f.signed f.width n) f))
constant_made ends of n (Err why) = Err why

abbrev pub number_constant : Seen → Ends → List Thing → Option ℤ → Option Val → Result Plan Cause
number_constant s ends things None shape = Err Raised
number_constant s ends things (Some n) shape = constant_made ends (numbering things shape) n (shape_given s things n shape)

-- the number is an integer, or that of a member
abbrev pub counted_in : List Thing → Option Val → Option ℤ
counted_in things None = None
counted_in things (Some v) = counted things v

abbrev pub constant_parameters : List (List ℕ)
constant_parameters = codes "value" ∷ codes "shape" ∷ []

abbrev pub constant_called : Seen → Ends → List Thing → Arguments → Result Plan Cause
constant_called s ends things a =
    if fits constant_parameters a then number_constant s ends things (counted_in things (argument a 0 (codes "value"))) (argument a 1 (codes "shape")) else Err Raised

-- ---- `Mux(sel, val1, val0)`

abbrev pub operand_in : Pooled → List Thing → Option Val → Option Operand
operand_in p things None = None
operand_in p things (Some v) = operand_of p things v

abbrev pub mux_made : Ends → Operand → Operand → Operand → Result Plan Cause
mux_made ends s x y =
    unless (refusal_of false (common (operand_form x) (operand_form y)).width)
    (value_made ends (constants (s ∷ x ∷ y ∷ []))
    (Mux (operand_id ends.exprs s) (operand_id (ends.exprs + length (operand_constants s)) x) (operand_id (ends.exprs + length (operand_constants s) + length (operand_constants x)) y)))

abbrev pub mux_where : Ends → Option Operand → Option Operand → Option Operand → Result Plan Cause
mux_where ends (Some s) (Some x) (Some y) = mux_made ends s x y
mux_where ends None x y = Err Raised
mux_where ends (Some s) None y = Err Raised
mux_where ends (Some s) (Some x) None = Err Raised

abbrev pub mux_parameters : List (List ℕ)
mux_parameters = codes "sel" ∷ codes "val1" ∷ codes "val0" ∷ []

abbrev pub mux_called : Pooled → List Thing → Arguments → Result Plan Cause
mux_called p things a =
    if fits mux_parameters a
    then mux_where (ends_of p things) (operand_in p things (argument a 0 (codes "sel"))) (operand_in p things (argument a 1 (codes "val1"))) (operand_in p things (argument a 2 (codes "val0")))
    else Err Raised

-- ---- names

-- what a call of one of these names gives
abbrev pub name_called : Seen → Pooled → List Thing → ThingName → Arguments → Result Plan Cause
name_called s p things name.Const a = constant_called s (ends_of p things) things a
name_called s p things name.C a = constant_called s (ends_of p things) things a
name_called s p things name.Mux a = mux_called p things a
name_called s p things name.Unsigned a = shape_made (ends_of p things) (number_shape (width_of_call a))
name_called s p things name.Signed a = shape_made (ends_of p things) (signed_shape (width_of_call a))
name_called s p things n a = Err Raised
