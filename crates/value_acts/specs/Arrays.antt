-- `Array(iterable)`, and its elements by an integer or by a value. Amaranth language guide 0.5, "Choosing between values", `Array`: an index
-- past the end takes the last element. That an array has `[i]` alone, and that an empty one raises where it is indexed, is this project's
-- own rule.
use Rattle.std.specs.Prelude.{ℕ, ◌||◌, nat_lt, Bool, true, false, if◌then◌else◌, List, [], ◌∷◌, length, slice_get, Option, Some, None, Result, Ok, Err, codes}
use Rattle.std.specs.List.{list_any}
use Rattle.std.specs.Option.{option_and_then}
use Rattle.shape_rules.specs.Forms.{Form, unsigned, common}
use Rattle.design_ir.specs.declared.ids.ExprId.{ExprId}
use Rattle.design_ir.specs.declared.expr.Expr.TheVariants.{Pick}
use Rattle.design_ir.specs.Pools.{Pooled}
use Rattle.design_ir.specs.Values.{form}
use Rattle.py_heap.specs.Heaps.{Seen}
use Rattle.py_values.specs.declared.val.Val.{Val}
use Rattle.py_values.specs.declared.val.Val.TheVariants as val
use Rattle.py_values.specs.declared.val.ValueStop.{ValueStop}
use Rattle.py_values.specs.declared.val.ValueStop.TheVariants as stop
use Rattle.py_values.specs.Numbers.{number_of}
use Rattle.py_operators.specs.Elements.{elements}
use Rattle.py_builtins.specs.Indices.{item_of}
use Rattle.py_frames.specs.declared.request.Cause.{Cause}
use Rattle.py_frames.specs.declared.request.Cause.TheVariants.{Raised, Width, Limit}
use Rattle.amh_things.specs.declared.thing.Thing.{Thing}
use Rattle.amh_things.specs.declared.thing.Thing.TheVariants as thing
use Rattle.amh_things.specs.declared.operand.Operand.{Operand}
use Rattle.amh_things.specs.Ends.{Ends}
use Rattle.amh_things.specs.declared.plan.Plan.{Plan}
use Rattle.amh_things.specs.Things.{held_expr}
use Rattle.amh_things.specs.Operands.{operand_form, constants, operand_ids}
use Rattle.amh_things.specs.Plans.{ends_of, value_made, thing_made, value_given}
use Rattle.amh_things.specs.Arguments.{Arguments, argument, fits}
use Rattle.value_acts.specs.Joins.{is_no_operand, operands_of}

-- ---- `Array(iterable)`: of a list, a tuple or a range; it keeps the elements as they are then

abbrev pub refused_as : ValueStop → Cause
refused_as stop.Limit = Limit
refused_as s = Raised

abbrev pub array_made : Ends → Result (List Val) ValueStop → Result Plan Cause
array_made ends (Ok vals) = Ok (thing_made ends (thing.Array vals))
array_made ends (Err s) = Err (refused_as s)

abbrev pub array_of : Ends → Seen → Option Val → Result Plan Cause
array_of ends s (Some (val.List o)) = array_made ends (elements s (val.List o))
array_of ends s (Some (val.Tuple o)) = array_made ends (elements s (val.Tuple o))
array_of ends s (Some (val.Range o)) = array_made ends (elements s (val.Range o))
array_of ends s v = Err Raised

abbrev pub array_parameters : List (List ℕ)
array_parameters = codes "iterable" ∷ []

abbrev pub array_called : Seen → Ends → Arguments → Result Plan Cause
array_called s ends a =
    if fits array_parameters a then array_of ends s (argument a 0 (codes "iterable")) else Err Raised

-- ---- the element at a number, counted from the end where it is negative

abbrev pub element_given : Option Val → Result Plan Cause
element_given (Some v) = Ok (value_given v)
element_given None = Err Raised

-- ---- the element that a value chooses

-- the shape of all operands
abbrev pub common_from : Form → List Operand → Form
common_from f [] = f
common_from f (x ∷ xs) = common_from (common f (operand_form x)) xs

abbrev pub common_form : List Operand → Form
common_form [] = unsigned 0
common_form (x ∷ xs) = common_from (operand_form x) xs

abbrev pub is_empty : List Operand → Bool
is_empty [] = true
is_empty (x ∷ xs) = false

-- an element that is no value, an empty array and a signed index raise; then comes the width, and then the count
abbrev pub picked_where : Ends → ExprId → Bool → List Operand → Result Plan Cause
picked_where ends e raises xs =
    if raises || is_empty xs then Err Raised
    else (if nat_lt 128 (common_form xs).width then Err Width
    else (if nat_lt 65536 (length xs) then Err Limit
    else Ok (value_made ends (constants xs) (Pick e (operand_ids ends.exprs xs)))))

abbrev pub picked : Pooled → List Thing → List Val → Option ExprId → Result Plan Cause
picked p things vals None = Err Raised
picked p things vals (Some e) =
    picked_where (ends_of p things) e ((form p e.0).signed || list_any (is_no_operand p things) vals) (operands_of p things vals)

abbrev pub array_indexed : Pooled → List Thing → List Val → List Val → Result Plan Cause
array_indexed p things vals (val.Hw h ∷ []) = picked p things vals (held_expr (slice_get things h.0))
array_indexed p things vals (i ∷ []) = element_given (option_and_then (item_of vals) (number_of i))
array_indexed p things vals parts = Err Raised
