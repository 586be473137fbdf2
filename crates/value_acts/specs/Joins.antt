-- `Cat(*parts)`: values one above the other. Amaranth language guide 0.5, "Operators", concatenation. A part is a value, an integer, or a
-- list, tuple or range of these. That all parts together are at most 65,536, as the items of one list, is this project's own rule.
use Rattle.std.specs.Prelude.{ℕ, ◌+◌, ◌||◌, nat_lt, Bool, true, false, if◌then◌else◌, List, [], ◌∷◌, length, is_none, Result, Ok, Err}
use Rattle.std.specs.List.{flat_map, filter_map, list_any}
use Rattle.design_ir.specs.declared.expr.Expr.TheVariants.{Cat}
use Rattle.design_ir.specs.Pools.{Pooled}
use Rattle.py_heap.specs.Heaps.{Seen}
use Rattle.py_values.specs.declared.val.Val.{Val}
use Rattle.py_values.specs.declared.val.Val.TheVariants as val
use Rattle.py_values.specs.declared.val.ValueStop.{ValueStop}
use Rattle.py_operators.specs.Elements.{elements}
use Rattle.py_frames.specs.declared.request.Cause.{Cause}
use Rattle.py_frames.specs.declared.request.Cause.TheVariants.{Raised, Width, Limit}
use Rattle.amh_things.specs.declared.thing.Thing.{Thing}
use Rattle.amh_things.specs.declared.operand.Operand.{Operand}
use Rattle.amh_things.specs.Ends.{Ends}
use Rattle.amh_things.specs.declared.plan.Plan.{Plan}
use Rattle.amh_things.specs.Operands.{operand_of, operand_form, constants, operand_ids}
use Rattle.amh_things.specs.Plans.{ends_of, value_made}
use Rattle.amh_things.specs.Arguments.{Arguments, is_some_key}

-- ---- operands

abbrev pub is_no_operand : Pooled → List Thing → Val → Bool
is_no_operand p things v = is_none (operand_of p things v)

-- those of some values that are operands
abbrev pub operands_of : Pooled → List Thing → List Val → List Operand
operands_of p things vals = filter_map (operand_of p things) vals

abbrev pub bits_of_all : List Operand → ℕ
bits_of_all [] = 0
bits_of_all (x ∷ xs) = (operand_form x).width + bits_of_all xs

-- ---- parts

-- the values that a list, tuple or range stands for; a range that is too long stands for none
abbrev pub listed : Result (List Val) ValueStop → List Val
listed (Ok vals) = vals
listed (Err stop) = []

abbrev pub part_values : Seen → Val → List Val
part_values s (val.List o) = listed (elements s (val.List o))
part_values s (val.Tuple o) = listed (elements s (val.Tuple o))
part_values s (val.Range o) = listed (elements s (val.Range o))
part_values s v = v ∷ []

abbrev pub is_refused : Result (List Val) ValueStop → Bool
is_refused (Ok vals) = false
is_refused (Err stop) = true

-- a range that has more than 65,536 elements
abbrev pub is_long : Seen → Val → Bool
is_long s (val.Range o) = is_refused (elements s (val.Range o))
is_long s v = false

abbrev pub joined : Ends → List Operand → Plan
joined ends xs = value_made ends (constants xs) (Cat (operand_ids ends.exprs xs))

-- what raises comes first, then the width, and then the count
abbrev pub joined_where : Ends → Bool → Bool → List Operand → Result Plan Cause
joined_where ends raises long xs =
    if raises then Err Raised
    else (if nat_lt 128 (bits_of_all xs) then Err Width
    else (if long || nat_lt 65536 (length xs) then Err Limit else Ok (joined ends xs)))

abbrev pub all_joined : Ends → Pooled → List Thing → Bool → List Val → Result Plan Cause
all_joined ends p things long vals = joined_where ends (list_any (is_no_operand p things) vals) long (operands_of p things vals)

-- it takes no keyword
abbrev pub cat_called : Seen → Pooled → List Thing → Arguments → Result Plan Cause
cat_called s p things a =
    if is_some_key a.keys then Err Raised
    else all_joined (ends_of p things) p things (list_any (is_long s) a.positional) (flat_map (part_values s) a.positional)
