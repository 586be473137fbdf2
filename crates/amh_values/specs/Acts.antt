-- What the store answers to a request on shapes and values. The table of acts is this project's own; what each gives is in the files of
-- its family: Operators, Attributes, Calls, Indexing, Indices, Enumerations and StructClasses.
use Rattle.std.specs.Prelude.{◌≡◌, ℕ, ◌||◌, Bool, true, false, if◌then◌else◌, List, [], ◌∷◌, ◌++◌, length, drop, is_some, Option, Some, None, Result, Ok, Err}
use Rattle.std.specs.List.{list_any}
use Rattle.design_ir.specs.Pools.{Pooled}
use Rattle.py_heap.specs.Heaps.{Seen}
use Rattle.py_values.specs.declared.val.Val.{Val}
use Rattle.py_values.specs.declared.val.Val.TheVariants as val
use Rattle.py_frames.specs.declared.request.Act.{Act}
use Rattle.py_frames.specs.declared.request.Act.TheVariants as act
use Rattle.py_frames.specs.declared.request.Request.{Request}
use Rattle.py_frames.specs.declared.request.Answer.TheVariants as answer
use Rattle.py_frames.specs.declared.request.Cause.{Cause}
use Rattle.py_frames.specs.declared.request.Cause.TheVariants.{Raised}
use Rattle.amh_things.specs.declared.thing.Thing.{Thing}
use Rattle.amh_things.specs.declared.plan.Plan.{Plan}
use Rattle.amh_values.specs.declared.acts.Acted.{Acted}
use Rattle.amh_values.specs.declared.acts.Acted.TheVariants as acted_as
use Rattle.amh_things.specs.Things.{thing_of, kept_number, eq_target}
use Rattle.amh_things.specs.Plans.{ends_of, limited, grown_by}
use Rattle.value_acts.specs.Operators.{operated}
use Rattle.amh_values.specs.Attributes.{attributed}
use Rattle.amh_values.specs.Calls.{called}
use Rattle.amh_values.specs.Indexing.{any_indexed}
use Rattle.value_acts.specs.Indices.{measured, iterated}
use Rattle.layout_acts.specs.StructClasses.{class_made}

-- ---- what is of the crate above

-- acts that are never of shapes and values
abbrev pub asks_above : Act → Bool
asks_above act.Import = true
asks_above act.InitBase = true
asks_above act.BodyEnd = true
asks_above act.Returned = true
asks_above act.Await = true
asks_above a = false

abbrev pub is_class : Val → Bool
is_class (val.Class o) = true
is_class v = false

abbrev pub is_object : Val → Bool
is_object (val.Object o) = true
is_object v = is_class v

abbrev pub is_kept : List Thing → Val → Bool
is_kept things v = is_some (kept_number (thing_of things v))

-- the attribute of an object or a class, the call of a method `eq`, and the end of a class whose base is a class
abbrev pub is_above : List Thing → Act → List Val → Bool
is_above things act.Attribute (v ∷ vs) = is_object v
is_above things act.CallThing (v ∷ vs) = is_some (eq_target (thing_of things v))
is_above things act.ClassMade (c ∷ base ∷ vs) = is_class base
is_above things a vals = false

-- these, and whatever has a kept thing among its values
abbrev pub is_other : List Thing → Act → List Val → Bool
is_other things a vals = asks_above a || (list_any (is_kept things) vals || is_above things a vals)

-- ---- the table

-- the sign of an operator, or the name of an attribute
abbrev pub first_name : List (List ℕ) → List ℕ
first_name [] = []
first_name (n ∷ ns) = n

-- Assignments to attributes and indices, and blocks, raise: no shape, value, view, layout, array or name has them.
abbrev pub planned : Seen → Pooled → List Thing → Act → List Val → List (List ℕ) → Result Plan Cause
planned s p things act.Operator vals names = operated p things vals (first_name names)
planned s p things act.Attribute vals names = attributed p things vals (first_name names)
planned s p things act.CallThing vals names = called s p things vals (drop 1 names)
planned s p things act.Index vals names = any_indexed s p things vals
planned s p things act.Length vals names = measured p things vals
planned s p things act.Iterate vals names = iterated p things vals
planned s p things act.ClassMade vals names = class_made s (ends_of p things) things vals names
planned s p things a vals names = Err Raised

-- what a request comes to, beside want of memory: none where it is of the crate above
abbrev pub acted : Seen → Pooled → List Thing → Request → Option (Result Plan Cause)
acted s p things r =
    if is_other things r.act r.vals then None
    else Some (limited (length p.exprs) (planned s p things r.act r.vals r.names))

-- The answer, and the pool and the things behind it: of a plan what it makes stands at their ends, and otherwise nothing has changed.
abbrev pub Acts : Option (Result Plan Cause) → Acted → Pooled → Pooled → List Thing → List Thing → Type 0
Acts None a p q things behind = (a ≡ acted_as.Other) × (q ≡ p) × (behind ≡ things)
Acts (Some (Err why)) a p q things behind = (a ≡ acted_as.Answer (answer.Refuse why)) × (q ≡ p) × (behind ≡ things)
Acts (Some (Ok plan)) a p q things behind = (a ≡ acted_as.Answer plan.answer) × (q ≡ grown_by p plan.exprs) × (behind ≡ things ++ plan.things)
