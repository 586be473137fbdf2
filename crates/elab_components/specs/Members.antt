-- Members of interfaces: `In(shape, *, init=None)`, `Out(shape, *, init=None)`, `In(signature)` and `Out(signature)`, which have no init but None.
-- (Amaranth standard library reference 0.5, "Interfaces and connections", "Members".)
use Rattle.std.specs.Prelude.{ℕ, if◌then◌else◌, Bool, true, false, List, [], ◌∷◌, ℤ, pos, Option, Some, None, Result, Ok, Err, codes}
use Rattle.lists.specs.Texts.{text_eq}
use Rattle.py_values.specs.declared.val.Val.{Val}
use Rattle.py_values.specs.declared.val.Val.TheVariants as val
use Rattle.py_heap.specs.Heaps.{Seen}
use Rattle.py_frames.specs.declared.request.Cause.{Cause}
use Rattle.py_frames.specs.declared.request.Cause.TheVariants.{Raised}
use Rattle.amh_things.specs.declared.thing.Thing.{Thing}
use Rattle.amh_things.specs.Members.{counted}
use Rattle.elab_store.specs.declared.shapes.Shaped.{Shaped}
use Rattle.elab_store.specs.declared.kept.Kept.TheVariants as kept
use Rattle.elab_store.specs.Calls.{Called}
use Rattle.elab_store.specs.Shapes.{shaped_meant}
use Rattle.elab_store.specs.Stores.{Held, Answered, refused, kept_given, signature_of}

-- a number, or a member of an enumeration as its number; and 0 for None
abbrev pub init_given : List Thing → Val → Option ℤ
init_given things val.None = Some (pos 0)
init_given things v = counted things v

-- `init` is the only keyword
abbrev pub member_init : List Thing → List (List ℕ) → List Val → Option ℤ
member_init things [] vs = Some (pos 0)
member_init things (n ∷ []) (v ∷ []) = if text_eq n (codes "init") then init_given things v else None
member_init things ns vs = None

-- the number as it was given: the signal of the member has it wrapped to the shape
abbrev pub member_shaped : Bool → ℤ → Result Shaped Cause → Held → Answered
member_shaped is_out n (Ok x) h = kept_given (kept.Port is_out x n) h
member_shaped is_out n (Err why) h = refused why h

-- what raises is told before a shape that is too wide
abbrev pub member_said : Bool → Option ℤ → Result Shaped Cause → Held → Answered
member_said is_out (Some n) shape h = member_shaped is_out n shape h
member_said is_out None shape h = refused Raised h

-- none is given, or None
abbrev pub is_without_init : List (List ℕ) → List Val → Bool
is_without_init [] vs = true
is_without_init (n ∷ []) (val.None ∷ []) = text_eq n (codes "init")
is_without_init ns vs = false

abbrev pub nested_said : Bool → ℕ → Bool → Held → Answered
nested_said is_out n without h = if without then kept_given (kept.Nested is_out n) h else refused Raised h

-- a value that is a signature is no shape
abbrev pub member_meant : Seen → Bool → Option ℕ → Val → List (List ℕ) → List Val → Held → Answered
member_meant s is_out (Some n) v names vals h = nested_said is_out n (is_without_init names vals) h
member_meant s is_out None v names vals h = member_said is_out (member_init h.store.things names vals) (shaped_meant s h.store.things v) h

-- the shape or the signature alone is given by its place
abbrev pub member_placed : Seen → Bool → List Val → List (List ℕ) → List Val → Held → Answered
member_placed s is_out (v ∷ []) names vals h = member_meant s is_out (signature_of h.store v) v names vals h
member_placed s is_out vs names vals h = refused Raised h

abbrev pub member_called : Seen → Bool → Called → Held → Answered
member_called s is_out c h = member_placed s is_out c.placed c.keywords c.keyword_vals h
