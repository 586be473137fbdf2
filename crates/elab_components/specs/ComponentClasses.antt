-- Classes over `Component`. (Amaranth standard library reference 0.5, "Interfaces and connections", "Components": the annotations of the class
-- are the members of its signature.)
use Rattle.std.specs.Prelude.{ℕ, ◌==◌, if◌then◌else◌, Bool, true, false, List, [], ◌∷◌, ◌++◌, Option, Some, None, option_map}
use Rattle.py_values.specs.declared.val.Val.{Val}
use Rattle.py_values.specs.declared.val.Val.TheVariants as val
use Rattle.py_values.specs.declared.val.ObjId.{ObjId}
use Rattle.py_frames.specs.declared.request.Cause.TheVariants.{Raised}
use Rattle.elab_store.specs.declared.kept.HdlName.TheVariants as hdl
use Rattle.elab_store.specs.declared.kept.Kept.{Kept}
use Rattle.elab_store.specs.declared.kept.Kept.TheVariants as kept
use Rattle.elab_store.specs.declared.members.Member.{Member}
use Rattle.elab_store.specs.declared.members.MemberForm.TheVariants as form
use Rattle.elab_store.specs.declared.members.NamedMember.{NamedMember}
use Rattle.elab_store.specs.declared.members.ComponentClass.{ComponentClass}
use Rattle.elab_store.specs.Components.{class_at, with_class}
use Rattle.elab_store.specs.Calls.{behind_first}
use Rattle.elab_store.specs.Stores.{Stored, Held, Answered, refused, given, kept_of}
use Rattle.elab_components.specs.Classes.{class_made}

-- ---- bases

-- `Component` itself, or a class over it
abbrev pub base_as : Stored → Option Kept → Val → Option (Option ObjId)
base_as s (Some (kept.Name hdl.Component)) v = Some None
base_as s None (val.Class c) = option_map (λ x. Some c) (class_at s.components.classes c.0)
base_as s k v = None

abbrev pub component_base : Stored → Val → Option (Option ObjId)
component_base s v = base_as s (kept_of s v) v

-- ---- members

abbrev pub member_of : Option Kept → Option Member
member_of (Some (kept.Port is_out shape init)) = Some (record { is_out = is_out; form = form.Port shape init })
member_of (Some (kept.Nested is_out n)) = Some (record { is_out = is_out; form = form.Nested n })
member_of k = None

-- a member before others
abbrev pub member_before : List ℕ → Option Member → Option (List NamedMember) → Option (List NamedMember)
member_before name (Some m) (Some ms) = Some (record { name = name; member = m } ∷ ms)
member_before name m ms = None

-- The name says what the value is: of a keyword behind `=`, which a component has none of; of an annotation behind `:`; and of whatever else
-- the class binds behind `.`.
abbrev pub value_before : List ℕ → Option Member → Option (List NamedMember) → Option (List NamedMember)
value_before [] m ms = ms
value_before (sign ∷ name) m ms = if sign == 58 then member_before name m ms else (if sign == 61 then None else ms)

-- the members by the annotations of a class, in order; none where one is no member or a keyword is given
abbrev pub annotated : Stored → List Val → List (List ℕ) → Option (List NamedMember)
annotated s vs [] = Some []
annotated s [] (n ∷ ns) = None
annotated s (v ∷ vs) (n ∷ ns) = value_before n (member_of (kept_of s v)) (annotated s vs ns)

-- members before others, and none where they are not some
abbrev pub behind_members : Bool → List NamedMember → Option (List NamedMember) → Option (List NamedMember)
behind_members true before ms = option_map (λ rest. before ++ rest) ms
behind_members false before ms = None

-- ---- the class

abbrev pub store_with_class : ObjId → ComponentClass → Stored → Stored
store_with_class c x s = record s { components = with_class c.0 x s.components }

abbrev pub component_made : Val → Option ObjId → Option (List NamedMember) → Held → Answered
component_made (val.Class c) base (Some ms) h =
    given (val.Class c) (record h { store = store_with_class c (record { base = base; members = ms }) h.store })
component_made class base ms h = refused Raised h

-- a class over something else is another family's
abbrev pub class_over : Option (Option ObjId) → Val → Val → List Val → List (List ℕ) → Held → Answered
class_over (Some over) class base vs names h = component_made class over (annotated h.store vs (behind_first names)) h
class_over None class base vs names h = class_made (class ∷ base ∷ vs) names h

abbrev pub class_answered : List Val → List (List ℕ) → Held → Answered
class_answered (class ∷ base ∷ vs) names h = class_over (component_base h.store base) class base vs names h
class_answered vs names h = class_made vs names h
