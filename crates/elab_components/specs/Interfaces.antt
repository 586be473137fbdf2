-- Interfaces of components: what `super().__init__()` makes of the members of a class, and `super().__init__(signature)` of those of a dict or a
-- signature. (Amaranth standard library reference 0.5, "Interfaces and connections", "Components".)
use Rattle.std.specs.Prelude.{ℕ, ◌&&◌, not, Bool, true, false, if◌then◌else◌, List, [], ◌∷◌, ◌++◌, length, slice_get, Option, Some, None, option_map, option_and_then, codes}
use Rattle.std.specs.List.{list_any}
use Rattle.lists.specs.Texts.{text_eq}
use Rattle.identifiers.specs.Identifiers.{is_identifier}
use Rattle.py_values.specs.declared.val.Val.{Val}
use Rattle.py_values.specs.declared.val.Val.TheVariants as val
use Rattle.py_values.specs.declared.val.ObjId.{ObjId}
use Rattle.py_heap.specs.Heaps.{Seen, text_at, row_at}
use Rattle.py_heap.specs.Objects.{first_in}
use Rattle.py_frames.specs.declared.request.Answer.TheVariants as answer
use Rattle.py_frames.specs.declared.request.Cause.TheVariants.{Raised, Limit}
use Rattle.py_frames.specs.declared.request.NamedVal.{NamedVal}
use Rattle.design_ir.specs.declared.port.Port.{Port}
use Rattle.elab_store.specs.declared.kept.Kept.TheVariants as kept
use Rattle.elab_store.specs.declared.members.NamedMember.{NamedMember}
use Rattle.elab_store.specs.declared.members.Member.{Member}
use Rattle.elab_store.specs.Calls.{first_or, behind_first}
use Rattle.elab_store.specs.declared.faces.Face.{Face}
use Rattle.elab_store.specs.declared.faces.FaceMember.{FaceMember}
use Rattle.elab_store.specs.Components.{class_at, class_members, with_face}
use Rattle.elab_store.specs.Leaves.{leaves}
use Rattle.elab_store.specs.Faces.{face_members}
use Rattle.elab_components.specs.ComponentClasses.{member_of, member_before}
use Rattle.elab_components.specs.Faces.{leaf_ports, signing, face_made, part_val}
use Rattle.elab_store.specs.Stores.{Stored, Held, Answered, refused, next_thing, kept_of, signature_of, store_keeping}
use Rattle.elab_components.specs.Classes.{base_called}

-- ---- which members

abbrev pub named_before : Option (List ℕ) → Option Member → Option (List NamedMember) → Option (List NamedMember)
named_before (Some name) m ms = member_before name m ms
named_before None m ms = None

abbrev pub string_in : Seen → Val → Option (List ℕ)
string_in s (val.Str x) = Some (text_at s x.0)
string_in s v = None

-- those of a dict from names to members, by its keys and their values
abbrev pub members_of_row : Seen → Stored → List Val → Option (List NamedMember)
members_of_row s store [] = Some []
members_of_row s store (k ∷ []) = None
members_of_row s store (k ∷ v ∷ row) = named_before (string_in s k) (member_of (kept_of store v)) (members_of_row s store row)

-- those of a signature, where the value is one
abbrev pub members_of_val : Seen → Stored → Val → Option (List NamedMember)
members_of_val s store (val.Dict o) = members_of_row s store (row_at s o.0)
members_of_val s store v = option_and_then (slice_get store.components.signatures) (signature_of store v)

-- those of the class where nothing is given
abbrev pub members_given : Seen → Stored → ℕ → List Val → Option (List NamedMember)
members_given s store class [] = Some (class_members store.components.classes class)
members_given s store class (v ∷ []) = members_of_val s store v
members_given s store class vs = None

-- ---- their names

abbrev pub signature_name : List ℕ
signature_name = codes "signature"

-- each name is an identifier, and stands not before
abbrev pub are_named : List (List ℕ) → List NamedMember → Bool
are_named before [] = true
are_named before (m ∷ ms) = is_identifier m.name && (not (list_any (text_eq m.name) before) && are_named (before ++ m.name ∷ []) ms)

-- an object has its signature under this name, so no member may have it
abbrev pub are_members : List NamedMember → Bool
are_members ms = are_named (signature_name ∷ []) ms

-- ---- what is bound

-- the names so far, and that of a member with its value
abbrev pub name_bound : List NamedVal → List ℕ → (List NamedVal → Held → Option (List NamedVal) × Held) → Option Val × Held → Option (List NamedVal) × Held
name_bound names name rest (Some v, h) = rest (names ++ record { name = name; val = v } ∷ []) h
name_bound names name rest (None, h) = (None, h)

-- each member's name is bound to its value
abbrev pub names_bound : List NamedVal → List NamedMember → List (Option FaceMember) → Held → Option (List NamedVal) × Held
names_bound names [] parts h = (Some names, h)
names_bound names (m ∷ ms) [] h = (None, h)
names_bound names (m ∷ ms) (p ∷ parts) h = name_bound names m.name (λ more g. names_bound more ms parts g) (part_val p h)

abbrev pub store_with_interface : ObjId → Face → List Port → Stored → Stored
store_with_interface o f ports s = record (store_keeping (kept.Signature f.signature) s) { components = with_face o.0 f ports s.components }

-- all members and the signature are bound
abbrev pub interface_bound : ObjId → Face → List Port → Option (List NamedVal) × Held → Answered
interface_bound o f ports (Some names, h) = record {
  answer = answer.Bind (names ++ record { name = signature_name; val = next_thing h } ∷ []);
  held = record h { store = store_with_interface o f ports h.store };
}
interface_bound o f ports (None, h) = refused Raised h

-- what comes of its signals
abbrev pub interface_of : ObjId → List NamedMember → List Port → Option Face × Held → Answered
interface_of o ms ports (Some f, h) = interface_bound o f ports (names_bound [] ms (face_members h.store.components.signatures f) h)
interface_of o ms ports (None, h) = refused Limit h

-- the ports that are the leaves of a new signature of these members
abbrev pub ports_of : List NamedMember → Held → List Port
ports_of ms h = leaf_ports (length h.pool.signals) (leaves (signing ms h).store.components.signatures false [] (length h.store.components.signatures))

-- A component has a signature of its own. Its ports are the leaves of it, their names those on the way to them.
abbrev pub interface_made : ObjId → List NamedMember → Held → Answered
interface_made o ms h = interface_of o ms (ports_of ms h) (face_made (length h.store.components.signatures) [] (signing ms h))

-- ---- `__init__` of a component

-- what raises is told before a count
abbrev pub interface_given : ObjId → Option (List NamedMember) → Held → Answered
interface_given o None h = refused Raised h
interface_given o (Some ms) h = if are_members ms then interface_made o ms h else refused Raised h

-- nothing is given by keyword
abbrev pub component_called : Seen → ObjId → ℕ → List Val → List (List ℕ) → Held → Answered
component_called s o class args [] h = interface_given o (members_given s h.store class args) h
component_called s o class args (n ∷ ns) h = refused Raised h

-- the number of a class over `Component`
abbrev pub component_class : Stored → Val → Option ℕ
component_class store (val.Class c) = option_map (λ x. c.0) (class_at store.components.classes c.0)
component_class store v = None

-- of an object whose class stands over something else another family tells
abbrev pub init_as : Seen → ObjId → Option ℕ → List Val → List (List ℕ) → Held → Answered
init_as s o (Some class) vals names h = component_called s o class (behind_first vals) names h
init_as s o None vals names h = base_called vals names h

abbrev pub init_of : Seen → Val → List Val → List (List ℕ) → Held → Answered
init_of s (val.Object o) vals names h = init_as s o (component_class h.store (first_in (row_at s o.0))) vals names h
init_of s v vals names h = base_called vals names h

-- the object comes first
abbrev pub init_answered : Seen → List Val → List (List ℕ) → Held → Answered
init_answered s vals names h = init_of s (first_or val.None vals) vals names h
