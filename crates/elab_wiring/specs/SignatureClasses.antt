-- Classes over `Signature`, and their objects, which are signatures. (Amaranth standard library reference 0.5, "Interfaces and connections",
-- "Signatures": a class over `Signature` gives the members to `super().__init__`. That the other attributes of such an object are `flip` and `create`,
-- which give what they give of the signature, is this project's own rule.)
use Rattle.std.specs.Prelude.{ℕ, zero, suc, ◌+◌, Bool, true, false, if◌then◌else◌, List, [], ◌∷◌, length, Option, Some, None}
use Rattle.std.specs.List.{list_any}
use Rattle.py_values.specs.declared.val.Val.{Val}
use Rattle.py_values.specs.declared.val.Val.TheVariants as val
use Rattle.py_values.specs.declared.val.ObjId.{ObjId}
use Rattle.py_values.specs.declared.val.Hw.{Hw}
use Rattle.py_heap.specs.Heaps.{Seen, row_at}
use Rattle.py_frames.specs.declared.request.Answer.TheVariants as answer
use Rattle.py_frames.specs.declared.request.Cause.TheVariants.{Raised}
use Rattle.elab_store.specs.declared.kept.HdlName.TheVariants as hdl
use Rattle.elab_store.specs.declared.kept.Kept.{Kept}
use Rattle.elab_store.specs.declared.kept.Kept.TheVariants as kept
use Rattle.elab_store.specs.declared.members.NamedMember.{NamedMember}
use Rattle.elab_store.specs.Calls.{first_or}
use Rattle.elab_store.specs.Components.{with_signed, signed_at}
use Rattle.elab_store.specs.Stores.{Held, Answered, refused, given, kept_of}
use Rattle.elab_components.specs.Classes.{is_keyword}
use Rattle.elab_components.specs.ComponentClasses.{class_answered}
use Rattle.elab_components.specs.Faces.{signing}
use Rattle.elab_components.specs.Interfaces.{are_members, init_answered}
use Rattle.elab_components.specs.Signatures.{members_of_dict, signature_attribute}

-- ---- classes

abbrev pub is_signature_name : Option Kept → Bool
is_signature_name (Some (kept.Name hdl.Signature)) = true
is_signature_name k = false

-- nothing is given by keyword
abbrev pub signature_class_made : Val → List (List ℕ) → Held → Answered
signature_class_made class names h = if list_any is_keyword names then refused Raised h else given class h

-- a class over something else is another family's
abbrev pub any_class_answered : List Val → List (List ℕ) → Held → Answered
any_class_answered (class ∷ base ∷ vs) names h = if is_signature_name (kept_of h.store base) then signature_class_made class names h else class_answered (class ∷ base ∷ vs) names h
any_class_answered vs names h = class_answered vs names h

-- ---- what a class stands over

-- the thing at the end of the bases, beyond this one
abbrev pub root_by : (ObjId → Option Hw) → Val → Option Hw
root_by f (val.Class base) = f base
root_by f (val.Hw thing) = Some thing
root_by f v = None

-- in so many classes at most, each the base of the last
unfoldable pub root_in : ℕ → Seen → ObjId → Option Hw
root_in zero s class = None
root_in (suc n) s class = root_by (root_in n s) (first_or val.None (row_at s class.0))

-- a base was made before its class, so there are no more classes than the number of the first one says
abbrev pub root_of : Seen → ObjId → Option Hw
root_of s class = root_in (class.0 + 1) s class

abbrev pub class_root : Seen → Val → Option Hw
class_root s (val.Class class) = root_of s class
class_root s v = None

abbrev pub is_signature_root : Held → Option Hw → Bool
is_signature_root h (Some thing) = is_signature_name (kept_of h.store (val.Hw thing))
is_signature_root h None = false

-- ---- objects

-- the object is a new signature of these members; nothing is bound
abbrev pub signed_by : ObjId → List NamedMember → Held → Held
signed_by o ms h = record (signing ms h) { store = record (signing ms h).store { components = with_signed o.0 (length h.store.components.signatures) (signing ms h).store.components } }

abbrev pub signed_given : ObjId → Option (List NamedMember) → Held → Answered
signed_given o None h = refused Raised h
signed_given o (Some ms) h = if are_members ms then record { answer = answer.Bind []; held = signed_by o ms h } else refused Raised h

-- the members are those of a dict, which alone is given, by its place
abbrev pub signature_init : Seen → ObjId → List Val → List (List ℕ) → Held → Answered
signature_init s o (v ∷ []) [] h = signed_given o (members_of_dict s h.store v) h
signature_init s o vs names h = refused Raised h

-- of an object whose class stands over something else another family tells
abbrev pub any_init_answered : Seen → List Val → List (List ℕ) → Held → Answered
any_init_answered s (val.Object o ∷ vs) names h =
    if is_signature_root h (class_root s (first_or val.None (row_at s o.0))) then signature_init s o vs names h else init_answered s (val.Object o ∷ vs) names h
any_init_answered s vs names h = init_answered s vs names h

-- ---- attributes that neither an object nor its class has

abbrev pub signed_attribute : Option ℕ → List ℕ → Held → Answered
signed_attribute (Some n) name h = signature_attribute n name h
signed_attribute None name h = refused Raised h

abbrev pub object_attribute : ObjId → List ℕ → Held → Answered
object_attribute o name h = signed_attribute (signed_at h.store.components.signed o.0) name h
