-- Signatures: `Signature(members)`, `sig.flip()`, `sig.create()` and `stream.Signature(shape)`. (Amaranth standard library reference 0.5, "Interfaces
-- and connections", "Signatures", and "Data streams". That `create` takes the name to which its call is assigned, and that other attributes and
-- arguments raise, is this project's own rule.)
use Rattle.std.specs.Prelude.{ℕ, Bool, true, false, if◌then◌else◌, List, [], ◌∷◌, length, slice_get, pos, Option, Some, None, Result, Ok, Err, codes}
use Rattle.lists.specs.Texts.{text_eq}
use Rattle.shape_rules.specs.Forms.{unsigned}
use Rattle.py_values.specs.declared.val.Val.{Val}
use Rattle.py_values.specs.declared.val.Val.TheVariants as val
use Rattle.py_heap.specs.Heaps.{Seen, row_at}
use Rattle.py_frames.specs.declared.request.Cause.{Cause}
use Rattle.py_frames.specs.declared.request.Cause.TheVariants.{Raised, Limit}
use Rattle.amh_things.specs.declared.thing.Reading.TheVariants as reading
use Rattle.elab_store.specs.declared.faces.Face.{Face}
use Rattle.elab_store.specs.declared.kept.Kept.TheVariants as kept
use Rattle.elab_store.specs.declared.kept.SignatureMethod.{SignatureMethod}
use Rattle.elab_store.specs.declared.kept.SignatureMethod.TheVariants as method
use Rattle.elab_store.specs.declared.members.MemberForm.TheVariants as form
use Rattle.elab_store.specs.declared.members.NamedMember.{NamedMember}
use Rattle.elab_store.specs.declared.shapes.Shaped.{Shaped}
use Rattle.elab_store.specs.Calls.{Called}
use Rattle.elab_store.specs.Components.{turned_members}
use Rattle.elab_store.specs.Shapes.{shaped_meant}
use Rattle.elab_store.specs.Stores.{Stored, Held, Answered, refused, kept_given}
use Rattle.elab_components.specs.Signals.{without_arguments, call_name, formed}
use Rattle.elab_components.specs.Faces.{signing, face_made}
use Rattle.elab_components.specs.Interfaces.{members_of_row, are_members}

-- ---- a signature

abbrev pub signature_kept : List NamedMember → Held → Answered
signature_kept ms h = kept_given (kept.Signature (length h.store.components.signatures)) (signing ms h)

abbrev pub signature_from : Option (List NamedMember) → Held → Answered
signature_from None h = refused Raised h
signature_from (Some ms) h = if are_members ms then signature_kept ms h else refused Raised h

-- the members are those of a dict
abbrev pub members_of_dict : Seen → Stored → Val → Option (List NamedMember)
members_of_dict s store (val.Dict o) = members_of_row s store (row_at s o.0)
members_of_dict s store v = None

-- which alone is given, by its place
abbrev pub signature_placed : Seen → List Val → List (List ℕ) → Held → Answered
signature_placed s (v ∷ []) [] h = signature_from (members_of_dict s h.store v) h
signature_placed s vs names h = refused Raised h

abbrev pub signature_called : Seen → Called → Held → Answered
signature_called s c h = signature_placed s c.placed c.keywords h

-- ---- its methods

abbrev pub signature_attribute : ℕ → List ℕ → Held → Answered
signature_attribute n name h =
    if text_eq name (codes "flip") then kept_given (kept.OfSignature n method.Flip) h
    else (if text_eq name (codes "create") then kept_given (kept.OfSignature n method.Create) h else refused Raised h)

-- a signature of the same members, each in the other direction
abbrev pub signature_turned : Option (List NamedMember) → Held → Answered
signature_turned None h = refused Raised h
signature_turned (Some ms) h = signature_kept (turned_members ms) h

abbrev pub face_given : Option Face × Held → Answered
face_given (Some f, h) = kept_given (kept.Interface f) h
face_given (None, h) = refused Limit h

-- an interface whose signals have this name before those on the way to them
abbrev pub interface_created : Option (List NamedMember) → Option (List ℕ) → ℕ → Held → Answered
interface_created (Some ms) (Some name) n h = face_given (face_made n name h)
interface_created None name n h = refused Raised h
interface_created (Some ms) None n h = refused Raised h

abbrev pub method_called : SignatureMethod → List ℕ → ℕ → Held → Answered
method_called method.Flip name n h = signature_turned (slice_get h.store.components.signatures n) h
method_called method.Create name n h = interface_created (slice_get h.store.components.signatures n) (formed (call_name name)) n h

-- none takes arguments
abbrev pub signature_method_called : ℕ → SignatureMethod → Called → Held → Answered
signature_method_called n m c h = without_arguments c.placed c.keywords (method_called m c.name n h) h

-- ---- streams

-- a payload, whether it is valid, and whether it can be taken
abbrev pub stream_members : Shaped → List NamedMember
stream_members x =
    record { name = codes "payload"; member = record { is_out = true; form = form.Port x (pos 0) } }
    ∷ record { name = codes "valid"; member = record { is_out = true; form = form.Port (record { form = unsigned 1; reading = reading.Plain }) (pos 0) } }
    ∷ record { name = codes "ready"; member = record { is_out = false; form = form.Port (record { form = unsigned 1; reading = reading.Plain }) (pos 0) } }
    ∷ []

abbrev pub stream_shaped : Result Shaped Cause → Held → Answered
stream_shaped (Ok x) h = signature_kept (stream_members x) h
stream_shaped (Err why) h = refused why h

-- the shape alone is given, by its place
abbrev pub stream_placed : Seen → List Val → List (List ℕ) → Held → Answered
stream_placed s (v ∷ []) [] h = stream_shaped (shaped_meant s h.store.things v) h
stream_placed s vs names h = refused Raised h

abbrev pub stream_signature_called : Seen → Called → Held → Answered
stream_signature_called s c h = stream_placed s c.placed c.keywords h
