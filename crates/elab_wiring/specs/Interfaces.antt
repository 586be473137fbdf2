-- The attributes of an interface, and `flipped`. (Amaranth standard library reference 0.5, "Interfaces and connections": an interface has a value or
-- an interface for each member, and `signature`; `flipped` shows an interface turned, and what is turned twice is the interface itself. That a
-- component is turned by its members alone is this project's own rule.)
use Rattle.std.specs.Prelude.{ℕ, not, if◌then◌else◌, List, [], ◌∷◌, slice_get, Option, Some, None, codes}
use Rattle.lists.specs.Texts.{text_eq}
use Rattle.py_values.specs.declared.val.Val.{Val}
use Rattle.py_frames.specs.declared.request.Cause.TheVariants.{Raised}
use Rattle.elab_store.specs.declared.faces.End.{End}
use Rattle.elab_store.specs.declared.faces.Face.{Face}
use Rattle.elab_store.specs.declared.faces.FaceMember.{FaceMember}
use Rattle.elab_store.specs.declared.faces.FaceMember.TheVariants as face
use Rattle.elab_store.specs.declared.kept.Kept.TheVariants as kept
use Rattle.elab_store.specs.Calls.{Called}
use Rattle.elab_store.specs.Faces.{face_member}
use Rattle.elab_store.specs.Stores.{Held, Answered, refused, given, kept_given, face_of}
use Rattle.elab_components.specs.Signatures.{signature_turned}

-- ---- attributes

-- the value that stands for a port
abbrev pub end_given : Option End → Held → Answered
end_given None h = refused Raised h
end_given (Some e) h = given e.val h

abbrev pub member_given : Option FaceMember → Held → Answered
member_given None h = refused Raised h
member_given (Some (face.Port k)) h = end_given (slice_get h.store.components.ends k) h
member_given (Some (face.Nested f)) h = kept_given (kept.Interface f) h

-- that of an interface which is turned is another one, with its members the other way round
abbrev pub signature_given : Face → Held → Answered
signature_given f h = if f.turned then signature_turned (slice_get h.store.components.signatures f.signature) h else kept_given (kept.Signature f.signature) h

abbrev pub interface_attribute : Face → List ℕ → Held → Answered
interface_attribute f name h = if text_eq name (codes "signature") then signature_given f h else member_given (face_member h.store.components.signatures f name) h

-- ---- `flipped(x)`

abbrev pub turned_face : Face → Face
turned_face f = record f { turned = not f.turned }

abbrev pub flipped_given : Option Face → Held → Answered
flipped_given None h = refused Raised h
flipped_given (Some f) h = kept_given (kept.Interface (turned_face f)) h

-- one argument, by its place
abbrev pub flipped_of : List Val → List (List ℕ) → Held → Answered
flipped_of (x ∷ []) [] h = flipped_given (face_of h.store x) h
flipped_of (x ∷ []) (n ∷ ns) h = refused Raised h
flipped_of [] ns h = refused Raised h
flipped_of (x ∷ y ∷ vs) ns h = refused Raised h

abbrev pub flipped_called : Called → Held → Answered
flipped_called c h = flipped_of c.placed c.keywords h
