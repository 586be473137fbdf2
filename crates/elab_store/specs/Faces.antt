-- Interfaces over the signals that were made for them, and their members. (Amaranth standard library reference 0.5, "Interfaces and connections",
-- "Signatures": an interface has its members as attributes. That a signature names earlier ones alone is this project's own rule.)
use Rattle.std.specs.Prelude.{ℕ, ◌+◌, ◌<◌, ◌≤◌, nat_lt, not, Bool, if◌then◌else◌, List, [], ◌∷◌, length, slice_get, Option, Some, None}
use Rattle.lists.specs.Texts.{text_eq}
use Rattle.elab_store.specs.declared.faces.Face.{Face}
use Rattle.elab_store.specs.declared.faces.End.{End}
use Rattle.elab_store.specs.declared.faces.FaceMember.{FaceMember}
use Rattle.elab_store.specs.declared.faces.FaceMember.TheVariants as face
use Rattle.elab_store.specs.declared.members.MemberForm.{MemberForm}
use Rattle.elab_store.specs.declared.members.MemberForm.TheVariants as form
use Rattle.elab_store.specs.declared.members.NamedMember.{NamedMember}
use Rattle.elab_store.specs.Leaves.{Signatures, turned_by, some_members, leaves, form_count}

-- The signature is there, and each of its leaves has its end.
pub record IsFace (sigs : Signatures) (ends : List End) (f : Face) : Type 0 where
  pub there : f.signature < length sigs
  pub few : length (leaves sigs f.turned [] f.signature) ≤ 16384
  pub within : f.first + length (leaves sigs f.turned [] f.signature) ≤ length ends

-- ---- members

-- a member of signature n of this direction, whose leaves are the ends from the first on
abbrev pub member_as : ℕ → Bool → ℕ → MemberForm → Option FaceMember
member_as n is_out first (form.Port shape init) = Some (face.Port first)
member_as n is_out first (form.Nested k) = if nat_lt k n then Some (face.Nested (record { signature = k; turned = not is_out; first = first })) else None

-- the member of this name, whose leaves stand behind those of the members before it
abbrev pub member_named : Signatures → Face → List ℕ → ℕ → List NamedMember → Option FaceMember
member_named sigs f name first [] = None
member_named sigs f name first (m ∷ ms) =
    if text_eq m.name name then member_as f.signature (turned_by f.turned m.member.is_out) first m.member.form
    else member_named sigs f name (first + form_count sigs f.signature m.member.form) ms

abbrev pub face_member : Signatures → Face → List ℕ → Option FaceMember
face_member sigs f name = member_named sigs f name f.first (some_members (slice_get sigs f.signature))

-- all of them, in order, the leaves of the first being the ends from the first on
abbrev pub members_from : Signatures → Face → ℕ → List NamedMember → List (Option FaceMember)
members_from sigs f first [] = []
members_from sigs f first (m ∷ ms) =
    member_as f.signature (turned_by f.turned m.member.is_out) first m.member.form ∷ members_from sigs f (first + form_count sigs f.signature m.member.form) ms

abbrev pub face_members : Signatures → Face → List (Option FaceMember)
face_members sigs f = members_from sigs f f.first (some_members (slice_get sigs f.signature))

-- a port is an end, and an interface has its ends
abbrev pub IsMember : Signatures → List End → FaceMember → Type 0
IsMember sigs ends (face.Port k) = k < length ends
IsMember sigs ends (face.Nested f) = IsFace sigs ends f
