-- The leaves of a signature in which another stands, turned and not, and the members of its interfaces, on literal members.
use Rattle.std.specs.Prelude.{◌≡◌, refl, ℕ, Bool, true, false, List, [], ◌∷◌, map, length, pos, Option, Some, None, codes}
use Rattle.shape_rules.specs.Forms.{unsigned}
use Rattle.amh_things.specs.declared.thing.Reading.TheVariants as reading
use Rattle.elab_store.specs.declared.faces.Face.{Face}
use Rattle.elab_store.specs.declared.faces.FaceMember.TheVariants as face
use Rattle.elab_store.specs.declared.leaves.Leaf.{Leaf}
use Rattle.elab_store.specs.declared.members.MemberForm.{MemberForm}
use Rattle.elab_store.specs.declared.members.MemberForm.TheVariants as form
use Rattle.elab_store.specs.declared.members.NamedMember.{NamedMember}
use Rattle.elab_store.specs.Components.{turned_members}
use Rattle.elab_store.specs.Leaves.{Signatures, leaves_in, leaves, leaf_count}
use Rattle.elab_store.specs.Faces.{face_member}

abbrev member : List ℕ → Bool → MemberForm → NamedMember
member name is_out x = record { name = name; member = record { is_out = is_out; form = x } }

abbrev bits : ℕ → MemberForm
bits n = form.Port (record { form = unsigned n; reading = reading.Plain }) (pos 0)

-- `Signature({"d": Out(4), "v": In(1)})`, and behind it `Signature({"a": In(first), "e": Out(1), "b": Out(first)})`
abbrev sigs : Signatures
sigs = (member (codes "d") true (bits 4) ∷ member (codes "v") false (bits 1) ∷ [])
    ∷ (member (codes "a") false (form.Nested 0) ∷ member (codes "e") true (bits 1) ∷ member (codes "b") true (form.Nested 0) ∷ [])
    ∷ []

abbrev shown : Leaf → List ℕ × Bool
shown l = (l.path, l.is_out)

-- what stands in `In(first)` is turned, what stands in `Out(first)` is not
nested : map shown (leaves sigs false [] 1) ≡ (codes "a__d", false) ∷ (codes "a__v", true) ∷ (codes "e", true) ∷ (codes "b__d", true) ∷ (codes "b__v", false) ∷ []
unfolding leaves_in
nested = refl

-- and turned, under a name
turned : map shown (leaves sigs true (codes "x") 1)
    ≡ (codes "x__a__d", true) ∷ (codes "x__a__v", false) ∷ (codes "x__e", false) ∷ (codes "x__b__d", false) ∷ (codes "x__b__v", true) ∷ []
unfolding leaves_in
turned = refl

-- the members turned are the signature turned
flipped : leaves (turned_members (member (codes "a") false (form.Nested 0) ∷ member (codes "e") true (bits 1) ∷ []) ∷ []) false [] 0
    ≡ leaves ((member (codes "a") false (form.Nested 0) ∷ member (codes "e") true (bits 1) ∷ []) ∷ []) true [] 0
unfolding leaves_in
flipped = refl

counted : (leaf_count sigs 0 ≡ 2) × ((leaf_count sigs 1 ≡ 5) × (leaf_count sigs 2 ≡ 0))
unfolding leaves_in
counted = (refl, (refl, refl))

-- an interface of the second whose ends begin at 10
abbrev whole : Face
whole = record { signature = 1; turned = false; first = 10 }

members : (face_member sigs whole (codes "a") ≡ Some (face.Nested (record { signature = 0; turned = true; first = 10 })))
    × ((face_member sigs whole (codes "e") ≡ Some (face.Port 12))
    × ((face_member sigs whole (codes "b") ≡ Some (face.Nested (record { signature = 0; turned = false; first = 13 })))
    × (face_member sigs whole (codes "d") ≡ None)))
unfolding leaves_in
members = (refl, (refl, (refl, refl)))

turned_member : face_member sigs (record { signature = 1; turned = true; first = 10 }) (codes "a") ≡ Some (face.Nested (record { signature = 0; turned = false; first = 10 }))
unfolding leaves_in
turned_member = refl
