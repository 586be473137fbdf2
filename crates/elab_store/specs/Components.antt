-- What is kept of classes over `Component`, of signatures, and of objects that have ports.
use Rattle.std.specs.Prelude.{ℕ, not, zero, suc, ◌+◌, List, [], ◌∷◌, ◌++◌, map, Option, Some, None, option_map}
use Rattle.std.specs.Ordering.{nat_cmp}
use Rattle.std.specs.BTreeMap.{is_at, insert_entry}
use Rattle.std.specs.Map.{lookup}
use Rattle.py_values.specs.declared.val.ObjId.{ObjId}
use Rattle.design_ir.specs.declared.port.Port.{Port}
use Rattle.elab_store.specs.declared.faces.Face.{Face}
use Rattle.elab_store.specs.declared.faces.End.{End}
use Rattle.elab_store.specs.declared.faces.ComponentObject.{ComponentObject}
use Rattle.elab_store.specs.declared.members.NamedMember.{NamedMember}
use Rattle.elab_store.specs.declared.members.ComponentClass.{ComponentClass}

pub record Components : Type 0 where
  -- each class over `Component`, with its number, in the order of these
  pub classes : List (ℕ × ComponentClass)
  -- the members of each signature, by number
  pub signatures : List (List NamedMember)
  -- the signals that were made for leaves of signatures, in order
  pub ends : List End
  -- the interface and the ports of each object of such a class, with its number, in the order of these
  pub objects : List (ℕ × ComponentObject)
  -- the signature that each object of a class over `Signature` is, with its number, in the order of these
  pub signed : List (ℕ × ℕ)

-- before the body of a program
abbrev pub no_components : Components
no_components = record { classes = []; signatures = []; ends = []; objects = []; signed = [] }

-- ---- classes

abbrev pub class_at : List (ℕ × ComponentClass) → ℕ → Option ComponentClass
class_at classes n = lookup (is_at (nat_cmp n)) classes

abbrev pub with_class : ℕ → ComponentClass → Components → Components
with_class n c cs = record cs { classes = insert_entry nat_cmp cs.classes n c }

-- the members of a class behind those of its base
abbrev pub base_members : (ℕ → List NamedMember) → Option ObjId → List NamedMember
base_members f None = []
base_members f (Some base) = f base.0

abbrev pub all_members : (ℕ → List NamedMember) → Option ComponentClass → List NamedMember
all_members f None = []
all_members f (Some c) = base_members f c.base ++ c.members

-- in so many classes at most, each the base of the last
unfoldable pub members_in : ℕ → List (ℕ × ComponentClass) → ℕ → List NamedMember
members_in zero classes n = []
members_in (suc k) classes n = all_members (members_in k classes) (class_at classes n)

-- The members of a class, those of its bases first. A base was made before its class, so there are no more classes than the number of the
-- first one says.
abbrev pub class_members : List (ℕ × ComponentClass) → ℕ → List NamedMember
class_members classes n = members_in (n + 1) classes n

-- ---- signatures

abbrev pub with_signature : List NamedMember → Components → Components
with_signature ms cs = record cs { signatures = cs.signatures ++ ms ∷ [] }

-- the same members, each in the other direction
abbrev pub turned_member : NamedMember → NamedMember
turned_member m = record m { member = record m.member { is_out = not m.member.is_out } }

abbrev pub turned_members : List NamedMember → List NamedMember
turned_members ms = map turned_member ms

abbrev pub signed_at : List (ℕ × ℕ) → ℕ → Option ℕ
signed_at signed n = lookup (is_at (nat_cmp n)) signed

-- an object that is given a signature again is the new one
abbrev pub with_signed : ℕ → ℕ → Components → Components
with_signed n signature cs = record cs { signed = insert_entry nat_cmp cs.signed n signature }

-- ---- ends and objects

abbrev pub ending : End → Components → Components
ending e cs = record cs { ends = cs.ends ++ e ∷ [] }

abbrev pub object_at : List (ℕ × ComponentObject) → ℕ → Option ComponentObject
object_at objects n = lookup (is_at (nat_cmp n)) objects

abbrev pub ports_at : List (ℕ × ComponentObject) → ℕ → Option (List Port)
ports_at objects n = option_map (λ (o : ComponentObject). o.ports) (object_at objects n)

abbrev pub face_at : List (ℕ × ComponentObject) → ℕ → Option Face
face_at objects n = option_map (λ (o : ComponentObject). o.face) (object_at objects n)

-- an object that is given an interface again has the new one
abbrev pub with_face : ℕ → Face → List Port → Components → Components
with_face n f ports cs = record cs { objects = insert_entry nat_cmp cs.objects n (record { face = f; ports = ports }) }
