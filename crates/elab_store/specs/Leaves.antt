-- The leaves of signatures: the ports of their members, of nested ones too. (Amaranth standard library reference 0.5, "Interfaces and connections",
-- "Signatures": a member `In(signature)` is an interface of that signature turned, and the ports of a nested interface have the names on the way
-- to them, joined by `__`. That a signature names earlier ones alone, and that leaves are counted to 16,385, one more than a design may have
-- signals, is this project's own rule.)
use Rattle.std.specs.Prelude.{◌≡◌, ℕ, zero, suc, ◌+◌, ◌==◌, nat_le, not, Bool, true, false, if◌then◌else◌, List, [], ◌∷◌, ◌++◌, length, slice_get, Option, Some, None, option_map, codes}
use Rattle.elab_store.specs.declared.leaves.Leaf.{Leaf}
use Rattle.elab_store.specs.declared.members.MemberForm.{MemberForm}
use Rattle.elab_store.specs.declared.members.MemberForm.TheVariants as form
use Rattle.elab_store.specs.declared.members.NamedMember.{NamedMember}

-- the members of each signature, by its number
abbrev pub Signatures : Type 0
Signatures = List (List NamedMember)

-- ---- names and directions

abbrev pub joined : List ℕ → List ℕ → List ℕ
joined [] name = name
joined (b ∷ bs) name = (b ∷ bs) ++ (codes "__" ++ name)

-- a direction, turned or not
abbrev pub turned_by : Bool → Bool → Bool
turned_by true is_out = not is_out
turned_by false is_out = is_out

-- ---- leaves

-- those of a member of this direction and path, where those of signatures are known
abbrev pub form_leaves : (Bool → List ℕ → ℕ → List Leaf) → Bool → List ℕ → MemberForm → List Leaf
form_leaves known is_out path (form.Port shape init) = record { path = path; is_out = is_out; shape = shape; init = init } ∷ []
form_leaves known is_out path (form.Nested n) = known (not is_out) path n

abbrev pub member_leaves : (Bool → List ℕ → ℕ → List Leaf) → Bool → List ℕ → NamedMember → List Leaf
member_leaves known turned prefix m = form_leaves known (turned_by turned m.member.is_out) (joined prefix m.name) m.member.form

-- depth first, in order of members
abbrev pub all_leaves : (Bool → List ℕ → ℕ → List Leaf) → Bool → List ℕ → List NamedMember → List Leaf
all_leaves known turned prefix [] = []
all_leaves known turned prefix (m ∷ ms) = member_leaves known turned prefix m ++ all_leaves known turned prefix ms

abbrev pub some_members : Option (List NamedMember) → List NamedMember
some_members None = []
some_members (Some ms) = ms

-- those of a signature among the first so many, turned or not, under a prefix
unfoldable pub leaves_in : ℕ → Signatures → Bool → List ℕ → ℕ → List Leaf
leaves_in zero sigs turned prefix n = []
leaves_in (suc k) sigs turned prefix n =
    if n == k then all_leaves (leaves_in k sigs) turned prefix (some_members (slice_get sigs k)) else leaves_in k sigs turned prefix n

-- all signatures that one names stand before it
abbrev pub leaves : Signatures → Bool → List ℕ → ℕ → List Leaf
leaves sigs turned prefix n = leaves_in (suc n) sigs turned prefix n

-- ---- how many

abbrev pub cut : ℕ → ℕ
cut n = if nat_le n 16384 then n else 16385

abbrev pub leaf_count : Signatures → ℕ → ℕ
leaf_count sigs n = cut (length (leaves sigs false [] n))

-- the leaves of a member of a signature that stands behind so many others
abbrev pub form_count : Signatures → ℕ → MemberForm → ℕ
form_count sigs n f = length (form_leaves (leaves_in n sigs) false [] f)

-- what is kept of the counts says of each signature how many leaves it has
abbrev pub AreCounts : Signatures → List ℕ → Type 0
AreCounts sigs counts = (n : ℕ) → slice_get counts n ≡ option_map (λ (ms : List NamedMember). leaf_count sigs n) (slice_get sigs n)
