-- What is left of a walk over signatures, for the code.
use Rattle.std.specs.Prelude.{ℕ, zero, suc, ◌+◌, ◌==◌, if◌then◌else◌, List, [], ◌∷◌, ◌++◌, drop, slice_get}
use Rattle.elab_store.specs.declared.leaves.Leaf.{Leaf}
use Rattle.elab_store.specs.declared.leaves.Rest.{Rest}
use Rattle.elab_store.specs.declared.members.MemberForm.{MemberForm}
use Rattle.elab_store.specs.declared.members.MemberForm.TheVariants as form
use Rattle.elab_store.specs.declared.members.NamedMember.{NamedMember}
use Rattle.elab_store.specs.Leaves.{Signatures, all_leaves, some_members, leaves_in}

-- what is left of a signature on the walk
abbrev pub rest_leaves : Signatures → Rest → List Leaf
rest_leaves sigs r = all_leaves (leaves_in r.signature sigs) r.turned r.prefix (drop r.next (some_members (slice_get sigs r.signature)))

-- that which is left of the last one comes first
abbrev pub walk_leaves : Signatures → List Rest → List Leaf
walk_leaves sigs [] = []
walk_leaves sigs (r ∷ rs) = walk_leaves sigs rs ++ rest_leaves sigs r

-- how many steps a member takes, where those of signatures are known
abbrev pub form_steps : (ℕ → ℕ) → MemberForm → ℕ
form_steps known (form.Port shape init) = 0
form_steps known (form.Nested n) = known n

abbrev pub all_steps : (ℕ → ℕ) → List NamedMember → ℕ
all_steps known [] = 1
all_steps known (m ∷ ms) = suc (form_steps known m.member.form + all_steps known ms)

unfoldable pub steps_in : ℕ → Signatures → ℕ → ℕ
steps_in zero sigs n = 1
steps_in (suc k) sigs n = if n == k then all_steps (steps_in k sigs) (some_members (slice_get sigs k)) else steps_in k sigs n

abbrev pub rest_steps : Signatures → Rest → ℕ
rest_steps sigs r = all_steps (steps_in r.signature sigs) (drop r.next (some_members (slice_get sigs r.signature)))

abbrev pub walk_steps : Signatures → List Rest → ℕ
walk_steps sigs [] = 0
walk_steps sigs (r ∷ rs) = walk_steps sigs rs + rest_steps sigs r
