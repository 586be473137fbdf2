-- The members of a class, of which the bases' come first.
use Rattle.std.specs.Prelude.{◌≡◌, refl, ℕ, zero, suc, List, [], ◌++◌, reverse, Option, Some, None}
use Rattle.std.proofs.Common.{sym, ◌∙◌, ap}
use Rattle.std.proofs.lemmas.List.{append-nil, append_assoc, reverse-append}
use Rattle.py_values.specs.declared.val.ObjId.{ObjId}
use Rattle.elab_store.specs.declared.members.NamedMember.{NamedMember}
use Rattle.elab_store.specs.declared.members.ComponentClass.{ComponentClass}
use Rattle.elab_store.specs.Components.{class_at, base_members, all_members, members_in}

-- ---- members of classes

abbrev pub Table : Type 0
Table = List (ℕ × ComponentClass)

-- a class that is kept has its members behind those of its base
pub members_more : (classes : Table) (k n : ℕ) (c : ComponentClass) → class_at classes n ≡ Some c → members_in (suc k) classes n ≡ base_members (members_in k classes) c.base ++ c.members
unfolding members_in
members_more classes k n c e = ap (all_members (members_in k classes)) e

-- one that is not has none
pub members_absent : (classes : Table) (k n : ℕ) → class_at classes n ≡ None → members_in k classes n ≡ []
unfolding members_in
members_absent classes zero n e = refl
members_absent classes (suc k) n e = ap (all_members (members_in k classes)) e

pub members_none : (classes : Table) (next : Option ObjId) → base_members (members_in 0 classes) next ≡ []
unfolding members_in
members_none classes None = refl
members_none classes (Some o) = refl

-- a class that is not kept ends the walk
pub walk_absent : (classes : Table) (k : ℕ) (o : ObjId) (all whole : List NamedMember) → class_at classes o.0 ≡ None → all ++ reverse (base_members (members_in k classes) (Some o)) ≡ whole → all ≡ whole
walk_absent classes k o all whole e so_far =
    sym (append-nil all) ∙ ap (λ ms. all ++ reverse ms) (sym (members_absent classes k o.0 e)) ∙ so_far

-- so does the last of so many classes
pub walk_ended : (classes : Table) (k : ℕ) (next : Option ObjId) (all whole : List NamedMember) → k ≡ 0 → all ++ reverse (base_members (members_in k classes) next) ≡ whole → all ≡ whole
walk_ended classes k next all whole none so_far =
    sym (append-nil all) ∙ ap (λ ms. all ++ reverse ms) (sym (ap (λ j. base_members (members_in j classes) next) none ∙ members_none classes next)) ∙ so_far

-- from a class to its base
pub walk_more : (classes : Table) (j k : ℕ) (o : ObjId) (c : ComponentClass) (all whole : List NamedMember) → j ≡ suc k → class_at classes o.0 ≡ Some c → all ++ reverse (base_members (members_in j classes) (Some o)) ≡ whole → (all ++ reverse c.members) ++ reverse (base_members (members_in k classes) c.base) ≡ whole
walk_more classes j k o c all whole step e so_far =
    append_assoc all (reverse c.members) (reverse (base_members (members_in k classes) c.base))
    ∙ ap (λ ms. all ++ ms) (sym (reverse-append (base_members (members_in k classes) c.base) c.members))
    ∙ ap (λ ms. all ++ reverse ms) (sym (ap (λ i. members_in i classes o.0) step ∙ members_more classes k o.0 c e))
    ∙ so_far
