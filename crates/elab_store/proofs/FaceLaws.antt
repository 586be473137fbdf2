-- Members of interfaces.
use Rattle.std.proofs.Common.{◌≡◌, refl, sym, ◌∙◌, ap, subst, ℕ, suc, ◌+◌, ◌<◌, ◌≤◌, nat_lt, not, Bool, true, false, cond, List, [], ◌∷◌, ◌++◌, length, drop, Option, Some, None, arith}
use Rattle.std.specs.Prelude.{slice_get}
use Rattle.std.proofs.lemmas.Bool.{ltb-true}
use Rattle.std.proofs.lemmas.List.{length-append, append_assoc}
use Rattle.lists.specs.Texts.{text_eq}
use Rattle.py_heap.proofs.ObjectLaws.{drop_at}
use Rattle.elab_store.specs.declared.faces.Face.{Face}
use Rattle.elab_store.specs.declared.faces.End.{End}
use Rattle.elab_store.specs.declared.faces.FaceMember.{FaceMember}
use Rattle.elab_store.specs.declared.faces.FaceMember.TheVariants as face
use Rattle.elab_store.specs.declared.leaves.Leaf.{Leaf}
use Rattle.elab_store.specs.declared.members.MemberForm.{MemberForm}
use Rattle.elab_store.specs.declared.members.MemberForm.TheVariants as form
use Rattle.elab_store.specs.declared.members.NamedMember.{NamedMember}
use Rattle.elab_store.specs.Leaves.{Signatures, turned_by, all_leaves, some_members, leaves_in, leaves, cut, form_count}
use Rattle.elab_store.specs.Faces.{IsFace, IsMember, member_as, member_named, face_member, members_from}
use Rattle.elab_store.proofs.LeafLaws.{leaves_here, leaves_before, leaves_grown, in_length, length_more, cut_few}

-- how many leaves these members have, of a signature behind so many others
abbrev pub all_count : Signatures → Face → List NamedMember → ℕ
all_count sigs f ms = length (all_leaves (leaves_in f.signature sigs) f.turned [] ms)

-- an interface has those of all members
pub total_of : (sigs : Signatures) (f : Face) (ms : List NamedMember) → slice_get sigs f.signature ≡ Some ms → all_count sigs f ms ≡ length (leaves sigs f.turned [] f.signature)
total_of sigs f ms at =
    sym (ap (λ (ls : List Leaf). length ls) (leaves_here sigs f.turned [] f.signature ∙ ap (λ (o : Option (List NamedMember)). all_leaves (leaves_in f.signature sigs) f.turned [] (some_members o)) at))

count_at : (sigs : Signatures) (f : Face) (ms : List NamedMember) (i : ℕ) (m : NamedMember) → slice_get ms i ≡ Some m
    → all_count sigs f (drop i ms) ≡ form_count sigs f.signature m.member.form + all_count sigs f (drop (i + 1) ms)
count_at sigs f ms i m at = ap (all_count sigs f) (drop_at ms i m at) ∙ length_more sigs f.signature f.turned m (drop (i + 1) ms)

-- a member before others has few leaves
pub count_few : (sigs : Signatures) (f : Face) (ms : List NamedMember) (i : ℕ) (m : NamedMember) (first begin : ℕ) → slice_get sigs f.signature ≡ Some ms → slice_get ms i ≡ Some m
    → length (leaves sigs f.turned [] f.signature) ≤ 16384 → begin ≤ first → first + all_count sigs f (drop i ms) ≡ begin + all_count sigs f ms → form_count sigs f.signature m.member.form ≤ 16384
count_few sigs f ms i m first begin at there few le so_far = omega (arith, few, le, so_far, total_of sigs f ms at, count_at sigs f ms i m there)

-- from one member to the next
pub named_more : (sigs : Signatures) (f : Face) (ms : List NamedMember) (i : ℕ) (m : NamedMember) (name : List ℕ) (first : ℕ) (whole : Option FaceMember) → slice_get ms i ≡ Some m → text_eq m.name name ≡ false
    → member_named sigs f name first (drop i ms) ≡ whole → member_named sigs f name (first + form_count sigs f.signature m.member.form) (drop (i + 1) ms) ≡ whole
named_more sigs f ms i m name first whole at apart so_far =
    sym (ap (member_named sigs f name first) (drop_at ms i m at)
    ∙ ap (λ b. cond b (member_as f.signature (turned_by f.turned m.member.is_out) first m.member.form) (member_named sigs f name (first + form_count sigs f.signature m.member.form) (drop (i + 1) ms))) apart)
    ∙ so_far

pub count_more : (sigs : Signatures) (f : Face) (ms : List NamedMember) (i : ℕ) (m : NamedMember) (first begin : ℕ) → slice_get ms i ≡ Some m
    → first + all_count sigs f (drop i ms) ≡ begin + all_count sigs f ms → first + form_count sigs f.signature m.member.form + all_count sigs f (drop (i + 1) ms) ≡ begin + all_count sigs f ms
count_more sigs f ms i m first begin at so_far = omega (arith, so_far, count_at sigs f ms i m at)

-- one member more behind those before it
pub from_more : (sigs : Signatures) (f : Face) (ms : List NamedMember) (i : ℕ) (m : NamedMember) (first : ℕ) (all whole : List (Option FaceMember)) → slice_get ms i ≡ Some m
    → all ++ members_from sigs f first (drop i ms) ≡ whole
    → (all ++ member_as f.signature (turned_by f.turned m.member.is_out) first m.member.form ∷ []) ++ members_from sigs f (first + form_count sigs f.signature m.member.form) (drop (i + 1) ms) ≡ whole
from_more sigs f ms i m first all whole at so_far =
    append_assoc all (member_as f.signature (turned_by f.turned m.member.is_out) first m.member.form ∷ []) (members_from sigs f (first + form_count sigs f.signature m.member.form) (drop (i + 1) ms))
    ∙ ap (λ (ys : List (Option FaceMember)). all ++ ys) (sym (ap (members_from sigs f first) (drop_at ms i m at)))
    ∙ so_far

-- ---- members of sound interfaces stand within the ends

module _ (sigs : Signatures) (ends : List End) (f : Face) where
  nested_sound : (is_out : Bool) (k first : ℕ) (b : Bool) (m : FaceMember) → nat_lt k f.signature ≡ b → f.signature < length sigs → form_count sigs f.signature (form.Nested k) ≤ 16384
      → first + form_count sigs f.signature (form.Nested k) ≤ length ends
      → cond b (Some (face.Nested (record { signature = k; turned = not is_out; first = first }))) None ≡ Some m → IsMember sigs ends m
  nested_sound is_out k first true m e there few within is = subst (IsMember sigs ends) (some_same is) (record { there = omega (arith, there, before); few = omega (arith, few, count); within = omega (arith, within, count) })
    where
      some_same : Some (face.Nested (record { signature = k; turned = not is_out; first = first })) ≡ Some m → face.Nested (record { signature = k; turned = not is_out; first = first }) ≡ m
      some_same e = cc

      before : k < f.signature
      before = ltb-true k f.signature e

      count : length (leaves sigs (not is_out) [] k) ≡ form_count sigs f.signature (form.Nested k)
      count = in_length (suc k) sigs (not is_out) true [] [] k ∙ ap (λ (ls : List Leaf). length ls) (sym (leaves_before f.signature sigs true [] k before))
  nested_sound is_out k first false m e there few within is = absurd (none_some is)
    where
      none_some : None ≡ Some m → ⊥
      none_some e = cc

  as_sound : (is_out : Bool) (first : ℕ) (x : MemberForm) (m : FaceMember) → f.signature < length sigs → form_count sigs f.signature x ≤ 16384 → first + form_count sigs f.signature x ≤ length ends
      → member_as f.signature is_out first x ≡ Some m → IsMember sigs ends m
  as_sound is_out first (form.Port shape init) m there few within is = subst (IsMember sigs ends) (some_same is) (omega (arith, within))
    where
      some_same : Some (face.Port first) ≡ Some m → face.Port first ≡ m
      some_same e = cc
  as_sound is_out first (form.Nested k) m there few within is = nested_sound is_out k first (nat_lt k f.signature) m refl there few within is

  named_sound : (name : List ℕ) (first : ℕ) (ms : List NamedMember) (m : FaceMember) → f.signature < length sigs → all_count sigs f ms ≤ 16384 → first + all_count sigs f ms ≤ length ends
      → member_named sigs f name first ms ≡ Some m → IsMember sigs ends m
  named_sound name first [] m there few within is = absurd (none_some is)
    where
      none_some : None ≡ Some m → ⊥
      none_some e = cc
  named_sound name first (x ∷ ms) m there few within is =
      let more = length_more sigs f.signature f.turned x ms in
      by_test (text_eq x.name name) (named_sound name (first + form_count sigs f.signature x.member.form) ms m there (omega (arith, few, more)) (omega (arith, within, more)))
      (as_sound (turned_by f.turned x.member.is_out) first x.member.form m there (omega (arith, few, more)) (omega (arith, within, more))) is
    where
      by_test : (b : Bool) → (member_named sigs f name (first + form_count sigs f.signature x.member.form) ms ≡ Some m → IsMember sigs ends m)
          → (member_as f.signature (turned_by f.turned x.member.is_out) first x.member.form ≡ Some m → IsMember sigs ends m)
          → cond b (member_as f.signature (turned_by f.turned x.member.is_out) first x.member.form) (member_named sigs f name (first + form_count sigs f.signature x.member.form) ms) ≡ Some m → IsMember sigs ends m
      by_test true behind here is = here is
      by_test false behind here is = behind is

  pub member_sound : (name : List ℕ) (m : FaceMember) → IsFace sigs ends f → face_member sigs f name ≡ Some m → IsMember sigs ends m
  member_sound name m s is =
      let same = ap (λ (ls : List Leaf). length ls) (leaves_here sigs f.turned [] f.signature) in
      named_sound name f.first (some_members (slice_get sigs f.signature)) m s.there (omega (arith, s.few, same)) (omega (arith, s.within, same)) is

-- an interface stays one as signatures and ends come
pub face_stays : (sigs more : Signatures) (ends others : List End) (f : Face) → IsFace sigs ends f → IsFace (sigs ++ more) (ends ++ others) f
face_stays sigs more ends others f s =
    let same = ap (λ (ls : List Leaf). length ls) (leaves_grown sigs more f.turned [] f.signature s.there) in
    record { there = omega (arith, s.there, length-append sigs more); few = omega (arith, s.few, same); within = omega (arith, s.within, same, length-append ends others) }
