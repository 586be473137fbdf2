-- Steps of a walk over signatures.
use Rattle.std.proofs.Common.{◌≡◌, refl, sym, ◌∙◌, ap, subst, ℕ, zero, suc, ◌+◌, ◌<◌, ◌≤◌, ◌==◌, not, Bool, true, false, cond, List, [], ◌∷◌, ◌++◌, length, drop, Option, Some, None, arith}
use Rattle.std.specs.Prelude.{slice_get}
use Rattle.std.proofs.lemmas.Bool.{eq-eqb, eqb-true, eqb-false}
use Rattle.std.proofs.lemmas.List.{append-nil, append_assoc}
use Rattle.py_heap.proofs.ObjectLaws.{drop_at}
use Rattle.elab_store.specs.declared.leaves.Leaf.{Leaf}
use Rattle.elab_store.specs.declared.leaves.Rest.{Rest}
use Rattle.elab_store.specs.declared.members.MemberForm.{MemberForm}
use Rattle.elab_store.specs.declared.members.MemberForm.TheVariants as form
use Rattle.elab_store.specs.declared.members.NamedMember.{NamedMember}
use Rattle.elab_store.specs.Leaves.{Signatures, joined, turned_by, form_leaves, all_leaves, some_members, leaves_in, leaves, leaf_count}
use Rattle.elab_store.specs.LeafWalks.{rest_leaves, walk_leaves, form_steps, all_steps, steps_in, rest_steps, walk_steps}
use Rattle.elab_store.proofs.LeafLaws.{leaves_here, in_length, cut_none}

-- ---- what is left behind the others comes first

pub walk_more : (sigs : Signatures) (walk : List Rest) (r : Rest) → walk_leaves sigs (walk ++ r ∷ []) ≡ rest_leaves sigs r ++ walk_leaves sigs walk
walk_more sigs [] r = sym (append-nil (rest_leaves sigs r))
walk_more sigs (x ∷ walk) r = ap (λ (ls : List Leaf). ls ++ rest_leaves sigs x) (walk_more sigs walk r) ∙ append_assoc (rest_leaves sigs r) (walk_leaves sigs walk) (rest_leaves sigs x)

pub steps_more : (sigs : Signatures) (walk : List Rest) (r : Rest) → walk_steps sigs (walk ++ r ∷ []) ≡ rest_steps sigs r + walk_steps sigs walk
steps_more sigs [] r = omega arith
steps_more sigs (x ∷ walk) r = let more = steps_more sigs walk r in omega (arith, more)

-- ---- a signature that is begun

pub rest_whole : (sigs : Signatures) (r : Rest) → r.next ≡ 0 → rest_leaves sigs r ≡ leaves sigs r.turned r.prefix r.signature
rest_whole sigs r e =
    ap (λ n. all_leaves (leaves_in r.signature sigs) r.turned r.prefix (drop n (some_members (slice_get sigs r.signature)))) e ∙ sym (leaves_here sigs r.turned r.prefix r.signature)

steps_here : (sigs : Signatures) (n : ℕ) → steps_in (suc n) sigs n ≡ all_steps (steps_in n sigs) (some_members (slice_get sigs n))
unfolding steps_in
steps_here sigs n = ap (λ b. cond b (all_steps (steps_in n sigs) (some_members (slice_get sigs n))) (steps_in n sigs n)) (eq-eqb n n refl)

steps_step : (k : ℕ) (sigs : Signatures) (n : ℕ) → (n == k) ≡ false → steps_in (suc k) sigs n ≡ steps_in k sigs n
unfolding steps_in
steps_step k sigs n e = ap (λ b. cond b (all_steps (steps_in k sigs) (some_members (slice_get sigs k))) (steps_in k sigs n)) e

steps_before : (k : ℕ) (sigs : Signatures) (n : ℕ) → n < k → steps_in k sigs n ≡ steps_in (suc n) sigs n
steps_before zero sigs n h = absurd (omega (arith, h))
steps_before (suc k) sigs n h = by_test (n == k) refl (steps_before k sigs n)
  where
    by_test : (b : Bool) → (n == k) ≡ b → (n < k → steps_in k sigs n ≡ steps_in (suc n) sigs n) → steps_in (suc k) sigs n ≡ steps_in (suc n) sigs n
    by_test true e below = ap (λ i. steps_in (suc i) sigs n) (sym (eqb-true n k e))
    by_test false e below = steps_step k sigs n e ∙ below (omega (arith, h, eqb-false n k e))

pub rest_whole_steps : (sigs : Signatures) (k : ℕ) (r : Rest) → r.next ≡ 0 → r.signature < k → rest_steps sigs r ≡ steps_in k sigs r.signature
rest_whole_steps sigs k r e h =
    ap (λ n. all_steps (steps_in r.signature sigs) (drop n (some_members (slice_get sigs r.signature)))) e ∙ sym (steps_before k sigs r.signature h ∙ steps_here sigs r.signature)

-- ---- one member of what is left

pub rest_more : (sigs : Signatures) (r : Rest) (ms : List NamedMember) (m : NamedMember) → slice_get sigs r.signature ≡ Some ms → slice_get ms r.next ≡ Some m
    → rest_leaves sigs r ≡ form_leaves (leaves_in r.signature sigs) (turned_by r.turned m.member.is_out) (joined r.prefix m.name) m.member.form ++ rest_leaves sigs (record r { next = r.next + 1 })
rest_more sigs r ms m at there =
    ap (λ (o : Option (List NamedMember)). all_leaves (leaves_in r.signature sigs) r.turned r.prefix (drop r.next (some_members o))) at
    ∙ ap (all_leaves (leaves_in r.signature sigs) r.turned r.prefix) (drop_at ms r.next m there)
    ∙ ap (λ (o : Option (List NamedMember)). form_leaves (leaves_in r.signature sigs) (turned_by r.turned m.member.is_out) (joined r.prefix m.name) m.member.form ++ all_leaves (leaves_in r.signature sigs) r.turned r.prefix (drop (r.next + 1) (some_members o))) (sym at)

pub rest_more_steps : (sigs : Signatures) (r : Rest) (ms : List NamedMember) (m : NamedMember) → slice_get sigs r.signature ≡ Some ms → slice_get ms r.next ≡ Some m
    → rest_steps sigs r ≡ suc (form_steps (steps_in r.signature sigs) m.member.form + rest_steps sigs (record r { next = r.next + 1 }))
rest_more_steps sigs r ms m at there =
    ap (λ (o : Option (List NamedMember)). all_steps (steps_in r.signature sigs) (drop r.next (some_members o))) at
    ∙ ap (all_steps (steps_in r.signature sigs)) (drop_at ms r.next m there)
    ∙ ap (λ (o : Option (List NamedMember)). suc (form_steps (steps_in r.signature sigs) m.member.form + all_steps (steps_in r.signature sigs) (drop (r.next + 1) (some_members o)))) (sym at)

-- ---- signatures without leaves

no_items : {A : Type 0} (xs : List A) → length xs ≡ 0 → xs ≡ []
no_items [] e = refl
no_items (x ∷ xs) e = absurd (omega (arith, e))

pub none_where : (sigs : Signatures) (t : Bool) (p : List ℕ) (n : ℕ) → leaf_count sigs n ≡ 0 → leaves sigs t p n ≡ []
none_where sigs t p n e = no_items (leaves sigs t p n) (in_length (suc n) sigs t false p [] n ∙ cut_none (length (leaves sigs false [] n)) e)

-- ---- the whole walk

pub walk_begun : (sigs : Signatures) (found : List Leaf) (walk old : List Rest) (r : Rest) (p : List ℕ) → found ≡ [] → old ≡ [] → r.next ≡ 0 → r.prefix ≡ p
    → walk_leaves sigs walk ≡ rest_leaves sigs r ++ walk_leaves sigs old → found ++ walk_leaves sigs walk ≡ leaves sigs r.turned p r.signature
walk_begun sigs found walk old r p none empty first prefix begun =
    ap (λ (ls : List Leaf). ls ++ walk_leaves sigs walk) none ∙ begun ∙ ap (λ (rs : List Rest). rest_leaves sigs r ++ walk_leaves sigs rs) empty ∙ append-nil (rest_leaves sigs r)
    ∙ rest_whole sigs r first ∙ ap (λ (q : List ℕ). leaves sigs r.turned q r.signature) prefix

pub walk_on : (sigs : Signatures) (walk left after : List Rest) (r : Rest) (found more whole : List Leaf) → walk ≡ left ++ r ∷ []
    → more ++ walk_leaves sigs after ≡ found ++ (rest_leaves sigs r ++ walk_leaves sigs left) → found ++ walk_leaves sigs walk ≡ whole → more ++ walk_leaves sigs after ≡ whole
walk_on sigs walk left after r found more whole popped step so_far =
    step ∙ ap (λ (ls : List Leaf). found ++ ls) (sym (ap (λ (rs : List Rest). walk_leaves sigs rs) popped ∙ walk_more sigs left r)) ∙ so_far

pub walk_less : (sigs : Signatures) (walk left after : List Rest) (r : Rest) → walk ≡ left ++ r ∷ [] → walk_steps sigs after < rest_steps sigs r + walk_steps sigs left → walk_steps sigs after < walk_steps sigs walk
walk_less sigs walk left after r popped step = omega (arith, step, ap (λ (rs : List Rest). walk_steps sigs rs) popped, steps_more sigs left r)
