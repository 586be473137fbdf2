-- Leaves of signatures: they are those among the first so many, they stay as signatures come, and their number is the same under any prefix.
use Rattle.std.proofs.Common.{◌≡◌, ◌⊎◌, inl, inr, refl, sym, ◌∙◌, ap, subst, ℕ, zero, suc, ◌+◌, ◌-◌, ◌<◌, ◌≤◌, ◌==◌, nat_le, not, Bool, true, false, cond, List, [], ◌∷◌, ◌++◌, length, drop, Option, Some, None, arith}
use Rattle.std.specs.Prelude.{slice_get, option_map}
use Rattle.std.proofs.lemmas.Bool.{eq-eqb, ne_eqb, eqb-true, eqb-false, le-leb, lt-leb, leb-true, leb-false, true≢false}
use Rattle.std.proofs.lemmas.List.{append-nil, append_assoc, length-append}
use Rattle.std.proofs.lemmas.Option.{slice_get_past}
use Rattle.py_heap.proofs.ObjectLaws.{drop_at}
use Rattle.elab_store.specs.declared.leaves.Leaf.{Leaf}
use Rattle.elab_store.specs.declared.leaves.Rest.{Rest}
use Rattle.elab_store.specs.declared.members.MemberForm.{MemberForm}
use Rattle.elab_store.specs.declared.members.MemberForm.TheVariants as form
use Rattle.elab_store.specs.declared.members.NamedMember.{NamedMember}
use Rattle.elab_store.specs.Leaves.{Signatures, joined, turned_by, form_leaves, all_leaves, some_members, leaves_in, leaves, cut, leaf_count, form_count, AreCounts}
use Rattle.elab_store.specs.LeafWalks.{rest_leaves, walk_leaves, form_steps, all_steps, steps_in, rest_steps, walk_steps}

-- ---- tests

same_number : (n : ℕ) → (n == n) ≡ true
same_number n = eq-eqb n n refl

less_apart : (n k : ℕ) → n < k → (n == k) ≡ false
less_apart n k h = ne_eqb n k (λ e. absurd (omega (arith, h, e)))

more_apart : (n k : ℕ) → k < n → (n == k) ≡ false
more_apart n k h = ne_eqb n k (λ e. absurd (omega (arith, h, e)))

-- ---- leaves of members, where those of signatures are the same

abbrev pub Known : Type 0
Known = Bool → List ℕ → ℕ → List Leaf

form_same : (f g : Known) → ((t : Bool) (p : List ℕ) (n : ℕ) → f t p n ≡ g t p n) → (is_out : Bool) (path : List ℕ) (x : MemberForm) → form_leaves f is_out path x ≡ form_leaves g is_out path x
form_same f g e is_out path (form.Port shape init) = refl
form_same f g e is_out path (form.Nested n) = e (not is_out) path n

all_same : (f g : Known) → ((t : Bool) (p : List ℕ) (n : ℕ) → f t p n ≡ g t p n) → (t : Bool) (p : List ℕ) (ms : List NamedMember) → all_leaves f t p ms ≡ all_leaves g t p ms
all_same f g e t p [] = refl
all_same f g e t p (m ∷ ms) =
    ap (λ (ls : List Leaf). ls ++ all_leaves f t p ms) (form_same f g e (turned_by t m.member.is_out) (joined p m.name) m.member.form)
    ∙ ap (λ (ls : List Leaf). form_leaves g (turned_by t m.member.is_out) (joined p m.name) m.member.form ++ ls) (all_same f g e t p ms)

-- ---- among the first so many

pub leaves_here : (sigs : Signatures) (t : Bool) (p : List ℕ) (n : ℕ) → leaves sigs t p n ≡ all_leaves (leaves_in n sigs) t p (some_members (slice_get sigs n))
unfolding leaves_in
leaves_here sigs t p n = ap (λ b. cond b (all_leaves (leaves_in n sigs) t p (some_members (slice_get sigs n))) (leaves_in n sigs t p n)) (same_number n)

in_step : (k : ℕ) (sigs : Signatures) (t : Bool) (p : List ℕ) (n : ℕ) → (n == k) ≡ false → leaves_in (suc k) sigs t p n ≡ leaves_in k sigs t p n
unfolding leaves_in
in_step k sigs t p n e = ap (λ b. cond b (all_leaves (leaves_in k sigs) t p (some_members (slice_get sigs k))) (leaves_in k sigs t p n)) e

-- an earlier one has all its leaves
pub leaves_before : (k : ℕ) (sigs : Signatures) (t : Bool) (p : List ℕ) (n : ℕ) → n < k → leaves_in k sigs t p n ≡ leaves sigs t p n
leaves_before zero sigs t p n h = absurd (omega (arith, h))
leaves_before (suc k) sigs t p n h = by_test (n == k) refl (leaves_before k sigs t p n)
  where
    by_test : (b : Bool) → (n == k) ≡ b → (n < k → leaves_in k sigs t p n ≡ leaves sigs t p n) → leaves_in (suc k) sigs t p n ≡ leaves sigs t p n
    by_test true e below = ap (λ i. leaves_in (suc i) sigs t p n) (sym (eqb-true n k e))
    by_test false e below = in_step k sigs t p n e ∙ below (omega (arith, h, eqb-false n k e))

-- one that is not has none
pub leaves_behind : (k : ℕ) (sigs : Signatures) (t : Bool) (p : List ℕ) (n : ℕ) → k ≤ n → leaves_in k sigs t p n ≡ []
unfolding leaves_in
leaves_behind zero sigs t p n h = refl
leaves_behind (suc k) sigs t p n h = in_step k sigs t p n (more_apart n k (omega (arith, h))) ∙ leaves_behind k sigs t p n (omega (arith, h))

-- ---- as signatures come

get_grown : (sigs more : Signatures) (n : ℕ) → n < length sigs → slice_get (sigs ++ more) n ≡ slice_get sigs n
get_grown [] more n h = absurd (omega (arith, h))
get_grown (ms ∷ sigs) more zero h = refl
get_grown (ms ∷ sigs) more (suc n) h = get_grown sigs more n (omega (arith, h))

get_end : (sigs : Signatures) (ms : List NamedMember) → slice_get (sigs ++ ms ∷ []) (length sigs) ≡ Some ms
get_end [] ms = refl
get_end (x ∷ sigs) ms = get_end sigs ms

pub in_grown : (k : ℕ) (sigs more : Signatures) → k ≤ length sigs → (t : Bool) (p : List ℕ) (n : ℕ) → leaves_in k (sigs ++ more) t p n ≡ leaves_in k sigs t p n
unfolding leaves_in
in_grown zero sigs more h t p n = refl
in_grown (suc k) sigs more h t p n =
    let below = in_grown k sigs more (omega (arith, h)) in
    let here : all_leaves (leaves_in k (sigs ++ more)) t p (some_members (slice_get (sigs ++ more) k)) ≡ all_leaves (leaves_in k sigs) t p (some_members (slice_get sigs k)) =
    ap (λ (o : Option (List NamedMember)). all_leaves (leaves_in k (sigs ++ more)) t p (some_members o)) (get_grown sigs more k (omega (arith, h)))
    ∙ all_same (leaves_in k (sigs ++ more)) (leaves_in k sigs) below t p (some_members (slice_get sigs k)) in
    ap (λ (ls : List Leaf). cond (n == k) ls (leaves_in k (sigs ++ more) t p n)) here
    ∙ ap (λ (ls : List Leaf). cond (n == k) (all_leaves (leaves_in k sigs) t p (some_members (slice_get sigs k))) ls) (below t p n)

-- the leaves of a signature stay
pub leaves_grown : (sigs more : Signatures) (t : Bool) (p : List ℕ) (n : ℕ) → n < length sigs → leaves (sigs ++ more) t p n ≡ leaves sigs t p n
leaves_grown sigs more t p n h = in_grown (suc n) sigs more (omega (arith, h)) t p n

-- those of one that comes are those of its members
pub leaves_new : (sigs : Signatures) (ms : List NamedMember) (t : Bool) (p : List ℕ) → leaves (sigs ++ ms ∷ []) t p (length sigs) ≡ all_leaves (leaves_in (length sigs) sigs) t p ms
leaves_new sigs ms t p =
    leaves_here (sigs ++ ms ∷ []) t p (length sigs)
    ∙ ap (λ (o : Option (List NamedMember)). all_leaves (leaves_in (length sigs) (sigs ++ ms ∷ [])) t p (some_members o)) (get_end sigs ms)
    ∙ all_same (leaves_in (length sigs) (sigs ++ ms ∷ [])) (leaves_in (length sigs) sigs) (in_grown (length sigs) sigs (ms ∷ []) (omega arith)) t p ms

-- ---- how many

abbrev SameLength : Known → Type 0
SameLength f = (t u : Bool) (p q : List ℕ) (n : ℕ) → length (f t p n) ≡ length (f u q n)

form_length : (f : Known) → SameLength f → (t u : Bool) (p q : List ℕ) (x : MemberForm) → length (form_leaves f t p x) ≡ length (form_leaves f u q x)
form_length f e t u p q (form.Port shape init) = refl
form_length f e t u p q (form.Nested n) = e (not t) (not u) p q n

all_length : (f : Known) → SameLength f → (t u : Bool) (p q : List ℕ) (ms : List NamedMember) → length (all_leaves f t p ms) ≡ length (all_leaves f u q ms)
all_length f e t u p q [] = refl
all_length f e t u p q (m ∷ ms) =
    let here = form_length f e (turned_by t m.member.is_out) (turned_by u m.member.is_out) (joined p m.name) (joined q m.name) m.member.form in
    let rest = all_length f e t u p q ms in
    omega (
      arith,
      here,
      rest,
      length-append (form_leaves f (turned_by t m.member.is_out) (joined p m.name) m.member.form) (all_leaves f t p ms),
      length-append (form_leaves f (turned_by u m.member.is_out) (joined q m.name) m.member.form) (all_leaves f u q ms),
    )

pub in_length : (k : ℕ) (sigs : Signatures) → SameLength (leaves_in k sigs)
unfolding leaves_in
in_length zero sigs t u p q n = refl
in_length (suc k) sigs t u p q n = by_test (n == k) _ _ _ _ (all_length (leaves_in k sigs) (in_length k sigs) t u p q (some_members (slice_get sigs k))) (in_length k sigs t u p q n)
  where
    by_test : (b : Bool) (a c d e : List Leaf) → length a ≡ length c → length d ≡ length e → length (cond b a d) ≡ length (cond b c e)
    by_test true a c d e h g = h
    by_test false a c d e h g = g

-- ---- counts that are cut

by_cut : (P : ℕ → Type 0) (n : ℕ) → (n ≤ 16384 → P n) → (16384 < n → P 16385) → P (cut n)
by_cut P n h g = by_test (nat_le n 16384) refl
  where
    by_test : (b : Bool) → nat_le n 16384 ≡ b → P (cond b n 16385)
    by_test true e = h (leb-true n 16384 e)
    by_test false e = g (leb-false n 16384 e)

pub cut_few : (n : ℕ) → n ≤ 16384 → cut n ≡ n
cut_few n h = by_cut (λ m. m ≡ n) n (λ k. refl) (λ k. absurd (omega (arith, h, k)))

pub cut_many : (n : ℕ) → 16384 < n → cut n ≡ 16385
cut_many n h = by_cut (λ m. m ≡ 16385) n (λ k. absurd (omega (arith, h, k))) (λ k. refl)

pub cut_most : (n : ℕ) → cut n ≤ 16385
cut_most n = by_cut (λ m. m ≤ 16385) n (λ k. omega (arith, k)) (λ k. omega arith)

pub cut_twice : (n : ℕ) → cut (cut n) ≡ cut n
cut_twice n = by_cut (λ m. cut m ≡ m) n (λ k. cut_few n k) (λ k. refl)

pub cut_left : (a b : ℕ) → cut (cut a + b) ≡ cut (a + b)
cut_left a b = by_cut (λ m. cut (m + b) ≡ cut (a + b)) a (λ k. refl) (λ k. cut_many (16385 + b) (omega arith) ∙ sym (cut_many (a + b) (omega (arith, k))))

pub cut_right : (a b : ℕ) → cut (a + cut b) ≡ cut (a + b)
cut_right a b = by_cut (λ m. cut (a + m) ≡ cut (a + b)) b (λ k. refl) (λ k. cut_many (a + 16385) (omega arith) ∙ sym (cut_many (a + b) (omega (arith, k))))

-- no leaf where the cut count is none
pub cut_none : (n : ℕ) → cut n ≡ 0 → n ≡ 0
cut_none n = by_cut (λ m. m ≡ 0 → n ≡ 0) n (λ k e. e) (λ k e. absurd (omega (arith, e)))

-- ---- counts of signatures

pub count_absent : (sigs : Signatures) (n : ℕ) → slice_get sigs n ≡ None → leaf_count sigs n ≡ 0
count_absent sigs n h =
    ap (λ (ls : List Leaf). cut (length ls)) (leaves_here sigs false [] n ∙ ap (λ (o : Option (List NamedMember)). all_leaves (leaves_in n sigs) false [] (some_members o)) h)

pub count_before : (sigs : Signatures) (k n : ℕ) → n < k → leaf_count sigs n ≡ cut (form_count sigs k (form.Nested n))
count_before sigs k n h =
    ap cut (in_length (suc n) sigs false true [] [] n ∙ ap (λ (ls : List Leaf). length ls) (sym (leaves_before k sigs true [] n h)))

pub count_behind : (sigs : Signatures) (k n : ℕ) → k ≤ n → 0 ≡ cut (form_count sigs k (form.Nested n))
count_behind sigs k n h = sym (ap (λ (ls : List Leaf). cut (length ls)) (leaves_behind k sigs true [] n h))

-- a member before others
pub length_more : (sigs : Signatures) (k : ℕ) (t : Bool) (m : NamedMember) (ms : List NamedMember)
    → length (all_leaves (leaves_in k sigs) t [] (m ∷ ms)) ≡ form_count sigs k m.member.form + length (all_leaves (leaves_in k sigs) t [] ms)
length_more sigs k t m ms =
    length-append (form_leaves (leaves_in k sigs) (turned_by t m.member.is_out) (joined [] m.name) m.member.form) (all_leaves (leaves_in k sigs) t [] ms)
    ∙ ap (λ n. n + length (all_leaves (leaves_in k sigs) t [] ms)) (form_length (leaves_in k sigs) (in_length k sigs) (turned_by t m.member.is_out) false (joined [] m.name) [] m.member.form)

-- ---- a signature more

order : (n k : ℕ) → (n < k) ⊎ ((n ≡ k) ⊎ (k < n))
order zero zero = inr (inl refl)
order zero (suc k) = inl (omega arith)
order (suc n) zero = inr (inr (omega arith))
order (suc n) (suc k) = elim (order n k) [
  | inl h ↦ inl (omega (arith, h))
  | inr (inl h) ↦ inr (inl (ap suc h))
  | inr (inr h) ↦ inr (inr (omega (arith, h)))
]

at_front : {A : Type 0} (xs : List A) (x : A) (n : ℕ) → n < length xs → slice_get (xs ++ x ∷ []) n ≡ slice_get xs n
at_front [] x n h = absurd (omega (arith, h))
at_front (y ∷ xs) x zero h = refl
at_front (y ∷ xs) x (suc n) h = at_front xs x n (omega (arith, h))

at_end : {A : Type 0} (xs : List A) (x : A) → slice_get (xs ++ x ∷ []) (length xs) ≡ Some x
at_end [] x = refl
at_end (y ∷ xs) x = at_end xs x

at_past : {A : Type 0} (xs : List A) (x : A) (n : ℕ) → length xs < n → slice_get (xs ++ x ∷ []) n ≡ None
at_past xs x n h = slice_get_past (xs ++ x ∷ []) n (omega (arith, h, length-append xs (x ∷ [])))

as_long : {A B : Type 0} (f : ℕ → A → B) (xs : List A) (ys : List B) → ((n : ℕ) → slice_get ys n ≡ option_map (f n) (slice_get xs n)) → length ys ≡ length xs
as_long f [] [] h = refl
as_long f [] (y ∷ ys) h = absurd (some_none (h 0))
  where
    some_none : Some y ≡ None → ⊥
    some_none e = cc
as_long f (x ∷ xs) [] h = absurd (none_some (h 0))
  where
    none_some : None ≡ Some (f 0 x) → ⊥
    none_some e = cc
as_long f (x ∷ xs) (y ∷ ys) h = ap suc (as_long (λ n. f (suc n)) xs ys (λ n. h (suc n)))

pub counts_more : (sigs : Signatures) (counts : List ℕ) (ms : List NamedMember) (count : ℕ) → AreCounts sigs counts
    → count ≡ cut (length (all_leaves (leaves_in (length sigs) sigs) false [] ms)) → AreCounts (sigs ++ ms ∷ []) (counts ++ count ∷ [])
counts_more sigs counts ms count are is n =
    let count_of = λ (k : ℕ) (x : List NamedMember). leaf_count sigs k in
    let new_of = λ (k : ℕ) (x : List NamedMember). leaf_count (sigs ++ ms ∷ []) k in
    let long : length counts ≡ length sigs = as_long count_of sigs counts are in
    elim (order n (length sigs)) [
      | inl h ↦ at_front counts count n (omega (arith, h, long)) ∙ are n
          ∙ ap (λ (c : ℕ). option_map (λ (x : List NamedMember). c) (slice_get sigs n)) (sym (ap (λ (ls : List Leaf). cut (length ls)) (leaves_grown sigs (ms ∷ []) false [] n h)))
          ∙ ap (option_map (new_of n)) (sym (at_front sigs ms n h))
      | inr (inl h) ↦ subst (λ k. slice_get (counts ++ count ∷ []) k ≡ option_map (new_of k) (slice_get (sigs ++ ms ∷ []) k)) (sym h)
          (ap (slice_get (counts ++ count ∷ [])) (sym long) ∙ at_end counts count ∙ ap Some (is ∙ sym (ap (λ (ls : List Leaf). cut (length ls)) (leaves_new sigs ms false []))) ∙ ap (option_map (new_of (length sigs))) (sym (at_end sigs ms)))
      | inr (inr h) ↦ at_past counts count n (omega (arith, h, long)) ∙ ap (option_map (new_of n)) (sym (at_past sigs ms n h))
    ]

-- behind all signatures there is none
pub count_past : (sigs : Signatures) (counts : List ℕ) (n : ℕ) → AreCounts sigs counts → length counts ≤ n → 0 ≡ leaf_count sigs n
count_past sigs counts n are h =
    sym (count_absent sigs n (slice_get_past sigs n (omega (arith, h, as_long (λ (k : ℕ) (x : List NamedMember). leaf_count sigs k) sigs counts are))))

-- ---- a walk over members

-- one member more is counted
pub total_more : (sigs : Signatures) (k : ℕ) (t : Bool) (ms : List NamedMember) (i : ℕ) (m : NamedMember) (total count whole : ℕ) → slice_get ms i ≡ Some m → count ≡ cut (form_count sigs k m.member.form)
    → cut (total + length (all_leaves (leaves_in k sigs) t [] (drop i ms))) ≡ whole → cut (cut (total + count) + length (all_leaves (leaves_in k sigs) t [] (drop (i + 1) ms))) ≡ whole
total_more sigs k t ms i m total count whole at is so_far =
    let rest : ℕ = length (all_leaves (leaves_in k sigs) t [] (drop (i + 1) ms)) in
    let here : length (all_leaves (leaves_in k sigs) t [] (drop i ms)) ≡ form_count sigs k m.member.form + rest =
    ap (λ (xs : List NamedMember). length (all_leaves (leaves_in k sigs) t [] xs)) (drop_at ms i m at) ∙ length_more sigs k t m (drop (i + 1) ms) in
    cut_left (total + count) rest
    ∙ ap (λ n. cut (n + rest)) (ap (λ n. total + n) is)
    ∙ ap cut (arith_moved total (cut (form_count sigs k m.member.form)) rest)
    ∙ cut_right (total + rest) (form_count sigs k m.member.form)
    ∙ ap cut (arith_back total rest (form_count sigs k m.member.form) (length (all_leaves (leaves_in k sigs) t [] (drop i ms))) here)
    ∙ so_far
  where
    arith_moved : (a b c : ℕ) → a + b + c ≡ a + c + b
    arith_moved a b c = omega arith

    arith_back : (a b c d : ℕ) → d ≡ c + b → a + b + c ≡ a + d
    arith_back a b c d e = omega (arith, e)

pub total_whole : (total whole : ℕ) → cut total ≡ total → cut (total + 0) ≡ cut whole → total ≡ cut whole
total_whole total whole h e = sym h ∙ ap cut (plus_none total) ∙ e
  where
    plus_none : (n : ℕ) → n ≡ n + 0
    plus_none n = omega arith
