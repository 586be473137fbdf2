-- Names that stand already can be left out where only the first of each counts.
use Rattle.std.proofs.Common.{◌≡◌, ℕ, zero, suc, ◌+◌, ◌<◌, ◌≤◌, ◌==◌, nat_lt, Bool, true, false, ◌||◌, cond, List, [], ◌∷◌, ◌++◌, map, length, Option, Some, None, slice_get, refl, sym, ap, ◌∙◌, subst, arith, append-nil, append_assoc}
use Rattle.std.specs.Prelude.{option_and_then, option_map}
use Rattle.std.specs.List.{AllByRecursion, filter, filter_map, flat_map, list_any, range_with_len, cons_option}
use Rattle.std.proofs.lemmas.Bool.{false≢true}
use Rattle.std.proofs.lemmas.Bool.Decides.{nat_tests}
use Rattle.std.proofs.lemmas.List.Concat.{flat_map-append}
use Rattle.lists.specs.Texts.{text_eq}
use Rattle.lists.proofs.TextLaws.{text_eq_same}
use Rattle.design_ir.specs.declared.ids.ExprId.{ExprId}
use Rattle.design_ir.specs.declared.fragment.Fragment.{Fragment}
use Rattle.design_ir.specs.Circuits.{is_among}
use Rattle.design_ir.specs.Forests.{Leaf, Forest, bare, grown}
use Rattle.design_ir.specs.Fragments.{leaf_of}
use Rattle.design_ir.specs.Pools.{Pooled}
use Rattle.fragment_walks.specs.Held.{ResetCall, forest_exprs, fragment_exprs, held_resets, inside, is_within, leaf_exprs, reset_call}
use Rattle.fragment_walks.specs.Holders.{AreHolders, all_roots, first_roots}
use Rattle.fragment_walks.specs.Marks.{numbers}
use Rattle.fragment_walks.specs.Names.{all_leaves, is_number, leaves_of, new_resets, with_resets}
use Rattle.fragment_walks.specs.Numbers.{is_below, first_at}
use Rattle.fragment_walks.specs.Walks.{all_names, gathered, own_names, plain_names}
use Rattle.fragment_walks.proofs.Lists.{all_both, all_filtered, all_imp, any-append, map-append, passes}
use Rattle.fragment_walks.proofs.NumberLaws.{bounded_at}
use Rattle.clock_domains.specs.Resolved.{each_once}
use Rattle.clock_domains.proofs.EachOnce.{once-push, once_any}

abbrev pub is_there : List (List ℕ) → List ℕ → Bool
is_there ns n = list_any (λ m. text_eq m n) ns

-- what comes behind depends on which came before alone
pub once_left : (xs ys more : List (List ℕ)) → each_once xs ≡ each_once ys → each_once (xs ++ more) ≡ each_once (ys ++ more)
once_left xs ys [] h = ap each_once (append-nil xs) ∙ h ∙ sym (ap each_once (append-nil ys))
once_left xs ys (n ∷ more) h = ap each_once (sym (append_assoc xs (n ∷ []) more)) ∙ once_left (xs ++ n ∷ []) (ys ++ n ∷ []) more pushed ∙ ap each_once (append_assoc ys (n ∷ []) more)
  where
    any : is_there xs n ≡ is_there ys n
    any = sym (once_any xs n) ∙ ap (λ zs. is_there zs n) h ∙ once_any ys n

    pushed : each_once (xs ++ n ∷ []) ≡ each_once (ys ++ n ∷ [])
    pushed =
        once-push xs n
        ∙ ap (λ b. cond b (each_once xs) (each_once xs ++ n ∷ [])) any
        ∙ ap (λ zs. cond (is_there ys n) zs (zs ++ n ∷ [])) h
        ∙ sym (once-push ys n)

-- one that stands already
pub once_there : (xs more : List (List ℕ)) (n : List ℕ) → is_there xs n ≡ true → each_once (xs ++ n ∷ more) ≡ each_once (xs ++ more)
once_there xs more n h = ap each_once (sym (append_assoc xs (n ∷ []) more)) ∙ once_left (xs ++ n ∷ []) xs more (once-push xs n ∙ ap (λ b. cond b (each_once xs) (each_once xs ++ n ∷ [])) h)

-- ---- those of some numbers, where the ones that do not pass have names that stand already

module _ (g : ℕ → Option (List ℕ)) (p : ℕ → Bool) where
  abbrev pub IsSpare : List (List ℕ) → ℕ → Type 0
  IsSpare xs k = (n : List ℕ) → p k ≡ false → g k ≡ Some n → is_there xs n ≡ true

  or_left : (a b : Bool) → a ≡ true → (a || b) ≡ true
  or_left true b h = refl
  or_left false b h = cc

  spare_more : (xs ys : List (List ℕ)) (k : ℕ) → IsSpare xs k → IsSpare (xs ++ ys) k
  spare_more xs ys k h n fails is = any-append (λ m. text_eq m n) xs ys ∙ or_left (is_there xs n) (is_there ys n) (h n fails is)

  pub once_spare : (ks : List ℕ) (xs : List (List ℕ)) → AllByRecursion (IsSpare xs) ks → each_once (xs ++ filter_map g (filter p ks)) ≡ each_once (xs ++ filter_map g ks)
  once_spare [] xs h = refl
  once_spare (k ∷ ks) xs h = by (λ ys spare. once_spare ks ys spare) (p k) (g k) refl refl
    where
      named : ((ys : List (List ℕ)) → AllByRecursion (IsSpare ys) ks → each_once (ys ++ filter_map g (filter p ks)) ≡ each_once (ys ++ filter_map g ks)) → (n : List ℕ) → each_once (xs ++ n ∷ filter_map g (filter p ks)) ≡ each_once (xs ++ n ∷ filter_map g ks)
      named rest n =
          ap each_once (sym (append_assoc xs (n ∷ []) (filter_map g (filter p ks))))
          ∙ rest (xs ++ n ∷ []) (all_imp (spare_more xs (n ∷ [])) ks h.1)
          ∙ ap each_once (append_assoc xs (n ∷ []) (filter_map g ks))

      by : ((ys : List (List ℕ)) → AllByRecursion (IsSpare ys) ks → each_once (ys ++ filter_map g (filter p ks)) ≡ each_once (ys ++ filter_map g ks)) → (b : Bool) (o : Option (List ℕ)) → p k ≡ b → g k ≡ o → each_once (xs ++ filter_map g (cond b (k ∷ filter p ks) (filter p ks))) ≡ each_once (xs ++ cons_option o (filter_map g ks))
      by rest true None e f = ap (λ (o : Option (List ℕ)). each_once (xs ++ cons_option o (filter_map g (filter p ks)))) f ∙ rest xs h.1
      by rest true (Some n) e f = ap (λ (o : Option (List ℕ)). each_once (xs ++ cons_option o (filter_map g (filter p ks)))) f ∙ named rest n
      by rest false None e f = rest xs h.1
      by rest false (Some n) e f = rest xs h.1 ∙ sym (once_there xs (filter_map g ks) n (h.0 n e f))

-- ---- numbers that pass

pub range_all : (P : ℕ → Type 0) (a n : ℕ) → ((k : ℕ) → a ≤ k → k < a + n → P k) → AllByRecursion P (range_with_len a n)
range_all P a zero h = tt
range_all P a (suc n) h = (h a (omega arith) (omega arith), range_all P (a + 1) n (λ k le low. h k (omega (arith, le)) (omega (arith, low))))

pub range_among : (a n k : ℕ) → a ≤ k → k < a + n → is_among (range_with_len a n) k ≡ true
range_among a zero k le low = absurd (omega (arith, le, low))
range_among a (suc n) k le low = split (λ past. range_among (a + 1) n k past (omega (arith, low))) (a == k) refl
  where
    past : (a == k) ≡ false → a + 1 ≤ k
    past e = grind (arith, nat_tests)

    split : (a + 1 ≤ k → is_among (range_with_len (a + 1) n) k ≡ true) → (b : Bool) → (a == k) ≡ b → (b || is_among (range_with_len (a + 1) n) k) ≡ true
    split later true e = refl
    split later false e = later (past e)

-- those that pass the one test pass the other
filter_wider : (p w : ℕ → Bool) (ks : List ℕ) → AllByRecursion (λ k. p k ≡ true → w k ≡ true) ks → filter p (filter w ks) ≡ filter p ks
filter_wider p w [] h = refl
filter_wider p w (k ∷ ks) h = split (filter_wider p w ks h.1) (w k) (p k) refl refl
  where
    split : filter p (filter w ks) ≡ filter p ks → (b c : Bool) → w k ≡ b → p k ≡ c → filter p (cond b (k ∷ filter w ks) (filter w ks)) ≡ cond c (k ∷ filter p ks) (filter p ks)
    split rest true true e f = ap (λ x. cond x (k ∷ filter p (filter w ks)) (filter p (filter w ks))) f ∙ ap (λ xs. k ∷ xs) rest
    split rest true false e f = ap (λ x. cond x (k ∷ filter p (filter w ks)) (filter p (filter w ks))) f ∙ rest
    split rest false true e f = absurd (false≢true (sym e ∙ h.0 f))
    split rest false false e f = rest

map_found : {A B C : Type 0} (f : B → C) (h : A → Option B) (xs : List A) → map f (filter_map h xs) ≡ filter_map (λ x. option_map f (h x)) xs
map_found f h [] = refl
map_found {B} f h (x ∷ xs) = split (map_found f h xs) (h x)
  where
    split : map f (filter_map h xs) ≡ filter_map (λ x. option_map f (h x)) xs → (o : Option B) → map f (cons_option o (filter_map h xs)) ≡ cons_option (option_map f o) (filter_map (λ x. option_map f (h x)) xs)
    split rest None = rest
    split rest (Some y) = ap (λ ys. f y ∷ ys) rest

or_true : (a b : Bool) → b ≡ true → (a || b) ≡ true
or_true true b h = refl
or_true false b h = h

-- what one of them gives passes
pub found_any : {A : Type 0} (t : A → Bool) (g : ℕ → Option A) (w : ℕ → Bool) (ks : List ℕ) (k : ℕ) (x : A) → is_among ks k ≡ true → w k ≡ true → g k ≡ Some x → t x ≡ true → list_any t (filter_map g (filter w ks)) ≡ true
found_any t g w [] k x among passing is good = absurd (false≢true among)
found_any {A} t g w (j ∷ ks) k x among passing is good = first (λ later. found_any t g w ks k x later passing is good) (j == k) refl
  where
    same : (j == k) ≡ true → j ≡ k
    same e = grind (arith, nat_tests)

    more : list_any t (filter_map g (filter w ks)) ≡ true → (b : Bool) (o : Option A) → list_any t (cond b (cons_option o (filter_map g (filter w ks))) (filter_map g (filter w ks))) ≡ true
    more there true None = there
    more there true (Some m) = or_true (t m) (list_any t (filter_map g (filter w ks))) there
    more there false o = there

    split : (b : Bool) → filter_map g (cond b (j ∷ filter w ks) (filter w ks)) ≡ cond b (cons_option (g j) (filter_map g (filter w ks))) (filter_map g (filter w ks))
    split true = refl
    split false = refl

    first : (is_among ks k ≡ true → list_any t (filter_map g (filter w ks)) ≡ true) → (b : Bool) → (j == k) ≡ b → list_any t (filter_map g (cond (w j) (j ∷ filter w ks) (filter w ks))) ≡ true
    first rest true e =
        let here : j ≡ k = same e in
        ap (λ b. list_any t (filter_map g (cond b (j ∷ filter w ks) (filter w ks)))) (ap w here ∙ passing)
        ∙ ap (λ o. list_any t (cons_option o (filter_map g (filter w ks)))) (ap g here ∙ is)
        ∙ ap (λ b. b || list_any t (filter_map g (filter w ks))) good
    first rest false e = ap (list_any t) (split (w j)) ∙ more (rest (sym (ap (λ b. b || is_among ks k) e) ∙ among)) (w j) (g j)

-- ---- what stands in two lists of expressions

pub within-append : (q : Pooled) (xs ys : List ExprId) (k : ℕ) → is_within q (xs ++ ys) k ≡ (is_within q xs k || is_within q ys k)
within-append q xs ys k =
    ap (λ ns. is_among (ns ++ flat_map (inside q) ns) k) (map-append (λ (e : ExprId). e.0) xs ys)
    ∙ ap (λ ns. is_among ((numbers xs ++ numbers ys) ++ ns) k) (flat_map-append (inside q) (numbers xs) (numbers ys))
    ∙ parted (numbers xs ++ numbers ys) (flat_map (inside q) (numbers xs) ++ flat_map (inside q) (numbers ys))
    ∙ ap (λ b. b || is_among (flat_map (inside q) (numbers xs) ++ flat_map (inside q) (numbers ys)) k) (parted (numbers xs) (numbers ys))
    ∙ ap (λ b. (is_among (numbers xs) k || is_among (numbers ys) k) || b) (parted (flat_map (inside q) (numbers xs)) (flat_map (inside q) (numbers ys)))
    ∙ swapped (is_among (numbers xs) k) (is_among (numbers ys) k) (is_among (flat_map (inside q) (numbers xs)) k) (is_among (flat_map (inside q) (numbers ys)) k)
    ∙ sym (ap (λ b. (is_among (numbers xs) k || is_among (flat_map (inside q) (numbers xs)) k) || b) (parted (numbers ys) (flat_map (inside q) (numbers ys))))
    ∙ sym (ap (λ b. b || is_within q ys k) (parted (numbers xs) (flat_map (inside q) (numbers xs))))
  where
    parted : (ms ns : List ℕ) → is_among (ms ++ ns) k ≡ (is_among ms k || is_among ns k)
    parted ms ns = any-append (λ x. x == k) ms ns

    swapped : (a b c d : Bool) → ((a || b) || (c || d)) ≡ ((a || c) || (b || d))
    swapped true b c d = refl
    swapped false true true d = refl
    swapped false true false d = refl
    swapped false false c d = refl

pub within_none : (q : Pooled) (k : ℕ) → is_within q [] k ≡ false
within_none q k = refl

-- ---- fragments in the walk

gathered_flat : {A : Type 0} (own : Leaf → List A) (f : Forest) → flat_map own (leaves_of f) ≡ gathered own f
gathered_flat own bare = refl
gathered_flat own (grown l below rest) =
    ap (λ xs. own l ++ xs) (flat_map-append own (leaves_of below) (leaves_of rest) ∙ ap (λ xs. xs ++ flat_map own (leaves_of rest)) (gathered_flat own below) ∙ ap (λ xs. gathered own below ++ xs) (gathered_flat own rest))

pub names_flat : (q : Pooled) (f : Fragment) → flat_map (own_names q) (all_leaves f) ≡ all_names q f
names_flat q f = ap (λ xs. own_names q (leaf_of f) ++ xs) (gathered_flat (own_names q) f.submodules)

forest_roots : (f : Forest) → gathered leaf_exprs f ≡ forest_exprs f
forest_roots bare = refl
forest_roots (grown l below rest) = let a = forest_roots below in let b = forest_roots rest in cc

flat_mapped : {A B : Type 0} (g : A → List B) (xs : List A) → flat_map (λ ys. ys) (map g xs) ≡ flat_map g xs
flat_mapped g [] = refl
flat_mapped g (x ∷ xs) = ap (λ ys. g x ++ ys) (flat_mapped g xs)

pub all_exprs_are : (f : Fragment) → flat_map leaf_exprs (all_leaves f) ≡ fragment_exprs f
all_exprs_are f = ap (λ xs. leaf_exprs (leaf_of f) ++ xs) (gathered_flat leaf_exprs f.submodules ∙ forest_roots f.submodules)

pub all_roots_are : (f : Fragment) → all_roots (map leaf_exprs (all_leaves f)) ≡ fragment_exprs f
all_roots_are f = flat_mapped leaf_exprs (all_leaves f) ∙ all_exprs_are f

-- ---- the fragment that holds a reset first

-- below the next number: below this one, or this one
below_next : (n : ℕ) (o : Option ℕ) → is_below (n + 1) o ≡ (is_below n o || is_number n o)
below_next n None = refl
below_next n (Some m) = split (nat_lt m n) (m == n) refl refl
  where
    low : nat_lt m n ≡ true → nat_lt m (n + 1) ≡ true
    low e = grind (arith, nat_tests)

    here : (m == n) ≡ true → nat_lt m (n + 1) ≡ true
    here e = grind (arith, nat_tests)

    past : nat_lt m n ≡ false → (m == n) ≡ false → nat_lt m (n + 1) ≡ false
    past e f = grind (arith, nat_tests)

    split : (b c : Bool) → nat_lt m n ≡ b → (m == n) ≡ c → nat_lt m (n + 1) ≡ (b || c)
    split true c e f = low e
    split false true e f = here f
    split false false e f = past e f

-- and never both
below_or_at : (n : ℕ) (o : Option ℕ) → is_number n o ≡ true → is_below n o ≡ false
below_or_at n None h = refl
below_or_at n (Some m) h = grind (arith, nat_tests)

-- from what is told of the fragments before one (before, below), and of those with it
told_own : (before own below here : Bool) → before ≡ below → (before || own) ≡ (below || here) → below ≡ false → here ≡ true → own ≡ true
told_own before own below here a b c d = sym (ap (λ x. x || own) (a ∙ c)) ∙ b ∙ ap (λ x. x || here) c ∙ d

told_before : (before own below here : Bool) → before ≡ below → (before || own) ≡ (below || here) → own ≡ true → here ≡ false → before ≡ true
told_before true own below here a b c d = refl
told_before false own below here a b c d = sym (ap (λ x. x || here) (sym a) ∙ d) ∙ sym b ∙ c

module _ (q : Pooled) (firsts : List (Option ℕ)) where
  abbrev pub call_at : ℕ → Option ResetCall
  call_at k = option_and_then reset_call (slice_get q.exprs k)

  -- the name of the domain of an expression, where it is a reset
  abbrev pub name_at : ℕ → Option (List ℕ)
  name_at k = option_map (λ (r : ResetCall). r.domain) (call_at k)

  abbrev has_number : ℕ → ℕ → Bool
  has_number n k = is_number n (first_at firsts k)

  -- names of the resets that a fragment holds
  abbrev held_names : Leaf → List (List ℕ)
  held_names l = map (λ (r : ResetCall). r.domain) (held_resets q (leaf_exprs l))

  held_are : (l : Leaf) → held_names l ≡ filter_map name_at (filter (is_within q (leaf_exprs l)) (range_with_len 0 (length q.exprs)))
  unfolding held_resets
  held_are l = map_found (λ (r : ResetCall). r.domain) call_at (filter (is_within q (leaf_exprs l)) (range_with_len 0 (length q.exprs)))

  new_are : (n : ℕ) → new_resets q firsts (length q.exprs) n ≡ filter_map name_at (filter (has_number n) (range_with_len 0 (length q.exprs)))
  new_are n = map_found (λ (r : ResetCall). r.domain) call_at (filter (has_number n) (range_with_len 0 (length q.exprs)))

  -- a reset that some of these hold has its name among theirs
  pub held_there : (before : List Leaf) (k : ℕ) (name : List ℕ) → k < length q.exprs → is_within q (flat_map leaf_exprs before) k ≡ true → name_at k ≡ Some name → is_there (flat_map (own_names q) before) name ≡ true
  held_there [] k name low h is = absurd (false≢true (sym (within_none q k) ∙ h))
  held_there (l ∷ before) k name low h is =
      any-append (λ m. text_eq m name) (own_names q l) (flat_map (own_names q) before)
      ∙ split (λ inner. held_there before k name low inner is) (is_within q (leaf_exprs l) k) refl
    where
      own : is_within q (leaf_exprs l) k ≡ true → is_there (own_names q l) name ≡ true
      own here =
          any-append (λ m. text_eq m name) (plain_names l) (held_names l)
          ∙ or_true (is_there (plain_names l) name) (is_there (held_names l) name) (ap (λ xs. is_there xs name) (held_are l) ∙ found_any (λ m. text_eq m name) name_at (is_within q (leaf_exprs l)) (range_with_len 0 (length q.exprs)) k name (range_among 0 (length q.exprs) k (omega arith) (omega (arith, low))) here is (text_eq_same name))

      split : (is_within q (flat_map leaf_exprs before) k ≡ true → is_there (flat_map (own_names q) before) name ≡ true) → (b : Bool) → is_within q (leaf_exprs l) k ≡ b → (is_there (own_names q l) name || is_there (flat_map (own_names q) before) name) ≡ true
      split rest true e = ap (λ b. b || is_there (flat_map (own_names q) before) name) (own e)
      split rest false e =
          or_true (is_there (own_names q l) name) (is_there (flat_map (own_names q) before) name)
          (rest (sym (within-append q (leaf_exprs l) (flat_map leaf_exprs before) k ∙ ap (λ b. b || is_within q (flat_map leaf_exprs before) k) e) ∙ h))

  -- ---- one fragment, behind these

  module _ (before : List Leaf) (l : Leaf) (more : List Leaf) (holders : AreHolders q (map leaf_exprs (before ++ l ∷ more)) firsts) where
    abbrev mark : ℕ → ℕ → Bool
    mark n k = is_below n (first_at firsts k)

    taken : (xs : List Leaf) → first_roots (length xs) (map leaf_exprs (xs ++ l ∷ more)) ≡ flat_map leaf_exprs xs
    taken [] = refl
    taken (x ∷ xs) = ap (λ es. leaf_exprs x ++ es) (taken xs)

    taken_more : (xs : List Leaf) → first_roots (length xs + 1) (map leaf_exprs (xs ++ l ∷ more)) ≡ flat_map leaf_exprs xs ++ leaf_exprs l
    taken_more xs = ap (λ n. first_roots n (map leaf_exprs (xs ++ l ∷ more))) (let e : length xs + 1 ≡ suc (length xs) = omega arith in e) ∙ next xs
      where
        next : (xs : List Leaf) → first_roots (suc (length xs)) (map leaf_exprs (xs ++ l ∷ more)) ≡ flat_map leaf_exprs xs ++ leaf_exprs l
        next [] = append-nil (leaf_exprs l)
        next (x ∷ xs) = ap (λ es. leaf_exprs x ++ es) (next xs) ∙ sym (append_assoc (leaf_exprs x) (flat_map leaf_exprs xs) (leaf_exprs l))

    of_before : (k : ℕ) → k < length q.exprs → is_within q (flat_map leaf_exprs before) k ≡ mark (length before) k
    of_before k low = sym (ap (λ es. is_within q es k) (taken before)) ∙ sym (holders.each (length before) k low) ∙ bounded_at (length before) firsts k

    of_both : (k : ℕ) → k < length q.exprs → (is_within q (flat_map leaf_exprs before) k || is_within q (leaf_exprs l) k) ≡ (mark (length before) k || has_number (length before) k)
    of_both k low =
        sym (within-append q (flat_map leaf_exprs before) (leaf_exprs l) k)
        ∙ sym (ap (λ es. is_within q es k) (taken_more before))
        ∙ sym (holders.each (length before + 1) k low)
        ∙ bounded_at (length before + 1) firsts k
        ∙ below_next (length before) (first_at firsts k)

    -- what it holds first, it holds
    numbered_within : AllByRecursion (λ k. has_number (length before) k ≡ true → is_within q (leaf_exprs l) k ≡ true) (range_with_len 0 (length q.exprs))
    numbered_within =
        range_all (λ k. has_number (length before) k ≡ true → is_within q (leaf_exprs l) k ≡ true) 0 (length q.exprs)
        (λ k le low here.
        let there : k < length q.exprs = omega (arith, low) in
        told_own (is_within q (flat_map leaf_exprs before) k) (is_within q (leaf_exprs l) k) (mark (length before) k) (has_number (length before) k) (of_before k there) (of_both k there) (below_or_at (length before) (first_at firsts k) here) here)

    -- and of what it holds but not first, the name stands already
    others_spare : AllByRecursion (IsSpare name_at (has_number (length before)) (flat_map (own_names q) before ++ plain_names l)) (filter (is_within q (leaf_exprs l)) (range_with_len 0 (length q.exprs)))
    others_spare =
        all_both
        (λ k low here name fails is.
        any-append (λ m. text_eq m name) (flat_map (own_names q) before) (plain_names l)
        ∙ ap (λ b. b || is_there (plain_names l) name)
        (held_there before k name low
        (told_before (is_within q (flat_map leaf_exprs before) k) (is_within q (leaf_exprs l) k) (mark (length before) k) (has_number (length before) k) (of_before k low) (of_both k low) here fails) is))
        (filter (is_within q (leaf_exprs l)) (range_with_len 0 (length q.exprs)))
        (all_filtered (λ k. k < length q.exprs) (is_within q (leaf_exprs l)) (range_with_len 0 (length q.exprs)) (range_all (λ k. k < length q.exprs) 0 (length q.exprs) (λ k le low. omega (arith, low))))
        (passes (is_within q (leaf_exprs l)) (range_with_len 0 (length q.exprs)))

    pub once_here : each_once ((flat_map (own_names q) before ++ plain_names l) ++ new_resets q firsts (length q.exprs) (length before)) ≡ each_once ((flat_map (own_names q) before ++ plain_names l) ++ held_names l)
    once_here =
        let xs = flat_map (own_names q) before ++ plain_names l in
        let ks = range_with_len 0 (length q.exprs) in
        ap (λ ys. each_once (xs ++ ys)) (new_are (length before))
        ∙ ap (λ js. each_once (xs ++ filter_map name_at js)) (sym (filter_wider (has_number (length before)) (is_within q (leaf_exprs l)) ks numbered_within))
        ∙ once_spare name_at (has_number (length before)) (filter (is_within q (leaf_exprs l)) ks) xs others_spare
        ∙ ap (λ ys. each_once (xs ++ ys)) (sym (held_are l))

  -- ---- all of them

  from_here : (before ls : List Leaf) → AreHolders q (map leaf_exprs (before ++ ls)) firsts
      → each_once (flat_map (own_names q) before ++ flat_map (λ own. own) (with_resets q firsts (length q.exprs) (length before) (map plain_names ls))) ≡ each_once (flat_map (own_names q) before ++ flat_map (own_names q) ls)
  from_here before [] h = refl
  from_here before (l ∷ ls) h =
      let xs = flat_map (own_names q) before in
      let new = new_resets q firsts (length q.exprs) (length before) in
      let rest = flat_map (λ (own : List (List ℕ)). own) (with_resets q firsts (length q.exprs) (suc (length before)) (map plain_names ls)) in
      let grown : flat_map (own_names q) (before ++ l ∷ []) ≡ xs ++ own_names q l = flat_map-append (own_names q) before (l ∷ []) ∙ ap (λ ys. xs ++ ys) (append-nil (own_names q l)) in
      let size : length (before ++ l ∷ []) ≡ suc (length before) = longer before in
      let next = from_here (before ++ l ∷ []) ls (subst (λ zs. AreHolders q (map leaf_exprs zs) firsts) (sym (append_assoc before (l ∷ []) ls)) h) in
      ap each_once (regroup xs (plain_names l) new rest)
      ∙ once_left ((xs ++ plain_names l) ++ new) ((xs ++ plain_names l) ++ held_names l) rest (once_here before l ls h)
      ∙ ap (λ ys. each_once (ys ++ rest)) (append_assoc xs (plain_names l) (held_names l) ∙ sym grown)
      ∙ ap (λ n. each_once (flat_map (own_names q) (before ++ l ∷ []) ++ flat_map (λ (own : List (List ℕ)). own) (with_resets q firsts (length q.exprs) n (map plain_names ls)))) (sym size)
      ∙ next
      ∙ ap each_once (ap (λ ys. ys ++ flat_map (own_names q) ls) grown ∙ append_assoc xs (own_names q l) (flat_map (own_names q) ls))
    where
      longer : (ys : List Leaf) → length (ys ++ l ∷ []) ≡ suc (length ys)
      longer [] = refl
      longer (y ∷ ys) = ap suc (longer ys)

      regroup : (a b c d : List (List ℕ)) → a ++ ((b ++ c) ++ d) ≡ ((a ++ b) ++ c) ++ d
      regroup a b c d = ap (λ ys. a ++ ys) (append_assoc b c d) ∙ sym (append_assoc a b (c ++ d)) ∙ sym (append_assoc (a ++ b) c d)

-- the names that are found have those of all fragments, each where it comes first
pub once_resets : (q : Pooled) (f : Fragment) (firsts : List (Option ℕ)) → AreHolders q (map leaf_exprs (all_leaves f)) firsts
    → each_once (flat_map (λ own. own) (with_resets q firsts (length q.exprs) 0 (map plain_names (all_leaves f)))) ≡ each_once (all_names q f)
once_resets q f firsts h = from_here q firsts [] (all_leaves f) h ∙ ap each_once (names_flat q f)
