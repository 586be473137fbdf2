-- Some statements of a block: what they have, and what they leave.
use Rattle.std.specs.Prelude.{◌≡◌, ◌≢◌, refl, ℕ, zero, suc, ◌+◌, ◌<◌, ◌≤◌, ◌⊎◌, ◌==◌, ◌||◌, Bool, true, false, List, [], ◌∷◌, ◌++◌, length, map, slice_get, ℤ, Option, Some, None}
use Rattle.std.specs.List.{AllByRecursion, range_with_len}
use Rattle.std.proofs.Common.{sym, ◌∙◌, ap, arith, subst, inl, inr, ⊎_elim, append-nil, get_or}
use Rattle.std.proofs.lemmas.Bool.{cases_Bool, cases_eq, eq-eqb, eqb-true, false≢true}
use Rattle.design_ir.specs.declared.ids.ExprId.{ExprId}
use Rattle.design_ir.specs.declared.ids.SigId.{SigId}
use Rattle.design_ir.specs.Circuits.{at, is_among}
use Rattle.design_ir.specs.Guards.{driven, block_exprs, statement_exprs}
use Rattle.design_ir.specs.Pools.{Pooled}
use Rattle.design_ir.specs.Put.{put}
use Rattle.design_ir.specs.Targets.{target_signals}
use Rattle.design_ir.specs.Trees.{Statement, Block, next, done, statements}
use Rattle.design_ir.proofs.NumbersFit.{element}
use Rattle.design_ir.proofs.PutLaws.{put_length, put_other}
use Rattle.sim_plans.specs.Driven.{AreTargets, listed, statement_listed}
use Rattle.sim_plans.specs.Groups.{IsApart, IsAscending, drives_at, drives_of}
use Rattle.sim_plans.specs.Reading.{AreThere}
use Rattle.sim_plans.specs.Reads.{statement_reads, block_reads}
use Rattle.sim_plans.specs.Tasks.{statement_at, and_then, picked}
use Rattle.sim_plans.proofs.Agrees.{left, right}
use Rattle.sim_plans.proofs.DrivenLists.{driven_is, driven_like}
use Rattle.sim_plans.proofs.Frames.{put_frame}
use Rattle.sim_plans.proofs.Likes.{among_append}
use Rattle.sim_plans.proofs.Listing.{whole}
use Rattle.sim_plans.proofs.TargetsInside.{all_append}
use Rattle.sim_plans.proofs.Walks.{all_parts}

-- ---- what holds of all expressions of a block

module _ (P : ExprId → Type 0) (F : Block → List ExprId) (G : Statement → List ExprId) (more : (s : Statement) (r : Block) → F (next s r) ≡ G s ++ F r) where
  statement_has : (b : Block) (i : ℕ) (s : Statement) → statement_at b i ≡ Some s → AllByRecursion P (F b) → AllByRecursion P (G s)
  statement_has done i s e h = cc
  statement_has (next x rest) zero s e h =
      let same : x ≡ s = cc in
      subst (λ y. AllByRecursion P (G y)) same (all_parts P (G x) (F rest) (subst (AllByRecursion P) (more x rest) h)).0
  statement_has (next x rest) (suc i) s e h = statement_has rest i s e (all_parts P (G x) (F rest) (subst (AllByRecursion P) (more x rest) h)).1

  with_one : (o : Option Statement) (b : Block) → ((s : Statement) → o ≡ Some s → AllByRecursion P (G s)) → AllByRecursion P (F b) → AllByRecursion P (F (and_then o b))
  with_one None b f h = h
  with_one (Some s) b f h = subst (AllByRecursion P) (sym (more s b)) (all_append P (G s) (F b) (f s refl) h)

  pub picked_all : (b : Block) (is : List ℕ) → AllByRecursion P (F b) → AllByRecursion P (F done) → AllByRecursion P (F (picked b is))
  picked_all b [] h n = n
  picked_all b (i ∷ is) h n = with_one (statement_at b i) (picked b is) (λ s e. statement_has b i s e h) (picked_all b is h n)

-- ---- what some statement of a block does

or_assoc : (a b c : Bool) → ((a || b) || c) ≡ (a || (b || c))
or_assoc true b c = refl
or_assoc false b c = refl

or_cases : (a b : Bool) → (a || b) ≡ true → (a ≡ true) ⊎ (b ≡ true)
or_cases true b e = inl refl
or_cases false b e = inr e

or_false : (a : Bool) → (a || false) ≡ a
or_false true = refl
or_false false = refl

both_ways : (a b : Bool) → (a ≡ true → b ≡ true) → (b ≡ true → a ≡ true) → a ≡ b
both_ways true b f g = sym (f refl)
both_ways false true f g = g refl
both_ways false false f g = refl

abbrev One : (Block → Bool) → Type 0
One R = (o : Option Statement) (r : Block) → R (and_then o r) ≡ (R (and_then o done) || R r)

module _ (R : Block → Bool) (none : R done ≡ false) (one : One R) (b : Block) where
  abbrev does : ℕ → Bool
  does i = R (picked b (i ∷ []))

  -- one of the statements at these places does it
  some_does : (is : List ℕ) → R (picked b is) ≡ true → (i : ℕ) × (is_among is i ≡ true) × (does i ≡ true)
  some_does [] h = absurd (false≢true (sym none ∙ h))
  some_does (i ∷ is) h =
      ⊎_elim
      (λ (d : does i ≡ true). (i, left (i == i) (is_among is i) (eq-eqb i i refl), d))
      (λ (d : R (picked b is) ≡ true). let r = some_does is d in (r.0, right (i == r.0) (is_among is r.0) r.1, r.2))
      (or_cases (does i) (R (picked b is)) (sym (one (statement_at b i) (picked b is)) ∙ h))

  all_do : (is : List ℕ) (i : ℕ) → is_among is i ≡ true → does i ≡ true → R (picked b is) ≡ true
  all_do [] i m d = absurd (false≢true m)
  all_do (j ∷ is) i m d =
      one (statement_at b j) (picked b is)
      ∙ ⊎_elim
      (λ (e : (j == i) ≡ true). left (does j) (R (picked b is)) (ap does (eqb-true j i e) ∙ d))
      (λ (e : is_among is i ≡ true). right (does j) (R (picked b is)) (all_do is i e d))
      (or_cases (j == i) (is_among is i) m)

  both_do : (xs ys : List ℕ) → R (picked b (xs ++ ys)) ≡ (R (picked b xs) || R (picked b ys))
  both_do [] ys = ap (λ t. t || R (picked b ys)) (sym none)
  both_do (x ∷ xs) ys =
      one (statement_at b x) (picked b (xs ++ ys)) ∙ ap (λ t. does x || t) (both_do xs ys) ∙ sym (or_assoc (does x) (R (picked b xs)) (R (picked b ys)))
      ∙ ap (λ t. t || R (picked b ys)) (sym (one (statement_at b x) (picked b xs)))

  -- what does it is there
  done_there : (i : ℕ) → does i ≡ true → i < length (statements b)
  done_there i d = go (statements b) i (λ e. absurd (false≢true (sym none ∙ ap (λ o. R (and_then o done)) (sym e) ∙ d)))
    where
      go : (xs : List Statement) (i : ℕ) → (slice_get xs i ≡ None → ⊥) → i < length xs
      go [] i f = absurd (f refl)
      go (x ∷ xs) zero f = omega arith
      go (x ∷ xs) (suc i) f = let h = go xs i f in omega (arith, h)

  range_has : (a n i : ℕ) → a ≤ i → i < a + n → is_among (range_with_len a n) i ≡ true
  range_has a zero i le lt = absurd (omega (arith, le, lt))
  range_has a (suc n) i le lt =
      ⊎_elim
      (λ (e : a ≡ i). left (a == i) (is_among (range_with_len (a + 1) n) i) (eq-eqb a i e))
      (λ (e : a ≢ i). right (a == i) (is_among (range_with_len (a + 1) n) i) (range_has (a + 1) n i (omega (arith, le, e)) (omega (arith, lt))))
      (cases_eq a i)

  -- all statements together do what the block does
  whole_does : (gone : List ℕ) → ((i : ℕ) → i < length (statements b) → is_among gone i ≡ true) → R (picked b gone) ≡ R b
  whole_does gone all =
      both_ways (R (picked b gone)) (R b)
      (λ h. let r = some_does gone h in ap R (sym (whole b)) ∙ all_do (range_with_len 0 (length (statements b))) r.0 (range_has 0 (length (statements b)) r.0 (omega arith) (let l = done_there r.0 r.2 in omega (arith, l))) r.2)
      (λ h. let r = some_does (range_with_len 0 (length (statements b))) (ap R (whole b) ∙ h) in all_do gone r.0 (all r.0 (done_there r.0 r.2)) r.2)

-- ---- what statements read

reads_one : (p : Pooled) (s : ℕ) → One (block_reads p s)
reads_one p s None r = refl
reads_one p s (Some x) r = ap (λ t. t || block_reads p s r) (sym (or_false (statement_reads p s x)))

pub reads_both : (p : Pooled) (s : ℕ) (b : Block) (xs ys : List ℕ) → block_reads p s (picked b (xs ++ ys)) ≡ (block_reads p s (picked b xs) || block_reads p s (picked b ys))
reads_both p s b xs ys = both_do (block_reads p s) refl (reads_one p s) b xs ys

pub reads_whole : (p : Pooled) (s : ℕ) (b : Block) (gone : List ℕ) → ((i : ℕ) → i < length (statements b) → is_among gone i ≡ true) → block_reads p s (picked b gone) ≡ block_reads p s b
reads_whole p s b gone all = whole_does (block_reads p s) refl (reads_one p s) b gone all

-- ---- what statements drive

abbrev Drives : Pooled → ℕ → Block → Bool
Drives p s b = is_among (driven p b) s

drives_one : (p : Pooled) (s : ℕ) → One (Drives p s)
drives_one p s None r = refl
drives_one p s (Some x) r =
    let own : List ℕ = statement_listed (target_signals p) x in
    ap (λ xs. is_among xs s) (driven_is p (next x r)) ∙ among_append own (listed (target_signals p) r) s
    ∙ ap (λ t. t || is_among (listed (target_signals p) r) s) (ap (λ xs. is_among xs s) (sym (append-nil own)) ∙ ap (λ xs. is_among xs s) (sym (driven_is p (next x done))))
    ∙ ap (λ t. Drives p s (next x done) || t) (ap (λ xs. is_among xs s) (sym (driven_is p r)))

pub drives_both : (p : Pooled) (s : ℕ) (b : Block) (xs ys : List ℕ) → is_among (driven p (picked b (xs ++ ys))) s ≡ (is_among (driven p (picked b xs)) s || is_among (driven p (picked b ys)) s)
drives_both p s b xs ys = both_do (Drives p s) refl (drives_one p s) b xs ys

pub drives_whole : (p : Pooled) (s : ℕ) (b : Block) (gone : List ℕ) → ((i : ℕ) → i < length (statements b) → is_among gone i ≡ true) → is_among (driven p (picked b gone)) s ≡ is_among (driven p b) s
drives_whole p s b gone all = whole_does (Drives p s) refl (drives_one p s) b gone all

pub drives_some : (p : Pooled) (s : ℕ) (b : Block) (is : List ℕ) → is_among (driven p (picked b is)) s ≡ true → (i : ℕ) × (is_among is i ≡ true) × (drives_at p b i s ≡ true)
drives_some p s b is h = some_does (Drives p s) refl (drives_one p s) b is h

pub drives_there : (p : Pooled) (s : ℕ) (b : Block) (i : ℕ) → drives_at p b i s ≡ true → i < length (statements b)
drives_there p s b i h = done_there (Drives p s) refl (drives_one p s) b i h

-- what some statements drive the block drives
pub drives_part : (p : Pooled) (s : ℕ) (b : Block) (is : List ℕ) → is_among (driven p (picked b is)) s ≡ true → is_among (driven p b) s ≡ true
drives_part p s b is h =
    let r = drives_some p s b is h in
    ap (Drives p s) (sym (whole b))
    ∙ all_do (Drives p s) refl (drives_one p s) b (range_with_len 0 (length (statements b))) r.0 (range_has (Drives p s) refl (drives_one p s) b 0 (length (statements b)) r.0 (omega arith) (let l = drives_there p s b r.0 r.2 in omega (arith, l))) r.2

-- ---- what they leave

put_one : (p : Pooled) (env : List ℤ) (o : Option Statement) (r : Block) (cur : List ℤ) → put p env (and_then o r) cur ≡ put p env r (put p env (and_then o done) cur)
put_one p env None r cur = refl
put_one p env (Some x) r cur = refl

not_below : (k : ℕ) (is : List ℕ) → AllByRecursion (λ i. k + 1 ≤ i) is → is_among is k ≡ false
not_below k [] h = refl
not_below k (i ∷ is) h =
    ⊎_elim (λ (e : (i == k) ≡ true). absurd (omega (arith, h.0, eqb-true i k e))) (λ (e : (i == k) ≡ false). ap (λ t. t || is_among is k) e ∙ not_below k is h.1) (cases_Bool (i == k))

above : (k : ℕ) (is : List ℕ) → AllByRecursion (λ i. k < i) is → AllByRecursion (λ i. k + 1 ≤ i) is
above k [] h = tt
above k (i ∷ is) h = (omega (arith, h.0), above k is h.1)

above_first : (j k : ℕ) (is : List ℕ) → k < j → AllByRecursion (λ i. j < i) is → AllByRecursion (λ i. k + 1 ≤ i) is
above_first j k [] lt h = tt
above_first j k (i ∷ is) lt h = (omega (arith, h.0, lt), above_first j k is lt h.1)

module _ (p : Pooled) (env : List ℤ) (b : Block) (s : ℕ) where
  -- so many statements from place k on leave in the signal what those of them at these places do
  abbrev Same : ℕ → ℕ → Type 0
  Same m k = (is : List ℕ) (cur other : List ℤ) → length cur ≡ length other → at cur s ≡ at other s → IsAscending is → AllByRecursion (λ i. k ≤ i) is
      → ((i : ℕ) → is_among is i ≡ true → i < k + m) → ((i : ℕ) → k ≤ i → is_among is i ≡ false → drives_at p b i s ≡ false)
      → at (put p env (picked b (range_with_len k m)) cur) s ≡ at (put p env (picked b is) other) s

  run : (m k : ℕ) (xs : List ℤ) → at (put p env (picked b (range_with_len k (suc m))) xs) s ≡ at (put p env (picked b (range_with_len (k + 1) m)) (put p env (picked b (k ∷ [])) xs)) s
  run m k xs = ap (λ ys. at ys s) (put_one p env (statement_at b k) (picked b (range_with_len (k + 1) m)) xs)

  -- a statement that is not among them does not drive the signal
  skipped : (m k : ℕ) → Same m (k + 1) → (is : List ℕ) (cur other : List ℤ) → length cur ≡ length other → at cur s ≡ at other s → IsAscending is → AllByRecursion (λ i. k + 1 ≤ i) is
      → ((i : ℕ) → is_among is i ≡ true → i < k + suc m) → ((i : ℕ) → k ≤ i → is_among is i ≡ false → drives_at p b i s ≡ false)
      → at (put p env (picked b (range_with_len k (suc m))) cur) s ≡ at (put p env (picked b is) other) s
  skipped m k later is cur other long same up low inside free =
      run m k cur
      ∙ later is (put p env (picked b (k ∷ [])) cur) other (put_length p env (picked b (k ∷ [])) cur ∙ long)
      (put_other p env (picked b (k ∷ [])) cur s (free k (omega arith) (not_below k is low)) ∙ same) up low
      (λ i h. let l = inside i h in omega (arith, l)) (λ i le h. free i (omega (arith, le)) h)

  same_next : (m k : ℕ) → Same m (k + 1) → Same (suc m) k
  same_next m k later [] cur other long same up low inside free = skipped m k later [] cur other long same up tt inside free
  same_next m k later (j ∷ js) cur other long same up low inside free =
      ⊎_elim
      (λ (e : j ≡ k).
      let above_k : AllByRecursion (λ i. k + 1 ≤ i) js = above k js (subst (λ n. AllByRecursion (λ i. n < i) js) e up.0) in
      run m k cur
      ∙ later js (put p env (picked b (k ∷ [])) cur) (put p env (picked b (k ∷ [])) other)
      (put_length p env (picked b (k ∷ [])) cur ∙ long ∙ sym (put_length p env (picked b (k ∷ [])) other))
      (put_frame p s env (picked b (k ∷ [])) cur other (long, same)) up.1 above_k
      (λ i h. let l = inside i (right (j == i) (is_among js i) h) in omega (arith, l))
      (λ i le h. free i (omega (arith, le)) (ap (λ t. t || is_among js i) (other_place i le e) ∙ h))
      ∙ sym (ap (λ n. at (put p env (and_then (statement_at b n) (picked b js)) other) s) e ∙ ap (λ ys. at ys s) (put_one p env (statement_at b k) (picked b js) other)))
      (λ (e : j ≢ k).
      let lt : k < j = omega (arith, low.0, e) in
      skipped m k later (j ∷ js) cur other long same up (omega (arith, lt), above_first j k js lt up.0) inside free)
      (cases_eq j k)
    where
      other_place : (i : ℕ) → k + 1 ≤ i → j ≡ k → (j == i) ≡ false
      other_place i le e = ⊎_elim (λ (t : (j == i) ≡ true). absurd (omega (arith, le, e, eqb-true j i t))) (λ (t : (j == i) ≡ false). t) (cases_Bool (j == i))

  same_from : (m k : ℕ) → Same m k
  same_from zero k [] cur other long same up low inside free = same
  same_from zero k (i ∷ is) cur other long same up low inside free =
      let past = inside i (left (i == i) (is_among is i) (eq-eqb i i refl)) in
      absurd (omega (arith, low.0, past))
  same_from (suc m) k is cur other long same up low inside free = same_next m k (same_from m (k + 1)) is cur other long same up low inside free

  all_above_zero : (is : List ℕ) → AllByRecursion (λ i. 0 ≤ i) is
  all_above_zero [] = tt
  all_above_zero (i ∷ is) = (omega arith, all_above_zero is)

  inside_of : (n : ℕ) (is : List ℕ) → AllByRecursion (λ i. i < n) is → (i : ℕ) → is_among is i ≡ true → i < n
  inside_of n [] h i m = absurd (false≢true m)
  inside_of n (j ∷ is) h i m =
      ⊎_elim (λ (e : (j == i) ≡ true). omega (arith, h.0, eqb-true j i e)) (λ (e : is_among is i ≡ true). inside_of n is h.1 i e) (or_cases (j == i) (is_among is i) m)

  -- the statements of a group leave in a signal that they drive what the whole block does
  pub group_same : (is : List ℕ) (cur : List ℤ) → IsApart p b is → is_among (driven p (picked b is)) s ≡ true → at (put p env b cur) s ≡ at (put p env (picked b is) cur) s
  group_same is cur apart drives =
      ap (λ x. at (put p env x cur) s) (sym (whole b))
      ∙ same_from (length (statements b)) 0 is cur cur refl refl apart.ascends (all_above_zero is)
      (λ i h. let l = inside_of (length (statements b)) is apart.inside i h in omega (arith, l))
      (λ i le h. free i h)
    where
      free : (i : ℕ) → is_among is i ≡ false → drives_at p b i s ≡ false
      free i h =
          ⊎_elim
          (λ (t : drives_at p b i s ≡ true). absurd (false≢true (sym h ∙ apart.alone i s (drives_there p s b i t) t drives)))
          (λ (t : drives_at p b i s ≡ false). t)
          (cases_Bool (drives_at p b i s))

-- ---- the signals of each statement

map_at : {A B : Type 0} (f : A → List B) (xs : List A) (i : ℕ) (x : A) → slice_get xs i ≡ Some x → get_or (map f xs) i [] ≡ f x
map_at f [] i x e = cc
map_at f (y ∷ ys) zero x e = let same : y ≡ x = cc in ap f same
map_at f (y ∷ ys) (suc i) x e = map_at f ys i x e

-- the signals of a statement's targets are those that it drives
pub drives_is : (p : Pooled) (targets : List (List SigId)) (b : Block) (drives : List (List SigId)) → AreTargets p (length p.exprs) targets → AreThere p (block_exprs b) → drives ≡ map (statement_listed (λ k. get_or targets k [])) (statements b)
    → (i s : ℕ) → i < length (statements b) → is_among (drives_of drives i) s ≡ drives_at p b i s
drives_is p targets b drives known there e i s h =
    let x = element (statements b) i h in
    let one : get_or drives i [] ≡ statement_listed (λ k. get_or targets k []) x.0 = ap (λ xs. get_or xs i []) e ∙ map_at (statement_listed (λ k. get_or targets k [])) (statements b) i x.0 x.1 in
    let own : AreThere p (block_exprs (next x.0 done)) = all_append (λ (y : ExprId). y.0 < length p.exprs) (statement_exprs x.0) [] (statement_has (λ (y : ExprId). y.0 < length p.exprs) block_exprs statement_exprs (λ s r. refl) b i x.0 x.1 there) tt in
    driven_like p targets (next x.0 done) (get_or drives i []) known own (one ∙ sym (append-nil (statement_listed (λ k. get_or targets k []) x.0))) s
    ∙ ap (λ o. is_among (driven p (and_then o done)) s) (sym x.1)
