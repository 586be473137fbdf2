-- Statements that are collected from lists in one another.
use Rattle.std.proofs.Common.{◌≡◌, ℕ, zero, suc, ◌+◌, ◌-◌, ◌<◌, ◌≤◌, refl, ap, ◌∙◌, sym, subst, Bool, true, false, List, [], ◌∷◌, ◌++◌, length, drop, Option, Some, None, arith, append_assoc, append-nil, option_map, is_some, true≢false, add-one}
use Rattle.std.specs.Prelude.{option_and_then, slice_index_or, slice_get}
use Rattle.std.specs.List.{AllByRecursion}
use Rattle.std.proofs.Math.Seq.{drop-cons}
use Rattle.py_values.specs.declared.val.Val.{Val}
use Rattle.py_heap.specs.Heaps.{Seen}
use Rattle.elab_store.specs.declared.kept.Equation.{Equation}
use Rattle.design_ir.specs.Pools.{Pooled}
use Rattle.amh_things.specs.Things.{thing_of, kept_number}
use Rattle.elab_store.specs.declared.kept.Kept.{Kept}
use Rattle.elab_store.specs.declared.kept.Kept.TheVariants as kept_as
use Rattle.elab_store.specs.Sound.{IsKept, IsEquation}
use Rattle.elab_store.specs.Stores.{Stored, kept_of}
use Rattle.elab_acts.specs.Sides.{equation_of, row_of_list, joined_all, one_or, equations_in, collected}

-- ---- one value

pub one_equation : (n : ℕ) (s : Seen) (store : Stored) (v : Val) (o : Option Equation) (q : Equation) → o ≡ equation_of (kept_of store v) → o ≡ Some q → equations_in n s store v ≡ Some (q ∷ [])
unfolding equations_in
one_equation zero s store v o q e1 e2 = ap (option_map (λ x. x ∷ [])) (sym e1 ∙ e2)
one_equation (suc n) s store v o q e1 e2 = ap (λ x. one_or x (option_and_then (joined_all (equations_in n s store)) (row_of_list s v))) (sym e1 ∙ e2)

pub no_list : (n : ℕ) (s : Seen) (store : Stored) (v : Val) (o : Option Equation) → o ≡ equation_of (kept_of store v) → o ≡ None → row_of_list s v ≡ None → equations_in n s store v ≡ None
unfolding equations_in
no_list zero s store v o e1 e2 e3 = ap (option_map (λ x. x ∷ [])) (sym e1 ∙ e2)
no_list (suc n) s store v o e1 e2 e3 =
    ap (λ x. one_or x (option_and_then (joined_all (equations_in n s store)) (row_of_list s v))) (sym e1 ∙ e2) ∙ ap (option_and_then (joined_all (equations_in n s store))) e3

pub no_room : (n : ℕ) (s : Seen) (store : Stored) (v : Val) (o : Option Equation) → n ≡ 0 → o ≡ equation_of (kept_of store v) → o ≡ None → equations_in n s store v ≡ None
unfolding equations_in
no_room zero s store v o e0 e1 e2 = ap (option_map (λ x. x ∷ [])) (sym e1 ∙ e2)
no_room (suc n) s store v o e0 e1 e2 = absurd (omega arith)

of_row : (n : ℕ) (s : Seen) (store : Stored) (v : Val) (o : Option Equation) (row : List Val) → 0 < n → o ≡ equation_of (kept_of store v) → o ≡ None → row_of_list s v ≡ Some row → equations_in n s store v ≡ joined_all (equations_in (n - 1) s store) row
unfolding equations_in
of_row zero s store v o row h e1 e2 e3 = absurd (omega arith)
of_row (suc n) s store v o row h e1 e2 e3 =
    ap (λ x. one_or x (option_and_then (joined_all (equations_in n s store)) (row_of_list s v))) (sym e1 ∙ e2) ∙ ap (option_and_then (joined_all (equations_in n s store))) e3
    ∙ ap (λ m. joined_all (equations_in m s store) row) (omega arith)

-- what is no statement is told as none
pub told_none : (before : List Equation) (x : Option (List Equation)) → x ≡ None → None ≡ option_map (λ qs. before ++ qs) x
told_none before x e = sym (ap (option_map (λ qs. before ++ qs)) e)

pub told_one : (before after : List Equation) (q : Equation) (x : Option (List Equation)) → after ≡ before ++ q ∷ [] → x ≡ Some (q ∷ []) → Some after ≡ option_map (λ qs. before ++ qs) x
told_one before after q x e1 e2 = ap Some e1 ∙ sym (ap (option_map (λ qs. before ++ qs)) e2)

-- ---- a row, one value after the other

pub joined_next : (f : Val → Option (List Equation)) (row : List Val) (i : ℕ) (v : Val) (before into after : List Equation) (b : Bool) (whole : Option (List Equation))
    → i < length row → v ≡ slice_index_or row i v → collected b after ≡ option_map (λ qs. into ++ qs) (f v) → b ≡ true
    → option_map (λ qs. into ++ qs) (joined_all f (drop i row)) ≡ whole → option_map (λ qs. after ++ qs) (joined_all f (drop (i + 1) row)) ≡ whole
joined_next f row i v before into after b whole h is told holds e =
    let split : drop i row ≡ v ∷ drop (i + 1) row = split_at row i v h is in
    sym (joined_with (f v) (joined_all f (drop (i + 1) row)) into after (sym (ap (λ c. collected c after) holds) ∙ told)) ∙ sym (ap (λ xs. option_map (λ qs. into ++ qs) (joined_all f xs)) split) ∙ e
  where
    split_at : (row : List Val) (i : ℕ) (v : Val) → i < length row → v ≡ slice_index_or row i v → drop i row ≡ v ∷ drop (i + 1) row
    split_at row i v h is = drop-cons row i v h ∙ ap (λ x. x ∷ drop (suc i) row) (sym is) ∙ ap (λ j. v ∷ drop j row) (sym (add-one i))

    joined_with : (x : Option (List Equation)) (rest : Option (List Equation)) (into after : List Equation) → Some after ≡ option_map (λ qs. into ++ qs) x
        → option_map (λ qs. into ++ qs) (option_and_then (λ xs. option_map (λ ys. xs ++ ys) rest) x) ≡ option_map (λ qs. after ++ qs) rest
    joined_with None rest into after e = absurd (true≢false (ap is_some e))
    joined_with (Some xs) None into after e = refl
    joined_with (Some xs) (Some ys) into after e = let same : after ≡ into ++ xs = cc in ap Some (sym (append_assoc into xs ys) ∙ ap (λ zs. zs ++ ys) (sym same))

-- one of them is no statement
pub row_stops : (n : ℕ) (s : Seen) (store : Stored) (v : Val) (o : Option Equation) (row : List Val) (i : ℕ) (x : Val) (before into after : List Equation) (b : Bool)
    → 0 < n → o ≡ equation_of (kept_of store v) → o ≡ None → row_of_list s v ≡ Some row → i < length row → x ≡ slice_index_or row i x
    → collected b after ≡ option_map (λ qs. into ++ qs) (equations_in (n - 1) s store x) → b ≡ false
    → option_map (λ qs. into ++ qs) (joined_all (equations_in (n - 1) s store) (drop i row)) ≡ option_map (λ qs. before ++ qs) (joined_all (equations_in (n - 1) s store) row)
    → None ≡ option_map (λ qs. before ++ qs) (equations_in n s store v)
row_stops n s store v o row i x before into after b room e1 e2 e3 h is told fails e =
    let f = equations_in (n - 1) s store in
    let split : drop i row ≡ x ∷ drop (suc i) row = drop-cons row i x h ∙ ap (λ y. y ∷ drop (suc i) row) (sym is) in
    let none : f x ≡ None = none_told into (f x) (sym told ∙ ap (λ c. collected c after) fails) in
    sym (ap (λ xs. option_map (λ qs. into ++ qs) (joined_all f xs)) split ∙ ap (λ y. option_map (λ qs. into ++ qs) (option_and_then (λ xs. option_map (λ ys. xs ++ ys) (joined_all f (drop (suc i) row))) y)) none)
    ∙ e ∙ sym (ap (option_map (λ qs. before ++ qs)) (of_row n s store v o row room e1 e2 e3))
  where
    none_told : (into : List Equation) (y : Option (List Equation)) → option_map (λ qs. into ++ qs) y ≡ None → y ≡ None
    none_told into None h = refl
    none_told into (Some xs) h = absurd (true≢false (ap is_some h))

-- all of them are
pub row_done : (n : ℕ) (s : Seen) (store : Stored) (v : Val) (o : Option Equation) (row : List Val) (i : ℕ) (before into : List Equation)
    → 0 < n → o ≡ equation_of (kept_of store v) → o ≡ None → row_of_list s v ≡ Some row → length row ≤ i
    → option_map (λ qs. into ++ qs) (joined_all (equations_in (n - 1) s store) (drop i row)) ≡ option_map (λ qs. before ++ qs) (joined_all (equations_in (n - 1) s store) row)
    → Some into ≡ option_map (λ qs. before ++ qs) (equations_in n s store v)
row_done n s store v o row i before into room e1 e2 e3 h e =
    let f = equations_in (n - 1) s store in
    ap Some (sym (append-nil into)) ∙ sym (ap (λ xs. option_map (λ qs. into ++ qs) (joined_all f xs)) (past row i h)) ∙ e ∙ sym (ap (option_map (λ qs. before ++ qs)) (of_row n s store v o row room e1 e2 e3))
  where
    past : (row : List Val) (i : ℕ) → length row ≤ i → drop i row ≡ []
    past [] zero h = refl
    past [] (suc i) h = refl
    past (x ∷ row) zero h = absurd (omega arith)
    past (x ∷ row) (suc i) h = past row i (omega arith)

-- ---- what is collected keeps to what the kept things keep to

module _ (q : Pooled) (store : Stored) (kept : AllByRecursion (IsKept q store.components.signatures store.components.ends) store.kept) where
  abbrev Keeps : Kept → Type 0
  Keeps k = IsKept q store.components.signatures store.components.ends k

  kept_at : (ks : List Kept) (n : ℕ) (k : Kept) → AllByRecursion Keeps ks → slice_get ks n ≡ Some k → Keeps k
  kept_at [] n k h e = absurd (true≢false (ap is_some (sym e)))
  kept_at (x ∷ ks) zero k h e = let same : x ≡ k = cc in subst Keeps same h.0
  kept_at (x ∷ ks) (suc n) k h e = kept_at ks n k h.1 e

  pub kept_stands : (v : Val) (k : Kept) → kept_of store v ≡ Some k → IsKept q store.components.signatures store.components.ends k
  kept_stands v k e = by_number (kept_number (thing_of store.things v)) e
    where
      by_number : (o : Option ℕ) → option_and_then (slice_get store.kept) o ≡ Some k → Keeps k
      by_number None e = absurd (true≢false (ap is_some (sym e)))
      by_number (Some n) e = kept_at store.kept n k kept e

  one_stands : (v : Val) (x : Equation) → equation_of (kept_of store v) ≡ Some x → IsEquation q x
  one_stands v x e = by_kept (kept_of store v) (kept_stands v) e
    where
      by_kept : (o : Option Kept) → ((k : Kept) → o ≡ Some k → Keeps k) → equation_of o ≡ Some x → IsEquation q x
      by_kept None f e = absurd (true≢false (ap is_some (sym e)))
      by_kept (Some (kept_as.Statement y)) f e = let same : y ≡ x = cc in subst (IsEquation q) same (f (kept_as.Statement y) refl)
      by_kept (Some (kept_as.Name n)) f e = absurd (true≢false (ap is_some (sym e)))
      by_kept (Some (kept_as.Module n)) f e = absurd (true≢false (ap is_some (sym e)))
      by_kept (Some (kept_as.Domains n)) f e = absurd (true≢false (ap is_some (sym e)))
      by_kept (Some (kept_as.Domain n d)) f e = absurd (true≢false (ap is_some (sym e)))
      by_kept (Some (kept_as.Submodules n)) f e = absurd (true≢false (ap is_some (sym e)))
      by_kept (Some (kept_as.Definitions n)) f e = absurd (true≢false (ap is_some (sym e)))
      by_kept (Some (kept_as.ClockDomain n)) f e = absurd (true≢false (ap is_some (sym e)))
      by_kept (Some (kept_as.Memory k)) f e = absurd (true≢false (ap is_some (sym e)))
      by_kept (Some (kept_as.OfMemory k y)) f e = absurd (true≢false (ap is_some (sym e)))
      by_kept (Some (kept_as.MemoryPort x)) f e = absurd (true≢false (ap is_some (sym e)))
      by_kept (Some (kept_as.Wrapping k)) f e = absurd (true≢false (ap is_some (sym e)))
      by_kept (Some (kept_as.Wrapped k)) f e = absurd (true≢false (ap is_some (sym e)))
      by_kept (Some (kept_as.Port is_out shape init)) f e = absurd (true≢false (ap is_some (sym e)))
      by_kept (Some (kept_as.Nested is_out m)) f e = absurd (true≢false (ap is_some (sym e)))
      by_kept (Some (kept_as.Signature n)) f e = absurd (true≢false (ap is_some (sym e)))
      by_kept (Some (kept_as.OfSignature n y)) f e = absurd (true≢false (ap is_some (sym e)))
      by_kept (Some (kept_as.Interface n)) f e = absurd (true≢false (ap is_some (sym e)))
      by_kept (Some (kept_as.BlockName m n)) f e = absurd (true≢false (ap is_some (sym e)))
      by_kept (Some (kept_as.Block m b)) f e = absurd (true≢false (ap is_some (sym e)))
      by_kept (Some (kept_as.OfMachine x)) f e = absurd (true≢false (ap is_some (sym e)))
      by_kept (Some (kept_as.OfSimulator x)) f e = absurd (true≢false (ap is_some (sym e)))
      by_kept (Some (kept_as.OfBench x)) f e = absurd (true≢false (ap is_some (sym e)))

  all_append : (xs ys : List Equation) → AllByRecursion (IsEquation q) xs → AllByRecursion (IsEquation q) ys → AllByRecursion (IsEquation q) (xs ++ ys)
  all_append [] ys h g = g
  all_append (x ∷ xs) ys h g = (h.0, all_append xs ys h.1 g)

  joined_stand : (f : Val → Option (List Equation)) → ((v : Val) (qs : List Equation) → f v ≡ Some qs → AllByRecursion (IsEquation q) qs)
      → (row : List Val) (qs : List Equation) → joined_all f row ≡ Some qs → AllByRecursion (IsEquation q) qs
  joined_stand f each [] qs e = let same : [] ≡ qs = cc in subst (AllByRecursion (IsEquation q)) same tt
  joined_stand f each (v ∷ row) qs e = both (f v) (joined_all f row) (each v) (joined_stand f each row) e
    where
      both : (x y : Option (List Equation)) → ((xs : List Equation) → x ≡ Some xs → AllByRecursion (IsEquation q) xs) → ((ys : List Equation) → y ≡ Some ys → AllByRecursion (IsEquation q) ys)
          → option_and_then (λ xs. option_map (λ ys. xs ++ ys) y) x ≡ Some qs → AllByRecursion (IsEquation q) qs
      both None y f g e = absurd (true≢false (ap is_some (sym e)))
      both (Some xs) None f g e = absurd (true≢false (ap is_some (sym e)))
      both (Some xs) (Some ys) f g e = let same : xs ++ ys ≡ qs = cc in subst (AllByRecursion (IsEquation q)) same (all_append xs ys (f xs refl) (g ys refl))

  pub equations_stand : (n : ℕ) (s : Seen) (v : Val) (qs : List Equation) → equations_in n s store v ≡ Some qs → AllByRecursion (IsEquation q) qs
  unfolding equations_in
  equations_stand zero s v qs e = one (equation_of (kept_of store v)) (one_stands v) e
    where
      one : (o : Option Equation) → ((x : Equation) → o ≡ Some x → IsEquation q x) → option_map (λ x. x ∷ []) o ≡ Some qs → AllByRecursion (IsEquation q) qs
      one None f e = absurd (true≢false (ap is_some (sym e)))
      one (Some x) f e = let same : x ∷ [] ≡ qs = cc in subst (AllByRecursion (IsEquation q)) same (f x refl, tt)
  equations_stand (suc n) s v qs e = one (equation_of (kept_of store v)) (row_of_list s v) (one_stands v) (equations_stand n s) e
    where
      row : (o : Option (List Val)) → ((x : Val) (xs : List Equation) → equations_in n s store x ≡ Some xs → AllByRecursion (IsEquation q) xs) → option_and_then (joined_all (equations_in n s store)) o ≡ Some qs → AllByRecursion (IsEquation q) qs
      row None each e = absurd (true≢false (ap is_some (sym e)))
      row (Some r) each e = joined_stand (equations_in n s store) each r qs e

      one : (o : Option Equation) (r : Option (List Val)) → ((x : Equation) → o ≡ Some x → IsEquation q x) → ((x : Val) (xs : List Equation) → equations_in n s store x ≡ Some xs → AllByRecursion (IsEquation q) xs) → one_or o (option_and_then (joined_all (equations_in n s store)) r) ≡ Some qs → AllByRecursion (IsEquation q) qs
      one None r f each e = row r each e
      one (Some x) r f each e = let same : x ∷ [] ≡ qs = cc in subst (AllByRecursion (IsEquation q)) same (f x refl, tt)

pub collected_some : (b : Bool) (before qs : List Equation) (o : Option (List Equation)) → b ≡ true → before ≡ [] → collected b qs ≡ option_map (λ xs. before ++ xs) o → o ≡ Some qs
collected_some b before qs None e none told = absurd (true≢false (ap is_some (ap (λ c. collected c qs) (sym e) ∙ told)))
collected_some b before qs (Some xs) e none told = sym (ap (λ c. collected c qs) (sym e) ∙ told ∙ ap (λ (ys : List Equation). Some (ys ++ xs)) none)
