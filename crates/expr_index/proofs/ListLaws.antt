-- What stands in the lists of what is known, and what the flags tell.
use Rattle.std.specs.Prelude.{◌≡◌, refl, ℕ, zero, suc, ◌+◌, ◌≤◌, ◌==◌, Bool, true, false, List, [], ◌∷◌, slice_get, slice_index_or, Some, Contains}
use Rattle.std.proofs.Common.{sym, ◌∙◌, ap, arith, cond, subst, inl, inr}
use Rattle.std.proofs.lemmas.Bool.{eq-eqb, eqb-true}
use Rattle.std.proofs.lemmas.Option.{slice_get-get_or}
use Rattle.design_ir.specs.declared.expr.Expr.{Expr}
use Rattle.design_ir.proofs.Elements.{some_is, contains_first, contains_more, contains_cases, contains_none}
use Rattle.expr_index.specs.Knows.{numbers_in}
use Rattle.expr_index.specs.Laws.{IsNumberIn, Ascend, ListsHaveNumbers, FlagsAreResets}
use Rattle.expr_index.specs.Lists.{list_of}
use Rattle.expr_index.proofs.KnowsLaws.{count_is}

-- ---- each list ascends

ascend_less : (least more : ℕ) (ks : List ℕ) → least ≤ more → Ascend more ks → Ascend least ks
ascend_less least more [] h a = tt
ascend_less least more (k ∷ ks) h a = (omega (arith, h, a.0), a.1)

ascend_one : (b : Bool) (k : ℕ) (ks : List ℕ) → Ascend (suc k) ks → Ascend k (cond b (k ∷ ks) ks)
ascend_one true k ks a = (omega arith, a)
ascend_one false k ks a = ascend_less k (suc k) ks (omega arith) a

numbers_ascend : (n k : ℕ) (es : List Expr) → Ascend k (numbers_in n k es)
numbers_ascend n k [] = tt
numbers_ascend n k (e ∷ es) = ascend_one (list_of e == n) k (numbers_in n (suc k) es) (numbers_ascend n (suc k) es)

-- ---- what stands in it

stands_one : (b : Bool) (k : ℕ) (ks : List ℕ) (m : ℕ) → Contains ks m → Contains (cond b (k ∷ ks) ks) m
stands_one true k ks m h = contains_more k ks m h
stands_one false k ks m h = h

-- the number of each expression of the list stands in it
stands : (n k : ℕ) (es : List Expr) (j : ℕ) (e : Expr) → slice_get es j ≡ Some e → list_of e ≡ n → Contains (numbers_in n k es) (k + j)
stands n k [] j e h l = absurd cc
stands n k (x ∷ es) zero e h l =
    let same = some_is x e h in
    let passes : (list_of x == n) ≡ true = eq-eqb (list_of x) n (ap list_of same ∙ l) in
    let zero_is : k ≡ k + 0 = omega arith in
    subst (λ m. Contains (numbers_in n k (x ∷ es)) m) zero_is
    (subst (λ b. Contains (cond b (k ∷ numbers_in n (suc k) es) (numbers_in n (suc k) es)) k) (sym passes) (contains_first k (numbers_in n (suc k) es)))
stands n k (x ∷ es) (suc j) e h l =
    let at : suc k + j ≡ k + suc j = omega arith in
    subst (λ m. Contains (numbers_in n k (x ∷ es)) m) at
    (stands_one (list_of x == n) k (numbers_in n (suc k) es) (suc k + j) (stands n (suc k) es j e h l))

-- a number of the list, where the first expression has number k
record IsOfList (n k : ℕ) (es : List Expr) (m : ℕ) : Type 0 where
  place : ℕ
  expr : Expr
  number : m ≡ k + place
  here : slice_get es place ≡ Some expr
  list : list_of expr ≡ n

of_later : (n k : ℕ) (x : Expr) (es : List Expr) (m : ℕ) → IsOfList n (suc k) es m → IsOfList n k (x ∷ es) m
of_later n k x es m h = record { place = suc h.place; expr = h.expr; number = omega (arith, h.number); here = h.here; list = h.list }

only_one : (n k : ℕ) (x : Expr) (es : List Expr) (m : ℕ) (ks : List ℕ) → (Contains ks m → IsOfList n (suc k) es m) → (b : Bool) → (list_of x == n) ≡ b → Contains (cond b (k ∷ ks) ks) m → IsOfList n k (x ∷ es) m
only_one n k x es m ks later true h c = elim (contains_cases k m ks c) [
  | inl e ↦ record { place = 0; expr = x; number = omega (arith, e); here = refl; list = eqb-true (list_of x) n h }
  | inr there ↦ of_later n k x es m (later there)
]
only_one n k x es m ks later false h c = of_later n k x es m (later c)

-- nothing else stands in it
only : (n k : ℕ) (es : List Expr) (m : ℕ) → Contains (numbers_in n k es) m → IsOfList n k es m
only n k [] m c = absurd (contains_none m c)
only n k (x ∷ es) m c = only_one n k x es m (numbers_in n (suc k) es) (only n (suc k) es m) (list_of x == n) refl c

number_in : (es : List Expr) (n k : ℕ) → IsOfList n 0 es k → IsNumberIn es n k
number_in es n k h =
    let at : h.place ≡ k = omega (arith, h.number) in
    record { expr = h.expr; here = ap (slice_get es) (sym at) ∙ h.here; list = h.list }

numbers_are : (es : List Expr) (n k : ℕ) → IsNumberIn es n k → Contains (numbers_in n 0 es) k
numbers_are es n k h =
    let at : 0 + k ≡ k = omega arith in
    subst (λ m. Contains (numbers_in n 0 es) m) at (stands n 0 es k h.expr h.here h.list)

pub lists_have_numbers : ListsHaveNumbers
lists_have_numbers x es known n ks within there =
    let is : numbers_in n 0 es ≡ ks = some_is (numbers_in n 0 es) ks (sym (known.lists n within) ∙ there) in
    subst (λ l. Ascend 0 l × ((k : ℕ) → (Contains l k → IsNumberIn es n k) × (IsNumberIn es n k → Contains l k))) is
    (numbers_ascend n 0 es, λ k. (λ c. number_in es n k (only n 0 es k c), numbers_are es n k))

-- ---- the flags

pub flags_are_resets : FlagsAreResets
flags_are_resets x es known =
    let count = count_is x es known in
    (count, λ k h. slice_get-get_or x.resets k false (omega (arith, h, count)) ∙ ap (λ l. Some (slice_index_or l k false)) known.resets)
