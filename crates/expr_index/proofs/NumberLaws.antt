-- The numbers in a list, and the first of them that is the same.
use Rattle.std.specs.Prelude.{◌≡◌, refl, ℕ, zero, suc, ◌+◌, ◌<◌, ◌==◌, Bool, true, false, List, [], ◌∷◌, ◌++◌, length, slice_get, Option, Some, option_map, unwrap_or}
use Rattle.std.specs.List.{find, position_from}
use Rattle.std.proofs.Common.{sym, ◌∙◌, ap, arith, cond}
use Rattle.std.proofs.lemmas.Bool.{false≢true, eq-eqb}
use Rattle.std.proofs.lemmas.Iterator.Adapters.{position_from-zero}
use Rattle.design_ir.specs.declared.expr.Expr.{Expr}
use Rattle.expr_index.specs.First.{first_number}
use Rattle.expr_index.specs.Knows.{numbers_in}
use Rattle.expr_index.specs.Lists.{list_of}
use Rattle.expr_index.specs.Same.{same}
use Rattle.expr_index.proofs.SameLaws.{same_are}

-- ---- expressions behind others

cond_append : (b : Bool) (k : ℕ) (more few rest : List ℕ) → more ≡ few ++ rest → cond b (k ∷ more) more ≡ cond b (k ∷ few) few ++ rest
cond_append true k more few rest e = ap (λ l. k ∷ l) e
cond_append false k more few rest e = e

pub numbers_append : (n k : ℕ) (es fs : List Expr) → numbers_in n k (es ++ fs) ≡ numbers_in n k es ++ numbers_in n (k + length es) fs
numbers_append n k [] fs = ap (λ j. numbers_in n j fs) (omega arith)
numbers_append n k (e ∷ es) fs =
    cond_append (list_of e == n) k (numbers_in n (suc k) (es ++ fs)) (numbers_in n (suc k) es) (numbers_in n (k + suc (length es)) fs)
    (numbers_append n (suc k) es fs ∙ ap (λ j. numbers_in n (suc k) es ++ numbers_in n j fs) (omega arith))

-- ---- each number is one of an expression

below_one : (b : Bool) (k m : ℕ) (rest : List ℕ) (i j : ℕ) → ((i : ℕ) → slice_get rest i ≡ Some j → j < suc k + m) → slice_get (cond b (k ∷ rest) rest) i ≡ Some j → j < k + suc m
below_one true k m rest zero j later g = let s : k ≡ j = cc in omega (arith, s)
below_one true k m rest (suc i) j later g = omega (arith, later i g)
below_one false k m rest i j later g = omega (arith, later i g)

pub numbers_below : (n k : ℕ) (es : List Expr) (i j : ℕ) → slice_get (numbers_in n k es) i ≡ Some j → j < k + length es
numbers_below n k [] i j h = absurd cc
numbers_below n k (e ∷ es) i j h = below_one (list_of e == n) k (length es) (numbers_in n (suc k) es) i j (λ i g. numbers_below n (suc k) es i j g) h

-- ---- the first that is the same

-- expression k is the same as this one
abbrev pub is_at : List Expr → Expr → ℕ → Bool
is_at es e k = unwrap_or (option_map (λ x. same x e) (slice_get es k)) false

module _ (all : List Expr) (e : Expr) where
  -- an expression of another list is another one
  others : (x : Expr) → (list_of x == list_of e) ≡ false → (b : Bool) → same x e ≡ b → same x e ≡ false
  others x h true s = absurd (false≢true (sym h ∙ eq-eqb (list_of x) (list_of e) (ap list_of (same_are x e s))))
  others x h false s = s

  -- an expression of number k, and those behind it
  found_one : (k : ℕ) (x : Expr) (numbers : List ℕ) (first : Option ℕ) → is_at all e k ≡ same x e → find (is_at all e) numbers ≡ first → (b : Bool) → (list_of x == list_of e) ≡ b → find (is_at all e) (cond b (k ∷ numbers) numbers) ≡ cond (same x e) (Some k) first
  found_one k x numbers first here rest true h = ap (λ b. cond b (Some k) (find (is_at all e) numbers)) here ∙ ap (λ o. cond (same x e) (Some k) o) rest
  found_one k x numbers first here rest false h = rest ∙ ap (λ b. cond b (Some k) first) (sym (others x h (same x e) refl))

  found_from : (k : ℕ) (es : List Expr) → ((j : ℕ) → slice_get all (k + j) ≡ slice_get es j) → find (is_at all e) (numbers_in (list_of e) k es) ≡ position_from (λ x. same x e) k es
  found_from k [] stands = refl
  found_from k (x ∷ es) stands =
      let zero_is : k ≡ k + 0 = omega arith in
      let here : is_at all e k ≡ same x e = ap (λ o. unwrap_or (option_map (λ y. same y e) o) false) (ap (slice_get all) zero_is ∙ stands 0) in
      let next : (j : ℕ) → slice_get all (suc k + j) ≡ slice_get es j = λ j. (let at : suc k + j ≡ k + suc j = omega arith in ap (slice_get all) at ∙ stands (suc j)) in
      let more : suc k ≡ k + 1 = omega arith in
      found_one k x (numbers_in (list_of e) (suc k) es) (position_from (λ y. same y e) (k + 1) es) here
      (found_from (suc k) es next ∙ ap (λ i. position_from (λ y. same y e) i es) more)
      (list_of x == list_of e)
      refl

-- the first of a list's numbers whose expression is the same is the first of all
pub found : (es : List Expr) (e : Expr) → find (is_at es e) (numbers_in (list_of e) 0 es) ≡ first_number es e
found es e = found_from es e 0 es (λ j. (let at : 0 + j ≡ j = omega arith in ap (slice_get es) at)) ∙ sym (position_from-zero (λ x. same x e) es)
