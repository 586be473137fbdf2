-- What knows the first expressions of a pool knows one more, once its number stands in its list.
use Rattle.std.specs.Prelude.{◌≡◌, ◌≢◌, refl, ℕ, zero, suc, ◌+◌, ◌<◌, ◌==◌, Bool, true, false, List, [], ◌∷◌, ◌++◌, length, slice_get, slice_index_or, slice_set, Some}
use Rattle.std.proofs.Common.{sym, ◌∙◌, ap, arith, cond, subst, append-nil}
use Rattle.std.proofs.lemmas.Bool.{false≢true, eq-eqb, eqb-true}
use Rattle.std.proofs.lemmas.Option.{slice_get_within, slice_get_read, slice_get-get_or}
use Rattle.design_ir.specs.declared.expr.Expr.{Expr}
use Rattle.design_ir.proofs.Answers.{answers_append, answers_begin}
use Rattle.design_ir.proofs.Elements.{some_is}
use Rattle.expr_index.specs.First.{reset_step}
use Rattle.expr_index.specs.Knows.{Index, Knows, numbers_in}
use Rattle.expr_index.specs.Lists.{list_of, list_count}
use Rattle.expr_index.proofs.NumberLaws.{numbers_append, numbers_below}

get_set_same : {A : Type 0} (xs : List A) (i : ℕ) (y : A) → i < length xs → slice_get (slice_set xs i y) i ≡ Some y
get_set_same [] i y h = absurd (omega (arith, h))
get_set_same (x ∷ xs) zero y h = refl
get_set_same (x ∷ xs) (suc i) y h = get_set_same xs i y (omega (arith, h))

get_set_other : {A : Type 0} (xs : List A) (i j : ℕ) (y : A) → i ≢ j → slice_get (slice_set xs i y) j ≡ slice_get xs j
get_set_other [] i j y h = refl
get_set_other (x ∷ xs) zero zero y h = absurd (h refl)
get_set_other (x ∷ xs) zero (suc j) y h = refl
get_set_other (x ∷ xs) (suc i) zero y h = refl
get_set_other (x ∷ xs) (suc i) (suc j) y h = get_set_other xs i j y (λ s. h (ap suc s))

-- ---- what is known of the list of an expression

-- the list of an expression, as it is read
pub listed : (x y : Index) (es : List Expr) (e : Expr) (n : ℕ) (ls : List ℕ) → x ≡ y → Knows y es → n ≡ list_of e → n < list_count → length x.lists ≡ list_count → ls ≡ slice_index_or x.lists n ls → ls ≡ numbers_in (list_of e) 0 es
listed x y es e n ls view known is within size read =
    let there : slice_get x.lists n ≡ Some ls = slice_get_read x.lists list_count n ls (sym size) within read in
    let whole : Knows x es = subst (λ z. Knows z es) (sym view) known in
    some_is ls (numbers_in (list_of e) 0 es) (sym there ∙ whole.lists n within ∙ ap (λ m. Some (numbers_in m 0 es)) is)

-- a number of it is one of an expression
pub number_within : (es : List Expr) (e : Expr) (ls : List ℕ) (i d : ℕ) → ls ≡ numbers_in (list_of e) 0 es → i < length ls → slice_index_or ls i d < length es
number_within es e ls i d is h =
    let there : slice_get (numbers_in (list_of e) 0 es) i ≡ Some (slice_index_or ls i d) = ap (λ l. slice_get l i) (sym is) ∙ slice_get-get_or ls i d h in
    omega (arith, numbers_below (list_of e) 0 es i (slice_index_or ls i d) there)

-- ---- one expression more

-- so many expressions are known as there are flags
pub count_is : (x : Index) (es : List Expr) → Knows x es → length x.resets ≡ length es
count_is x es h = let r = answers_begin false reset_step [] es in ap length h.resets ∙ ap length r.1 ∙ r.2

module _ (x : Index) (es : List Expr) (e : Expr) (known : Knows x es) (ls : List ℕ) (number : ℕ) (flag : Bool) (there : slice_get x.lists (list_of e) ≡ Some ls) (count : number ≡ length x.resets) (is_flag : flag ≡ reset_step (λ k. slice_index_or x.resets k false) e) where
  one_list : (n : ℕ) → n < list_count → (b : Bool) → (list_of e == n) ≡ b → slice_get (slice_set x.lists (list_of e) (ls ++ number ∷ [])) n ≡ Some (numbers_in n 0 es ++ numbers_in n (length es) (e ∷ []))
  one_list n h true is =
      let same = eqb-true (list_of e) n is in
      let within = slice_get_within x.lists (list_of e) ls there in
      let old : ls ≡ numbers_in n 0 es = some_is ls (numbers_in n 0 es) (sym there ∙ ap (slice_get x.lists) same ∙ known.lists n h) in
      let new : numbers_in n (length es) (e ∷ []) ≡ length es ∷ [] = ap (λ b. cond b (length es ∷ []) []) is in
      let next : number ≡ length es = count ∙ count_is x es known in
      ap (slice_get (slice_set x.lists (list_of e) (ls ++ number ∷ []))) (sym same)
      ∙ get_set_same x.lists (list_of e) (ls ++ number ∷ []) within
      ∙ ap (λ l. Some (l ++ number ∷ [])) old
      ∙ ap (λ k. Some (numbers_in n 0 es ++ k ∷ [])) next
      ∙ ap (λ l. Some (numbers_in n 0 es ++ l)) (sym new)
  one_list n h false is =
      let new : numbers_in n (length es) (e ∷ []) ≡ [] = ap (λ b. cond b (length es ∷ []) []) is in
      get_set_other x.lists (list_of e) n (ls ++ number ∷ []) (λ s. false≢true (sym is ∙ eq-eqb (list_of e) n s))
      ∙ known.lists n h
      ∙ ap Some (sym (append-nil (numbers_in n 0 es)))
      ∙ ap (λ l. Some (numbers_in n 0 es ++ l)) (sym new)

  from_none : 0 + length es ≡ length es
  from_none = omega arith

  pub noted : Knows (record { lists = slice_set x.lists (list_of e) (ls ++ number ∷ []); resets = x.resets ++ flag ∷ [] }) (es ++ e ∷ [])
  noted = record {
    lists = λ n h. one_list n h (list_of e == n) refl ∙ ap Some (sym (numbers_append n 0 es (e ∷ []) ∙ ap (λ k. numbers_in n 0 es ++ numbers_in n k (e ∷ [])) from_none));
    resets =
        ap (λ b. x.resets ++ b ∷ []) is_flag
        ∙ ap (λ l. l ++ reset_step (λ k. slice_index_or l k false) e ∷ []) known.resets
        ∙ sym (answers_append false reset_step [] es (e ∷ []));
  }
