-- The marked expressions in order are a program in which all that is marked stands.
use Rattle.std.specs.Prelude.{◌≡◌, refl, ℕ, zero, suc, ◌+◌, ◌<◌, ◌≤◌, ◌==◌, ◌||◌, Bool, true, false, List, [], ◌∷◌, ◌++◌, take, length, slice_get, Some}
use Rattle.std.specs.List.{AllByRecursion, range_with_len}
use Rattle.std.specs.List.Sorted.{IsNonDecreasing}
use Rattle.std.proofs.Common.{sym, ◌∙◌, ap, arith, subst, ⊎_elim}
use Rattle.std.proofs.lemmas.Bool.{cases_Bool, eq-eqb, eqb-true, false≢true}
use Rattle.design_ir.specs.declared.ids.ExprId.{ExprId}
use Rattle.design_ir.specs.declared.expr.Expr as expr
use Rattle.design_ir.specs.declared.expr.Expr.{Expr}
use Rattle.design_ir.specs.declared.expr.Expr.TheVariants.{Const, Unary, Binary, Mux, Slice, Cat, Part, Pick, Cast, Matches, Reset}
use Rattle.design_ir.specs.Circuits.{is_among}
use Rattle.design_ir.specs.Guards.{block_exprs, statement_exprs, choices_exprs, Guard, Guarded, guarded, guarded_in, guarded_arms}
use Rattle.design_ir.specs.Named.{named, AllBelow}
use Rattle.design_ir.specs.Pools.{Pooled}
use Rattle.design_ir.specs.PoolRules.{IsPool}
use Rattle.design_ir.specs.Targets.{is_target, target_test}
use Rattle.design_ir.specs.Trees.{Statement, assign, choose, Choices, none, arm, Block, done, next, statements}
use Rattle.design_ir.proofs.Equations.{standing}
use Rattle.design_ir.proofs.TargetLaws.{is_target_is}
use Rattle.sim_plans.specs.Marks.{aimed_names, placing_names, is_marked, AreMarked, AreSpread}
use Rattle.sim_plans.specs.Tasks.{places_of, AreAmong, AreTargetsOf, IsProgram, statement_at, and_then, picked, block_targets, statement_targets, choices_targets, block_values, statement_values, choices_values}
use Rattle.sim_plans.specs.Given.{marked}
use Rattle.sim_plans.proofs.Agrees.{left, right}
use Rattle.sim_plans.proofs.Spreading.{marks_back, place_of, within}

-- ---- expressions in order

-- an expression that is named before another stands before it
pub stands_before : (es : List ExprId) (i : ℕ) (e : ExprId) (n : ℕ) → slice_get es i ≡ Some e → IsNonDecreasing (places_of es) → n < e.0 → is_among (places_of es) n ≡ true → is_among (places_of (take i es)) n ≡ true
stands_before [] i e n at up lt h = absurd (false≢true h)
stands_before (y ∷ ys) zero e n at up lt h =
    let same : y ≡ e = cc in
    let least : e.0 ≤ n = subst (λ (z : ExprId). z.0 ≤ n) same (first_least y ys n up h) in
    absurd (omega (arith, least, lt))
  where
    first_least : (y : ExprId) (ys : List ExprId) (n : ℕ) → IsNonDecreasing (places_of (y ∷ ys)) → is_among (places_of (y ∷ ys)) n ≡ true → y.0 ≤ n
    first_least y ys n up h =
        let r = place_of (places_of (y ∷ ys)) n h in
        let le = up 0 r.0 0 (omega arith) r.1 in
        omega (arith, le, r.2)
stands_before (y ∷ ys) (suc i) e n at up lt h =
    ⊎_elim
    (λ (s : (y.0 == n) ≡ true). left (y.0 == n) (is_among (places_of (take i ys)) n) s)
    (λ (s : (y.0 == n) ≡ false).
    right (y.0 == n) (is_among (places_of (take i ys)) n)
    (stands_before ys i e n at (λ a b d le there. up (suc a) (suc b) d (omega (arith, le)) (omega (arith, there))) lt (sym (ap (λ b. b || is_among (places_of ys) n) s) ∙ h)))
    (cases_Bool (y.0 == n))

-- what holds of all numbers among these holds of each
pub each_of : (P : ℕ → Type 0) (es : List ExprId) → ((j : ℕ) → is_among (places_of es) j ≡ true → P j) → AllByRecursion (λ (e : ExprId). P e.0) es
each_of P [] f = tt
each_of P (e ∷ es) f = (f e.0 (left (e.0 == e.0) (is_among (places_of es) e.0) (eq-eqb e.0 e.0 refl)), each_of P es (λ j h. f j (right (e.0 == j) (is_among (places_of es) j) h)))

pub get_among : (es : List ExprId) (i : ℕ) (e : ExprId) → slice_get es i ≡ Some e → is_among (places_of es) e.0 ≡ true
get_among [] i e at = cc
get_among (y ∷ ys) zero e at = let same : y ≡ e = cc in left (y.0 == e.0) (is_among (places_of ys) e.0) (eq-eqb y.0 e.0 (ap (λ (z : ExprId). z.0) same))
get_among (y ∷ ys) (suc i) e at = right (y.0 == e.0) (is_among (places_of ys) e.0) (get_among ys i e at)

from_zero : (n : ℕ) → 0 + n ≡ n
from_zero n = omega arith

-- ---- what is named

either_all : (aims values : List Bool) (es : List ExprId) → AreMarked aims es → AllByRecursion (λ (e : ExprId). (is_marked aims e.0 || is_marked values e.0) ≡ true) es
either_all aims values [] h = tt
either_all aims values (e ∷ es) h = (left (is_marked aims e.0) (is_marked values e.0) h.0, either_all aims values es h.1)

or_all : (aims values : List Bool) (es : List ExprId) → AreMarked values es → AllByRecursion (λ (e : ExprId). (is_marked aims e.0 || is_marked values e.0) ≡ true) es
or_all aims values [] h = tt
or_all aims values (e ∷ es) h = (right (is_marked aims e.0) (is_marked values e.0) h.0, or_all aims values es h.1)

-- what a target names is a target in it or places it
named_both : (is : ℕ → Bool) (aims values : List Bool) (x : Expr) → target_test is x ≡ true → AreMarked aims (aimed_names x) → AreMarked values (placing_names x) → AllByRecursion (λ (e : ExprId). (is_marked aims e.0 || is_marked values e.0) ≡ true) (named x)
named_both is aims values (Slice a low width) t h k = either_all aims values (a ∷ []) h
named_both is aims values (Cat es) t h k = either_all aims values es h
named_both is aims values (Part a offset width stride) t h k = (left (is_marked aims a.0) (is_marked values a.0) h.0, (right (is_marked aims offset.0) (is_marked values offset.0) k.0, tt))
named_both is aims values (Pick index es) t h k = (right (is_marked aims index.0) (is_marked values index.0) k.0, either_all aims values es h)
named_both is aims values (Cast a signed) t h k = either_all aims values (a ∷ []) h
named_both is aims values (expr.TheVariants.Sig y) t h k = tt
named_both is aims values (Const n f) t h k = absurd (false≢true t)
named_both is aims values (Unary op a) t h k = absurd (false≢true t)
named_both is aims values (Binary op a b) t h k = absurd (false≢true t)
named_both is aims values (Mux i a b) t h k = absurd (false≢true t)
named_both is aims values (Matches a patterns) t h k = absurd (false≢true t)
named_both is aims values (Reset domain place) t h k = absurd (false≢true t)

module _ (p : Pooled) (rules : IsPool p) (aims values : List Bool) (long : length aims ≡ length p.exprs) (long' : length values ≡ length p.exprs)
    (closed : AreSpread p aims values) (are : (j : ℕ) → is_marked aims j ≡ true → is_target p j ≡ true)
    (list : List ExprId) (order : IsNonDecreasing (places_of list)) (has : (j : ℕ) → is_among (places_of list) j ≡ (is_marked aims j || is_marked values j)) where
  names_marked : (j : ℕ) (x : Expr) → slice_get p.exprs j ≡ Some x → (is_marked aims j || is_marked values j) ≡ true → AllByRecursion (λ (e : ExprId). (is_marked aims e.0 || is_marked values e.0) ≡ true) (named x)
  names_marked j x at m =
      ⊎_elim
      (λ (a : is_marked aims j ≡ true). named_both (is_target p) aims values x (sym (is_target_is p j x rules at) ∙ are j a) (closed.of_aims.named j x at a) (closed.of_aims.placed j x at a))
      (λ (a : is_marked aims j ≡ false). or_all aims values (named x) (closed.of_values j x at (sym (ap (λ b. b || is_marked values j) a) ∙ m)))
      (cases_Bool (is_marked aims j))

  behind_all : (i : ℕ) (e : ExprId) (es : List ExprId) → slice_get list i ≡ Some e → AllBelow e.0 es → AllByRecursion (λ (x : ExprId). (is_marked aims x.0 || is_marked values x.0) ≡ true) es → AreAmong (take i list) es
  behind_all i e [] at b m = tt
  behind_all i e (x ∷ es) at b m = (stands_before list i e x.0 at order b.0 (has x.0 ∙ m.0), behind_all i e es at b.1 m.1)

  inside : (j : ℕ) → (is_marked aims j || is_marked values j) ≡ true → j < length p.exprs
  inside j m =
      ⊎_elim
      (λ (a : is_marked aims j ≡ true). omega (arith, within aims j a, long))
      (λ (a : is_marked aims j ≡ false). omega (arith, within values j (sym (ap (λ b. b || is_marked values j) a) ∙ m), long'))
      (cases_Bool (is_marked aims j))

  pub listed_program : IsProgram p (length p.exprs) list
  listed_program = record {
    there = each_of (λ j. j < length p.exprs) list (λ j h. inside j (sym (has j) ∙ h));
    behind = λ i e x at is.
        behind_all i e (named x) at (standing p e.0 x rules is).names
        (names_marked e.0 x is (sym (has e.0) ∙ get_among list i e at));
  }

  -- all that is marked is listed
  pub all_among : (es : List ExprId) → AllByRecursion (λ (e : ExprId). (is_marked aims e.0 || is_marked values e.0) ≡ true) es → AreAmong list es
  all_among [] m = tt
  all_among (e ∷ es) m = (has e.0 ∙ m.0, all_among es m.1)

-- ---- all statements of a block

whole_from : (b r : Block) (k : ℕ) → ((i : ℕ) → statement_at b (k + i) ≡ statement_at r i) → picked b (range_with_len k (length (statements r))) ≡ r
whole_from b done k f = refl
whole_from b (next x rest) k f =
    let e : k ≡ k + 0 = omega arith in
    ap (λ o. and_then o (picked b (range_with_len (k + 1) (length (statements rest))))) (ap (statement_at b) e ∙ f 0)
    ∙ ap (next x) (whole_from b rest (k + 1) (λ i. (let g : k + 1 + i ≡ k + suc i = omega arith in ap (statement_at b) g) ∙ f (suc i)))

pub whole : (b : Block) → picked b (range_with_len 0 (length (statements b))) ≡ b
whole b = whole_from b b 0 (λ i. ap (statement_at b) (from_zero i))

-- ---- what stands directly in statements

module _ (aims values : List Bool) where
  abbrev Either : List ExprId → Type 0
  Either es = AllByRecursion (λ (e : ExprId). (is_marked aims e.0 || is_marked values e.0) ≡ true) es

  both_parts : (xs ys : List ExprId) → Either xs → Either ys → Either (xs ++ ys)
  both_parts [] ys h k = k
  both_parts (x ∷ xs) ys h k = (h.0, both_parts xs ys h.1 k)

  marked_parts : (m : List Bool) (xs ys : List ExprId) → AreMarked m (xs ++ ys) → AreMarked m xs × AreMarked m ys
  marked_parts m [] ys h = (tt, h)
  marked_parts m (x ∷ xs) ys h = let r = marked_parts m xs ys h.1 in ((h.0, r.0), r.1)

  mutual
    statement_either : (b : Statement) → AreMarked aims (statement_targets b) → AreMarked values (statement_values b) → Either (statement_exprs b)
    statement_either (assign target value place) a v = (left (is_marked aims target.0) (is_marked values target.0) a.0, (right (is_marked aims value.0) (is_marked values value.0) v.0, tt))
    statement_either (choose arms) a v = choices_either arms a v

    choices_either : (b : Choices) → AreMarked aims (choices_targets b) → AreMarked values (choices_values b) → Either (choices_exprs b)
    choices_either none a v = tt
    choices_either (arm condition body others) a v =
        let pa = marked_parts aims (block_targets body) (choices_targets others) a in
        let pv = marked_parts values (block_values body) (choices_values others) v.1 in
        (right (is_marked aims condition.0) (is_marked values condition.0) v.0, both_parts (block_exprs body) (choices_exprs others) (block_either body pa.0 pv.0) (choices_either others pa.1 pv.1))

    pub block_either : (b : Block) → AreMarked aims (block_targets b) → AreMarked values (block_values b) → Either (block_exprs b)
    block_either done a v = tt
    block_either (next x rest) a v =
        let pa = marked_parts aims (statement_targets x) (block_targets rest) a in
        let pv = marked_parts values (statement_values x) (block_values rest) v in
        both_parts (statement_exprs x) (block_exprs rest) (statement_either x pa.0 pv.0) (block_either rest pa.1 pv.1)

-- ---- targets

guarded_parts : (q : Guarded → Type 0) (xs ys : List Guarded) → AllByRecursion q (xs ++ ys) → AllByRecursion q xs × AllByRecursion q ys
guarded_parts q [] ys h = (tt, h)
guarded_parts q (x ∷ xs) ys h = let r = guarded_parts q xs ys h.1 in ((h.0, r.0), r.1)

module _ (p : Pooled) where
  abbrev AimsAt : Guarded → Type 0
  AimsAt g = is_target p g.target.0 ≡ true

  targets_parts : (xs ys : List ExprId) → AreTargetsOf p xs → AreTargetsOf p ys → AreTargetsOf p (xs ++ ys)
  targets_parts [] ys h k = k
  targets_parts (x ∷ xs) ys h k = (h.0, targets_parts xs ys h.1 k)

  mutual
    statement_aims : (gs : List Guard) (b : Statement) → AllByRecursion AimsAt (guarded_in gs b) → AreTargetsOf p (statement_targets b)
    statement_aims gs (assign target value place) h = (h.0, tt)
    statement_aims gs (choose arms) h = choices_aims gs arms h

    choices_aims : (gs : List Guard) (b : Choices) → AllByRecursion AimsAt (guarded_arms gs b) → AreTargetsOf p (choices_targets b)
    choices_aims gs none h = tt
    choices_aims gs (arm condition body others) h =
        let r = guarded_parts AimsAt (guarded (gs ++ record { condition = condition; taken = true } ∷ []) body) (guarded_arms (gs ++ record { condition = condition; taken = false } ∷ []) others) h in
        targets_parts (block_targets body) (choices_targets others) (block_aims (gs ++ record { condition = condition; taken = true } ∷ []) body r.0) (choices_aims (gs ++ record { condition = condition; taken = false } ∷ []) others r.1)

    pub block_aims : (gs : List Guard) (b : Block) → AllByRecursion AimsAt (guarded gs b) → AreTargetsOf p (block_targets b)
    block_aims gs done h = tt
    block_aims gs (next x rest) h =
        let r = guarded_parts AimsAt (guarded_in gs x) (guarded gs rest) h in
        targets_parts (statement_targets x) (block_targets rest) (statement_aims gs x r.0) (block_aims gs rest r.1)

  target_among : (es : List ExprId) (j : ℕ) → AreTargetsOf p es → is_among (places_of es) j ≡ true → is_target p j ≡ true
  target_among [] j h m = absurd (false≢true m)
  target_among (e ∷ es) j h m =
      ⊎_elim (λ (t : (e.0 == j) ≡ true). ap (is_target p) (sym (eqb-true e.0 j t)) ∙ h.0) (λ (t : (e.0 == j) ≡ false). target_among es j h.1 (sym (ap (λ b. b || is_among (places_of es) j) t) ∙ m)) (cases_Bool (e.0 == j))

  -- marks that begin at targets mark targets
  pub first_targets : (es : List ExprId) (m : List Bool) → ((j : ℕ) → is_marked m j ≡ false) → AreTargetsOf p es → (j : ℕ) → is_marked (marked (places_of es) m) j ≡ true → is_target p j ≡ true
  first_targets es m none_m are j h =
      ⊎_elim (λ (a : is_marked m j ≡ true). absurd (false≢true (sym (none_m j) ∙ a))) (λ (a : is_among (places_of es) j ≡ true). target_among es j are a) (marks_back (places_of es) m j h)
