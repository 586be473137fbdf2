-- What a walk over the parts of an expression finds: whether the expression is a target.
use Rattle.std.proofs.Common.{◌≡◌, ◌⊎◌, inl, inr, ℕ, zero, suc, ◌+◌, ◌<◌, ◌==◌, Bool, true, false, ◌&&◌, List, [], ◌∷◌, ◌++◌, length, take, Some, slice_get, slice_set, replicate, refl, sym, ap, ◌∙◌, subst, arith}
use Rattle.std.specs.List.{Contains, list_all}
use Rattle.std.proofs.lemmas.Bool.{false≢true, and_parts, and_from, eqb-true, eq-eqb}
use Rattle.std.proofs.lemmas.List.{length-set, get_or-set_same, get_or-set_other, length-append}
use Rattle.design_ir.specs.declared.ids.ExprId.{ExprId}
use Rattle.design_ir.specs.declared.expr.Expr as expr
use Rattle.design_ir.specs.declared.expr.Expr.{Expr}
use Rattle.design_ir.specs.declared.expr.Expr.TheVariants.{Const, Unary, Binary, Mux, Slice, Cat, Part, Pick, Cast, Matches, Reset}
use Rattle.design_ir.specs.Named.{named, AllBelow}
use Rattle.design_ir.specs.Pools.{Pooled}
use Rattle.design_ir.specs.PoolRules.{IsPool}
use Rattle.design_ir.specs.Targets.{is_open_target, open_target_test}
use Rattle.design_ir.proofs.Equations.{standing}
use Rattle.module_dsl.proofs.OpenTargets.{open_target_is}
use Rattle.module_dsl.specs.Walks.{may_be_target, parts_of, is_marked, numbers, unmarked, IsReached, IsSeen, IsWalking}
use Rattle.module_dsl.proofs.Lists.{contains-first, contains-left, contains-right, contains-split, contains-one, take-push, map-push, below_has, all_has, all_from}

-- ---- targets by their parts

and_true : (b : Bool) → b ≡ (b && true)
and_true true = refl
and_true false = refl

pub test_is : (f : ℕ → Bool) (e : Expr) → open_target_test f e ≡ (may_be_target e && list_all (λ (a : ExprId). f a.0) (parts_of e))
test_is f (expr.TheVariants.Sig s) = refl
test_is f (Slice a low width) = and_true (f a.0)
test_is f (Cat es) = refl
test_is f (Part a offset width stride) = and_true (f a.0)
test_is f (Pick index es) = refl
test_is f (Cast a signed) = and_true (f a.0)
test_is f (Const n s) = refl
test_is f (Unary op a) = refl
test_is f (Binary op a b) = refl
test_is f (Mux s a b) = refl
test_is f (Matches a patterns) = refl
test_is f (Reset domain place) = refl

parts_below : (n : ℕ) (e : Expr) → AllBelow n (named e) → AllBelow n (parts_of e)
parts_below n (expr.TheVariants.Sig s) h = tt
parts_below n (Slice a low width) h = (h.0, tt)
parts_below n (Cat es) h = h
parts_below n (Part a offset width stride) h = (h.0, tt)
parts_below n (Pick index es) h = h.1
parts_below n (Cast a signed) h = (h.0, tt)
parts_below n (Const k s) h = tt
parts_below n (Unary op a) h = tt
parts_below n (Binary op a b) h = tt
parts_below n (Mux s a b) h = tt
parts_below n (Matches a patterns) h = tt
parts_below n (Reset domain place) h = tt

pub parts_there : (q : Pooled) (k : ℕ) (e : Expr) → IsPool q → slice_get q.exprs k ≡ Some e → AllBelow k (parts_of e)
parts_there q k e rules at = parts_below k e (standing q k e rules at).names

pub target_by_parts : (q : Pooled) (k : ℕ) (e : Expr) → IsPool q → slice_get q.exprs k ≡ Some e → is_open_target q k ≡ (may_be_target e && list_all (λ (a : ExprId). is_open_target q a.0) (parts_of e))
target_by_parts q k e rules at = open_target_is q k e rules at ∙ test_is (is_open_target q) e

-- ---- marks

pub reached_none : (marks : List Bool) (waiting : List ExprId) → IsReached [] marks waiting marks waiting
reached_none marks waiting = record { size = refl; kept = λ n is. is; added = λ n c. absurd (omega (arith, c.1)); only = λ n is. inl is; stays = λ n c. c; waits = λ n c. inr c; work = refl }

-- what was marked before
pub reached_before : (marks : List Bool) (waiting : List ExprId) (n : ℕ) → is_marked marks n ≡ true → IsReached (n ∷ []) marks waiting marks waiting
reached_before marks waiting n is = record {
  size = refl;
  kept = λ k h. h;
  added = λ k c. ap (is_marked marks) (sym (contains-one n k c)) ∙ is;
  only = λ k h. inl h;
  stays = λ k c. c;
  waits = λ k c. inr c;
  work = refl;
}

marked_set : (marks : List Bool) (n k : ℕ) → n < length marks → (n ≡ k) ⊎ (is_marked (slice_set marks n true) k ≡ is_marked marks k)
marked_set marks n k h = split (n == k) refl
  where
    split : (b : Bool) → (n == k) ≡ b → (n ≡ k) ⊎ (is_marked (slice_set marks n true) k ≡ is_marked marks k)
    split true e = inl (eqb-true n k e)
    split false e = inr (get_or-set_other marks n k true false (λ same. false≢true (sym e ∙ eq-eqb n k (sym same))))

-- one place less that is not marked
unmarked_set : (marks : List Bool) (n : ℕ) → n < length marks → is_marked marks n ≡ false → unmarked (slice_set marks n true) + 1 ≡ unmarked marks
unmarked_set [] n h is = absurd (omega (arith, h))
unmarked_set (true ∷ marks) zero h is = cc
unmarked_set (false ∷ marks) zero h is = omega arith
unmarked_set (true ∷ marks) (suc n) h is = unmarked_set marks n (omega arith) is
unmarked_set (false ∷ marks) (suc n) h is = omega (arith, unmarked_set marks n (omega arith) is)

-- what was not
pub reached_new : (marks : List Bool) (waiting : List ExprId) (e : ExprId) → e.0 < length marks → is_marked marks e.0 ≡ false → IsReached (e.0 ∷ []) marks waiting (slice_set marks e.0 true) (waiting ++ e ∷ [])
reached_new marks waiting e h is =
    let here : is_marked (slice_set marks e.0 true) e.0 ≡ true = get_or-set_same marks e.0 true false h in
    let mine : Contains (numbers (waiting ++ e ∷ [])) e.0 = subst (λ xs. Contains xs e.0) (sym (map-push (λ (x : ExprId). x.0) waiting e)) (contains-right (numbers waiting) (e.0 ∷ []) e.0 (contains-first e.0 [])) in
    record {
      size = length-set marks e.0 true;
      kept = λ k m. elim (marked_set marks e.0 k h) [ inl same ↦ ap (is_marked (slice_set marks e.0 true)) (sym same) ∙ here | inr other ↦ other ∙ m ];
      added = λ k c. ap (is_marked (slice_set marks e.0 true)) (sym (contains-one e.0 k c)) ∙ here;
      only = λ k m. elim (marked_set marks e.0 k h) [
        | inl same ↦ inr (subst (λ x. Contains (e.0 ∷ []) x × Contains (numbers (waiting ++ e ∷ [])) x) same (contains-first e.0 [], mine))
        | inr other ↦ inl (sym other ∙ m)
      ];
      stays = λ k c. subst (λ xs. Contains xs k) (sym (map-push (λ (x : ExprId). x.0) waiting e)) (contains-left (numbers waiting) (e.0 ∷ []) k c);
      waits = λ k c. elim (contains-split (numbers waiting) (e.0 ∷ []) k (subst (λ xs. Contains xs k) (map-push (λ (x : ExprId). x.0) waiting e) c)) [
        | inl before ↦ inr before
        | inr new ↦ inl (ap (is_marked (slice_set marks e.0 true)) (sym (contains-one e.0 k new)) ∙ here)
      ];
      work = omega (arith, unmarked_set marks e.0 h is, length-append waiting (e ∷ []));
    }

pub reached_then : (xs ys : List ℕ) (a b c : List Bool) (u v w : List ExprId) → IsReached xs a u b v → IsReached ys b v c w → IsReached (xs ++ ys) a u c w
reached_then xs ys a b c u v w h k = record {
  size = k.size ∙ h.size;
  kept = λ n is. k.kept n (h.kept n is);
  added = λ n in'. elim (contains-split xs ys n in') [ inl left ↦ k.kept n (h.added n left) | inr right ↦ k.added n right ];
  only = λ n is. elim (k.only n is) [
    | inl before ↦ elim (h.only n before) [ inl first ↦ inl first | inr left ↦ inr (contains-left xs ys n left.0, k.stays n left.1) ]
    | inr right ↦ inr (contains-right xs ys n right.0, right.1)
  ];
  stays = λ n in'. k.stays n (h.stays n in');
  waits = λ n in'. elim (k.waits n in') [ inl is ↦ inl is | inr before ↦ elim (h.waits n before) [ inl is ↦ inl (k.kept n is) | inr first ↦ inr first ] ];
  work = k.work ∙ h.work;
}

pub reached_turn : (items : List ExprId) (i : ℕ) (x : ExprId) (a b c : List Bool) (u v w : List ExprId) → slice_get items i ≡ Some x → IsReached (numbers (take i items)) a u b v → IsReached (x.0 ∷ []) b v c w → IsReached (numbers (take (i + 1) items)) a u c w
reached_turn items i x a b c u v w at h k =
    let split : numbers (take (i + 1) items) ≡ numbers (take i items) ++ x.0 ∷ [] = ap numbers (take-push items i x at) ∙ map-push (λ (e : ExprId). e.0) (take i items) x in
    subst (λ xs. IsReached xs a u c w) (sym split) (reached_then (numbers (take i items)) (x.0 ∷ []) a b c u v w h k)

-- ---- the walk

fresh_marks : (k n : ℕ) → is_marked (replicate k false) n ≡ false
fresh_marks zero n = refl
fresh_marks (suc k) zero = refl
fresh_marks (suc k) (suc n) = fresh_marks k n

marked_inside : (marks : List Bool) (n : ℕ) → is_marked marks n ≡ true → n < length marks
marked_inside [] n is = absurd (false≢true is)
marked_inside (b ∷ marks) zero is = omega arith
marked_inside (b ∷ marks) (suc n) is = omega (arith, marked_inside marks n is)

-- the walk begins with the root alone
pub walk_begins : (q : Pooled) (root : ExprId) (marks : List Bool) (waiting : List ExprId) (count : ℕ) → count ≡ suc root.0 → IsReached (root.0 ∷ []) (replicate count false) [] marks waiting → IsWalking q root.0 marks waiting
walk_begins q root marks waiting count size h = record {
  size = h.size ∙ length-replicate' count ∙ size;
  reached = h.added root.0 (contains-first root.0 []);
  waits = λ n c. elim (h.waits n c) [ inl is ↦ is | inr none ↦ absurd (omega (arith, none.1)) ];
  seen = λ n is. elim (h.only n is) [ inl fresh ↦ absurd (false≢true (sym (fresh_marks count n) ∙ fresh)) | inr new ↦ inl new.1 ];
  below = λ t n is. elim (h.only n is) [ inl fresh ↦ absurd (false≢true (sym (fresh_marks count n) ∙ fresh)) | inr new ↦ ap (is_open_target q) (sym (contains-one root.0 n new.0)) ∙ t ];
}
  where
    length-replicate' : (k : ℕ) → length (replicate k false) ≡ k
    length-replicate' zero = refl
    length-replicate' (suc k) = ap suc (length-replicate' k)

-- one expression that waited was looked at
pub walk_turn : (q : Pooled) (root : ℕ) (marks marks' : List Bool) (rest waiting : List ExprId) (e : ExprId) (x : Expr) → IsPool q → slice_get q.exprs e.0 ≡ Some x → may_be_target x ≡ true → IsWalking q root marks (rest ++ e ∷ [])
    → IsReached (numbers (parts_of x)) marks rest marks' waiting → IsWalking q root marks' waiting
walk_turn q root marks marks' rest waiting e x rules at may h k =
    let mine : is_marked marks e.0 ≡ true = h.waits e.0 (subst (λ xs. Contains xs e.0) (sym (map-push (λ (y : ExprId). y.0) rest e)) (contains-right (numbers rest) (e.0 ∷ []) e.0 (contains-first e.0 []))) in
    let here : IsSeen q marks' e.0 = record { at = x; is = at; may = may; parts = k.added } in
    let before : (n : ℕ) → Contains (numbers rest) n → Contains (numbers (rest ++ e ∷ [])) n = λ n c. subst (λ xs. Contains xs n) (sym (map-push (λ (y : ExprId). y.0) rest e)) (contains-left (numbers rest) (e.0 ∷ []) n c) in
    record {
      size = k.size ∙ h.size;
      reached = k.kept root h.reached;
      waits = λ n c. elim (k.waits n c) [ inl is ↦ is | inr old ↦ k.kept n (h.waits n (before n old)) ];
      seen = λ n is. elim (k.only n is) [
        | inl old ↦ elim (h.seen n old) [
          | inl waits ↦ elim (contains-split (numbers rest) (e.0 ∷ []) n (subst (λ xs. Contains xs n) (map-push (λ (y : ExprId). y.0) rest e) waits)) [
            | inl rests ↦ inl (k.stays n rests)
            | inr this ↦ inr (subst (λ m. IsSeen q marks' m) (contains-one e.0 n this) here)
          ]
          | inr seen ↦ inr record { at = seen.at; is = seen.is; may = seen.may; parts = λ j c. k.kept j (seen.parts j c) }
        ]
        | inr new ↦ inl new.1
      ];
      below = λ t n is. elim (k.only n is) [
        | inl old ↦ h.below t n old
        | inr new ↦
            let whole = sym (target_by_parts q e.0 x rules at) ∙ h.below t e.0 mine in
            all_has (is_open_target q) (parts_of x) n (and_parts (may_be_target x) (list_all (λ (a : ExprId). is_open_target q a.0) (parts_of x)) whole).1 new.0
      ];
    }

-- an expression that can be none
pub walk_stops : (q : Pooled) (root : ℕ) (marks : List Bool) (rest : List ExprId) (e : ExprId) (x : Expr) → IsPool q → slice_get q.exprs e.0 ≡ Some x → may_be_target x ≡ false → IsWalking q root marks (rest ++ e ∷ []) → false ≡ is_open_target q root
walk_stops q root marks rest e x rules at may h =
    let mine : is_marked marks e.0 ≡ true = h.waits e.0 (subst (λ xs. Contains xs e.0) (sym (map-push (λ (y : ExprId). y.0) rest e)) (contains-right (numbers rest) (e.0 ∷ []) e.0 (contains-first e.0 []))) in
    let none : is_open_target q e.0 ≡ false = target_by_parts q e.0 x rules at ∙ ap (λ b. b && list_all (λ (a : ExprId). is_open_target q a.0) (parts_of x)) may in
    split (is_open_target q root) refl none mine
  where
    split : (b : Bool) → is_open_target q root ≡ b → is_open_target q e.0 ≡ false → is_marked marks e.0 ≡ true → false ≡ is_open_target q root
    split false is none mine = sym is
    split true is none mine = absurd (false≢true (sym none ∙ h.below is e.0 mine))

-- nothing waits
pub walk_ends : (q : Pooled) (root : ℕ) (marks : List Bool) → IsPool q → IsWalking q root marks [] → true ≡ is_open_target q root
walk_ends q root marks rules h = sym (up_to (suc root) root (omega arith) h.reached)
  where
    up_to : (n k : ℕ) → k < n → is_marked marks k ≡ true → is_open_target q k ≡ true
    up_to zero k below is = absurd (omega (arith, below))
    up_to (suc n) k below is =
        elim (h.seen k is) [
          | inl waits ↦ absurd (omega (arith, waits.1))
          | inr seen ↦
              target_by_parts q k seen.at rules seen.is
              ∙ and_from (may_be_target seen.at) (list_all (λ (a : ExprId). is_open_target q a.0) (parts_of seen.at)) seen.may
              (all_from (is_open_target q) (parts_of seen.at) (λ j c. up_to n j (omega (arith, below, below_has k (parts_of seen.at) j (parts_there q k seen.at rules seen.is) c)) (seen.parts j c)))
        ]

-- what waits is of the pool
pub waits_below : (q : Pooled) (root : ℕ) (marks : List Bool) (waiting : List ExprId) (n : ℕ) → IsWalking q root marks waiting → Contains (numbers waiting) n → n < suc root
waits_below q root marks waiting n h c = omega (arith, marked_inside marks n (h.waits n c), h.size)
