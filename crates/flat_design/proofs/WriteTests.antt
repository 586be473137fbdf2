-- The tests of writes are of offsets and indices of the target.
use Rattle.std.specs.Prelude.{◌≡◌, refl, ℕ, zero, suc, ◌+◌, ◌==◌, ◌<◌, ◌≤◌, ◌||◌, Bool, true, false, List, [], ◌∷◌, map, slice_get, Some, Contains}
use Rattle.std.specs.List.{flat_map, list_any}
use Rattle.std.proofs.Common.{sym, ◌∙◌, ap, arith, subst, ⊎_elim}
use Rattle.std.proofs.lemmas.Bool.{false≢true, false_from_ne_true}
use Rattle.std.proofs.lemmas.List.Elements.{Contains-append_left, Contains-append_right, Contains-append_cases}
use Rattle.shape_rules.specs.Forms.{Form}
use Rattle.design_ir.specs.declared.ids.ExprId.{ExprId}
use Rattle.design_ir.specs.declared.expr.Expr.{Expr}
use Rattle.design_ir.specs.declared.expr.Expr.TheVariants as expr
use Rattle.design_ir.specs.Named.{named}
use Rattle.design_ir.specs.Pools.{Pooled}
use Rattle.design_ir.specs.PoolRules.{IsPool}
use Rattle.design_ir.specs.Values.{form, signal_form, common_of_all}
use Rattle.design_ir.specs.Targets.{Bit, target_test, is_target, Numbers, numbers}
use Rattle.design_ir.specs.Needed.{needed_whole, index_step, needed_indices}
use Rattle.design_ir.specs.Designs.{reset_test, holds_reset}
use Rattle.design_ir.proofs.Congruence.{AreSame, same_below}
use Rattle.design_ir.proofs.Elements.{contains_none, contains_cases, contains_first, contains_more, map_of, filter_of, flat_has, any_has, get_has}
use Rattle.design_ir.proofs.Equations.{standing, answer_at, place_below}
use Rattle.design_ir.proofs.NumbersFit.{element, accepted_is}
use Rattle.design_ir.proofs.TargetLaws.{is_target_is}
use Rattle.design_ir.proofs.AimSteps.{least_is}
use Rattle.design_ir.proofs.AimLaws.{target_there, below_get}
use Rattle.comb_graph.proofs.NeededBits.{needed_indices_is}
use Rattle.flat_design.specs.declared.writes.Test.{Test}
use Rattle.flat_design.specs.declared.writes.Write.{Write}
use Rattle.flat_design.specs.Growing.{IsReadable}
use Rattle.flat_design.specs.Writes.{cut, raised, writes_of_all, writes_step, writes}
use Rattle.flat_design.specs.WriteLaws.{IsOwnTest, TestsAreOwn}
use Rattle.flat_design.proofs.WriteSteps.{writes_is}
use Rattle.flat_design.proofs.WriteOrigins.{IsCut, cut_origin, PartOrigin, part_origin, ItemOrigin, item_origin, if_not}
use Rattle.flat_design.proofs.TargetItems.{all_get}

-- ---- resets

any_same : (f g : ℕ → Bool) (es : List ExprId) → AreSame f g es → list_any (λ (e : ExprId). f e.0) es ≡ list_any (λ (e : ExprId). g e.0) es
any_same f g [] h = refl
any_same f g (e ∷ es) h = λ i. h.0 i || any_same f g es h.1 i

reset_same : (f g : ℕ → Bool) (e : Expr) → AreSame f g (named e) → reset_test f e ≡ reset_test g e
reset_same f g (expr.Reset domain place) h = refl
reset_same f g (expr.Sig s) h = refl
reset_same f g (expr.Const n s) h = refl
reset_same f g (expr.Slice a low width) h = any_same f g (a ∷ []) h
reset_same f g (expr.Cat es) h = any_same f g es h
reset_same f g (expr.Part a offset width stride) h = any_same f g (a ∷ offset ∷ []) h
reset_same f g (expr.Pick index es) h = any_same f g (index ∷ es) h
reset_same f g (expr.Cast a signed) h = any_same f g (a ∷ []) h
reset_same f g (expr.Unary o a) h = any_same f g (a ∷ []) h
reset_same f g (expr.Binary o a b) h = any_same f g (a ∷ b ∷ []) h
reset_same f g (expr.Mux s a b) h = any_same f g (s ∷ a ∷ b ∷ []) h
reset_same f g (expr.Matches a patterns) h = any_same f g (a ∷ []) h

reset_is : (p : Pooled) (k : ℕ) (e : Expr) → IsPool p → slice_get p.exprs k ≡ Some e → holds_reset p k ≡ reset_test (holds_reset p) e
unfolding holds_reset
reset_is p k e h is =
    let names = (standing p k e h is).names in
    answer_at false reset_test p.exprs k e is (λ f g same. reset_same f g e (same_below f g k (named e) same names))

-- in none of these expressions stands a reset where in all of them together stands none
none_holds : (holds : ℕ → Bool) (es : List ExprId) (e : ExprId) → list_any (λ (x : ExprId). holds x.0) es ≡ false → Contains es e → holds e.0 ≡ false
none_holds holds es e none c = false_from_ne_true (holds e.0) (λ held. false≢true (sym none ∙ any_has (λ (x : ExprId). holds x.0) es e c held))

-- ---- tests

-- a write of targets one above the other has the tests of a write of one of them
record ItemTests (writes : ℕ → List Write) (es : List ExprId) (w : Write) : Type 0 where
  place : ℕ
  item : ExprId
  there : slice_get es place ≡ Some item
  of : Write
  among : Contains (writes item.0) of
  tests : w.tests ≡ of.tests

joined_tests : (forms : ℕ → Form) (writes : ℕ → List Write) (low : ℕ) (es : List ExprId) (w : Write) → Contains (writes_of_all forms writes low es) w → ItemTests writes es w
joined_tests forms writes low [] w c = absurd (contains_none w c)
joined_tests forms writes low (e ∷ es) w c =
    let others : List Write = writes_of_all forms writes (low + (forms e.0).width) es in
    ⊎_elim
    (λ (mine : Contains (map (raised low) (writes e.0)) w).
    let m = map_of (raised low) (writes e.0) w mine in
    record { place = zero; item = e; there = refl; of = m.0; among = m.1; tests = ap (λ (x : Write). x.tests) (sym m.2) })
    (λ (more : Contains others w).
    let r = joined_tests forms writes (low + (forms e.0).width) es w more in
    record { place = suc r.place; item = r.item; there = r.there; of = r.of; among = r.among; tests = r.tests })
    (Contains-append_cases (map (raised low) (writes e.0)) others w c)

module _ (p : Pooled) (rules : IsPool p) where
  abbrev AreOwn : ℕ → Type 0
  AreOwn k = is_target p k ≡ true → (w : Write) (t : Test) → Contains (writes p k) w → Contains w.tests t → IsOwnTest p k t

  module _ (k : ℕ) (e : Expr) (is : slice_get p.exprs k ≡ Some e) where
    needs_more : (c : Bit) → Contains (index_step p (needed_indices p) e) c → Contains (needed_indices p k) c
    needs_more c has = subst (λ bits. Contains bits c) (sym (needed_indices_is p k e rules is)) has

    -- a test of a target that this one names
    of_named : (x : ExprId) (t : Test) → reset_test (holds_reset p) e ≡ list_any (λ (a : ExprId). holds_reset p a.0) (named e) → Contains (named e) x
        → ((c : Bit) → Contains (needed_indices p x.0) c → Contains (index_step p (needed_indices p) e) c) → IsOwnTest p x.0 t → IsOwnTest p k t
    of_named x t step among more h = record {
      test = λ none. h.test (none_holds (holds_reset p) (named e) x (sym (reset_is p k e rules is ∙ step) ∙ none) among);
      needs = λ c has. needs_more c (more c (h.needs c has));
    }

    -- a test of the offset or index
    of_index : (x : ExprId) (t : Test) → reset_test (holds_reset p) e ≡ list_any (λ (a : ExprId). holds_reset p a.0) (named e) → Contains (named e) x
        → x.0 < k → (form p x.0).signed ≡ false → ((c : Bit) → Contains (needed_whole p x) c → Contains (index_step p (needed_indices p) e) c) → t.index ≡ x → IsOwnTest p k t
    of_index x t step among below plain more same = record {
      test = λ none.
          record {
            readable = subst (IsReadable p) (sym same) (record {
              there = omega (arith, below, place_below p.exprs k e is);
              resolved = none_holds (holds_reset p) (named e) x (sym (reset_is p k e rules is ∙ step) ∙ none) among;
            });
            plain = subst (λ (a : ExprId). (form p a.0).signed ≡ false) (sym same) plain;
          };
      needs = λ c has. needs_more c (more c (subst (λ a. Contains (needed_whole p a) c) same has));
    }

  step_own : (k : ℕ) (e : Expr) → slice_get p.exprs k ≡ Some e → ((a : ℕ) → a < k → AreOwn a) → target_test (is_target p) e ≡ true → (w : Write) (t : Test) → Contains (writes_step (signal_form p.signals) (form p) (numbers p) (writes p) e) w → Contains w.tests t → IsOwnTest p k t
  step_own k (expr.Sig s) is each target w t c has =
      let width : ℕ = (signal_form p.signals s.0).width in
      let own : Write = record { tests = []; sig = s; low = 0; width = width; from = 0 } in
      let r = if_not (width == 0) (own ∷ []) w c in
      absurd (⊎_elim (λ (e : own ≡ w). contains_none t (subst (λ (x : Write). Contains x.tests t) (sym e) has)) (λ none. contains_none w none) (contains_cases own w [] r.1))
  step_own k (expr.Slice a low width) is each target w t c has =
      let h = standing p k (expr.Slice a low width) rules is in
      let f = filter_of (cut low width) (writes p a.0) w c in
      let is-cut : IsCut low width f.0 w = cut_origin low width f.0 w f.2 in
      of_named k (expr.Slice a low width) is a t refl (contains_first a []) (λ c b. b) (each a.0 h.names.0 target f.0 t f.1 (subst (λ ts. Contains ts t) is-cut.tests has))
  step_own k (expr.Cat es) is each target w t c has =
      let h = standing p k (expr.Cat es) rules is in
      let r : ItemTests (writes p) es w = joined_tests (form p) (writes p) 0 es w c in
      let among : Contains es r.item = get_has es r.place r.item r.there in
      of_named k (expr.Cat es) is r.item t refl among (λ c b. flat_has (λ (x : ExprId). needed_indices p x.0) es r.item c among b)
      (each (r.item).0 (below_get k es r.place r.item h.names r.there) (all_get (λ (x : ExprId). is_target p x.0) es r.place r.item target r.there) r.of t r.among (subst (λ ts. Contains ts t) r.tests has))
  step_own k (expr.Part a offset width stride) is each target w t c has =
      let h = standing p k (expr.Part a offset width stride) rules is in
      let n : Numbers = numbers p offset.0 in
      let least = least_is p offset.0 in
      let most : n.least ≤ n.greatest = least.below in
      let from : PartOrigin n offset width stride (writes p a.0) w = part_origin n offset (form p a.0).width width stride (writes p a.0) w most c in
      ⊎_elim
      (λ (own : Contains (from.piece).tests t).
      of_named k (expr.Part a offset width stride) is a t refl (contains_first a (offset ∷ [])) (λ c b. Contains-append_right (needed_whole p offset) (needed_indices p a.0) c b)
      (each a.0 h.names.0 target from.of t from.among (subst (λ ts. Contains ts t) (from.is_cut).tests own)))
      (λ (same : t.index ≡ offset).
      of_index k (expr.Part a offset width stride) is offset t refl (contains_more a (offset ∷ []) offset (contains_first offset [])) h.names.1.0 (accepted_is (form p offset.0).signed width h.accepted).0
      (λ c b. Contains-append_left (needed_whole p offset) (needed_indices p a.0) c b) same)
      ((from.is_tested).tests t has)
  step_own k (expr.Pick index es) is each target w t c has =
      let h = standing p k (expr.Pick index es) rules is in
      let width : ℕ = (common_of_all (form p) es).width in
      let all : List Bit = flat_map (λ (x : ExprId). needed_indices p x.0) es in
      let from : ItemOrigin (numbers p index.0) index (writes p) es w = item_origin (numbers p index.0) index (writes p) es w c in
      let among : Contains es from.item = get_has es from.place from.item from.there in
      ⊎_elim
      (λ (own : Contains (from.of).tests t).
      of_named k (expr.Pick index es) is from.item t refl (contains_more index es from.item among) (λ c b. Contains-append_right (needed_whole p index) all c (flat_has (λ (x : ExprId). needed_indices p x.0) es from.item c among b))
      (each (from.item).0 (below_get k es from.place from.item h.names.1 from.there) (all_get (λ (x : ExprId). is_target p x.0) es from.place from.item target from.there) from.of t from.among own))
      (λ (same : t.index ≡ index).
      of_index k (expr.Pick index es) is index t refl (contains_first index es) h.names.0 (accepted_is (form p index.0).signed width h.accepted).0 (λ c b. Contains-append_left (needed_whole p index) all c b) same)
      ((from.is_tested).tests t has)
  step_own k (expr.Cast a signed) is each target w t c has =
      let h = standing p k (expr.Cast a signed) rules is in
      of_named k (expr.Cast a signed) is a t refl (contains_first a []) (λ c b. b) (each a.0 h.names.0 target w t c has)
  step_own k (expr.Const n s) is each target w t c has = absurd (false≢true target)
  step_own k (expr.Unary o a) is each target w t c has = absurd (false≢true target)
  step_own k (expr.Binary o a b) is each target w t c has = absurd (false≢true target)
  step_own k (expr.Mux s a b) is each target w t c has = absurd (false≢true target)
  step_own k (expr.Matches a patterns) is each target w t c has = absurd (false≢true target)
  step_own k (expr.Reset domain place) is each target w t c has = absurd (false≢true target)

  own_below : (n k : ℕ) → k < n → AreOwn k
  own_below zero k below target w t c has = absurd (omega (arith, below))
  own_below (suc n) k below target w t c has =
      let x = element p.exprs k (target_there p k target) in
      step_own k x.0 x.1 (λ a lt. own_below n a (omega (arith, below, lt))) (sym (is_target_is p k x.0 rules x.1) ∙ target) w t (subst (λ ws. Contains ws w) (writes_is p k x.0 rules x.1) c) has

pub tests_are_own : (p : Pooled) → IsPool p → TestsAreOwn p
tests_are_own p rules = λ k w t target c has. own_below p rules (suc k) k (omega arith) target w t c has
