-- Tests of offsets and indices where the pool grows, and one after another.
use Rattle.std.specs.Prelude.{◌≡◌, refl, ℕ, ◌==◌, nat_le, Bool, true, false, ◌&&◌, if◌then◌else◌, List, [], ◌∷◌, ◌++◌, ℤ, unsigned_abs, Option, Some, IfSome, Contains}
use Rattle.std.proofs.Common.{sym, ◌∙◌, ap, subst, append-nil, append_assoc}
use Rattle.std.proofs.lemmas.List.Folds.{list_all-append}
use Rattle.std.proofs.lemmas.Grind.{flat_map-append}
use Rattle.shape_rules.specs.Forms.{Form, unsigned}
use Rattle.shape_rules.specs.Rows.{operand_count}
use Rattle.design_ir.specs.declared.ids.ExprId.{ExprId}
use Rattle.design_ir.specs.Pools.{Pooled}
use Rattle.design_ir.specs.PoolRules.{IsPool}
use Rattle.design_ir.specs.Targets.{Bit}
use Rattle.design_ir.specs.Needed.{needed_whole}
use Rattle.flat_design.specs.declared.writes.Test.{Test}
use Rattle.flat_design.specs.Growing.{IsMore}
use Rattle.flat_design.specs.Activity.{IsOneBit, IsActive, IsActiveBit, IsTest, test_holds, tests_hold, tests_need}
use Rattle.flat_design.proofs.Growing.{more_refl, more_trans, form_more, num_more, needed_whole_more, readable_more, active_more}
use Rattle.flat_design.proofs.Activities.{active_same, compares}

pub two_compared : (above : Bool) → operand_count (compares above) ≡ 2
two_compared true = refl
two_compared false = refl

pub plain_form : (f : Form) (w : ℕ) → f.signed ≡ false → f.width ≡ w → f ≡ unsigned w
plain_form f w plain is = ap (λ s. record { width = f.width; signed = s }) plain ∙ ap unsigned is

-- ---- where the pool grows
module _ (p q : Pooled) (rules : IsPool p) (more : IsMore p q) where
  pub test_more : (t : Test) → IsTest p t → IsTest q t
  test_more t h = record { readable = readable_more p q rules more t.index h.readable; plain = ap (λ (f : Form). f.signed) (form_more p q rules more t.index.0 h.readable.there) ∙ h.plain }

  pub test_holds_more : (env : List ℤ) (t : Test) → IsTest p t → test_holds q env t ≡ test_holds p env t
  test_holds_more env t h =
      ap (λ z. if t.and_above then nat_le t.number (unsigned_abs z) else unsigned_abs z == t.number) (num_more p q rules more env t.index.0 h.readable.there)

  -- what is said of a test over the pool that has grown
  pub test_before : (t : Test) (id : ExprId) → IsTest p t → IsActiveBit q (λ env. test_holds q env t) (needed_whole q t.index) id → IsActiveBit q (λ env. test_holds p env t) (needed_whole p t.index) id
  test_before t id test h =
      active_same q (λ env. test_holds q env t) (λ env. test_holds p env t) (needed_whole q t.index) (needed_whole p t.index) (Some id)
      (λ env fit. test_holds_more env t test)
      (λ c n. subst (λ bs. Contains bs c) (needed_whole_more p q rules more t.index test.readable.there) n) h

-- ---- one after another

-- what is carried out where these tests hold, too: the pool was p, and is q
pub record AreTested (p q : Pooled) (done : List Test) (before after : Option ExprId) : Type 0 where
  pub more : IsMore p q
  pub rules : IsPool q
  pub one : IfSome after (IsOneBit q)
  pub active : (test : List ℤ → Bool) (bits : List Bit) → IsActive p test bits before → IsActive q (λ env. test env && tests_hold p done env) (bits ++ tests_need p done) after

and_true : (a : Bool) → a ≡ (a && true)
and_true true = refl
and_true false = refl

pub tested_none : (p : Pooled) (before : Option ExprId) → IsPool p → IfSome before (IsOneBit p) → AreTested p p [] before before
tested_none p before rules one = record {
  more = more_refl p;
  rules = rules;
  one = one;
  active = λ test bits h.
      active_same p test (λ env. test env && true) bits (bits ++ []) before (λ env fit. and_true (test env)) (λ c n. subst (λ bs. Contains bs c) (sym (append-nil bits)) n) h;
}

and_last : (a b c d l : Bool) → c ≡ d → l ≡ (b && (d && true)) → ((a && b) && c) ≡ (a && l)
and_last true true c d l same is = same ∙ and_true d ∙ sym is
and_last true false c d l same is = sym is
and_last false b c d l same is = refl

module _ (p q r s : Pooled) (done : List Test) (t : Test) (before between after : Option ExprId) (bit : ExprId) (rules : IsPool p) (h : AreTested p q done before between) (test : IsTest p t) where
  need_last : (bits : List Bit) → (bits ++ tests_need p done) ++ needed_whole q t.index ≡ bits ++ tests_need p (done ++ t ∷ [])
  need_last bits =
      append_assoc bits (tests_need p done) (needed_whole q t.index)
      ∙ ap (λ bs. bits ++ (tests_need p done ++ bs)) (needed_whole_more p q rules h.more t.index test.readable.there ∙ sym (append-nil (needed_whole p t.index)))
      ∙ ap (λ bs. bits ++ bs) (sym (flat_map-append (λ (x : Test). needed_whole p x.index) done (t ∷ [])))

  pub tested_push : IsMore q r → IsActiveBit r (λ env. test_holds q env t) (needed_whole q t.index) bit → IsMore r s → IsPool s → IfSome after (IsOneBit s)
      → ((tests other : List ℤ → Bool) (bits needs : List Bit) → IsActive r tests bits between → IsActiveBit r other needs bit → IsActive s (λ env. tests env && other env) (bits ++ needs) after)
      → AreTested p s (done ++ t ∷ []) before after
  tested_push first bits_are second whole one both = record {
    more = more_trans p q s h.more (more_trans q r s first second);
    rules = whole;
    one = one;
    active = λ holds bits was.
        active_same s (λ env. (holds env && tests_hold p done env) && test_holds q env t) (λ env. holds env && tests_hold p (done ++ t ∷ []) env)
        ((bits ++ tests_need p done) ++ needed_whole q t.index) (bits ++ tests_need p (done ++ t ∷ [])) after
        (λ env fit. and_last (holds env) (tests_hold p done env) (test_holds q env t) (test_holds p env t) (tests_hold p (done ++ t ∷ []) env) (test_holds_more p q rules h.more env t test) (list_all-append (test_holds p env) done (t ∷ [])))
        (λ c n. subst (λ bs. Contains bs c) (need_last bits) n)
        (both (λ env. holds env && tests_hold p done env) (λ env. test_holds q env t) (bits ++ tests_need p done) (needed_whole q t.index)
        (active_more q r h.rules first (λ env. holds env && tests_hold p done env) (bits ++ tests_need p done) between (h.active holds bits was)) bits_are);
  }
