-- Bits that tell whether a statement is carried out.
use Rattle.std.specs.Prelude.{◌≡◌, refl, ℕ, zero, suc, ◌+◌, ◌*◌, ◌/◌, ◌^◌, ◌<◌, ◌≤◌, ◌==◌, nat_le, max, Bool, true, false, not, ◌&&◌, if◌then◌else◌, List, ◌++◌, ℤ, pos, negsuc, ◌-ℤ◌, unsigned_abs, Option, Some, None, IfSome, IsTrue, Contains}
use Rattle.std.specs.List.{range_with_len}
use Rattle.std.proofs.Common.{sym, ◌∙◌, ap, arith, subst, ⊎_elim, append-nil}
use Rattle.std.proofs.lemmas.Int.{ints}
use Rattle.std.proofs.lemmas.Bool.{lt-leb, eq-eqb, ne_eqb, eqb-true, cases_eq, cases_lt, false≢true}
use Rattle.std.proofs.lemmas.List.Elements.{Contains-append_left, Contains-append_right, Contains-append_cases}
use Rattle.std.proofs.Math.Nat.{div-eq_of_lt, lt-div-mul-add}
use Rattle.amh_bits.specs.Patterns.{IsOf}
use Rattle.amh_bits.specs.Integers.{int_and}
use Rattle.shape_rules.specs.Forms.{Form, IsForm, unsigned, common}
use Rattle.shape_rules.specs.Operators.{is_zero, truth, turned, int_same, form_of, integer_of}
use Rattle.shape_rules.specs.Stops.{is_bad_operand, widest}
use Rattle.shape_rules.specs.declared.op.Op.{Op}
use Rattle.shape_rules.specs.declared.op.Op.TheVariants.{Any, Not, And, Eq, Ge}
use Rattle.design_ir.specs.declared.ids.ExprId.{ExprId}
use Rattle.design_ir.specs.declared.expr.Expr.TheVariants.{Const, Unary, Binary}
use Rattle.design_ir.specs.Pools.{Pooled}
use Rattle.design_ir.specs.PoolRules.{IsPool, shape_stop}
use Rattle.design_ir.specs.Values.{form, num}
use Rattle.design_ir.specs.Targets.{Bit}
use Rattle.design_ir.specs.Needed.{needed, bits_step, needed_whole, every, extended}
use Rattle.design_ir.specs.Circuits.{FitsSignals}
use Rattle.design_ir.proofs.Elements.{contains_none, flat_of}
use Rattle.design_ir.proofs.NumbersFit.{num_fits}
use Rattle.flat_design.specs.declared.writes.Test.{Test}
use Rattle.flat_design.specs.Growing.{IsMore}
use Rattle.flat_design.specs.Adding.{IsAdded}
use Rattle.flat_design.specs.Activity.{IsOneBit, IsActive, IsActiveBit, IsTest, test_holds}
use Rattle.flat_design.proofs.Growing.{readable_more, form_more}
use Rattle.flat_design.proofs.Added.{added_readable, added_form, added_num, added_needs}
use Rattle.flat_design.proofs.Choosing.{fits_stop}

-- ---- expressions of one bit

pub active_bit : (p : Pooled) (holds : List ℤ → Bool) (bits : List Bit) (a : Option ExprId) → IsActive p holds bits a → IfSome a (IsOneBit p)
active_bit p holds bits None h = tt
active_bit p holds bits (Some e) h = record { readable = h.readable; shape = h.shape }

pub one_more : (p q : Pooled) (a : Option ExprId) → IsPool p → IsMore p q → IfSome a (IsOneBit p) → IfSome a (IsOneBit q)
one_more p q None rules more h = tt
one_more p q (Some e) rules more h = record { readable = readable_more p q rules more e h.readable; shape = form_more p q rules more e.0 h.readable.there ∙ h.shape }

-- one bit needs what its lowest does
whole_one : (p : Pooled) (e : ExprId) (c : Bit) → form p e.0 ≡ unsigned 1 → Contains (needed_whole p e) c → Contains (needed p e.0 0) c
whole_one p e c one n =
    subst (λ bs. Contains bs c) (append-nil (needed p e.0 0)) (subst (λ f. Contains (every f (needed p e.0)) c) one n)

whole_has : (p : Pooled) (e : ExprId) (c : Bit) → form p e.0 ≡ unsigned 1 → Contains (needed p e.0 0) c → Contains (needed_whole p e) c
whole_has p e c one n =
    subst (λ f. Contains (every f (needed p e.0)) c) (sym one) (subst (λ bs. Contains bs c) (sym (append-nil (needed p e.0 0))) n)

-- ---- the same test in other words

pub active_same : (p : Pooled) (holds holds' : List ℤ → Bool) (bits bits' : List Bit) (a : Option ExprId) → ((env : List ℤ) → FitsSignals p env → holds env ≡ holds' env) → ((c : Bit) → Contains bits c → Contains bits' c) → IsActive p holds bits a → IsActive p holds' bits' a
active_same p holds holds' bits bits' None same within h = λ env fit. sym (same env fit) ∙ h env fit
active_same p holds holds' bits bits' (Some e) same within h = record {
  readable = h.readable;
  shape = h.shape;
  value = λ env fit. h.value env fit ∙ same env fit;
  needs = λ c n. within c (h.needs c n);
}

-- ---- one bit, from the operators

pub same_not : (a b : Bool) → not a ≡ not b → a ≡ b
same_not true true e = refl
same_not true false e = absurd (false≢true e)
same_not false true e = absurd (false≢true (sym e))
same_not false false e = refl

truth_value : (b : Bool) → not (is_zero (truth b)) ≡ b
truth_value true = refl
truth_value false = refl

pub any_active : (p : Pooled) (e id : ExprId) → IsPool p → IsAdded p (Unary Any e) id → IsActiveBit p (λ env. not (is_zero (num p env e.0))) (needed_whole p e) id
any_active p e id rules h = record {
  readable = added_readable p (Unary Any e) id h;
  shape = added_form p (Unary Any e) id rules h;
  value = λ env fit. ap (λ z. not (is_zero z)) (added_num p (Unary Any e) id env rules h) ∙ truth_value (not (is_zero (num p env e.0)));
  needs = λ c n.
      subst (λ (f : ℕ → List Bit). Contains (f 0) c) (added_needs p (Unary Any e) id rules h)
      (whole_one p id c (added_form p (Unary Any e) id rules h) n);
}

-- a number of one bit
one_fits : (p : Pooled) (env : List ℤ) (e : ExprId) → IsPool p → FitsSignals p env → IsOneBit p e → IsOf false 1 (num p env e.0)
one_fits p env e rules fit one = subst (λ (f : Form). IsOf f.signed f.width (num p env e.0)) one.shape (num_fits p env rules fit e one.readable.there)

turned_one : (x : ℤ) → IsOf false 1 x → not (is_zero (turned (unsigned 1) x)) ≡ is_zero x
turned_one (pos zero) h = refl
turned_one (pos (suc zero)) h = refl
turned_one (pos (suc (suc n))) h = absurd (omega (arith, h))
turned_one (negsuc n) h = absurd h

pub not_active : (p : Pooled) (e id : ExprId) → IsPool p → IsOneBit p e → IsAdded p (Unary Not e) id → IsActiveBit p (λ env. is_zero (num p env e.0)) (needed_whole p e) id
not_active p e id rules one h =
    let shape : form p id.0 ≡ unsigned 1 = added_form p (Unary Not e) id rules h ∙ one.shape in
    record {
      readable = added_readable p (Unary Not e) id h;
      shape = shape;
      value = λ env fit.
          ap (λ z. not (is_zero z)) (added_num p (Unary Not e) id env rules h)
          ∙ ap (λ f. not (is_zero (turned f (num p env e.0)))) one.shape
          ∙ turned_one (num p env e.0) (one_fits p env e rules fit one);
      needs = λ c n.
          whole_has p e c one.shape
          (subst (λ (f : ℕ → List Bit). Contains (f 0) c) (added_needs p (Unary Not e) id rules h) (whole_one p id c shape n));
    }

and_one : (x y : ℤ) → IsOf false 1 x → IsOf false 1 y → not (is_zero (int_and x y)) ≡ (not (is_zero x) && not (is_zero y))
and_one (pos zero) (pos zero) h k = refl
and_one (pos zero) (pos (suc zero)) h k = refl
and_one (pos (suc zero)) (pos zero) h k = refl
and_one (pos (suc zero)) (pos (suc zero)) h k = refl
and_one (pos (suc (suc n))) y h k = absurd (omega (arith, h))
and_one (negsuc n) y h k = absurd h
and_one (pos zero) (pos (suc (suc n))) h k = absurd (omega (arith, k))
and_one (pos (suc zero)) (pos (suc (suc n))) h k = absurd (omega (arith, k))
and_one (pos zero) (negsuc n) h k = absurd k
and_one (pos (suc zero)) (negsuc n) h k = absurd k

and_shape : (p : Pooled) (a b id : ExprId) → IsPool p → form p a.0 ≡ unsigned 1 → form p b.0 ≡ unsigned 1 → IsAdded p (Binary And a b) id → form p id.0 ≡ unsigned 1
and_shape p a b id rules x y h = added_form p (Binary And a b) id rules h ∙ ap (λ f. common f (form p b.0)) x ∙ ap (common (unsigned 1)) y

pub and_bit : (p : Pooled) (a b id : ExprId) → IsPool p → IsOneBit p a → IsOneBit p b → IsAdded p (Binary And a b) id → IsOneBit p id
and_bit p a b id rules x y h = record { readable = added_readable p (Binary And a b) id h; shape = and_shape p a b id rules x.shape y.shape h }

pub and_active : (p : Pooled) (test other : List ℤ → Bool) (bits more : List Bit) (a b id : ExprId) → IsPool p → IsActiveBit p test bits a → IsActiveBit p other more b → IsAdded p (Binary And a b) id → IsActiveBit p (λ env. test env && other env) (bits ++ more) id
and_active p test other bits more a b id rules x y h =
    let shape = and_shape p a b id rules x.shape y.shape h in
    let one_a : IsOneBit p a = record { readable = x.readable; shape = x.shape } in
    let one_b : IsOneBit p b = record { readable = y.readable; shape = y.shape } in
    record {
      readable = added_readable p (Binary And a b) id h;
      shape = shape;
      value = λ env fit.
          ap (λ z. not (is_zero z)) (added_num p (Binary And a b) id env rules h)
          ∙ and_one (num p env a.0) (num p env b.0) (one_fits p env a rules fit one_a) (one_fits p env b rules fit one_b)
          ∙ ap (λ t. t && not (is_zero (num p env b.0))) (x.value env fit)
          ∙ ap (λ t. test env && t) (y.value env fit);
      needs = λ c n.
          let low = subst (λ (f : ℕ → List Bit). Contains (f 0) c) (added_needs p (Binary And a b) id rules h) (whole_one p id c shape n) in
          let both : Contains (needed p a.0 0 ++ needed p b.0 0) c = subst (λ f. Contains (needed p a.0 0 ++ extended f (needed p b.0) 0) c) y.shape (subst (λ f. Contains (extended f (needed p a.0) 0 ++ extended (form p b.0) (needed p b.0) 0) c) x.shape low) in
          ⊎_elim
          (λ (l : Contains (needed p a.0 0) c). Contains-append_left bits more c (x.needs c (whole_has p a c x.shape l)))
          (λ (r : Contains (needed p b.0 0) c). Contains-append_right bits more c (y.needs c (whole_has p b c y.shape r)))
          (Contains-append_cases (needed p a.0 0) (needed p b.0 0) c both);
    }

-- what was always carried out is so where one more bit is 1
pub and_always : (p : Pooled) (test other : List ℤ → Bool) (bits more : List Bit) (b : ExprId) → ((env : List ℤ) → FitsSignals p env → test env ≡ true) → IsActiveBit p other more b → IsActiveBit p (λ env. test env && other env) (bits ++ more) b
and_always p test other bits more b always y = record {
  readable = y.readable;
  shape = y.shape;
  value = λ env fit. y.value env fit ∙ ap (λ t. t && other env) (sym (always env fit));
  needs = λ c n. Contains-append_right bits more c (y.needs c n);
}

-- ---- tests

-- the comparison of a test
abbrev pub compares : Bool → Op
compares above = if above then Ge else Eq

zero_false : (z : ℤ) → (z ≡ pos 0 → ⊥) → is_zero z ≡ false
zero_false (pos zero) h = absurd (h refl)
zero_false (pos (suc n)) h = refl
zero_false (negsuc n) h = refl

same_pos : (n m : ℕ) → int_same (pos n) (pos m) ≡ (n == m)
same_pos n m =
    ⊎_elim
    (λ (e : n ≡ m). ap is_zero (let d : pos n -ℤ pos m ≡ pos 0 = grind (arith, ints) in d) ∙ sym (eq-eqb n m e))
    (λ (e : n ≡ m → ⊥). zero_false (pos n -ℤ pos m) (λ d. grind (arith, ints)) ∙ sym (ne_eqb n m e))
    (cases_eq n m)

-- an unsigned number compared with another
compared_value : (above : Bool) (a b : Form) (x : ℤ) (m w : ℕ) → IsOf false w x → not (is_zero (integer_of (compares above) a x b (pos m))) ≡ (if above then nat_le m (unsigned_abs x) else unsigned_abs x == m)
compared_value above a b (negsuc n) m w h = absurd h
compared_value true a b (pos n) m w h = truth_value (nat_le m n)
compared_value false a b (pos n) m w h = truth_value (int_same (pos n) (pos m)) ∙ same_pos n m

pub compared_accepted : (above : Bool) (f g : Form) (w : ℕ) → w ≤ 128 → f ≡ unsigned w → g ≡ unsigned w → shape_stop (is_bad_operand (compares above) g) (widest (compares above) f g) ≡ None
compared_accepted true f g w few is is' = rw (is, is') (fits_stop (max 1 (max w w)) (omega (arith, few)))
compared_accepted false f g w few is is' = rw (is, is') (fits_stop (max 1 (max w w)) (omega (arith, few)))

compared_form : (above : Bool) (f g : Form) → form_of (compares above) f g ≡ unsigned 1
compared_form true f g = refl
compared_form false f g = refl

compared_needs : (above : Bool) (form : ℕ → Form) (bits : ℕ → ℕ → List Bit) (a b : ExprId) (k : ℕ) → bits_step form bits (Binary (compares above) a b) k ≡ every (form a.0) (bits a.0) ++ every (form b.0) (bits b.0)
compared_needs true form bits a b k = refl
compared_needs false form bits a b k = refl

-- a constant needs nothing
constant_needs : (p : Pooled) (z : ℤ) (f : Form) (n : ExprId) (c : Bit) → IsPool p → IsAdded p (Const z f) n → Contains (needed_whole p n) c → ⊥
constant_needs p z f n c rules h m =
    let r = flat_of (needed p n.0) (range_with_len 0 (form p n.0).width) c m in
    contains_none c (subst (λ (g : ℕ → List Bit). Contains (g r.0) c) (added_needs p (Const z f) n rules h) r.2)

-- the index of a test is a number without a sign
index_fits : (p : Pooled) (env : List ℤ) (t : Test) → IsPool p → FitsSignals p env → IsTest p t → IsOf false (form p t.index.0).width (num p env t.index.0)
index_fits p env t rules fit test =
    subst (λ s. IsOf s (form p t.index.0).width (num p env t.index.0)) test.plain (num_fits p env rules fit t.index test.readable.there)

pub compared_active : (p : Pooled) (t : Test) (w : ℕ) (n id : ExprId) → IsPool p → IsTest p t → IsAdded p (Const (pos t.number) (unsigned w)) n → IsAdded p (Binary (compares t.and_above) t.index n) id → IsActiveBit p (λ env. test_holds p env t) (needed_whole p t.index) id
compared_active p t w n id rules test hn h =
    let op : Op = compares t.and_above in
    let f : Form = form p t.index.0 in
    let g : Form = form p n.0 in
    let shape : form p id.0 ≡ unsigned 1 = added_form p (Binary op t.index n) id rules h ∙ compared_form t.and_above f g in
    record {
      readable = added_readable p (Binary op t.index n) id h;
      shape = shape;
      value = λ env fit.
          ap (λ z. not (is_zero z)) (added_num p (Binary op t.index n) id env rules h)
          ∙ ap (λ y. not (is_zero (integer_of op f (num p env t.index.0) g y))) (added_num p (Const (pos t.number) (unsigned w)) n env rules hn)
          ∙ compared_value t.and_above f g (num p env t.index.0) t.number f.width (index_fits p env t rules fit test);
      needs = λ c m.
          let low = subst (λ (k : ℕ → List Bit). Contains (k 0) c) (added_needs p (Binary op t.index n) id rules h) (whole_one p id c shape m) in
          let both : Contains (needed_whole p t.index ++ needed_whole p n) c = subst (λ bs. Contains bs c) (compared_needs t.and_above (form p) (needed p) t.index n 0) low in
          ⊎_elim
          (λ (l : Contains (needed_whole p t.index) c). l)
          (λ (r : Contains (needed_whole p n) c). absurd (constant_needs p (pos t.number) (unsigned w) n c rules hn r))
          (Contains-append_cases (needed_whole p t.index) (needed_whole p n) c both);
    }

never_holds : (above : Bool) (x : ℤ) (m w : ℕ) → IsOf false w x → 2 ^ w ≤ m → false ≡ (if above then nat_le m (unsigned_abs x) else unsigned_abs x == m)
never_holds above (negsuc n) m w h large = absurd h
never_holds true (pos n) m w h large = sym (lt-leb m n (omega (arith, h, large)))
never_holds false (pos n) m w h large = sym (ne_eqb n m (λ e. omega (arith, e, h, large)))

-- an index is never as large as a number that does not fit it
pub never_active : (p : Pooled) (t : Test) (id : ExprId) → IsPool p → IsTest p t → 2 ^ (form p t.index.0).width ≤ t.number → IsAdded p (Const (pos 0) (unsigned 1)) id → IsActiveBit p (λ env. test_holds p env t) (needed_whole p t.index) id
never_active p t id rules test large h = record {
  readable = added_readable p (Const (pos 0) (unsigned 1)) id h;
  shape = added_form p (Const (pos 0) (unsigned 1)) id rules h;
  value = λ env fit.
      ap (λ z. not (is_zero z)) (added_num p (Const (pos 0) (unsigned 1)) id env rules h)
      ∙ never_holds t.and_above (num p env t.index.0) t.number (form p t.index.0).width (index_fits p env t rules fit test) large;
  needs = λ c m. absurd (constant_needs p (pos 0) (unsigned 1) id c rules h m);
}

-- ---- numbers of so many bits

pub below_is : (n m : ℕ) → 0 < m → (IsTrue (n / m == 0) → n < m) × (n < m → IsTrue (n / m == 0))
below_is n m some =
    (λ e. let none : n / m ≡ 0 = eqb-true (n / m) 0 e in let lt : n < n / m * m + m = lt-div-mul-add some in omega (arith, subst (λ k. n < k * m + m) none lt), λ lt. eq-eqb (n / m) 0 (div-eq_of_lt lt))

pub not_below : (b : Bool) (n m : ℕ) → b ≡ false → (IsTrue b → n < m) × (n < m → IsTrue b) → m ≤ n
not_below b n m e told = ⊎_elim (λ (lt : n < m). absurd (false≢true (sym e ∙ told.1 lt))) (λ (ge : m ≤ n). ge) (cases_lt n m)

pub form_few : (w : ℕ) (signed : Bool) → IsForm w signed → w ≤ 128
form_few w false h = h
form_few w true h = h.1
