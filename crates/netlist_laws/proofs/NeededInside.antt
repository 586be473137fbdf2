-- The bits that a bit of an expression needs are bits of signals.
use Rattle.std.specs.Prelude.{◌≡◌, ℕ, zero, suc, ◌+◌, ◌-◌, ◌<◌, Bool, true, false, cond, List, [], ◌∷◌, ◌++◌, length, nat_lt, ℤ}
use Rattle.std.specs.List.{AllByRecursion, flat_map, range_with_len}
use Rattle.std.proofs.Common.{arith}
use Rattle.std.proofs.lemmas.Bool.{cond_both, ltb-true, ltb-false}
use Rattle.shape_rules.specs.Forms.{Form, IsForm}
use Rattle.shape_rules.specs.Rows.{operand_count}
use Rattle.shape_rules.specs.declared.op.Op.{Op}
use Rattle.shape_rules.specs.declared.op.Op.TheVariants as op
use Rattle.design_ir.specs.declared.ids.ExprId.{ExprId}
use Rattle.design_ir.specs.declared.signal.Sig.{Sig}
use Rattle.design_ir.specs.declared.expr.Expr.{Expr}
use Rattle.design_ir.specs.declared.expr.Expr.TheVariants as expr
use Rattle.design_ir.specs.Named.{named, AllBelow}
use Rattle.design_ir.specs.Pools.{Pooled}
use Rattle.design_ir.specs.PoolRules.{IsPool, IsInRange}
use Rattle.design_ir.specs.Targets.{Bit}
use Rattle.design_ir.specs.Needed.{extended, every, is_bitwise, joined_bits, bits_step, needed}
use Rattle.design_ir.specs.Values.{form, form_step, signal_form, total_width}
use Rattle.design_ir.proofs.Equations.{standing, form_is}
use Rattle.design_ir.proofs.NumbersFit.{element, FitsSignals, has_shape}
use Rattle.rtlil_text.proofs.Among.{AllByRecursion-append}
use Rattle.netlist_laws.proofs.FixedTargets.{IsInside}
use Rattle.netlist_laws.proofs.PoolNeeds.{needed_is}

module _ (sig_form : ℕ → Form) where
  abbrev Inside : List Bit → Type 0
  Inside bs = AllByRecursion (IsInside sig_form) bs

  both_inside : (xs ys : List Bit) → Inside xs → Inside ys → Inside (xs ++ ys)
  both_inside xs ys p q = AllByRecursion-append (IsInside sig_form) xs ys p q

  range_inside : (bits : ℕ → List Bit) (a n : ℕ) → ((k : ℕ) → k < a + n → Inside (bits k)) → Inside (flat_map bits (range_with_len a n))
  range_inside bits a zero h = tt
  range_inside bits a (suc n) h = both_inside (bits a) (flat_map bits (range_with_len (a + 1) n)) (h a (omega arith)) (range_inside bits (a + 1) n (λ k l. h k (omega (arith, l))))

  -- an expression's bits need bits of signals
  abbrev NeedsInside : Form → (ℕ → List Bit) → Type 0
  NeedsInside f bits = (k : ℕ) → k < f.width → Inside (bits k)

  every_inside : (f : Form) (bits : ℕ → List Bit) → NeedsInside f bits → Inside (every f bits)
  every_inside f bits h = range_inside bits 0 f.width (λ k l. h k (omega arith))

  past_inside : (s : Bool) (w : ℕ) (bits : ℕ → List Bit) → IsForm w s → ((k : ℕ) → k < w → Inside (bits k)) → Inside (cond s (bits (w - 1)) [])
  past_inside false w bits p h = tt
  past_inside true w bits p h = h (w - 1) (omega (arith, p.0))

  pub extended_inside : (f : Form) (bits : ℕ → List Bit) (k : ℕ) → IsForm f.width f.signed → NeedsInside f bits → Inside (extended f bits k)
  extended_inside f bits k p h =
      cond_both (nat_lt k f.width) (bits k) (cond f.signed (bits (f.width - 1)) []) Inside (λ e. h k (ltb-true k f.width e)) (λ e. past_inside f.signed f.width bits p h)

  -- an expression with a shape, whose bits need bits of signals
  pub record IsSound (f : Form) (bits : ℕ → List Bit) : Type 0 where
    pub shape : IsForm f.width f.signed
    pub inside : NeedsInside f bits

module _ (sigs : List Sig) (forms : ℕ → Form) (bits : ℕ → ℕ → List Bit) where
  abbrev AreSound : List ExprId → Type 0
  AreSound es = AllByRecursion (λ (a : ExprId). IsSound (signal_form sigs) (forms a.0) (bits a.0)) es

  abbrev IsGood : Expr → Type 0
  IsGood e = NeedsInside (signal_form sigs) (form_step sigs forms e) (bits_step forms bits e)

  whole_inside : (a : ExprId) → IsSound (signal_form sigs) (forms a.0) (bits a.0) → Inside (signal_form sigs) (every (forms a.0) (bits a.0))
  whole_inside a h = every_inside (signal_form sigs) (forms a.0) (bits a.0) h.inside

  past : (a : ExprId) (k : ℕ) → IsSound (signal_form sigs) (forms a.0) (bits a.0) → Inside (signal_form sigs) (extended (forms a.0) (bits a.0) k)
  past a k h = extended_inside (signal_form sigs) (forms a.0) (bits a.0) k h.shape h.inside

  two_inside : (xs ys : List Bit) → Inside (signal_form sigs) xs → Inside (signal_form sigs) ys → Inside (signal_form sigs) (xs ++ ys)
  two_inside = both_inside (signal_form sigs)

  unary_inside : (o : Op) (a : ExprId) → operand_count o ≡ 1 → AreSound (a ∷ []) → IsGood (expr.Unary o a)
  unary_inside op.Not a range h = h.0.inside
  unary_inside op.And a range h = absurd (omega (arith, range))
  unary_inside op.Or a range h = absurd (omega (arith, range))
  unary_inside op.Xor a range h = absurd (omega (arith, range))
  unary_inside o a range h = λ k l. whole_inside a h.0

  binary_inside : (o : Op) (a b : ExprId) → AreSound (a ∷ b ∷ []) → IsGood (expr.Binary o a b)
  binary_inside o a b h = λ k l.
      cond_both (is_bitwise o) (extended (forms a.0) (bits a.0) k ++ extended (forms b.0) (bits b.0) k) (every (forms a.0) (bits a.0) ++ every (forms b.0) (bits b.0)) (Inside (signal_form sigs))
      (λ _. two_inside (extended (forms a.0) (bits a.0) k) (extended (forms b.0) (bits b.0) k) (past a k h.0) (past b k h.1.0))
      (λ _. two_inside (every (forms a.0) (bits a.0)) (every (forms b.0) (bits b.0)) (whole_inside a h.0) (whole_inside b h.1.0))

  joined_inside : (es : List ExprId) (k : ℕ) → AreSound es → k < total_width forms es → Inside (signal_form sigs) (joined_bits forms bits es k)
  joined_inside [] k h l = tt
  joined_inside (e ∷ es) k h l =
      cond_both (nat_lt k (forms e.0).width) (bits e.0 k) (joined_bits forms bits es (k - (forms e.0).width)) (Inside (signal_form sigs))
      (λ t. h.0.inside k (ltb-true k (forms e.0).width t))
      (λ t. joined_inside es (k - (forms e.0).width) h.1 (omega (arith, l, ltb-false k (forms e.0).width t)))

  items_inside : (es : List ExprId) → AreSound es → Inside (signal_form sigs) (flat_map (λ (e : ExprId). every (forms e.0) (bits e.0)) es)
  items_inside [] h = tt
  items_inside (e ∷ es) h = two_inside (every (forms e.0) (bits e.0)) (flat_map (λ (e : ExprId). every (forms e.0) (bits e.0)) es) (whole_inside e h.0) (items_inside es h.1)

  step_inside : (e : Expr) → IsInRange sigs forms e → AreSound (named e) → IsGood e
  step_inside (expr.Const x s) range h = λ k l. tt
  step_inside (expr.Sig s) range h = λ k l. (l, tt)
  step_inside (expr.Unary o a) range h = unary_inside o a range h
  step_inside (expr.Binary o a b) range h = binary_inside o a b h
  step_inside (expr.Mux s a b) range h = λ k l.
      two_inside (every (forms s.0) (bits s.0) ++ extended (forms a.0) (bits a.0) k) (extended (forms b.0) (bits b.0) k)
      (two_inside (every (forms s.0) (bits s.0)) (extended (forms a.0) (bits a.0) k) (whole_inside s h.0) (past a k h.1.0)) (past b k h.1.1.0)
  step_inside (expr.Slice a low width) range h = λ k l. h.0.inside (low + k) (omega (arith, range, l))
  step_inside (expr.Cat es) range h = λ k l. joined_inside es k h l
  step_inside (expr.Part a offset width stride) range h = λ k l. two_inside (every (forms a.0) (bits a.0)) (every (forms offset.0) (bits offset.0)) (whole_inside a h.0) (whole_inside offset h.1.0)
  step_inside (expr.Pick index es) range h = λ k l.
      two_inside (every (forms index.0) (bits index.0)) (flat_map (λ (e : ExprId). every (forms e.0) (bits e.0)) es) (whole_inside index h.0) (items_inside es h.1)
  step_inside (expr.Cast a signed) range h = λ k l. h.0.inside k l
  step_inside (expr.Matches a patterns) range h = λ k l. whole_inside a h.0
  step_inside (expr.Reset domain place) range h = λ k l. tt

-- ---- the expressions of a pool

module _ (p : Pooled) (env : List ℤ) (rules : IsPool p) (fit : FitsSignals p env) where
  abbrev IsInner : ExprId → Type 0
  IsInner e = IsSound (signal_form p.signals) (form p e.0) (needed p e.0)

  all_below : (k : ℕ) (es : List ExprId) → AllBelow k es → ((e : ExprId) → e.0 < k → IsInner e) → AllByRecursion IsInner es
  all_below k [] h each = tt
  all_below k (e ∷ es) h each = (each e h.0, all_below k es h.1 each)

  up_to : (n : ℕ) (e : ExprId) → e.0 < n → e.0 < length p.exprs → IsInner e
  up_to zero e below there = absurd (omega (arith, below))
  up_to (suc n) e below there =
      let x = element p.exprs e.0 there in
      let stands = standing p e.0 x.0 rules x.1 in
      let earlier = all_below e.0 (named x.0) stands.names (λ a lt. up_to n a (omega (arith, below, lt)) (omega (arith, there, lt))) in
      record {
        shape = has_shape p env rules fit e there;
        inside = rw (needed_is p e.0 x.0 rules x.1, form_is p e.0 x.0 rules x.1) (step_inside p.signals (form p) (needed p) x.0 stands.askable.parts earlier);
      }

  -- each bit of an expression needs bits of signals alone
  pub needed_inside : (e : ExprId) (k : ℕ) → e.0 < length p.exprs → AllByRecursion (IsInside (signal_form p.signals)) (extended (form p e.0) (needed p e.0) k)
  needed_inside e k there =
      let r = up_to (suc e.0) e (omega arith) there in
      extended_inside (signal_form p.signals) (form p e.0) (needed p e.0) k r.shape r.inside
