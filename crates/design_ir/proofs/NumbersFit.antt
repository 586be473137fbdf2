-- Every expression of a pool has a shape, and its integer is of it where the signals' numbers are of theirs.
use Rattle.std.specs.Prelude.{◌≡◌, refl, ℕ, zero, suc, ◌+◌, ◌-◌, ◌*◌, ◌^◌, ◌<◌, ◌≤◌, ◌||◌, min, cond, Bool, true, false, List, [], ◌∷◌, map, length, slice_get, slice_index_or, ℤ, pos, unsigned_abs, Some, None}
use Rattle.std.specs.List.{AllByRecursion, list_any}
use Rattle.std.proofs.Common.{◌∙◌, arith, ⊎_elim}
use Rattle.std.proofs.lemmas.Bool.{cond_below, cases_lt, false≢true}
use Rattle.std.proofs.lemmas.Nat.{mul-add-lt, pow-add}
use Rattle.std.proofs.Math.Nat.{mul_comm}
use Rattle.amh_bits.specs.Integers.{floor_quotient}
use Rattle.amh_bits.specs.Patterns.{IsOf, pattern}
use Rattle.amh_bits.proofs.InShape.{of_zero}
use Rattle.amh_bits.proofs.Wraps.{pattern_below, wrap_is_of}
use Rattle.shape_rules.specs.Forms.{Form, IsForm, unsigned, common, common_width}
use Rattle.shape_rules.specs.Operators.{form_of, truth, is_zero}
use Rattle.shape_rules.specs.Stops.{IsTaken, is_bad_operand, widest}
use Rattle.shape_rules.specs.declared.op.Op.{Op}
use Rattle.shape_rules.specs.declared.op.Op.TheVariants.{Add, Sub, Neg, Mul, Div, Mod, Abs, Not, And, Or, Xor, Eq, Ne, Lt, Le, Gt, Ge, Any, All, Parity, Shl, Shr}
use Rattle.shape_rules.proofs.CommonShape.{common_left, common_right}
use Rattle.shape_rules.proofs.Laws.{fits}
use Rattle.design_ir.specs.declared.ids.ExprId.{ExprId}
use Rattle.design_ir.specs.declared.signal.Sig.{Sig}
use Rattle.design_ir.specs.declared.expr.Expr as expr
use Rattle.design_ir.specs.declared.expr.Expr.{Expr}
use Rattle.design_ir.specs.declared.expr.Expr.TheVariants.{Const, Unary, Binary, Mux, Slice, Cat, Part, Pick, Cast, Matches, Reset}
use Rattle.design_ir.specs.declared.refusal.PoolStop.TheVariants.{Width}
use Rattle.design_ir.specs.Named.{named, AllBelow}
use Rattle.design_ir.specs.Pools.{Pooled}
use Rattle.design_ir.specs.PoolRules.{IsPool, shape_stop}
use Rattle.design_ir.specs.Values.{form, form_step, num, value_step, signal_form, total_width, joined, common_with, common_of_all, matches}
pub use Rattle.design_ir.specs.Circuits.{FitsSignals}
use Rattle.design_ir.proofs.Equations.{IsStanding, standing, form_is, num_is}

-- ---- shapes

abbrev IsFormOf : Form → Type 0
IsFormOf f = IsForm f.width f.signed

formed : (s : Bool) (w : ℕ) → w ≤ 128 → (s ≡ true → 1 ≤ w) → IsForm w s
formed false w le some = le
formed true w le some = (some refl, le)

some_bit : (s : Bool) (w : ℕ) → IsForm w s → s ≡ true → 1 ≤ w
some_bit false w p e = absurd (false≢true e)
some_bit true w p e = p.0

some_common : (s t : Bool) (w v : ℕ) → (s ≡ true → 1 ≤ w) → (t ≡ true → 1 ≤ v) → (s || t) ≡ true → 1 ≤ common_width s t w v
some_common false false w v p q e = absurd (false≢true e)
some_common true true w v p q e = omega (arith, p refl)
some_common true false w v p q e = omega (arith, p refl)
some_common false true w v p q e = omega (arith, q refl)

some_product : (s t : Bool) (w v : ℕ) → (s ≡ true → 1 ≤ w) → (t ≡ true → 1 ≤ v) → (s || t) ≡ true → 1 ≤ w + v
some_product false false w v p q e = absurd (false≢true e)
some_product true t w v p q e = omega (arith, p refl)
some_product false true w v p q e = omega (arith, q refl)

some_quotient : (s t : Bool) (w : ℕ) → (s ≡ true → 1 ≤ w) → (s || t) ≡ true → 1 ≤ w + cond t 1 0
some_quotient false false w p e = absurd (false≢true e)
some_quotient true false w p e = omega (arith, p refl)
some_quotient s true w p e = omega arith

-- an operator's result has a shape
op_form : (op : Op) (a b : Form) → IsFormOf a → IsFormOf b → (form_of op a b).width ≤ 128 → IsFormOf (form_of op a b)
op_form Add a b p q t = formed (common a b).signed (suc (common a b).width) t (λ e. omega arith)
op_form Sub a b p q t = (omega arith, t)
op_form Neg a b p q t = (omega arith, t)
op_form Mul a b p q t = formed (a.signed || b.signed) (a.width + b.width) t (some_product a.signed b.signed a.width b.width (some_bit a.signed a.width p) (some_bit b.signed b.width q))
op_form Div a b p q t = formed (a.signed || b.signed) (a.width + cond b.signed 1 0) t (some_quotient a.signed b.signed a.width (some_bit a.signed a.width p))
op_form Mod a b p q t = q
op_form Abs a b p q t = t
op_form Not a b p q t = p
op_form And a b p q t = formed (common a b).signed (common a b).width t (some_common a.signed b.signed a.width b.width (some_bit a.signed a.width p) (some_bit b.signed b.width q))
op_form Or a b p q t = formed (common a b).signed (common a b).width t (some_common a.signed b.signed a.width b.width (some_bit a.signed a.width p) (some_bit b.signed b.width q))
op_form Xor a b p q t = formed (common a b).signed (common a b).width t (some_common a.signed b.signed a.width b.width (some_bit a.signed a.width p) (some_bit b.signed b.width q))
op_form Eq a b p q t = t
op_form Ne a b p q t = t
op_form Lt a b p q t = t
op_form Le a b p q t = t
op_form Gt a b p q t = t
op_form Ge a b p q t = t
op_form Any a b p q t = t
op_form All a b p q t = t
op_form Parity a b p q t = t
op_form Shl a b p q t = formed a.signed (form_of Shl a b).width t (λ e. omega (arith, some_bit a.signed a.width p e))
op_form Shr a b p q t = p

-- what was accepted is not too wide, and has no signed operand where that is refused
pub accepted_is : (bad : Bool) (w : ℕ) → shape_stop bad w ≡ None → (bad ≡ false) × (w ≤ 128)
accepted_is true w e = cc
accepted_is false w e =
    (refl, ⊎_elim (λ lt. let none : Some Width ≡ None = cond_below 128 w (Some Width) None lt ∙ e in cc) (λ ge. ge) (cases_lt 128 w))

taken : (op : Op) (a b : Form) → shape_stop (is_bad_operand op b) (widest op a b) ≡ None → IsTaken op a b
taken op a b e =
    let h = accepted_is (is_bad_operand op b) (widest op a b) e in
    record { operand = h.0; result = omega (arith, h.1); work = omega (arith, h.1) }

-- an operator of one operand is no shift
unary_accepted : (op : Op) (a : Form) → shape_stop false (widest op a (unsigned 0)) ≡ None → shape_stop (is_bad_operand op (unsigned 0)) (widest op a (unsigned 0)) ≡ None
unary_accepted Add a e = e
unary_accepted Sub a e = e
unary_accepted Neg a e = e
unary_accepted Mul a e = e
unary_accepted Div a e = e
unary_accepted Mod a e = e
unary_accepted Abs a e = e
unary_accepted Not a e = e
unary_accepted And a e = e
unary_accepted Or a e = e
unary_accepted Xor a e = e
unary_accepted Eq a e = e
unary_accepted Ne a e = e
unary_accepted Lt a e = e
unary_accepted Le a e = e
unary_accepted Gt a e = e
unary_accepted Ge a e = e
unary_accepted Any a e = e
unary_accepted All a e = e
unary_accepted Parity a e = e
unary_accepted Shl a e = e
unary_accepted Shr a e = e

-- ---- several expressions

module _ (forms : ℕ → Form) (nums : ℕ → ℤ) where
  joined_below : (es : List ExprId) → joined forms nums es < 2 ^ total_width forms es
  joined_below [] = omega arith
  joined_below (e ∷ es) =
      let w : ℕ = (forms e.0).width in
      let p = mul-add-lt (joined forms nums es) (2 ^ w) (pattern w (nums e.0)) (2 ^ total_width forms es) (joined_below es) (pattern_below w (nums e.0)) in
      omega (arith, p, pow-add 2 w (total_width forms es), mul_comm (joined forms nums es) (2 ^ w))

  -- what is of one of several shapes is of the shape of all
  with_keeps : (f : Form) (es : List ExprId) (z : ℤ) → IsOf f.signed f.width z → IsOf (common_with forms f es).signed (common_with forms f es).width z
  with_keeps f [] z h = h
  with_keeps f (e ∷ es) z h = with_keeps (common f (forms e.0)) es z (common_left f.signed (forms e.0).signed f.width (forms e.0).width z h)

  item_fits : (f : Form) (es : List ExprId) (k : ℕ) → AllByRecursion (λ (e : ExprId). IsOf (forms e.0).signed (forms e.0).width (nums e.0)) es → IsOf (common_with forms f es).signed (common_with forms f es).width (slice_index_or (map (λ (e : ExprId). nums e.0) es) k (pos 0))
  item_fits f [] k h = of_zero f.signed f.width
  item_fits f (e ∷ es) zero h = with_keeps (common f (forms e.0)) es (nums e.0) (common_right f.signed (forms e.0).signed f.width (forms e.0).width (nums e.0) h.0)
  item_fits f (e ∷ es) (suc k) h = item_fits (common f (forms e.0)) es k h.1

  picked_fits : (es : List ExprId) (k : ℕ) → AllByRecursion (λ (e : ExprId). IsOf (forms e.0).signed (forms e.0).width (nums e.0)) es → IsOf (common_of_all forms es).signed (common_of_all forms es).width (slice_index_or (map (λ (e : ExprId). nums e.0) es) k (pos 0))
  picked_fits [] k h = of_zero false 0
  picked_fits (e ∷ es) zero h = with_keeps (forms e.0) es (nums e.0) h.0
  picked_fits (e ∷ es) (suc k) h = item_fits (forms e.0) es k h.1

  with_some : (f : Form) (es : List ExprId) → (f.signed ≡ true → 1 ≤ f.width) → AllByRecursion (λ (e : ExprId). IsForm (forms e.0).width (forms e.0).signed) es → (common_with forms f es).signed ≡ true → 1 ≤ (common_with forms f es).width
  with_some f [] p h = p
  with_some f (e ∷ es) p h =
      with_some (common f (forms e.0)) es (some_common f.signed (forms e.0).signed f.width (forms e.0).width p (some_bit (forms e.0).signed (forms e.0).width h.0)) h.1

  all_some : (es : List ExprId) → AllByRecursion (λ (e : ExprId). IsForm (forms e.0).width (forms e.0).signed) es → (common_of_all forms es).signed ≡ true → 1 ≤ (common_of_all forms es).width
  all_some [] h e = absurd (false≢true e)
  all_some (x ∷ es) h e = with_some (forms x.0) es (some_bit (forms x.0).signed (forms x.0).width h.0) h.1 e

-- ---- signals

sig_form : (sigs : List Sig) (s : ℕ) → AllByRecursion (λ (x : Sig). IsForm x.shape.width x.shape.signed) sigs → IsForm (signal_form sigs s).width (signal_form sigs s).signed
sig_form [] s h = omega arith
sig_form (x ∷ sigs) zero h = h.0
sig_form (x ∷ sigs) (suc s) h = sig_form sigs s h.1

-- ---- each expression

truth_fits : (b : Bool) → IsOf false 1 (truth b)
truth_fits false = omega arith
truth_fits true = omega arith

choice_fits : (t : Bool) (s : Bool) (w : ℕ) (x y : ℤ) → IsOf s w x → IsOf s w y → IsOf s w (cond t x y)
choice_fits true s w x y f g = f
choice_fits false s w x y f g = g

all_left : (P Q : ExprId → Type 0) (es : List ExprId) → AllByRecursion (λ e. P e × Q e) es → AllByRecursion P es
all_left P Q [] h = tt
all_left P Q (e ∷ es) h = (h.0.0, all_left P Q es h.1)

all_right : (P Q : ExprId → Type 0) (es : List ExprId) → AllByRecursion (λ e. P e × Q e) es → AllByRecursion Q es
all_right P Q [] h = tt
all_right P Q (e ∷ es) h = (h.0.1, all_right P Q es h.1)

pub element : {A : Type 0} (xs : List A) (k : ℕ) → k < length xs → (x : A) × (slice_get xs k ≡ Some x)
element [] k h = absurd (omega (arith, h))
element (x ∷ xs) zero h = (x, refl)
element (x ∷ xs) (suc k) h = element xs k (omega (arith, h))

-- an expression has a shape
abbrev pub HasShape : Pooled → ExprId → Type 0
HasShape p e = IsForm (form p e.0).width (form p e.0).signed

-- its integer is of it
abbrev pub HasInteger : Pooled → List ℤ → ExprId → Type 0
HasInteger p env e = IsOf (form p e.0).signed (form p e.0).width (num p env e.0)

module _ (p : Pooled) (env : List ℤ) (rules : IsPool p) (fit : FitsSignals p env) where
  step_fits : (k : ℕ) (e : Expr) → IsStanding p k e → AllByRecursion (λ a. HasShape p a × HasInteger p env a) (named e) → IsForm (form_step p.signals (form p) e).width (form_step p.signals (form p) e).signed × IsOf (form_step p.signals (form p) e).signed (form_step p.signals (form p) e).width (value_step (form p) env (num p env) e)
  step_fits k (Const n s) h all = (h.formed, h.askable.parts)
  step_fits k (expr.TheVariants.Sig s) h all = (sig_form p.signals s.0 rules.shapes, fit s.0 h.askable.parts)
  step_fits k (Unary op a) h all =
      let none : IsForm 0 false = omega arith in
      let t = taken op (form p a.0) (unsigned 0) (unary_accepted op (form p a.0) h.accepted) in
      (op_form op (form p a.0) (unsigned 0) all.0.0 none t.result, fits op (form p a.0) (unsigned 0) (num p env a.0) (pos 0) all.0.0 none t all.0.1 (of_zero false 0))
  step_fits k (Binary op a b) h all =
      let t = taken op (form p a.0) (form p b.0) h.accepted in
      (op_form op (form p a.0) (form p b.0) all.0.0 all.1.0.0 t.result, fits op (form p a.0) (form p b.0) (num p env a.0) (num p env b.0) all.0.0 all.1.0.0 t all.0.1 all.1.0.1)
  step_fits k (Mux s a b) h all =
      let f : Form = form p a.0 in
      let g : Form = form p b.0 in (
        formed (common f g).signed (common f g).width (accepted_is false (common f g).width h.accepted).1 (some_common f.signed g.signed f.width g.width (some_bit f.signed f.width all.1.0.0) (some_bit g.signed g.width all.1.1.0.0)),
        choice_fits (is_zero (num p env s.0)) (common f g).signed (common f g).width (num p env b.0) (num p env a.0)
            (common_right f.signed g.signed f.width g.width (num p env b.0) all.1.1.0.1) (common_left f.signed g.signed f.width g.width (num p env a.0) all.1.0.1),
      )
  step_fits k (Slice a low width) h all =
      ((accepted_is false width h.accepted).1, pattern_below width (floor_quotient (num p env a.0) (2 ^ low)))
  step_fits k (Cat es) h all = ((accepted_is false (total_width (form p) es) h.accepted).1, joined_below (form p) (num p env) es)
  step_fits k (Part a offset width stride) h all =
      ((accepted_is (form p offset.0).signed width h.accepted).1, pattern_below width (floor_quotient (num p env a.0) (2 ^ (unsigned_abs (num p env offset.0) * stride))))
  step_fits k (Pick index es) h all = (
    formed (common_of_all (form p) es).signed (common_of_all (form p) es).width (accepted_is (form p index.0).signed (common_of_all (form p) es).width h.accepted).1 (all_some (form p) (num p env) es (all_left (HasShape p) (HasInteger p env) es all.1)),
    picked_fits (form p) (num p env) es (min (unsigned_abs (num p env index.0)) (length (map (λ (e : ExprId). num p env e.0) es) - 1)) (all_right (HasShape p) (HasInteger p env) es all.1),
  )
  step_fits k (Cast a signed) h all =
      (formed signed (form p a.0).width (accepted_is false (form p a.0).width h.accepted).1 h.askable.parts, wrap_is_of signed (form p a.0).width (num p env a.0))
  step_fits k (Matches a patterns) h all = (omega arith, truth_fits (list_any (λ q. matches q (pattern (form p a.0).width (num p env a.0))) patterns))
  step_fits k (Reset domain place) h all = (omega arith, of_zero false 1)

  all_below : (k : ℕ) (es : List ExprId) → AllBelow k es → ((e : ExprId) → e.0 < k → HasShape p e × HasInteger p env e) → AllByRecursion (λ e. HasShape p e × HasInteger p env e) es
  all_below k [] h each = tt
  all_below k (e ∷ es) h each = (each e h.0, all_below k es h.1 each)

  up_to : (n : ℕ) (e : ExprId) → e.0 < n → e.0 < length p.exprs → HasShape p e × HasInteger p env e
  up_to zero e below there = absurd (omega (arith, below))
  up_to (suc n) e below there =
      let x = element p.exprs e.0 there in
      let stands = standing p e.0 x.0 rules x.1 in
      let earlier = all_below e.0 (named x.0) stands.names (λ a lt. up_to n a (omega (arith, below, lt)) (omega (arith, there, lt))) in
      rw (form_is p e.0 x.0 rules x.1, num_is p env e.0 x.0 rules x.1) (step_fits e.0 x.0 stands earlier)

  pub has_shape : (e : ExprId) → e.0 < length p.exprs → HasShape p e
  has_shape e there = (up_to (suc e.0) e (omega arith) there).0

  -- the integer of an expression is of its shape
  pub num_fits : (e : ExprId) → e.0 < length p.exprs → HasInteger p env e
  num_fits e there = (up_to (suc e.0) e (omega arith) there).1
