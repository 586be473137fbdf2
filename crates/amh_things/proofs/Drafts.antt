-- Expressions over operands are such that a pool takes them one after the other.
use Rattle.std.specs.Prelude.{◌≡◌, refl, ℕ, ◌+◌, ◌<◌, ◌≤◌, nat_lt, Bool, true, false, if◌then◌else◌, List, [], ◌∷◌, ◌++◌, length, slice_index_or, Option, Some, None, Ok}
use Rattle.std.specs.List.{AllByRecursion}
use Rattle.std.proofs.Common.{sym, ap, ◌∙◌, arith, append_assoc, append-nil, length-append}
use Rattle.std.proofs.Math.ListN.{get_or-append}
use Rattle.std.proofs.Math.Seq.{get_or-append_seam}
use Rattle.std.proofs.lemmas.Bool.Decides.{nat_tests}
use Rattle.amh_bits.specs.Patterns.{IsOf}
use Rattle.shape_rules.specs.Forms.{Form, IsForm, unsigned}
use Rattle.design_ir.specs.declared.ids.ExprId.{ExprId}
use Rattle.design_ir.specs.declared.signal.Sig.{Sig}
use Rattle.design_ir.specs.declared.expr.Expr.{Expr}
use Rattle.design_ir.specs.declared.refusal.PoolStop.TheVariants as pool_stop
use Rattle.design_ir.specs.Pools.{Pooled}
use Rattle.design_ir.specs.PoolRules.{AreExprs, shape_stop}
use Rattle.design_ir.specs.Values.{form, form_step}
use Rattle.design_ir.proofs.Answers.{answers_begin}
use Rattle.py_frames.specs.declared.request.Cause.{Cause}
use Rattle.py_frames.specs.declared.request.Cause.TheVariants as cause
use Rattle.amh_things.specs.declared.plan.Plan.{Plan}
use Rattle.amh_things.specs.declared.operand.Operand.{Operand}
use Rattle.amh_things.specs.declared.operand.Operand.TheVariants.{Held, Number}
use Rattle.amh_things.specs.Operands.{operand_form, operand_constants, operand_id, constants, operand_ids, IsOperand}
use Rattle.py_values.specs.declared.val.Hw.{Hw}
use Rattle.amh_things.specs.Plans.{forms, ends_of, valued, value_made, valued_made, AreDrafted, IsDrafted, refusal_of, unless}
use Rattle.amh_things.specs.Held.{AreHeld}
use Rattle.amh_things.specs.declared.thing.Thing.{Thing}

-- ---- the shapes of a pool

pub forms_length : (p : Pooled) → length (forms p) ≡ length p.exprs
forms_length p = let r = answers_begin (unsigned 0) (form_step p.signals) [] p.exprs in ap length r.1 ∙ r.2

pub form_is : (p : Pooled) (k : ℕ) → form p k ≡ slice_index_or (forms p) k (unsigned 0)
unfolding form
form_is p k = refl

-- ---- a shape that is wide enough

pub narrow : (width : ℕ) → width ≤ 128 → shape_stop false width ≡ None
narrow width h = grind (arith, nat_tests)

-- what is no reason to refuse is none for a pool
pub accepted : (bad : Bool) (width : ℕ) → refusal_of bad width ≡ None → shape_stop bad width ≡ None
accepted true width h = cc
accepted false width h = by_width (nat_lt 128 width) h
  where
    by_width : (b : Bool) → (if b then Some cause.Width else None) ≡ None → (if b then Some pool_stop.Width else None) ≡ None
    by_width true e = cc
    by_width false e = refl

pub unless-ok : (why : Option Cause) (plan made : Plan) → unless why plan ≡ Ok made → (why ≡ None) × (made ≡ plan)
unless-ok None plan made h = (refl, cc)
unless-ok (Some w) plan made h = cc

-- ---- operands

-- the shapes of the constants of an operand
abbrev pub constant_forms : Operand → List Form
constant_forms (Held e f) = []
constant_forms (Number n f) = f ∷ []

abbrev pub all_forms : List Operand → List Form
all_forms [] = []
all_forms (x ∷ xs) = constant_forms x ++ all_forms xs

-- an operand among expressions of these shapes
abbrev pub IsIn : List Form → Operand → Type 0
IsIn known (Held e f) = (e.0 < length known) × (f ≡ slice_index_or known e.0 (unsigned 0))
IsIn known (Number n f) = IsForm f.width f.signed × IsOf f.signed f.width n

pub operand_in : (p : Pooled) (x : Operand) → IsOperand p x → IsIn (forms p) x
operand_in p (Held e f) h = (omega (arith, h.0, forms_length p), h.1 ∙ form_is p e.0)
operand_in p (Number n f) h = h

pub longer : (known more : List Form) (x : Operand) → IsIn known x → IsIn (known ++ more) x
longer known more (Held e f) h = (omega (arith, h.0, length-append known more), h.1 ∙ sym (get_or-append known more (unsigned 0) e.0 h.0))
longer known more (Number n f) h = h

pub all_longer : (known more : List Form) (xs : List Operand) → AllByRecursion (IsIn known) xs → AllByRecursion (IsIn (known ++ more)) xs
all_longer known more [] h = tt
all_longer known more (x ∷ xs) h = (longer known more x h.0, all_longer known more xs h.1)

pub width_of_form : (width : ℕ) (signed : Bool) → IsForm width signed → width ≤ 128
width_of_form width false h = h
width_of_form width true h = h.1

counts : (x : Operand) → length (constant_forms x) ≡ length (operand_constants x)
counts (Held e f) = refl
counts (Number n f) = refl

module _ (sigs : List Sig) where
  one : (known : List Form) (x : Operand) (es : List Expr) → IsIn known x → AreExprs sigs (known ++ constant_forms x) es → AreExprs sigs known (operand_constants x ++ es)
  one known (Held e f) es h rest = rw append-nil at rest
  one known (Number n f) es h rest =
      (record { names = tt; formed = h.0; parts = h.1; accepted = narrow f.width (width_of_form f.width f.signed h.0) }, rest)

  pub drafts : (known : List Form) (xs : List Operand) (es : List Expr) → AllByRecursion (IsIn known) xs → AreExprs sigs (known ++ all_forms xs) es → AreExprs sigs known (constants xs ++ es)
  drafts known [] es h rest = rw append-nil at rest
  drafts known (x ∷ xs) es h rest =
      let later : AreExprs sigs ((known ++ constant_forms x) ++ all_forms xs) es = rw append_assoc rest in
      let inner = drafts (known ++ constant_forms x) xs es (all_longer known (constant_forms x) xs h.1) later in
      rw append_assoc (one known x (constants xs ++ es) h.0 inner)

-- ---- the expressions that operands are

-- what an operand's expression is among these
abbrev pub IsAt : List Form → ExprId → Operand → Type 0
IsAt known e x = (e.0 < length known) × (slice_index_or known e.0 (unsigned 0) ≡ operand_form x)

at_longer : (known more : List Form) (e : ExprId) (x : Operand) → IsAt known e x → IsAt (known ++ more) e x
at_longer known more e x h = (omega (arith, h.0, length-append known more), get_or-append known more (unsigned 0) e.0 h.0 ∙ h.1)

at_here : (known : List Form) (x : Operand) → IsIn known x → IsAt (known ++ constant_forms x) (operand_id (length known) x) x
at_here known (Held e f) h = rw append-nil (h.0, sym h.1)
at_here known (Number n f) h = (omega (arith, length-append known (f ∷ [])), get_or-append_seam known f [] (unsigned 0))

abbrev pub AreAt : List Form → List ExprId → List Operand → Type 0
AreAt known [] [] = Unit {0}
AreAt known [] (x ∷ xs) = ⊥
AreAt known (e ∷ es) [] = ⊥
AreAt known (e ∷ es) (x ∷ xs) = IsAt known e x × AreAt known es xs

pub ids_at : (known : List Form) (xs : List Operand) → AllByRecursion (IsIn known) xs → AreAt (known ++ all_forms xs) (operand_ids (length known) xs) xs
ids_at known [] h = tt
ids_at known (x ∷ xs) h =
    let next : length (known ++ constant_forms x) ≡ length known + length (operand_constants x) = omega (arith, length-append known (constant_forms x), counts x) in
    let rest = ids_at (known ++ constant_forms x) xs (all_longer known (constant_forms x) xs h.1) in
    let here = at_longer (known ++ constant_forms x) (all_forms xs) (operand_id (length known) x) x (at_here known x h.0) in
    let here' = rw (append_assoc known (constant_forms x) (all_forms xs)) at here in
    let rest' = rw (append_assoc known (constant_forms x) (all_forms xs), next) at rest in
    (here', rest')

-- ---- things of a plan

length_last : (xs : List Expr) (e : Expr) → length (xs ++ e ∷ []) ≡ length xs + 1
length_last xs e = omega (arith, length-append xs (e ∷ []))

-- a value over expressions stands for the last one
pub value_drafted : (p : Pooled) (things : List Thing) (before : List Expr) (e : Expr) → AreDrafted p (before ++ e ∷ []) → IsDrafted p (value_made (ends_of p things) before e)
value_drafted p things before e h = record { exprs = h; things = (omega (arith, length_last before e), tt) }

-- the value of an expression, of whatever shape, is held where the expression is there
valued_held : (n : ℕ) (of : Option Hw) (e : ExprId) → e.0 < n → AreHeld n (valued of e ∷ [])
valued_held n (Some h) e there = (there, tt)
valued_held n None e there = (there, tt)

pub valued_drafted : (p : Pooled) (things : List Thing) (of : Option Hw) (before : List Expr) (e : Expr) → AreDrafted p (before ++ e ∷ []) → IsDrafted p (valued_made (ends_of p things) of before e)
valued_drafted p things of before e h = record {
  exprs = h;
  things = valued_held (length p.exprs + length (before ++ e ∷ [])) of (record { 0 = length p.exprs + length before }) (omega (arith, length_last before e));
}

pub none_drafted : (p : Pooled) (plan : Plan) → [] ≡ plan.exprs → AreHeld (length p.exprs) plan.things → IsDrafted p plan
none_drafted p plan h held =
    let none : length plan.exprs ≡ 0 = ap length (sym h) in
    let same : length p.exprs + length plan.exprs ≡ length p.exprs = omega (arith, none) in
    record { exprs = rw (← h) tt; things = rw same held }
