-- A pool that grows keeps what it has.
use Rattle.std.specs.Prelude.{◌^◌, ◌≡◌, refl, ℕ, zero, suc, ◌+◌, ◌<◌, ◌≤◌, List, [], ◌∷◌, ◌++◌, length, slice_get, slice_index_or, option_map, unwrap_or, None}
use Rattle.std.specs.List.{AllByRecursion}
use Rattle.std.proofs.Common.{sym, ◌∙◌, ap, arith}
use Rattle.shape_rules.specs.Forms.{Form, IsForm, unsigned}
use Rattle.design_ir.specs.declared.signal.Sig.{Sig}
use Rattle.design_ir.specs.declared.expr.Expr as expr
use Rattle.design_ir.specs.declared.expr.Expr.{Expr}
use Rattle.design_ir.specs.declared.expr.Expr.TheVariants.{Const, Unary, Binary, Mux, Slice, Cat, Part, Pick, Cast, Matches, Reset}
use Rattle.design_ir.specs.Pools.{Pooled, answers}
use Rattle.design_ir.specs.PoolRules.{IsExpr, AreExprs, IsInRange, IsCached, HasInit, IsAskable, IsFormed, bad_operand, greatest_width, shape_stop, signal_bits, signal_added, expr_added}
use Rattle.design_ir.specs.Values.{form, form_step, signal_form}
use Rattle.design_ir.proofs.Shapes.{shapes_length, one_shape_more}

pub all_append : {A : Type 0} (P : A → Type 0) (xs : List A) (y : A) → AllByRecursion P xs → P y → AllByRecursion P (xs ++ y ∷ [])
all_append P [] y h p = (p, tt)
all_append P (x ∷ xs) y h p = (h.0, all_append P xs y h.1 p)

pub length_more : {A : Type 0} (xs : List A) (y : A) → length (xs ++ y ∷ []) ≡ suc (length xs)
length_more [] y = refl
length_more (x ∷ xs) y = ap suc (length_more xs y)

pub signal_bits_more : (xs : List Sig) (y : Sig) → signal_bits (xs ++ y ∷ []) ≡ signal_bits xs + y.shape.width
signal_bits_more [] y = omega arith
signal_bits_more (x ∷ xs) y = omega (arith, signal_bits_more xs y)

get_more : {A : Type 0} (xs : List A) (y : A) (i : ℕ) → i < length xs → slice_get (xs ++ y ∷ []) i ≡ slice_get xs i
get_more [] y i h = absurd (omega (arith, h))
get_more (x ∷ xs) y zero h = refl
get_more (x ∷ xs) y (suc i) h = get_more xs y i (omega (arith, h))

-- ---- one signal more

-- the shapes of other signals stay
signal_form_more : (sigs : List Sig) (x : Sig) (s : ℕ) → s < length sigs → signal_form (sigs ++ x ∷ []) s ≡ signal_form sigs s
signal_form_more sigs x s h = ap (λ o. unwrap_or (option_map (λ (y : Sig). y.shape) o) (unsigned 0)) (get_more sigs x s h)

form_step_more : (sigs : List Sig) (x : Sig) (form : ℕ → Form) (e : Expr) → IsInRange sigs form e → form_step (sigs ++ x ∷ []) form e ≡ form_step sigs form e
form_step_more sigs x form (Const n s) h = refl
form_step_more sigs x form (expr.TheVariants.Sig s) h = signal_form_more sigs x s.0 h
form_step_more sigs x form (Unary op a) h = refl
form_step_more sigs x form (Binary op a b) h = refl
form_step_more sigs x form (Mux s a b) h = refl
form_step_more sigs x form (Slice a low width) h = refl
form_step_more sigs x form (Cat es) h = refl
form_step_more sigs x form (Part a offset width stride) h = refl
form_step_more sigs x form (Pick index es) h = refl
form_step_more sigs x form (Cast a signed) h = refl
form_step_more sigs x form (Matches a patterns) h = refl
form_step_more sigs x form (Reset domain place) h = refl

in_range_more : (sigs : List Sig) (x : Sig) (form : ℕ → Form) (e : Expr) → IsInRange sigs form e → IsInRange (sigs ++ x ∷ []) form e
in_range_more sigs x form (Const n s) h = h
in_range_more sigs x form (expr.TheVariants.Sig s) h = omega (arith, h, length_more sigs x)
in_range_more sigs x form (Unary op a) h = h
in_range_more sigs x form (Binary op a b) h = h
in_range_more sigs x form (Mux s a b) h = h
in_range_more sigs x form (Slice a low width) h = h
in_range_more sigs x form (Cat es) h = h
in_range_more sigs x form (Part a offset width stride) h = h
in_range_more sigs x form (Pick index es) h = h
in_range_more sigs x form (Cast a signed) h = h
in_range_more sigs x form (Matches a patterns) h = h
in_range_more sigs x form (Reset domain place) h = h

width_more : (sigs : List Sig) (x : Sig) (form : ℕ → Form) (e : Expr) → IsInRange sigs form e → greatest_width (sigs ++ x ∷ []) form e ≡ greatest_width sigs form e
width_more sigs x form (Const n s) h = refl
width_more sigs x form (expr.TheVariants.Sig s) h = ap (λ (f : Form). f.width) (signal_form_more sigs x s.0 h)
width_more sigs x form (Unary op a) h = refl
width_more sigs x form (Binary op a b) h = refl
width_more sigs x form (Mux s a b) h = refl
width_more sigs x form (Slice a low width) h = refl
width_more sigs x form (Cat es) h = refl
width_more sigs x form (Part a offset width stride) h = refl
width_more sigs x form (Pick index es) h = refl
width_more sigs x form (Cast a signed) h = refl
width_more sigs x form (Matches a patterns) h = refl
width_more sigs x form (Reset domain place) h = refl

accepted_more : (sigs : List Sig) (x : Sig) (form : ℕ → Form) (e : Expr) → IsInRange sigs form e → shape_stop (bad_operand form e) (greatest_width sigs form e) ≡ None → shape_stop (bad_operand form e) (greatest_width (sigs ++ x ∷ []) form e) ≡ None
accepted_more sigs x form e h fine = ap (shape_stop (bad_operand form e)) (width_more sigs x form e h) ∙ fine

-- the shapes of all expressions stay
pub forms_more : (sigs : List Sig) (x : Sig) (known : List Form) (es : List Expr) → AreExprs sigs known es → answers (unsigned 0) (form_step (sigs ++ x ∷ [])) known es ≡ answers (unsigned 0) (form_step sigs) known es
forms_more sigs x known [] h = refl
forms_more sigs x known (e ∷ es) h =
    ap (λ f. answers (unsigned 0) (form_step (sigs ++ x ∷ [])) (known ++ f ∷ []) es) (form_step_more sigs x _ e h.0.parts)
    ∙ forms_more sigs x (known ++ form_step sigs (λ k. slice_index_or known k (unsigned 0)) e ∷ []) es h.1

pub exprs_more : (sigs : List Sig) (x : Sig) (known : List Form) (es : List Expr) → AreExprs sigs known es → AreExprs (sigs ++ x ∷ []) known es
exprs_more sigs x known [] h = tt
exprs_more sigs x known (e ∷ es) h = (
  record { names = h.0.names; formed = h.0.formed; parts = in_range_more sigs x (λ k. slice_index_or known k (unsigned 0)) e h.0.parts; accepted = accepted_more sigs x (λ k. slice_index_or known k (unsigned 0)) e h.0.parts h.0.accepted },
  rw (form_step_more sigs x (λ k. slice_index_or known k (unsigned 0)) e h.0.parts) (exprs_more sigs x (known ++ form_step sigs (λ k. slice_index_or known k (unsigned 0)) e ∷ []) es h.1),
)

pub cached_signal : (p : Pooled) (shapes : List Form) (bits : ℕ) (x : Sig) → IsCached p shapes bits → IsForm x.shape.width x.shape.signed → HasInit x → length p.signals < 16384 → bits + x.shape.width ≤ 262144 → IsCached (signal_added p x) shapes (bits + x.shape.width)
cached_signal p shapes bits x h formed init few narrow = record {
  rules = record {
    few_signals = omega (arith, few, length_more p.signals x);
    few_bits = omega (arith, narrow, h.bits_are, signal_bits_more p.signals x);
    few_exprs = h.rules.few_exprs;
    shapes = all_append (λ (y : Sig). IsForm y.shape.width y.shape.signed) p.signals x h.rules.shapes formed;
    inits = all_append HasInit p.signals x h.rules.inits init;
    exprs = exprs_more p.signals x [] p.exprs h.rules.exprs;
  };
  shapes_are = h.shapes_are ∙ sym (forms_more p.signals x [] p.exprs h.rules.exprs);
  bits_are = omega (arith, h.bits_are, signal_bits_more p.signals x);
}

-- ---- one expression more

expr_more : (sigs : List Sig) (known : List Form) (es : List Expr) (e : Expr) → AreExprs sigs known es → IsExpr sigs (answers (unsigned 0) (form_step sigs) known es) e → AreExprs sigs known (es ++ e ∷ [])
expr_more sigs known [] e h ask = (ask, tt)
expr_more sigs known (d ∷ es) e h ask = (h.0, expr_more sigs (known ++ form_step sigs (λ k. slice_index_or known k (unsigned 0)) d ∷ []) es e h.1 ask)

pub cached_expr : (p : Pooled) (shapes : List Form) (bits : ℕ) (e : Expr) (s : Form) → IsCached p shapes bits → IsFormed e → IsAskable p e → shape_stop (bad_operand (form p) e) (greatest_width p.signals (form p) e) ≡ None → s ≡ form_step p.signals (form p) e → length p.exprs < 2 ^ 30 → IsCached (expr_added p e) (shapes ++ s ∷ []) bits
unfolding form
cached_expr p shapes bits e s h formed ask fine is few = record {
  rules = record {
    few_signals = h.rules.few_signals;
    few_bits = h.rules.few_bits;
    few_exprs = omega (arith, few, length_more p.exprs e);
    shapes = h.rules.shapes;
    inits = h.rules.inits;
    exprs = expr_more p.signals [] p.exprs e h.rules.exprs record { names = rw (← shapes_length p.signals p.exprs shapes h.shapes_are, h.shapes_are) at ask.names; formed = formed; parts = ask.parts; accepted = fine };
  };
  shapes_are = one_shape_more p shapes e s h.shapes_are is;
  bits_are = h.bits_are;
}
