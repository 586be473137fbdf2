-- The shape of an expression, and what it keeps to, are decided by the shapes of the expressions that it names.
use Rattle.std.specs.Prelude.{◌≡◌, refl, ℕ, ◌<◌, List, [], ◌∷◌}
use Rattle.std.specs.List.{AllByRecursion}
use Rattle.std.proofs.Common.{◌∙◌, ap}
use Rattle.shape_rules.specs.Forms.{Form, unsigned, common}
use Rattle.shape_rules.specs.Operators.{form_of}
use Rattle.shape_rules.specs.Stops.{is_bad_operand, widest}
use Rattle.design_ir.specs.declared.ids.ExprId.{ExprId}
use Rattle.design_ir.specs.declared.signal.Sig.{Sig}
use Rattle.design_ir.specs.declared.expr.Expr as expr
use Rattle.design_ir.specs.declared.expr.Expr.{Expr}
use Rattle.design_ir.specs.declared.expr.Expr.TheVariants.{Const, Unary, Binary, Mux, Slice, Cat, Part, Pick, Cast, Matches, Reset}
use Rattle.design_ir.specs.Named.{named, AllBelow}
use Rattle.design_ir.specs.Values.{form_step, total_width, common_with, common_of_all}
use Rattle.design_ir.specs.PoolRules.{IsInRange, bad_operand, greatest_width}

-- both give the same for each of these
abbrev pub AreSame : {A : Type 0} → (ℕ → A) → (ℕ → A) → List ExprId → Type 0
AreSame f g es = AllByRecursion (λ (e : ExprId). f e.0 ≡ g e.0) es

pub same_below : {A : Type 0} (f g : ℕ → A) (k : ℕ) (es : List ExprId) → ((j : ℕ) → j < k → f j ≡ g j) → AllBelow k es → AreSame f g es
same_below f g k [] same h = tt
same_below f g k (e ∷ es) same h = (same e.0 h.0, same_below f g k es same h.1)

module _ (f g : ℕ → Form) where
  total_same : (es : List ExprId) → AreSame f g es → total_width f es ≡ total_width g es
  total_same [] h = refl
  total_same (e ∷ es) h = let a = h.0 in let b = total_same es h.1 in cc

  with_same : (x : Form) (es : List ExprId) → AreSame f g es → common_with f x es ≡ common_with g x es
  with_same x [] h = refl
  with_same x (e ∷ es) h = ap (λ y. common_with f (common x y) es) h.0 ∙ with_same (common x (g e.0)) es h.1

  common_same : (es : List ExprId) → AreSame f g es → common_of_all f es ≡ common_of_all g es
  common_same [] h = refl
  common_same (e ∷ es) h = ap (λ x. common_with f x es) h.0 ∙ with_same (g e.0) es h.1

  pub form_same : (sigs : List Sig) (e : Expr) → AreSame f g (named e) → form_step sigs f e ≡ form_step sigs g e
  form_same sigs (Const n s) h = refl
  form_same sigs (expr.TheVariants.Sig s) h = refl
  form_same sigs (Unary op a) h = ap (λ x. form_of op x (unsigned 0)) h.0
  form_same sigs (Binary op a b) h = ap (λ x. form_of op x (f b.0)) h.0 ∙ ap (λ y. form_of op (g a.0) y) h.1.0
  form_same sigs (Mux s a b) h = ap (λ x. common x (f b.0)) h.1.0 ∙ ap (λ y. common (g a.0) y) h.1.1.0
  form_same sigs (Slice a low width) h = refl
  form_same sigs (Cat es) h = ap unsigned (total_same es h)
  form_same sigs (Part a offset width stride) h = refl
  form_same sigs (Pick index es) h = common_same es h.1
  form_same sigs (Cast a signed) h = ap (λ (x : Form). record { width = x.width; signed = signed }) h.0
  form_same sigs (Matches a patterns) h = refl
  form_same sigs (Reset domain place) h = refl

  pub range_same : (sigs : List Sig) (e : Expr) → AreSame f g (named e) → IsInRange sigs f e → IsInRange sigs g e
  range_same sigs (Const n s) h r = r
  range_same sigs (expr.TheVariants.Sig s) h r = r
  range_same sigs (Unary op a) h r = r
  range_same sigs (Binary op a b) h r = r
  range_same sigs (Mux s a b) h r = r
  range_same sigs (Slice a low width) h r = rw (← h.0) r
  range_same sigs (Cat es) h r = r
  range_same sigs (Part a offset width stride) h r = r
  range_same sigs (Pick index es) h r = r
  range_same sigs (Cast a signed) h r = rw (← h.0) r
  range_same sigs (Matches a patterns) h r = r
  range_same sigs (Reset domain place) h r = r

  pub operand_same : (e : Expr) → AreSame f g (named e) → bad_operand f e ≡ bad_operand g e
  operand_same (Const n s) h = refl
  operand_same (expr.TheVariants.Sig s) h = refl
  operand_same (Unary op a) h = refl
  operand_same (Binary op a b) h = ap (is_bad_operand op) h.1.0
  operand_same (Mux s a b) h = refl
  operand_same (Slice a low width) h = refl
  operand_same (Cat es) h = refl
  operand_same (Part a offset width stride) h = ap (λ (x : Form). x.signed) h.1.0
  operand_same (Pick index es) h = ap (λ (x : Form). x.signed) h.0
  operand_same (Cast a signed) h = refl
  operand_same (Matches a patterns) h = refl
  operand_same (Reset domain place) h = refl

  pub width_same : (sigs : List Sig) (e : Expr) → AreSame f g (named e) → greatest_width sigs f e ≡ greatest_width sigs g e
  width_same sigs (Const n s) h = refl
  width_same sigs (expr.TheVariants.Sig s) h = refl
  width_same sigs (Unary op a) h = ap (λ x. widest op x (unsigned 0)) h.0
  width_same sigs (Binary op a b) h = ap (λ x. widest op x (f b.0)) h.0 ∙ ap (λ y. widest op (g a.0) y) h.1.0
  width_same sigs (Mux s a b) h = ap (λ (x : Form). x.width) (form_same sigs (Mux s a b) h)
  width_same sigs (Slice a low width) h = refl
  width_same sigs (Cat es) h = ap (λ (x : Form). x.width) (form_same sigs (Cat es) h)
  width_same sigs (Part a offset width stride) h = refl
  width_same sigs (Pick index es) h = ap (λ (x : Form). x.width) (form_same sigs (Pick index es) h)
  width_same sigs (Cast a signed) h = ap (λ (x : Form). x.width) h.0
  width_same sigs (Matches a patterns) h = refl
  width_same sigs (Reset domain place) h = refl
