-- Expressions over the numbers that their parts got: where the shapes of the parts are the same, so is what they keep to.
use Rattle.std.proofs.Common.{◌≡◌, ◌≢◌, refl, ◌∙◌, ap, ℕ, ◌+◌, ◌<◌, false, List, [], ◌∷◌, map}
use Rattle.design_ir.specs.declared.ids.ExprId.{ExprId}
use Rattle.design_ir.specs.declared.signal.Sig.{Sig}
use Rattle.design_ir.specs.declared.expr.Expr as expr
use Rattle.design_ir.specs.declared.expr.Expr.{Expr}
use Rattle.design_ir.specs.declared.expr.Expr.TheVariants.{Const, Unary, Binary, Mux, Slice, Cat, Part, Pick, Cast, Matches, Reset}
use Rattle.shape_rules.specs.Forms.{Form, common}
use Rattle.design_ir.specs.Named.{named, AllBelow}
use Rattle.design_ir.specs.Values.{form_step, total_width, common_with, common_of_all}
use Rattle.design_ir.specs.PoolRules.{IsInRange, bad_operand, greatest_width}
use Rattle.expr_index.specs.Numbers.{renumbered}

-- the shapes of expressions, read at the numbers that they got
abbrev pub read_at : (ExprId → ExprId) → (ℕ → Form) → ℕ → Form
read_at to f j = f (to (record { 0 = j })).0

-- ---- the numbers that an expression names

all_below_now : (to : ExprId → ExprId) (n m : ℕ) → ((e : ExprId) → e.0 < n → (to e).0 < m) → (es : List ExprId) → AllBelow n es → AllBelow m (map to es)
all_below_now to n m there [] h = tt
all_below_now to n m there (e ∷ es) h = (there e h.0, all_below_now to n m there es h.1)

pub below_now : (to : ExprId → ExprId) (n m : ℕ) → ((e : ExprId) → e.0 < n → (to e).0 < m) → (e : Expr) → AllBelow n (named e) → AllBelow m (named (renumbered to e))
below_now to n m there (Const x s) h = tt
below_now to n m there (expr.TheVariants.Sig s) h = tt
below_now to n m there (Unary op a) h = (there a h.0, tt)
below_now to n m there (Binary op a b) h = (there a h.0, (there b h.1.0, tt))
below_now to n m there (Mux s a b) h = (there s h.0, (there a h.1.0, (there b h.1.1.0, tt)))
below_now to n m there (Slice a low width) h = (there a h.0, tt)
below_now to n m there (Cat es) h = all_below_now to n m there es h
below_now to n m there (Part a offset width stride) h = (there a h.0, (there offset h.1.0, tt))
below_now to n m there (Pick index es) h = (there index h.0, all_below_now to n m there es h.1)
below_now to n m there (Cast a signed) h = (there a h.0, tt)
below_now to n m there (Matches a patterns) h = (there a h.0, tt)
below_now to n m there (Reset domain place) h = tt

-- ---- what it keeps to is told by the shapes at those numbers

module _ (to : ExprId → ExprId) (f : ℕ → Form) where
  total_now : (es : List ExprId) → total_width f (map to es) ≡ total_width (read_at to f) es
  total_now [] = refl
  total_now (e ∷ es) = ap (λ n. (f (to e).0).width + n) (total_now es)

  with_now : (x : Form) (es : List ExprId) → common_with f x (map to es) ≡ common_with (read_at to f) x es
  with_now x [] = refl
  with_now x (e ∷ es) = with_now (common x (f (to e).0)) es

  common_now : (es : List ExprId) → common_of_all f (map to es) ≡ common_of_all (read_at to f) es
  common_now [] = refl
  common_now (e ∷ es) = with_now (f (to e).0) es

  pub form_now : (sigs : List Sig) (e : Expr) → form_step sigs f (renumbered to e) ≡ form_step sigs (read_at to f) e
  form_now sigs (Const n s) = refl
  form_now sigs (expr.TheVariants.Sig s) = refl
  form_now sigs (Unary op a) = refl
  form_now sigs (Binary op a b) = refl
  form_now sigs (Mux s a b) = refl
  form_now sigs (Slice a low width) = refl
  form_now sigs (Cat es) = ap (λ n. record { width = n; signed = false }) (total_now es)
  form_now sigs (Part a offset width stride) = refl
  form_now sigs (Pick index es) = common_now es
  form_now sigs (Cast a signed) = refl
  form_now sigs (Matches a patterns) = refl
  form_now sigs (Reset domain place) = refl

  pub range_now : (sigs : List Sig) (e : Expr) → IsInRange sigs (read_at to f) e → IsInRange sigs f (renumbered to e)
  range_now sigs (Const n s) r = r
  range_now sigs (expr.TheVariants.Sig s) r = r
  range_now sigs (Unary op a) r = r
  range_now sigs (Binary op a b) r = r
  range_now sigs (Mux s a b) r = r
  range_now sigs (Slice a low width) r = r
  range_now sigs (Cat es) r = r
  range_now sigs (Part a offset width stride) r = r
  range_now sigs (Pick index []) r = absurd (r refl)
  range_now sigs (Pick index (e ∷ es)) r = λ none. absurd cc
  range_now sigs (Cast a signed) r = r
  range_now sigs (Matches a patterns) r = r
  range_now sigs (Reset domain place) r = r

  pub operand_now : (e : Expr) → bad_operand f (renumbered to e) ≡ bad_operand (read_at to f) e
  operand_now (Const n s) = refl
  operand_now (expr.TheVariants.Sig s) = refl
  operand_now (Unary op a) = refl
  operand_now (Binary op a b) = refl
  operand_now (Mux s a b) = refl
  operand_now (Slice a low width) = refl
  operand_now (Cat es) = refl
  operand_now (Part a offset width stride) = refl
  operand_now (Pick index es) = refl
  operand_now (Cast a signed) = refl
  operand_now (Matches a patterns) = refl
  operand_now (Reset domain place) = refl

  pub width_now : (sigs : List Sig) (e : Expr) → greatest_width sigs f (renumbered to e) ≡ greatest_width sigs (read_at to f) e
  width_now sigs (Const n s) = refl
  width_now sigs (expr.TheVariants.Sig s) = refl
  width_now sigs (Unary op a) = refl
  width_now sigs (Binary op a b) = refl
  width_now sigs (Mux s a b) = refl
  width_now sigs (Slice a low width) = refl
  width_now sigs (Cat es) = total_now es
  width_now sigs (Part a offset width stride) = refl
  width_now sigs (Pick index es) = ap (λ (x : Form). x.width) (common_now es)
  width_now sigs (Cast a signed) = refl
  width_now sigs (Matches a patterns) = refl
  width_now sigs (Reset domain place) = refl

-- ---- where each number stays, so does the expression

module _ (to : ExprId → ExprId) (stays : (e : ExprId) → to e ≡ e) where
  each_same : (es : List ExprId) → map to es ≡ es
  each_same [] = refl
  each_same (e ∷ es) = ap (λ x. x ∷ map to es) (stays e) ∙ ap (λ xs. e ∷ xs) (each_same es)

  pub renumbered_same : (e : Expr) → renumbered to e ≡ e
  renumbered_same (Const n s) = refl
  renumbered_same (expr.TheVariants.Sig s) = refl
  renumbered_same (Unary op a) = ap (Unary op) (stays a)
  renumbered_same (Binary op a b) = let x = stays a in let y = stays b in cc
  renumbered_same (Mux s a b) = let x = stays a in let y = stays b in let z = stays s in cc
  renumbered_same (Slice a low width) = ap (λ x. Slice x low width) (stays a)
  renumbered_same (Cat es) = ap Cat (each_same es)
  renumbered_same (Part a offset width stride) = let x = stays a in let y = stays offset in cc
  renumbered_same (Pick index es) = let x = stays index in let y = each_same es in cc
  renumbered_same (Cast a signed) = ap (λ x. Cast x signed) (stays a)
  renumbered_same (Matches a patterns) = ap (λ x. Matches x patterns) (stays a)
  renumbered_same (Reset domain place) = refl
