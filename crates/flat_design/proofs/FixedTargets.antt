-- A fixed target is a target.
use Rattle.std.specs.Prelude.{◌≡◌, refl, ℕ, Bool, true, false, IsTrue, List, [], ◌∷◌}
use Rattle.std.specs.List.{AllByRecursion, list_all}
use Rattle.std.proofs.lemmas.Bool.{false≢true, and_parts}
use Rattle.design_ir.specs.declared.ids.ExprId.{ExprId}
use Rattle.design_ir.specs.declared.expr.Expr.{Expr}
use Rattle.design_ir.specs.declared.expr.Expr.TheVariants as expr
use Rattle.design_ir.specs.Pools.{Pooled}
use Rattle.design_ir.specs.Trees.{assign, choose, Block, done, next}
use Rattle.design_ir.specs.Guards.{Guarded, guarded}
use Rattle.design_ir.specs.Targets.{target_test, is_target}
use Rattle.design_ir.specs.Fixed.{fixed_step, is_fixed, is_plain}
use Rattle.design_ir.proofs.Related.{related}

abbrev IsAlso : Bool → Bool → Type 0
IsAlso fixed target = fixed ≡ true → target ≡ true

all_also : (f g : ℕ → Bool) → ((k : ℕ) → IsAlso (f k) (g k)) → (es : List ExprId) → IsAlso (list_all (λ (e : ExprId). f e.0) es) (list_all (λ (e : ExprId). g e.0) es)
all_also f g each [] = λ t. t
all_also f g each (e ∷ es) = λ t.
    let p = and_parts (f e.0) (list_all (λ (x : ExprId). f x.0) es) t in
    let first : g e.0 ≡ true = each e.0 p.0 in
    let others : list_all (λ (x : ExprId). g x.0) es ≡ true = all_also f g each es p.1 in
    rw (first, others) refl

step_also : (f g : ℕ → Bool) (e : Expr) → ((k : ℕ) → IsAlso (f k) (g k)) → IsAlso (fixed_step f e) (target_test g e)
step_also f g (expr.Const n s) h = λ t. t
step_also f g (expr.Sig s) h = λ t. t
step_also f g (expr.Unary op a) h = λ t. t
step_also f g (expr.Binary op a b) h = λ t. t
step_also f g (expr.Mux s a b) h = λ t. t
step_also f g (expr.Slice a low width) h = h a.0
step_also f g (expr.Cat es) h = all_also f g h es
step_also f g (expr.Part a offset width stride) h = λ t. absurd (false≢true t)
step_also f g (expr.Pick index es) h = λ t. absurd (false≢true t)
step_also f g (expr.Cast a signed) h = h a.0
step_also f g (expr.Matches a patterns) h = λ t. t
step_also f g (expr.Reset domain place) h = λ t. t

pub is_target-fixed : (pool : Pooled) (k : ℕ) → is_fixed pool k ≡ true → is_target pool k ≡ true
unfolding is_fixed is_target
is_target-fixed pool k = related false false fixed_step target_test IsAlso (λ t. t) step_also pool.exprs k

-- so in plain statements each assignment has a target
pub plain_targets : (pool : Pooled) (b : Block) → is_plain pool b ≡ true → AllByRecursion (λ (g : Guarded). IsTrue (is_target pool g.target.0)) (guarded [] b)
plain_targets pool done e = tt
plain_targets pool (next (assign t v p) rest) e = let parts = and_parts (is_fixed pool t.0) (is_plain pool rest) e in (is_target-fixed pool t.0 parts.0, plain_targets pool rest parts.1)
plain_targets pool (next (choose arms) rest) e = absurd (false≢true e)
