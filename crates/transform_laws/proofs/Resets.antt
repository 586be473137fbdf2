-- Where each reset of a pool has the name of a domain, those that stand in a module have.
use Rattle.std.proofs.Common.{◌≡◌, ℕ, zero, suc, List, [], ◌∷◌, Option, Some, None, slice_get, refl, subst}
use Rattle.std.specs.Prelude.{length, option_and_then}
use Rattle.std.specs.List.{AllByRecursion, cons_option, filter, filter_map, range_with_len}
use Rattle.design_ir.specs.declared.ids.ExprId.{ExprId}
use Rattle.design_ir.specs.declared.expr.Expr.{Expr}
use Rattle.design_ir.specs.declared.expr.Expr.TheVariants as expr
use Rattle.design_ir.specs.Pools.{Pooled}
use Rattle.fragment_walks.specs.Held.{ResetCall, held_resets, is_within, reset_call}
use Rattle.clock_domains.specs.Resolvable.{IsNamedReset}
use Rattle.transform_laws.specs.Laws.{AreNamedResets, IsNamedExpr}

-- what holds of each that is taken
pub all_taken_from : {A B : Type 0} (P : B → Type 0) (f : A → Option B) (xs : List A) → ((x : A) (y : B) → f x ≡ Some y → P y) → AllByRecursion P (filter_map f xs)
all_taken_from {A} {B} P f [] each = tt
all_taken_from {A} {B} P f (x ∷ xs) each = by (f x) refl (all_taken_from P f xs each)
  where
    by : (o : Option B) → f x ≡ o → AllByRecursion P (filter_map f xs) → AllByRecursion P (cons_option o (filter_map f xs))
    by None e rest = rest
    by (Some y) e rest = (each x y e, rest)

named_call : (e : Expr) (r : ResetCall) → IsNamedExpr e → reset_call e ≡ Some r → IsNamedReset r
named_call (expr.Reset domain place) r h is = let same : record { domain = domain; place = place } ≡ r = cc in subst IsNamedReset same h
named_call (expr.Const n s) r h is = absurd cc
named_call (expr.Sig s) r h is = absurd cc
named_call (expr.Unary op a) r h is = absurd cc
named_call (expr.Binary op a b) r h is = absurd cc
named_call (expr.Mux s a b) r h is = absurd cc
named_call (expr.Slice a low width) r h is = absurd cc
named_call (expr.Cat es) r h is = absurd cc
named_call (expr.Part a offset width stride) r h is = absurd cc
named_call (expr.Pick index es) r h is = absurd cc
named_call (expr.Cast a signed) r h is = absurd cc
named_call (expr.Matches a patterns) r h is = absurd cc

call_at : (es : List Expr) (k : ℕ) (r : ResetCall) → AllByRecursion IsNamedExpr es → option_and_then reset_call (slice_get es k) ≡ Some r → IsNamedReset r
call_at [] k r h is = absurd cc
call_at (e ∷ es) zero r h is = named_call e r h.0 is
call_at (e ∷ es) (suc k) r h is = call_at es k r h.1 is

pub held_named : (q : Pooled) (roots : List ExprId) → AreNamedResets q → AllByRecursion IsNamedReset (held_resets q roots)
unfolding held_resets
held_named q roots h =
    all_taken_from IsNamedReset (λ k. option_and_then reset_call (slice_get q.exprs k)) (filter (is_within q roots) (range_with_len 0 (length q.exprs))) (λ k r is. call_at q.exprs k r h is)
