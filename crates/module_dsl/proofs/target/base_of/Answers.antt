use Rattle.std.proofs.Common.{◌≡◌, ℕ, Bool, ◌∙◌, ◌<◌, inl, inr, Some, slice_get, sym, ap, arith}
use Rattle.design_ir.specs.declared.expr.Expr.TheVariants.{Slice, Part, Cast}
use Rattle.design_ir.specs.declared.ids.ExprId.{ExprId}
use Rattle.design_ir.specs.Pools.{Pooled}
use Rattle.design_ir.specs.PoolRules.{IsPool}
use Rattle.design_ir.specs.Targets.{is_open_target}
use Rattle.design_ir.proofs.Equations.{standing}
use Rattle.module_dsl.proofs.OpenTargets.{open_target_is}
use Rattle.module_dsl.proofs.target.base_of.Goals as goal

record IsBelow (q : Pooled) (k : ℕ) (a : ExprId) : Type 0 where
  low : a.0 < k
  same : is_open_target q k ≡ is_open_target q a.0

of_slice : (q : Pooled) (k : ℕ) (a : ExprId) (low width : ℕ) → IsPool q → slice_get q.exprs k ≡ Some (Slice a low width) → IsBelow q k a
of_slice q k a low width rules at = record { low = (standing q k (Slice a low width) rules at).names.0; same = open_target_is q k (Slice a low width) rules at }

of_part : (q : Pooled) (k : ℕ) (a offset : ExprId) (width stride : ℕ) → IsPool q → slice_get q.exprs k ≡ Some (Part a offset width stride) → IsBelow q k a
of_part q k a offset width stride rules at = record { low = (standing q k (Part a offset width stride) rules at).names.0; same = open_target_is q k (Part a offset width stride) rules at }

of_cast : (q : Pooled) (k : ℕ) (a : ExprId) (signed : Bool) → IsPool q → slice_get q.exprs k ≡ Some (Cast a signed) → IsBelow q k a
of_cast q k a signed rules at = record { low = (standing q k (Cast a signed) rules at).names.0; same = open_target_is q k (Cast a signed) rules at }

below : (c : goal.After-base-1) → IsBelow c.args.pool.now c.loop-a.base.0 c.in-Slice.a
below c =
    let q = c.args.pool.now in
    elim c.in-Slice.is [
      | inl s ↦ of_slice q c.loop-a.base.0 c.in-Slice.a s.0 s.1 c.count.ensures.rules (c.at.ensures ∙ ap (λ x. Some x) s.2)
      | inr more ↦ elim more [
        | inl p ↦ of_part q c.loop-a.base.0 c.in-Slice.a p.0 p.1 p.2 c.count.ensures.rules (c.at.ensures ∙ ap (λ x. Some x) p.3)
        | inr r ↦ of_cast q c.loop-a.base.0 c.in-Slice.a r.0 c.count.ensures.rules (c.at.ensures ∙ ap (λ x. Some x) r.1)
      ]
    ]

pub loop-a-smaller : goal.loop-a-smaller
loop-a-smaller c = (below c).low

pub loop-a-preserved : goal.loop-a-preserved
loop-a-preserved c =
    let b = below c in
    let inside = c.loop-a.invariant in
    (omega (arith, b.low, inside.0), sym b.same ∙ inside.1)
