use Rattle.std.proofs.Common.{◌≡◌, ◌∙◌, ◌⊎◌, ℕ, List, true, inl, inr, Some, slice_get, sym, ap}
use Rattle.amh_host.specs.declared.place.Place.{Place}
use Rattle.design_ir.specs.declared.ids.SigId.{SigId}
use Rattle.design_ir.specs.declared.expr.Expr.{Expr}
use Rattle.design_ir.specs.declared.expr.Expr.TheVariants.{Sig, Reset}
use Rattle.design_ir.specs.Pools.{Pooled}
use Rattle.design_ir.specs.PoolRules.{IsPool}
use Rattle.design_ir.specs.Targets.{is_open_target}
use Rattle.module_dsl.proofs.OpenTargets.{open_target_is}
use Rattle.module_dsl.proofs.target.is_target.Goals as goal

whole_target : (q : Pooled) (k : ℕ) (e : Expr) → IsPool q → slice_get q.exprs k ≡ Some e → ((s : SigId) × (e ≡ Sig s)) ⊎ ((domain : List ℕ) × (place : Place) × (e ≡ Reset domain place)) → is_open_target q k ≡ true
whole_target q k e rules at (inl s) = open_target_is q k (Sig s.0) rules (at ∙ ap (λ x. Some x) s.1)
whole_target q k e rules at (inr r) = open_target_is q k (Reset r.0 r.1) rules (at ∙ ap (λ x. Some x) r.2)

pub returns-in-Sig : goal.returns-in-Sig
returns-in-Sig c = sym (whole_target c.args.pool.now c.base_of-base.result.0 c.at.result.now c.count.ensures.rules c.at.ensures c.in-Sig.is) ∙ c.base_of-base.ensures.same

pub returns-in-Sig-2 : goal.returns-in-Sig-2
returns-in-Sig-2 c = sym (whole_target c.args.pool.now c.base_of-base.result.0 c.at.result.now c.count.ensures.rules c.at.ensures c.in-Sig.is) ∙ c.base_of-base.ensures.same
