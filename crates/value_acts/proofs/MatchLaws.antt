-- The expression of `matches` is such that a pool takes it.
use Rattle.std.specs.Prelude.{◌≡◌, ◌<◌, List, [], length, Option, Some, None, Result, Ok, Err, IfOk, IfSome}
use Rattle.std.proofs.Common.{arith}
use Rattle.design_ir.specs.declared.ids.ExprId.{ExprId}
use Rattle.design_ir.specs.declared.expr.Expr.TheVariants.{Matches}
use Rattle.design_ir.specs.declared.expr.Pattern.{Pattern}
use Rattle.design_ir.specs.Pools.{Pooled}
use Rattle.design_ir.specs.PoolRules.{IsExpr}
use Rattle.amh_things.specs.declared.thing.Thing.{Thing}
use Rattle.amh_things.specs.declared.plan.Plan.{Plan}
use Rattle.amh_things.specs.declared.plan.PlanStop.{PlanStop}
use Rattle.amh_things.specs.Plans.{forms, ends_of, value_made, IsPlanned, IsDrafted}
use Rattle.amh_things.specs.Patterns.{AreWithin}
use Rattle.value_acts.specs.Matching.{matched}
use Rattle.amh_things.proofs.Drafts.{forms_length, narrow, value_drafted}

module _ (p : Pooled) (things : List Thing) (e : ExprId) (there : e.0 < length p.exprs) where
  matched_drafted : (ps : Option (List Pattern)) (plan : Plan) → IfSome ps AreWithin → matched (ends_of p things) e ps ≡ Ok plan → IsDrafted p plan
  matched_drafted None plan within made = cc
  matched_drafted (Some ps) plan within made =
      let taken : IsExpr p.signals (forms p) (Matches e ps) = record {
        names = (omega (arith, there, forms_length p), tt);
        formed = tt;
        parts = within;
        accepted = narrow 1 (omega arith);
      } in
      let is_plan : value_made (ends_of p things) [] (Matches e ps) ≡ plan = cc in
      rw (← is_plan) (value_drafted p things [] (Matches e ps) (taken, tt))

  pub matches_drafted : (r : Result Plan PlanStop) (ps : Option (List Pattern)) → IfSome ps AreWithin → IsPlanned r (matched (ends_of p things) e ps) → IfOk r (IsDrafted p)
  matches_drafted (Ok plan) ps within made = matched_drafted ps plan within made
  matches_drafted (Err stop) ps within made = tt
