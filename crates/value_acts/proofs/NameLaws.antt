-- The expressions of calls of names are such that a pool takes them.
use Rattle.std.specs.Prelude.{◌≡◌, ◌+◌, false, List, [], ◌∷◌, ◌++◌, length, Option, Some, None, Result, Ok, Err, IfSome, IfOk}
use Rattle.shape_rules.specs.Forms.{Form, common}
use Rattle.design_ir.specs.declared.expr.Expr.TheVariants.{Const, Mux}
use Rattle.design_ir.specs.Pools.{Pooled}
use Rattle.design_ir.specs.PoolRules.{IsExpr}
use Rattle.amh_things.specs.declared.thing.Thing.{Thing}
use Rattle.amh_things.specs.declared.plan.Plan.{Plan}
use Rattle.amh_things.specs.declared.plan.PlanStop.{PlanStop}
use Rattle.amh_things.specs.declared.operand.Operand.{Operand}
use Rattle.amh_things.specs.Operands.{operand_form, operand_constants, operand_id, constants, IsOperand}
use Rattle.amh_things.specs.Plans.{forms, ends_of, IsPlanned, IsDrafted, MakesConstant}
use Rattle.value_acts.specs.Names.{mux_made, mux_where}
use Rattle.amh_things.proofs.Drafts.{forms_length, accepted, narrow, width_of_form, unless-ok, operand_in, drafts, ids_at, all_forms, value_drafted, valued_drafted}

module _ (p : Pooled) (things : List Thing) where
  constant_plan : (plan : Plan) → MakesConstant (ends_of p things) plan → IsDrafted p plan
  constant_plan plan h =
      let e = Const h.value h.shape in
      rw h.is (valued_drafted p things h.numbering [] e (record { names = tt; formed = h.formed; parts = h.fits; accepted = narrow h.shape.width (width_of_form h.shape.width h.shape.signed h.formed) }, tt))

  pub constant_drafted : (r : Result Plan PlanStop) → IfOk r (MakesConstant (ends_of p things)) → IfOk r (IsDrafted p)
  constant_drafted (Ok plan) h = constant_plan plan h
  constant_drafted (Err stop) h = tt

  mux_made_drafted : (s x y : Operand) (plan : Plan) → IsOperand p s → IsOperand p x → IsOperand p y → mux_made (ends_of p things) s x y ≡ Ok plan → IsDrafted p plan
  mux_made_drafted s x y plan hs hx hy made =
      let known : List Form = forms p in
      let all = s ∷ x ∷ y ∷ [] in
      let r = unless-ok _ _ plan made in
      let at = rw (forms_length p) at (ids_at known all (operand_in p s hs, (operand_in p x hx, (operand_in p y hy, tt)))) in
      let last : IsExpr p.signals (known ++ all_forms all) (Mux (operand_id (length p.exprs) s) (operand_id (length p.exprs + length (operand_constants s)) x) (operand_id (length p.exprs + length (operand_constants s) + length (operand_constants x)) y)) = record {
        names = (at.0.0, (at.1.0.0, (at.1.1.0.0, tt)));
        formed = tt;
        parts = tt;
        accepted = rw (at.1.0.1, at.1.1.0.1) (accepted false (common (operand_form x) (operand_form y)).width r.0);
      } in
      rw r.1 (value_drafted p things (constants all) _ (drafts p.signals known all (_ ∷ []) (operand_in p s hs, (operand_in p x hx, (operand_in p y hy, tt))) (last, tt)))

  mux_where_drafted : (s x y : Option Operand) (plan : Plan) → IfSome s (IsOperand p) → IfSome x (IsOperand p) → IfSome y (IsOperand p) → mux_where (ends_of p things) s x y ≡ Ok plan → IsDrafted p plan
  mux_where_drafted (Some s) (Some x) (Some y) plan hs hx hy made = mux_made_drafted s x y plan hs hx hy made
  mux_where_drafted None x y plan hs hx hy made = cc
  mux_where_drafted (Some s) None y plan hs hx hy made = cc
  mux_where_drafted (Some s) (Some x) None plan hs hx hy made = cc

  pub mux_drafted : (r : Result Plan PlanStop) (s x y : Option Operand) → IfSome s (IsOperand p) → IfSome x (IsOperand p) → IfSome y (IsOperand p) → IsPlanned r (mux_where (ends_of p things) s x y) → IfOk r (IsDrafted p)
  mux_drafted (Ok plan) s x y hs hx hy made = mux_where_drafted s x y plan hs hx hy made
  mux_drafted (Err stop) s x y hs hx hy made = tt
