-- An inverter of a signal is a design.
use Rattle.std.proofs.Common.{◌≡◌, ◌∙◌, refl, ℕ, List, [], ◌∷◌, length, None, ap, subst, sym, arith}
use Rattle.std.specs.List.{IsDistinct}
use Rattle.amh_host.specs.declared.place.Place.{Place}
use Rattle.shape_rules.specs.declared.op.Op.TheVariants.{Not}
use Rattle.design_ir.specs.declared.ids.ExprId.{ExprId}
use Rattle.design_ir.specs.declared.ids.SigId.{SigId}
use Rattle.design_ir.specs.declared.signal.Sig.{Sig}
use Rattle.design_ir.specs.declared.expr.Expr as expr
use Rattle.design_ir.specs.declared.expr.Expr.TheVariants.{Unary}
use Rattle.design_ir.specs.declared.process.DesignProcess.{DesignProcess}
use Rattle.design_ir.specs.Trees.{assign, done, next}
use Rattle.design_ir.specs.Pools.{Pooled}
use Rattle.design_ir.specs.PoolRules.{signal_added, expr_added}
use Rattle.design_ir.specs.Targets.{is_target, target_signals}
use Rattle.design_ir.specs.Circuits.{Circuit}
use Rattle.design_ir.specs.Designs.{IsDesign, holds_reset}

abbrev pub id : ℕ → ExprId
id n = record { 0 = n }

-- signal 1 is the inverse of this one
abbrev inverter : Sig → Sig → SigId → Pooled
inverter x y i = record { signals = x ∷ y ∷ []; exprs = expr.TheVariants.Sig i ∷ expr.TheVariants.Sig (record { 0 = 1 }) ∷ Unary Not (id 0) ∷ [] }

abbrev pub inverting : ExprId → ExprId → Place → List DesignProcess
inverting t v place = record { domain = None; body = next (assign t v place) done } ∷ []

abbrev circuit : Pooled → List DesignProcess → Circuit
circuit p ps = record { pool = p; processes = ps; memories = []; domains = []; ports = []; columns = [] }

inverter_is : (x y : Sig) (i : SigId) (place : Place) → IsDesign (circuit (inverter x y i) (inverting (id 1) (id 2) place))
unfolding IsDistinct is_target target_signals holds_reset
inverter_is x y i place = record {
  few_processes = omega arith;
  processes = (
    record {
      domain = tt;
      expressions = (record { there = omega arith; resolved = refl }, (record { there = omega arith; resolved = refl }, tt));
      targets = (refl, tt);
    },
    tt,
  );
  domains = tt;
  domain_names = tt;
  clocks = tt;
  resets = tt;
  memories = tt;
  ports = tt;
  columns = record { registers = []; split = refl; are_registers = tt; no_ports = tt; each_once = tt; there = tt; some_width = tt; names = tt; name_forms = tt };
  one_driver = (tt, tt);
  no_driven_input = tt;
}

-- as it is made, one part after another
pub inverter_is_design : (x y : Sig) (i upto : SigId) (a t v : ExprId) (place : Place) (p1 p2 p3 p4 p5 : Pooled) (ps : List DesignProcess)
    → p1 ≡ signal_added (record { signals = []; exprs = [] }) x → upto ≡ record { 0 = length p1.signals } → p2 ≡ signal_added p1 y
    → a ≡ id (length p2.exprs) → p3 ≡ expr_added p2 (expr.TheVariants.Sig i)
    → t ≡ id (length p3.exprs) → p4 ≡ expr_added p3 (expr.TheVariants.Sig upto)
    → v ≡ id (length p4.exprs) → p5 ≡ expr_added p4 (Unary Not a)
    → ps ≡ inverting t v place → IsDesign (circuit p5 ps)
inverter_is_design x y i upto a t v place p1 p2 p3 p4 p5 ps q1 u q2 qa q3 qt q4 qv q5 qs =
    let u' : upto ≡ record { 0 = 1 } = u ∙ ap (λ p. record { 0 = length p.signals }) q1 in
    let e2 = q2 ∙ ap (λ p. signal_added p y) q1 in
    let a' : a ≡ id 0 = qa ∙ ap (λ p. id (length p.exprs)) e2 in
    let e3 = q3 ∙ ap (λ p. expr_added p (expr.TheVariants.Sig i)) e2 in
    let t' : t ≡ id 1 = qt ∙ ap (λ p. id (length p.exprs)) e3 in
    let e4 = q4 ∙ ap (λ p. expr_added p (expr.TheVariants.Sig upto)) e3 in
    let v' : v ≡ id 2 = qv ∙ ap (λ p. id (length p.exprs)) e4 in
    let e4' = e4 ∙ ap (λ (s : SigId). record { signals = x ∷ y ∷ []; exprs = expr.TheVariants.Sig i ∷ expr.TheVariants.Sig s ∷ [] }) u' in
    let e5 : p5 ≡ inverter x y i = q5 ∙ ap (λ p. expr_added p (Unary Not a)) e4' ∙ ap (λ (e : ExprId). record { signals = x ∷ y ∷ []; exprs = expr.TheVariants.Sig i ∷ expr.TheVariants.Sig (record { 0 = 1 }) ∷ Unary Not e ∷ [] }) a' in
    let ps' : ps ≡ inverting (id 1) (id 2) place = qs ∙ ap (λ e. inverting e v place) t' ∙ ap (λ e. inverting (id 1) e place) v' in
    subst (λ p. IsDesign (circuit p ps)) (sym e5) (subst (λ qs'. IsDesign (circuit (inverter x y i) qs')) (sym ps') (inverter_is x y i place))
