-- What statements drive are signals of the pool.
use Rattle.std.specs.Prelude.{◌≡◌, refl, ℕ, zero, suc, ◌<◌, ◌==◌, true, List, [], ◌∷◌, ◌++◌, length}
use Rattle.std.specs.List.{flat_map, AllByRecursion}
use Rattle.std.proofs.Common.{sym, arith, subst}
use Rattle.std.proofs.lemmas.Bool.{eq-eqb}
use Rattle.design_ir.specs.declared.ids.ExprId.{ExprId}
use Rattle.design_ir.specs.declared.expr.Expr as expr
use Rattle.design_ir.specs.declared.expr.Expr.{Expr}
use Rattle.design_ir.specs.declared.expr.Expr.TheVariants.{Const, Unary, Binary, Mux, Slice, Cat, Part, Pick, Cast, Matches, Reset}
use Rattle.design_ir.specs.Circuits.{is_among}
use Rattle.design_ir.specs.Guards.{block_exprs, statement_exprs, choices_exprs, driven}
use Rattle.design_ir.specs.Named.{named, AllBelow}
use Rattle.design_ir.specs.Pools.{Pooled}
use Rattle.design_ir.specs.PoolRules.{IsPool, IsInRange}
use Rattle.design_ir.specs.Targets.{signals_step, target_signals}
use Rattle.design_ir.specs.Trees.{Statement, assign, choose, Choices, none, arm, Block, done, next}
use Rattle.design_ir.specs.Values.{form}
use Rattle.design_ir.proofs.Equations.{standing}
use Rattle.design_ir.proofs.NumbersFit.{element}
use Rattle.sim_plans.specs.Driven.{listed, statement_listed, choices_listed}
use Rattle.sim_plans.specs.Reading.{AreThere}
use Rattle.sim_plans.proofs.Agrees.{left, right}
use Rattle.sim_plans.proofs.DrivenLists.{driven_is}
use Rattle.sim_plans.proofs.TargetSignals.{signals_are}
use Rattle.sim_plans.proofs.TargetsInside.{all_append}
use Rattle.sim_plans.proofs.Walks.{all_parts}

module _ (p : Pooled) where
  abbrev AreSignals : List ℕ → Type 0
  AreSignals ss = AllByRecursion (λ s. s < length p.signals) ss

  both_signals : (xs ys : List ℕ) → AreSignals xs → AreSignals ys → AreSignals (xs ++ ys)
  both_signals xs ys h k = all_append (λ s. s < length p.signals) xs ys h k

  module _ (k : ℕ) (each : (j : ℕ) → j < k → AreSignals (target_signals p j)) where
    all_signals : (es : List ExprId) → AllBelow k es → AreSignals (flat_map (λ (e : ExprId). target_signals p e.0) es)
    all_signals [] h = tt
    all_signals (e ∷ es) h = both_signals (target_signals p e.0) (flat_map (λ (x : ExprId). target_signals p x.0) es) (each e.0 h.0) (all_signals es h.1)

    step_signals : (e : Expr) → AllBelow k (named e) → IsInRange p.signals (form p) e → AreSignals (signals_step (target_signals p) e)
    step_signals (expr.TheVariants.Sig s) h is = (is, tt)
    step_signals (Slice a low width) h is = each a.0 h.0
    step_signals (Cat es) h is = all_signals es h
    step_signals (Part a offset width stride) h is = each a.0 h.0
    step_signals (Pick index es) h is = all_signals es h.1
    step_signals (Cast a signed) h is = each a.0 h.0
    step_signals (Const n s) h is = tt
    step_signals (Unary op a) h is = tt
    step_signals (Binary op a b) h is = tt
    step_signals (Mux s a b) h is = tt
    step_signals (Matches a patterns) h is = tt
    step_signals (Reset domain place) h is = tt

  module _ (rules : IsPool p) where
    up_to : (n k : ℕ) → k < n → k < length p.exprs → AreSignals (target_signals p k)
    up_to zero k below there = absurd (omega (arith, below))
    up_to (suc n) k below there =
        let x = element p.exprs k there in
        let stands = standing p k x.0 rules x.1 in
        let earlier : (j : ℕ) → j < k → AreSignals (target_signals p j) = λ j lt. up_to n j (omega (arith, below, lt)) (omega (arith, there, lt)) in
        subst AreSignals (sym (signals_are p k x.0 rules x.1)) (step_signals k earlier x.0 stands.names stands.askable.parts)

    target_there : (k : ℕ) → k < length p.exprs → AreSignals (target_signals p k)
    target_there k there = up_to (suc k) k (omega arith) there

    mutual
      statement_there : (s : Statement) → AreThere p (statement_exprs s) → AreSignals (statement_listed (target_signals p) s)
      statement_there (assign t v place) h = target_there t.0 h.0
      statement_there (choose arms) h = choices_there arms h

      choices_there : (arms : Choices) → AreThere p (choices_exprs arms) → AreSignals (choices_listed (target_signals p) arms)
      choices_there none h = tt
      choices_there (arm c body others) h =
          let parts = all_parts (λ (e : ExprId). e.0 < length p.exprs) (block_exprs body) (choices_exprs others) h.1 in
          both_signals (listed (target_signals p) body) (choices_listed (target_signals p) others) (block_there body parts.0) (choices_there others parts.1)

      block_there : (b : Block) → AreThere p (block_exprs b) → AreSignals (listed (target_signals p) b)
      block_there done h = tt
      block_there (next s rest) h =
          let parts = all_parts (λ (e : ExprId). e.0 < length p.exprs) (statement_exprs s) (block_exprs rest) h in
          both_signals (statement_listed (target_signals p) s) (listed (target_signals p) rest) (statement_there s parts.0) (block_there rest parts.1)

    pub driven_there : (b : Block) → AreThere p (block_exprs b) → AllByRecursion (λ s. s < length p.signals) (driven p b)
    driven_there b h = subst AreSignals (sym (driven_is p b)) (block_there b h)

-- what holds of each number that is among some holds of all of them
pub all_of : (P : ℕ → Type 0) (xs : List ℕ) → ((x : ℕ) → is_among xs x ≡ true → P x) → AllByRecursion P xs
all_of P [] h = tt
all_of P (x ∷ xs) h = (h x (left (x == x) (is_among xs x) (eq-eqb x x refl)), all_of P xs (λ y there. h y (right (x == y) (is_among xs y) there)))
