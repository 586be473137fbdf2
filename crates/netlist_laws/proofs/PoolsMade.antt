-- The drawings of all expressions of a pool make them.
use Rattle.std.proofs.Common.{ℕ, zero, suc, ◌<◌, List, [], ◌∷◌, length, refl, arith, ℤ}
use Rattle.std.specs.List.{AllByRecursion}
use Rattle.design_ir.specs.declared.ids.ExprId.{ExprId}
use Rattle.design_ir.specs.Named.{named, AllBelow}
use Rattle.design_ir.specs.Pools.{Pooled}
use Rattle.design_ir.specs.PoolRules.{IsPool}
use Rattle.design_ir.proofs.Equations.{standing, form_is, num_is}
use Rattle.design_ir.proofs.NumbersFit.{FitsSignals, element, has_shape, num_fits}
use Rattle.rtlil_text.specs.History.{Wires}
use Rattle.netlist_laws.specs.Made.{IsMade}
use Rattle.netlist_laws.specs.PoolsDrawn.{expr_wire, IsDrawn, known_of, AllFollow}
use Rattle.netlist_laws.proofs.MadeExpressions.{makes_expression}
use Rattle.netlist_laws.proofs.PoolNeeds.{needed_is}

module _ (wires : Wires) (p : Pooled) (env : List ℤ) (signals values : ℕ → List ℕ) (parts : ℕ → ℕ) (rules : IsPool p) (fit : FitsSignals p env) (drawn : IsDrawn wires p signals values parts) where
  all_made : (k : ℕ) (es : List ExprId) → AllBelow k es → ((e : ExprId) → e.0 < k → IsMade wires (known_of p env signals values) e) → AllByRecursion (IsMade wires (known_of p env signals values)) es
  all_made k [] h each = tt
  all_made k (e ∷ es) h each = (each e h.0, all_made k es h.1 each)

  up_to : (n : ℕ) (e : ExprId) → e.0 < n → e.0 < length p.exprs → IsMade wires (known_of p env signals values) e
  up_to zero e below there = absurd (omega (arith, below))
  up_to (suc n) e below there =
      let x = element p.exprs e.0 there in
      let stands = standing p e.0 x.0 rules x.1 in
      let earlier = all_made e.0 (named x.0) stands.names (λ a lt. up_to n a (omega (arith, below, lt)) (omega (arith, there, lt))) in
      let d = drawn e.0 x.0 x.1 in
      record {
        shape = has_shape p env rules fit e there;
        integer = num_fits p env rules fit e there;
        bits =
            rw (needed_is p e.0 x.0 rules x.1, num_is p env e.0 x.0 rules x.1)
            (makes_expression x.0 wires (known_of p env signals values) (parts e.0) (expr_wire p values e.0) (λ s. refl) stands.askable.parts stands.accepted d.0 (form_is p e.0 x.0 rules x.1) earlier d.1);
      }

  pub all_follow : AllFollow wires p env signals values
  all_follow e there = (up_to (suc e.0) e (omega arith) there).bits
