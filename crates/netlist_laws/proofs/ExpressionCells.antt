-- The cells and links of all expressions of a design keep the rules of its module.
use Rattle.std.specs.Prelude.{◌≡◌, ◌≤◌, ◌<◌, ◌+◌, ℕ, suc, Bool, true, false, List, [], ◌∷◌, length, All, Contains, Some, slice_get, pos}
use Rattle.std.specs.List.{AllByRecursion}
use Rattle.std.proofs.Common.{refl, ap, ◌∙◌, arith, subst, inl, inr, ⊎_elim}
use Rattle.std.proofs.lemmas.Nat.{pow_pos}
use Rattle.amh_bits.specs.Patterns.{IsOf}
use Rattle.design_ir.specs.declared.ids.ExprId.{ExprId}
use Rattle.design_ir.specs.declared.expr.Expr.{Expr}
use Rattle.design_ir.specs.Named.{named, AllBelow}
use Rattle.design_ir.specs.Values.{signal_form}
use Rattle.design_ir.specs.PoolRules.{IsPool}
use Rattle.design_ir.specs.Circuits.{Circuit}
use Rattle.design_ir.proofs.Equations.{standing, form_is}
use Rattle.design_ir.proofs.NumbersFit.{FitsSignals, has_shape}
use Rattle.rtlil_text.proofs.Among.{Among, Among-left}
use Rattle.netlist_laws.specs.Operators.{Drawing}
use Rattle.netlist_laws.specs.Expressions.{part_count, drawn}
use Rattle.netlist_laws.specs.Fits.{DrawingFits, HasWires}
use Rattle.netlist_laws.specs.Module.{signal_value, expr_value, drawn_from, drawings, other_drawings, module_of}
use Rattle.netlist_laws.proofs.FittingSelections.{fits_expression}
use Rattle.netlist_laws.proofs.ModuleHeld.{drawing_held, expr_held, signal_held}

-- 0 is of each shape
zero_of : (s : Bool) (w : ℕ) → IsOf s w (pos 0)
zero_of false w = pow_pos w
zero_of true w = omega (arith, pow_pos w)

module _ (c : Circuit) (pool : IsPool c.pool) where
  zeros : FitsSignals c.pool []
  zeros s p = zero_of (signal_form c.pool.signals s).signed (signal_form c.pool.signals s).width

  -- an expression of the pool has a shape, and a wire where it has bits
  pub has_wires : (e : ExprId) → e.0 < length c.pool.exprs → HasWires (module_of c) (expr_value c) e
  has_wires e p = record { shape = has_shape c.pool [] pool zeros e p; wire = expr_held c e.0 p }

  all_wires : (k : ℕ) (es : List ExprId) → k ≤ length c.pool.exprs → AllBelow k es → AllByRecursion (HasWires (module_of c) (expr_value c)) es
  all_wires k [] p h = tt
  all_wires k (e ∷ es) p h = (has_wires e (omega (arith, h.0)), all_wires k es p h.1)

  -- these are the expressions from number k on
  abbrev AreFrom : ℕ → List Expr → Type 0
  AreFrom k es = (i : ℕ) → i < length es → slice_get c.pool.exprs (k + i) ≡ slice_get es i

  abbrev AreHeld : List Drawing → Type 0
  AreHeld ds = (d : Drawing) → Among ds d → All (Contains (module_of c).wires) d.wires

  fits_from : (k n : ℕ) (es : List Expr) → k + length es ≤ length c.pool.exprs → AreFrom k es → AreHeld (drawn_from c k n es) → (d : Drawing) → Among (drawn_from c k n es) d → DrawingFits (module_of c) d
  fits_from k n [] p from held d a = absurd a
  fits_from k n (e ∷ es) p from held d a =
      let here : slice_get c.pool.exprs k ≡ Some e = ap (slice_get c.pool.exprs) (omega arith) ∙ from 0 (omega arith) in
      let later : AreFrom (suc k) es = λ i lt. ap (slice_get c.pool.exprs) (omega arith) ∙ from (suc i) (omega arith) in
      let stands = standing c.pool k e pool here in
      let first : Drawing = drawn (signal_value c) (expr_value c) n (expr_value c k) e in
      let fits : DrawingFits (module_of c) first =
      fits_expression e (module_of c) c.pool.signals (signal_value c) (expr_value c) n (expr_value c k) (λ s. refl) (λ s lt. signal_held c s lt) stands.askable.parts stands.accepted (form_is c.pool k e pool here)
      (all_wires k (named e) (omega arith) stands.names) (expr_held c k (omega arith)) (held first (inl refl)) in
      ⊎_elim (λ same. subst (DrawingFits (module_of c)) same fits) (λ more. fits_from (suc k) (n + part_count e) es (omega arith) later (λ x b. held x (inr b)) d more) a

  pub expression_fits : (d : Drawing) → Among (drawings c) d → DrawingFits (module_of c) d
  expression_fits d a =
      fits_from 0 0 c.pool.exprs (omega arith) (λ i lt. ap (slice_get c.pool.exprs) (omega arith)) (λ x b. drawing_held c x (Among-left (drawings c) (other_drawings c) x b)) d a
