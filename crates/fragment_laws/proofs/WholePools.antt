-- The pool in which the resets that fragments hold are signals, beside the one in which they are not yet: as the domains read them,
-- the two are one, and what the first keeps to the second does.
use Rattle.std.specs.Prelude.{◌≡◌, refl, ℕ, suc, Bool, true, false, cond, List, [], ◌∷◌, ◌++◌, map, length, Option, Some, None}
use Rattle.std.specs.List.{AllByRecursion, flat_map}
use Rattle.std.proofs.Common.{sym, ◌∙◌, ap, subst, arith, append-nil, append_assoc}
use Rattle.shape_rules.specs.Forms.{IsForm}
use Rattle.design_ir.specs.declared.ids.ExprId.{ExprId}
use Rattle.design_ir.specs.declared.ids.SigId.{SigId}
use Rattle.design_ir.specs.declared.signal.Sig.{Sig}
use Rattle.design_ir.specs.declared.domain.Domain.{Domain}
use Rattle.design_ir.specs.declared.expr.Expr as expr
use Rattle.design_ir.specs.declared.expr.Expr.{Expr}
use Rattle.design_ir.specs.declared.expr.Expr.TheVariants.{Const, Unary, Binary, Mux, Slice, Cat, Part, Pick, Cast, Matches, Reset}
use Rattle.design_ir.specs.Pools.{Pooled}
use Rattle.design_ir.specs.PoolRules.{AreExprs, HasInit, IsPool, signal_bits}
use Rattle.design_ir.proofs.Growth.{exprs_more}
use Rattle.fragment_walks.specs.Held.{is_within}
use Rattle.clock_domains.specs.Placed.{or_signal, placed_expr, placed_from, placed_pool, reset_of}
use Rattle.clock_domains.specs.Resolved.{domain_signals, with_domains}
use Rattle.fragment_laws.specs.Surroundings.{read_in, pool_in}

-- ---- a signal in the place of its reset is read as the reset is

module _ (ds : List Domain) where
  read_placed : (e : Expr) → read_in ds (placed_expr ds e) ≡ read_in ds e
  read_placed (Const n s) = refl
  read_placed (expr.TheVariants.Sig s) = refl
  read_placed (Unary op a) = refl
  read_placed (Binary op a b) = refl
  read_placed (Mux s a b) = refl
  read_placed (Slice a low width) = refl
  read_placed (Cat es) = refl
  read_placed (Part a offset width stride) = refl
  read_placed (Pick index es) = refl
  read_placed (Cast a signed) = refl
  read_placed (Matches a patterns) = refl
  read_placed (Reset name place) = by (reset_of ds name) refl
    where
      by : (o : Option SigId) → reset_of ds name ≡ o → read_in ds (or_signal (Reset name place) o) ≡ or_signal (Reset name place) o
      by None at = ap (or_signal (Reset name place)) at
      by (Some s) at = refl

  read_either : (b : Bool) (e : Expr) → read_in ds (cond b (placed_expr ds e) e) ≡ read_in ds e
  read_either true e = read_placed e
  read_either false e = refl

  read_all : (passes : ℕ → Bool) (n : ℕ) (es : List Expr) → map (read_in ds) (placed_from ds passes n es) ≡ map (read_in ds) es
  read_all passes n [] = refl
  read_all passes n (e ∷ es) =
      ap (λ x. x ∷ map (read_in ds) (placed_from ds passes (suc n) es)) (read_either (passes n) e) ∙ ap (λ xs. read_in ds e ∷ xs) (read_all passes (suc n) es)

  -- whichever of them were put in their places
  pub placed_read : (q : Pooled) (roots : List ExprId) → pool_in ds (placed_pool ds q roots) ≡ pool_in ds q
  unfolding placed_pool
  placed_read q roots = ap (λ (es : List Expr). let y : Pooled = record { signals = q.signals; exprs = es } in y) (read_all (is_within q roots) 0 q.exprs)

-- ---- the pool with the signals of domains, where another with these signals keeps to the rules

exprs_with : (sigs more : List Sig) (es : List Expr) → AreExprs sigs [] es → AreExprs (sigs ++ more) [] es
exprs_with sigs [] es h = subst (λ xs. AreExprs xs [] es) (sym (append-nil sigs)) h
exprs_with sigs (x ∷ more) es h =
    subst (λ xs. AreExprs xs [] es) (append_assoc sigs (x ∷ []) more) (exprs_with (sigs ++ x ∷ []) more es (exprs_more sigs x [] es h))

pub rules_with : (q : Pooled) (names : List (List ℕ)) (p : Pooled) → IsPool q → IsPool p → p.signals ≡ (with_domains q names).signals → IsPool (with_domains q names)
rules_with q names p rules other same = record {
  few_signals = omega (arith, other.few_signals, ap length same);
  few_bits = omega (arith, other.few_bits, ap signal_bits same);
  few_exprs = rules.few_exprs;
  shapes = subst (AllByRecursion (λ (x : Sig). IsForm x.shape.width x.shape.signed)) same other.shapes;
  inits = subst (AllByRecursion HasInit) same other.inits;
  exprs = exprs_with q.signals (flat_map domain_signals names) q.exprs rules.exprs;
}
