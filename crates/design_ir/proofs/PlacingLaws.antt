-- A reset that becomes a signal of one bit changes no shape.
use Rattle.std.specs.Prelude.{◌≡◌, refl, ℕ, zero, suc, ◌<◌, false, List, [], ◌∷◌, ◌++◌, length, slice_get, slice_index_or, slice_set, Some, None}
use Rattle.std.proofs.Common.{sym, ◌∙◌, ap, subst}
use Rattle.std.proofs.lemmas.List.{length-set}
use Rattle.shape_rules.specs.Forms.{Form, unsigned}
use Rattle.amh_host.specs.declared.place.Place.{Place}
use Rattle.design_ir.specs.declared.ids.SigId.{SigId}
use Rattle.design_ir.specs.declared.signal.Sig.{Sig}
use Rattle.design_ir.specs.declared.expr.Expr as expr
use Rattle.design_ir.specs.declared.expr.Expr.{Expr}
use Rattle.design_ir.specs.declared.expr.Expr.TheVariants.{Reset}
use Rattle.design_ir.specs.Pools.{Pooled, answers}
use Rattle.design_ir.specs.PoolRules.{AreExprs, IsCached, IsExpr, shape_stop}
use Rattle.design_ir.specs.Placing.{IsResetAt, reset_placed}
use Rattle.design_ir.specs.Values.{form_step, signal_form}

module _ (sigs : List Sig) (s : SigId) (there : s.0 < length sigs) (bit : signal_form sigs s.0 ≡ unsigned 1) (domain : List ℕ) (place : Place) where
  abbrev known_form : List Form → ℕ → Form
  known_form known k = slice_index_or known k (unsigned 0)

  head_is : (e : Expr) (es : List Expr) → slice_get (e ∷ es) 0 ≡ Some (Reset domain place) → e ≡ Reset domain place
  head_is e es h = cc

  is_expr : (known : List Form) → IsExpr sigs known (expr.TheVariants.Sig s)
  is_expr known = record { names = tt; formed = tt; parts = there; accepted = ap (λ (f : Form). shape_stop false f.width) bit }

  same_form : (known : List Form) (e : Expr) → e ≡ Reset domain place → form_step sigs (known_form known) e ≡ signal_form sigs s.0
  same_form known e h = ap (form_step sigs (known_form known)) h ∙ sym bit

  pub placed_exprs : (known : List Form) (es : List Expr) (k : ℕ) → slice_get es k ≡ Some (Reset domain place) → AreExprs sigs known es → AreExprs sigs known (slice_set es k (expr.TheVariants.Sig s))
  placed_exprs known [] k at h = tt
  placed_exprs known (e ∷ es) zero at h = (is_expr known, subst (λ (f : Form). AreExprs sigs (known ++ f ∷ []) es) (same_form known e (head_is e es at)) h.1)
  placed_exprs known (e ∷ es) (suc k) at h = (h.0, placed_exprs (known ++ form_step sigs (known_form known) e ∷ []) es k at h.1)

  pub placed_shapes : (known : List Form) (es : List Expr) (k : ℕ) → slice_get es k ≡ Some (Reset domain place) → answers (unsigned 0) (form_step sigs) known (slice_set es k (expr.TheVariants.Sig s)) ≡ answers (unsigned 0) (form_step sigs) known es
  placed_shapes known [] k at = refl
  placed_shapes known (e ∷ es) zero at = ap (λ (f : Form). answers (unsigned 0) (form_step sigs) (known ++ f ∷ []) es) (sym (same_form known e (head_is e es at)))
  placed_shapes known (e ∷ es) (suc k) at = placed_shapes (known ++ form_step sigs (known_form known) e ∷ []) es k at

pub reset_keeps : (p : Pooled) (shapes : List Form) (bits k : ℕ) (s : SigId) → IsResetAt p k → s.0 < length p.signals → signal_form p.signals s.0 ≡ unsigned 1 → IsCached p shapes bits → IsCached (reset_placed p k s) shapes bits
reset_keeps p shapes bits k s at there bit h = record {
  rules = record {
    few_signals = h.rules.few_signals;
    few_bits = h.rules.few_bits;
    few_exprs = let e = length-set p.exprs k (expr.TheVariants.Sig s) in rw (sym e) at h.rules.few_exprs;
    shapes = h.rules.shapes;
    inits = h.rules.inits;
    exprs = placed_exprs p.signals s there bit at.domain at.place [] p.exprs k at.stands h.rules.exprs;
  };
  shapes_are = h.shapes_are ∙ sym (placed_shapes p.signals s there bit at.domain at.place [] p.exprs k at.stands);
  bits_are = h.bits_are;
}
