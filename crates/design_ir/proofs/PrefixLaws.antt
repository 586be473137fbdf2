-- The first expressions of a pool are a pool.
use Rattle.std.specs.Prelude.{◌≡◌, ℕ, zero, suc, ◌≤◌, List, [], ◌∷◌, ◌++◌, length, take, slice_index_or}
use Rattle.std.proofs.Common.{sym, ◌∙◌, ap, arith, drop}
use Rattle.std.proofs.lemmas.List.{take-append-drop, length-take-le}
use Rattle.std.proofs.Math.Seq.{take-append_seam}
use Rattle.shape_rules.specs.Forms.{Form, unsigned}
use Rattle.design_ir.specs.declared.signal.Sig.{Sig}
use Rattle.design_ir.specs.declared.expr.Expr.{Expr}
use Rattle.design_ir.specs.Pools.{Pooled, answers}
use Rattle.design_ir.specs.PoolRules.{AreExprs, IsCached}
use Rattle.design_ir.specs.Values.{form_step}
use Rattle.design_ir.proofs.Answers.{answers_append, answers_begin}

-- the answers for the first expressions are the first answers
pub answers_first : {A : Type 0} (d : A) (step : (ℕ → A) → Expr → A) (es : List Expr) (k : ℕ) → k ≤ length es → take k (answers d step [] es) ≡ answers d step [] (take k es)
answers_first d step es k h =
    let r = answers_begin d step [] (take k es) in
    let s = answers_begin d step (answers d step [] (take k es)) (drop k es) in
    let n : length (answers d step [] (take k es)) ≡ k = ap length r.1 ∙ r.2 ∙ length-take-le k es h in
    let whole : answers d step [] es ≡ answers d step [] (take k es) ++ s.0 = ap (answers d step []) (sym (take-append-drop k es)) ∙ answers_append d step [] (take k es) (drop k es) ∙ s.1 in
    ap (take k) whole ∙ ap (λ m. take m (answers d step [] (take k es) ++ s.0)) (sym n) ∙ take-append_seam (answers d step [] (take k es)) s.0

pub exprs_first : (sigs : List Sig) (known : List Form) (es : List Expr) (k : ℕ) → AreExprs sigs known es → AreExprs sigs known (take k es)
exprs_first sigs known es zero h = tt
exprs_first sigs known [] (suc k) h = tt
exprs_first sigs known (e ∷ es) (suc k) h = (h.0, exprs_first sigs (known ++ form_step sigs (λ k. slice_index_or known k (unsigned 0)) e ∷ []) es k h.1)

pub cached_first : (p : Pooled) (shapes : List Form) (bits k : ℕ) → IsCached p shapes bits → k ≤ length p.exprs → IsCached (record p { exprs = take k p.exprs }) (take k shapes) bits
cached_first p shapes bits k h few = record {
  rules = record {
    few_signals = h.rules.few_signals;
    few_bits = h.rules.few_bits;
    few_exprs = omega (arith, few, h.rules.few_exprs, length-take-le k p.exprs few);
    shapes = h.rules.shapes;
    inits = h.rules.inits;
    exprs = exprs_first p.signals [] p.exprs k h.rules.exprs;
  };
  shapes_are = ap (take k) h.shapes_are ∙ answers_first (unsigned 0) (form_step p.signals) p.exprs k few;
  bits_are = h.bits_are;
}
