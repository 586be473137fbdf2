-- What a reset leaves is of the signals' shapes.
use Rattle.std.specs.Prelude.{◌≡◌, ℕ, List, [], ◌∷◌, slice_get, slice_set, ℤ, Option, Some, None, option_map, unwrap_or}
use Rattle.std.proofs.Common.{refl, sym, ap, subst}
use Rattle.std.proofs.lemmas.Bool.{cond_both}
use Rattle.amh_bits.specs.Patterns.{IsOf}
use Rattle.shape_rules.specs.Forms.{Form, unsigned}
use Rattle.design_ir.specs.declared.signal.Sig.{Sig}
use Rattle.design_ir.specs.Pools.{Pooled}
use Rattle.design_ir.specs.PoolRules.{IsPool, HasInit}
use Rattle.design_ir.specs.Values.{signal_form}
use Rattle.design_ir.specs.Circuits.{FitsSignals}
use Rattle.design_ir.specs.Steps.{reset_to, reset_all}
use Rattle.digraph.proofs.Members.{all_at}
use Rattle.comb_graph.proofs.PutFits.{OfSignal, set_fits}

module _ (p : Pooled) (rules : IsPool p) where
  to_fits : (s : ℕ) (o : Option Sig) (cur : List ℤ) → slice_get p.signals s ≡ o → FitsSignals p cur → FitsSignals p (reset_to s cur o)
  to_fits s None cur e fit = fit
  to_fits s (Some x) cur e fit =
      let shape : x.shape ≡ signal_form p.signals s = sym (ap (λ (o : Option Sig). unwrap_or (option_map (λ (y : Sig). y.shape) o) (unsigned 0)) e) in
      let of : OfSignal p s x.init = subst (λ (f : Form). IsOf f.signed f.width x.init) shape (all_at HasInit p.signals s x rules.inits e) in
      cond_both x.reset_less cur (slice_set cur s x.init) (FitsSignals p) (λ t. fit) (λ t. set_fits p cur s x.init of fit)

  pub resets_fit : (ss : List ℕ) (cur : List ℤ) → FitsSignals p cur → FitsSignals p (reset_all p.signals cur ss)
  resets_fit [] cur fit = fit
  resets_fit (s ∷ ss) cur fit = resets_fit ss (reset_to s cur (slice_get p.signals s)) (to_fits s (slice_get p.signals s) cur refl fit)
