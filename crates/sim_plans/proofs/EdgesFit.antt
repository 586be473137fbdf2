-- After an edge the numbers that are held are still of their signals' shapes.
use Rattle.std.specs.Prelude.{◌≡◌, refl, ℕ, zero, suc, false, if◌then◌else◌, List, [], ◌∷◌, length, slice_get, slice_set, ℤ, pos, negsuc, ◌-ℤ◌, Option, Some, None, option_map, unwrap_or, fold}
use Rattle.std.specs.List.{AllByRecursion}
use Rattle.std.proofs.Common.{sym, ◌∙◌, ap, arith, subst}
use Rattle.std.proofs.lemmas.List.{length-set}
use Rattle.amh_bits.specs.Patterns.{IsOf}
use Rattle.shape_rules.specs.Forms.{Form, unsigned}
use Rattle.design_ir.specs.declared.ids.DomainId.{DomainId}
use Rattle.design_ir.specs.declared.domain.Domain.{Domain}
use Rattle.design_ir.specs.declared.process.DesignProcess.{DesignProcess}
use Rattle.design_ir.specs.declared.signal.Sig.{Sig}
use Rattle.design_ir.specs.PoolRules.{IsPool, HasInit}
use Rattle.design_ir.specs.Designs.{IsDesign, IsClockDomain}
use Rattle.design_ir.specs.Guards.{driven}
use Rattle.design_ir.specs.Put.{put}
use Rattle.design_ir.specs.Circuits.{Circuit, at}
use Rattle.design_ir.specs.Steps.{is_active, is_reset, reset_to, reset_all, clocked_at, clocked, toggle_at, toggle}
use Rattle.design_ir.proofs.NumbersFit.{FitsSignals}
use Rattle.design_ir.proofs.PutLaws.{put_length}
use Rattle.sim_plans.proofs.ResetLaws.{resets_length}
use Rattle.sim_plans.proofs.WritesFit.{OfSignal, either, set_fits, put_fits}

pub all_get : {A : Type 0} (P : A → Type 0) (xs : List A) (k : ℕ) (x : A) → AllByRecursion P xs → slice_get xs k ≡ Some x → P x
all_get P [] k x h is = cc
all_get P (y ∷ xs) zero x h is = let same : y ≡ x = cc in subst P same h.0
all_get P (y ∷ xs) (suc k) x h is = all_get P xs k x h.1 is

module _ (c : Circuit) where
  -- ---- registers

  reset_fits : (s : ℕ) (o : Option Sig) (cur : List ℤ) → IsPool c.pool → slice_get c.pool.signals s ≡ o → FitsSignals c.pool cur → FitsSignals c.pool (reset_to s cur o)
  reset_fits s None cur rules e fit = fit
  reset_fits s (Some x) cur rules e fit =
      let shape = sym (ap (λ (o : Option Sig). unwrap_or (option_map (λ (y : Sig). y.shape) o) (unsigned 0)) e) in
      let of : OfSignal c.pool s x.init = subst (λ (f : Form). IsOf f.signed f.width x.init) shape (all_get HasInit c.pool.signals s x rules.inits e) in
      either (FitsSignals c.pool) x.reset_less cur (slice_set cur s x.init) fit (set_fits c.pool cur s x.init of fit)

  resets_fit : (ss : List ℕ) (cur : List ℤ) → IsPool c.pool → FitsSignals c.pool cur → FitsSignals c.pool (reset_all c.pool.signals cur ss)
  resets_fit [] cur rules fit = fit
  resets_fit (s ∷ ss) cur rules fit =
      resets_fit ss (reset_to s cur (slice_get c.pool.signals s)) rules (reset_fits s (slice_get c.pool.signals s) cur rules refl fit)

  module _ (env : List ℤ) (listed : List DomainId) where
    clock_fits : (d : Option DomainId) (p : DesignProcess) (cur : List ℤ) → IsPool c.pool → FitsSignals c.pool cur → FitsSignals c.pool (clocked_at c env listed p cur d)
    clock_fits None p cur rules fit = fit
    clock_fits (Some d) p cur rules fit =
        let after : List ℤ = put c.pool env p.body cur in
        let fits : FitsSignals c.pool after = put_fits c.pool env p.body cur fit in
        let reset : List ℤ = reset_all c.pool.signals after (driven c.pool p.body) in
        either (FitsSignals c.pool) (is_active c env listed d.0) (if is_reset c env d.0 then reset else after) cur
        (either (FitsSignals c.pool) (is_reset c env d.0) reset after (resets_fit (driven c.pool p.body) after rules fits) fits) fit

    pub clocks_fit : (ps : List DesignProcess) (cur : List ℤ) → IsPool c.pool → FitsSignals c.pool cur → FitsSignals c.pool (fold (clocked c env listed) cur ps)
    clocks_fit [] cur rules fit = fit
    clocks_fit (p ∷ ps) cur rules fit = clocks_fit ps (clocked c env listed cur p) rules (clock_fits p.domain p cur rules fit)

    clock_length_at : (d : Option DomainId) (p : DesignProcess) (cur : List ℤ) → length (clocked_at c env listed p cur d) ≡ length cur
    clock_length_at None p cur = refl
    clock_length_at (Some d) p cur =
        let after : List ℤ = put c.pool env p.body cur in
        let reset : List ℤ = reset_all c.pool.signals after (driven c.pool p.body) in
        let long : length after ≡ length cur = put_length c.pool env p.body cur in
        either (λ (xs : List ℤ). length xs ≡ length cur) (is_active c env listed d.0) (if is_reset c env d.0 then reset else after) cur
        (either (λ (xs : List ℤ). length xs ≡ length cur) (is_reset c env d.0) reset after (resets_length c.pool.signals (driven c.pool p.body) after ∙ long) long) refl

    pub clock_length : (cur more : List ℤ) (p : DesignProcess) → more ≡ clocked c env listed cur p → length more ≡ length cur
    clock_length cur more p e = ap length e ∙ clock_length_at p.domain p cur

    pub clocks_length : (ps : List DesignProcess) (cur : List ℤ) → length (fold (clocked c env listed) cur ps) ≡ length cur
    clocks_length [] cur = refl
    clocks_length (p ∷ ps) cur = clocks_length ps (clocked c env listed cur p) ∙ clock_length cur (clocked c env listed cur p) p refl

  -- ---- clocks

  turned : (z : ℤ) → IsOf false 1 z → IsOf false 1 (pos 1 -ℤ z)
  turned (pos zero) h = omega arith
  turned (pos (suc zero)) h = omega arith
  turned (pos (suc (suc n))) h = absurd (omega (arith, h))
  turned (negsuc n) h = absurd h

  -- the number of a clock is a bit
  pub clock_bit : (k : ℕ) (x : Domain) (cur : List ℤ) → IsDesign c → FitsSignals c.pool cur → slice_get c.domains k ≡ Some x → IsOf false 1 (at cur x.clk.0)
  clock_bit k x cur design fit e =
      let is : IsClockDomain c x = all_get (IsClockDomain c) c.domains k x design.domains e in
      subst (λ (f : Form). IsOf f.signed f.width (at cur x.clk.0)) is.clock.shape (fit x.clk.0 is.clock.there)

  toggle_fits_at : (k : ℕ) (o : Option Domain) (cur : List ℤ) → IsDesign c → slice_get c.domains k ≡ o → FitsSignals c.pool cur → FitsSignals c.pool (toggle_at cur o)
  toggle_fits_at k None cur design e fit = fit
  toggle_fits_at k (Some x) cur design e fit =
      let is : IsClockDomain c x = all_get (IsClockDomain c) c.domains k x design.domains e in
      let now : OfSignal c.pool x.clk.0 (pos 1 -ℤ at cur x.clk.0) = subst (λ (f : Form). IsOf f.signed f.width (pos 1 -ℤ at cur x.clk.0)) (sym is.clock.shape) (turned (at cur x.clk.0) (clock_bit k x cur design fit e)) in
      set_fits c.pool cur x.clk.0 (pos 1 -ℤ at cur x.clk.0) now fit

  pub toggle_fits : (cur more : List ℤ) (d : DomainId) → IsDesign c → more ≡ toggle c.domains cur d → FitsSignals c.pool cur → FitsSignals c.pool more
  toggle_fits cur more d design e fit = subst (FitsSignals c.pool) (sym e) (toggle_fits_at d.0 (slice_get c.domains d.0) cur design refl fit)

  toggle_length_at : (o : Option Domain) (cur : List ℤ) → length (toggle_at cur o) ≡ length cur
  toggle_length_at None cur = refl
  toggle_length_at (Some x) cur = length-set cur x.clk.0 _

  pub toggle_length : (cur more : List ℤ) (d : DomainId) → more ≡ toggle c.domains cur d → length more ≡ length cur
  toggle_length cur more d e = ap length e ∙ toggle_length_at (slice_get c.domains d.0) cur

  pub toggles_length : (ds : List DomainId) (cur : List ℤ) → length (fold (toggle c.domains) cur ds) ≡ length cur
  toggles_length [] cur = refl
  toggles_length (d ∷ ds) cur = toggles_length ds (toggle c.domains cur d) ∙ toggle_length cur (toggle c.domains cur d) d refl
