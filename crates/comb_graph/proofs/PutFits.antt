-- What statements write keeps the numbers of signals of their shapes.
use Rattle.std.specs.Prelude.{◌≡◌, ◌≢◌, refl, ℕ, suc, ◌+◌, ◌<◌, ◌≤◌, IsTrue, true, List, [], ◌∷◌, length, slice_set, ℤ, pos, Option, Some, None, fold}
use Rattle.std.specs.List.{AllByRecursion, list_all}
use Rattle.std.proofs.Common.{sym, subst, ⊎_elim}
use Rattle.std.proofs.lemmas.Bool.{cond_both, cases_eq, cases_lt}
use Rattle.std.proofs.lemmas.List.{length-set, get_or_past, get_or-set_same, get_or-set_other}
use Rattle.amh_bits.specs.Patterns.{IsOf, pattern, nat_bit}
use Rattle.amh_bits.proofs.BitsOf.{nat_bit_low}
use Rattle.amh_bits.proofs.InShape.{of_zero}
use Rattle.amh_bits.proofs.Wraps.{pattern_below, number_is_of}
use Rattle.shape_rules.specs.Forms.{Form}
use Rattle.design_ir.specs.Pools.{Pooled}
use Rattle.design_ir.specs.PoolRules.{IsPool}
use Rattle.design_ir.specs.Values.{num, signal_form}
use Rattle.design_ir.specs.Targets.{Bit, is_target, target_bits}
use Rattle.design_ir.specs.Trees.{Block}
use Rattle.design_ir.specs.Guards.{Guarded, guarded}
use Rattle.design_ir.specs.Put.{with_bit, put_bit, put_bits, put_number, put}
use Rattle.design_ir.specs.Circuits.{at}
use Rattle.design_ir.proofs.GuardLaws.{holds, put_guarded, put_is}
use Rattle.design_ir.proofs.NumbersFit.{FitsSignals}
use Rattle.design_ir.proofs.Whole.{with_below}
use Rattle.comb_graph.proofs.FoundAims.{AreInside, places_inside}

abbrev pub AreTargets : Pooled → List Guarded → Type 0
AreTargets p gs = AllByRecursion (λ (g : Guarded). IsTrue (is_target p g.target.0)) gs

module _ (p : Pooled) where
  abbrev pub OfSignal : ℕ → ℤ → Type 0
  OfSignal s n = IsOf (signal_form p.signals s).signed (signal_form p.signals s).width n

  own_of : (cur : List ℤ) (s : ℕ) (n : ℤ) → OfSignal s n → OfSignal s (at (slice_set cur s n) s)
  own_of cur s n of =
      ⊎_elim
      (λ (there : s < length cur). subst (OfSignal s) (sym (get_or-set_same cur s n (pos 0) there)) of)
      (λ (past : length cur ≤ s). subst (OfSignal s) (sym (get_or_past (slice_set cur s n) s (pos 0) (rw (length-set cur s n) past))) (of_zero (signal_form p.signals s).signed (signal_form p.signals s).width))
      (cases_lt s (length cur))

  pub set_fits : (cur : List ℤ) (s : ℕ) (n : ℤ) → OfSignal s n → FitsSignals p cur → FitsSignals p (slice_set cur s n)
  set_fits cur s n of fit t there =
      ⊎_elim
      (λ (e : t ≡ s). subst (λ u. OfSignal u (at (slice_set cur s n) u)) (sym e) (own_of cur s n of))
      (λ (e : t ≢ s). subst (OfSignal t) (sym (get_or-set_other cur s t n (pos 0) e)) (fit t there))
      (cases_eq t s)

  bit_fits : (x : Bit) (b : ℕ) (cur : List ℤ) → b < 2 → x.index < (signal_form p.signals x.sig).width → FitsSignals p cur → FitsSignals p (put_bit p x b cur)
  bit_fits x b cur low inside fit =
      let f : Form = signal_form p.signals x.sig in
      let bits : ℕ = with_bit x.index b (pattern f.width (at cur x.sig)) in
      set_fits cur x.sig _ (number_is_of f.signed f.width bits (with_below x.index b (pattern f.width (at cur x.sig)) f.width low inside (pattern_below f.width (at cur x.sig)))) fit

  put_bits_fits : (places : List (Option Bit)) (v i : ℕ) (cur : List ℤ) → AreInside p places → FitsSignals p cur → FitsSignals p (put_bits p places v i cur)
  put_bits_fits [] v i cur inside fit = fit
  put_bits_fits (None ∷ places) v i cur inside fit = put_bits_fits places v (i + 1) cur (λ j. inside (suc j)) fit
  put_bits_fits (Some x ∷ places) v i cur inside fit =
      put_bits_fits places v (i + 1) (put_bit p x (nat_bit v i) cur) (λ j. inside (suc j)) (bit_fits x (nat_bit v i) cur (nat_bit_low v i) (inside 0 x refl) fit)

  module _ (env : List ℤ) (rules : IsPool p) where
    guarded_fits : (g : Guarded) (cur : List ℤ) → is_target p g.target.0 ≡ true → FitsSignals p cur → FitsSignals p (put_guarded p env cur g)
    guarded_fits g cur target fit =
        let places : List (Option Bit) = target_bits p env g.target.0 in
        cond_both (list_all (holds p env) g.guards) (put_number p places (num p env g.value.0) cur) cur (FitsSignals p)
        (λ t. put_bits_fits places (pattern (length places) (num p env g.value.0)) 0 cur (places_inside p env g.target.0) fit) (λ t. fit)

    assignments_fit : (gs : List Guarded) (cur : List ℤ) → AreTargets p gs → FitsSignals p cur → FitsSignals p (fold (put_guarded p env) cur gs)
    assignments_fit [] cur targets fit = fit
    assignments_fit (g ∷ gs) cur targets fit = assignments_fit gs (put_guarded p env cur g) targets.1 (guarded_fits g cur targets.0 fit)

pub put_fits : (p : Pooled) (env : List ℤ) (body : Block) (cur : List ℤ) → IsPool p → AreTargets p (guarded [] body) → FitsSignals p cur → FitsSignals p (put p env body cur)
put_fits p env body cur rules targets fit = rw (put_is p env body cur) (assignments_fit p env rules (guarded [] body) cur targets fit)
