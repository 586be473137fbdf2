-- The laws of the writes of a target: what they leave stands in WritesPutLaw, of which tests they are in WriteTests.
use Rattle.std.specs.Prelude.{◌≡◌, refl, ℕ, zero, suc, ◌+◌, ◌-◌, ◌==◌, ◌<◌, List, [], ◌∷◌, length, Some, Contains}
use Rattle.std.proofs.Common.{arith, subst}
use Rattle.std.proofs.lemmas.Bool.{eq-eqb}
use Rattle.std.proofs.lemmas.Option.{slice_get_within}
use Rattle.design_ir.specs.declared.signal.Sig.{Sig}
use Rattle.design_ir.specs.Pools.{Pooled}
use Rattle.design_ir.specs.PoolRules.{IsPool}
use Rattle.design_ir.specs.Values.{form, signal_form}
use Rattle.design_ir.specs.Targets.{Bit, target_signals, aims}
use Rattle.design_ir.specs.Choices.{HasAim, IsPlaced}
use Rattle.design_ir.proofs.Elements.{any_has}
use Rattle.design_ir.proofs.ChoiceLaws.{stands_length, places_are}
use Rattle.comb_graph.proofs.AimBits.{IsAimOf, aims_of_signals}
use Rattle.flat_design.specs.WriteLaws.{WritesAreAims, WritesAreInside}
use Rattle.flat_design.proofs.WritesPlacedLaw.{bit_of, IsWell, writes_placed}

pub writes_are_aims : (p : Pooled) → IsPool p → WritesAreAims p
writes_are_aims p rules = λ k w i t c below.
    let h : IsPlaced p k (bit_of w i) (w.from + i) = (writes_placed p rules k w t c).placed i below in
    places_are p rules h.chosen (bit_of w i) (w.from + i) h.here

-- a signal that has a bit is there
signal_there : (sigs : List Sig) (s : ℕ) → 0 < (signal_form sigs s).width → s < length sigs
signal_there [] s h = absurd (omega (arith, h))
signal_there (x ∷ sigs) zero h = omega arith
signal_there (x ∷ sigs) (suc s) h = omega (arith, signal_there sigs s h)

-- a bit of a write is one of a signal of the target
aimed : (p : Pooled) (k : ℕ) (b : Bit) (j : ℕ) → HasAim (aims p k) b j → Contains (target_signals p k) b.sig × (b.index < (signal_form p.signals b.sig).width)
aimed p k b j h =
    let of : IsAimOf (signal_form p.signals) (target_signals p k) h.aim = aims_of_signals p k h.aim h.among in
    subst (λ (x : Bit). Contains (target_signals p k) x.sig × (x.index < (signal_form p.signals x.sig).width)) h.bit (of.of, of.index)

pub writes_are_inside : (p : Pooled) → IsPool p → WritesAreInside p
writes_are_inside p rules = λ k w t c.
    let well : IsWell p rules k w = writes_placed p rules k w t c in
    let last : ℕ = w.width - 1 in
    let below : last < w.width = omega (arith, well.some) in
    let h : IsPlaced p k (bit_of w last) (w.from + last) = well.placed last below in
    let of = aimed p k (bit_of w last) (w.from + last) (writes_are_aims p rules k w last t c below) in
    let long : length h.places ≡ (form p k).width = stands_length p rules h.chosen in
    record {
      there = signal_there p.signals w.sig.0 (omega (arith, of.1));
      some = well.some;
      bits = omega (arith, of.1, well.some);
      value = omega (arith, slice_get_within h.places (w.from + last) (Some (bit_of w last)) h.here, long, well.some);
      among = any_has (λ x. x == w.sig.0) (target_signals p k) w.sig.0 of.0 (eq-eqb w.sig.0 w.sig.0 refl);
    }
