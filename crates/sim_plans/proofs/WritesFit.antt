-- What is written to signals keeps their numbers of their shapes, and as many as there were.
use Rattle.std.specs.Prelude.{ℕ, zero, suc, ◌+◌, ◌<◌, Bool, true, false, cond, List, [], ◌∷◌, length, slice_set, ℤ, Option, Some, None}
use Rattle.std.specs.List.{AllByRecursion}
use Rattle.amh_bits.specs.Patterns.{IsOf, pattern, nat_bit}
use Rattle.amh_bits.proofs.BitsOf.{nat_bit_low}
use Rattle.amh_bits.proofs.Wraps.{pattern_below, number_is_of}
use Rattle.shape_rules.specs.Forms.{Form}
use Rattle.shape_rules.specs.Operators.{is_zero}
use Rattle.design_ir.specs.Circuits.{at}
use Rattle.design_ir.specs.Pools.{Pooled}
use Rattle.design_ir.specs.Put.{put, put_statement, put_choices, put_bits, put_place, with_bit}
use Rattle.design_ir.specs.Targets.{Bit, target_bits}
use Rattle.design_ir.specs.Trees.{Statement, assign, choose, Choices, none, arm, Block, done, next}
use Rattle.design_ir.specs.Values.{num, signal_form}
use Rattle.design_ir.proofs.NumbersFit.{FitsSignals}
use Rattle.sim_plans.specs.Reading.{IsInside}
use Rattle.sim_plans.proofs.OneBit.{with_bit_below}
use Rattle.sim_plans.proofs.TargetsInside.{target_inside}

-- what holds of each number by its place, and of the one that is written, still holds
each_set : (P : ℕ → ℤ → Type 0) (cur : List ℤ) (s : ℕ) (v : ℤ) → P s v → (t : ℕ) → P t (at cur t) → P t (at (slice_set cur s v) t)
each_set P [] s v of t h = h
each_set P (x ∷ xs) zero v of zero h = of
each_set P (x ∷ xs) zero v of (suc t) h = h
each_set P (x ∷ xs) (suc s) v of zero h = h
each_set P (x ∷ xs) (suc s) v of (suc t) h = each_set (λ k. P (suc k)) xs s v of t h

pub either : {A : Type 0} (P : A → Type 0) (t : Bool) (x y : A) → P x → P y → P (cond t x y)
either P true x y h k = h
either P false x y h k = k

module _ (p : Pooled) where
  -- a number of the signal's shape
  abbrev pub OfSignal : ℕ → ℤ → Type 0
  OfSignal s n = IsOf (signal_form p.signals s).signed (signal_form p.signals s).width n

  pub set_fits : (cur : List ℤ) (s : ℕ) (v : ℤ) → OfSignal s v → FitsSignals p cur → FitsSignals p (slice_set cur s v)
  set_fits cur s v of fit = λ t there. each_set OfSignal cur s v of t (fit t there)

  place_fits : (x : Option Bit) (b : ℕ) (cur : List ℤ) → b < 2 → IsInside p.signals x → FitsSignals p cur → FitsSignals p (put_place p x b cur)
  place_fits None b cur low inside fit = fit
  place_fits (Some x) b cur low inside fit =
      let f : Form = signal_form p.signals x.sig in
      let bits : ℕ = with_bit x.index b (pattern f.width (at cur x.sig)) in
      set_fits cur x.sig _ (number_is_of f.signed f.width bits (with_bit_below f.width x.index b (pattern f.width (at cur x.sig)) inside.1 low (pattern_below f.width (at cur x.sig)))) fit

  bits_fit : (xs : List (Option Bit)) (v i : ℕ) (cur : List ℤ) → AllByRecursion (IsInside p.signals) xs → FitsSignals p cur → FitsSignals p (put_bits p xs v i cur)
  bits_fit [] v i cur inside fit = fit
  bits_fit (x ∷ xs) v i cur inside fit = bits_fit xs v (i + 1) (put_place p x (nat_bit v i) cur) inside.1 (place_fits x (nat_bit v i) cur (nat_bit_low v i) inside.0 fit)

  module _ (env : List ℤ) where
    mutual
      statement_fits : (s : Statement) (cur : List ℤ) → FitsSignals p cur → FitsSignals p (put_statement p env s cur)
      statement_fits (assign t v place) cur fit =
          bits_fit (target_bits p env t.0) (pattern (length (target_bits p env t.0)) (num p env v.0)) 0 cur (target_inside p env t.0) fit
      statement_fits (choose arms) cur fit = choices_fit arms cur fit

      choices_fit : (arms : Choices) (cur : List ℤ) → FitsSignals p cur → FitsSignals p (put_choices p env arms cur)
      choices_fit none cur fit = fit
      choices_fit (arm c body others) cur fit =
          either (FitsSignals p) (is_zero (num p env c.0)) (put_choices p env others cur) (put p env body cur) (choices_fit others cur fit) (put_fits body cur fit)

      pub put_fits : (b : Block) (cur : List ℤ) → FitsSignals p cur → FitsSignals p (put p env b cur)
      put_fits done cur fit = fit
      put_fits (next s rest) cur fit = put_fits rest (put_statement p env s cur) (statement_fits s cur fit)
