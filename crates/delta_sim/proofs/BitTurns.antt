-- Bits of a number written into the places of a target, one after another.
use Rattle.std.specs.Prelude.{◌≡◌, refl, ℕ, zero, suc, ◌+◌, ◌<◌, ◌≤◌, List, [], ◌∷◌, drop, length, ℤ, Option, Some, None}
use Rattle.std.specs.List.{AllByRecursion}
use Rattle.std.proofs.Common.{sym, ◌∙◌, ap, get_or}
use Rattle.std.proofs.lemmas.List.{at_drop_more, at_drop_all, length-set}
use Rattle.amh_bits.specs.Patterns.{nat_bit}
use Rattle.design_ir.specs.Pools.{Pooled}
use Rattle.design_ir.specs.Put.{put_bits, put_place}
use Rattle.design_ir.specs.Targets.{Bit, target_bits}
use Rattle.sim_plans.specs.Reading.{IsInside}
use Rattle.delta_sim.specs.Walked.{place_of}
use Rattle.sim_plans.proofs.TargetsInside.{target_inside}

pub place_long : (p : Pooled) (x : Option Bit) (b : ℕ) (cur : List ℤ) → length (put_place p x b cur) ≡ length cur
place_long p None b cur = refl
place_long p (Some x) b cur = length-set cur x.sig _

pub bits_turn : (p : Pooled) (places : List (Option Bit)) (v i : ℕ) (x : Option Bit) (cur more all : List ℤ) → i < length places → x ≡ get_or places i None → more ≡ put_place p x (nat_bit v i) cur → put_bits p (drop i places) v i cur ≡ all → put_bits p (drop (i + 1) places) v (i + 1) more ≡ all
bits_turn p places v i x cur more all h is e known =
    ap (put_bits p (drop (i + 1) places) v (i + 1)) e
    ∙ ap (λ y. put_bits p (drop (i + 1) places) v (i + 1) (put_place p y (nat_bit v i) cur)) is
    ∙ sym (at_drop_more (λ xs. put_bits p xs v i cur) places i None h) ∙ known

pub bits_end : (p : Pooled) (places : List (Option Bit)) (v i : ℕ) (cur all : List ℤ) → length places ≤ i → put_bits p (drop i places) v i cur ≡ all → cur ≡ all
bits_end p places v i cur all h known = sym (at_drop_all (λ xs. put_bits p xs v i cur) places i h) ∙ known

inside_at : (p : Pooled) (xs : List (Option Bit)) (i : ℕ) → AllByRecursion (IsInside p.signals) xs → IsInside p.signals (get_or xs i None)
inside_at p [] i h = tt
inside_at p (x ∷ xs) zero h = h.0
inside_at p (x ∷ xs) (suc i) h = inside_at p xs i h.1

-- the place of a bit is none, or a bit of a signal
pub place_inside : (p : Pooled) (env : List ℤ) (e i : ℕ) → IsInside p.signals (place_of p env e i)
place_inside p env e i = inside_at p (target_bits p env e) i (target_inside p env e)
