-- Widths found by a walk through the wires.
use Rattle.std.proofs.Common.{◌≡◌, ℕ, suc, Bool, true, false, cond, List, [], ◌∷◌, ◌++◌, fold, refl, arith}
use Rattle.std.specs.Prelude.{Option, Some, None, Contains}
use Rattle.std.specs.Str.{bytes_eq}
use Rattle.std.proofs.lemmas.Slice.Eq.{bytes_eq-Decides}
use Rattle.rtlil_text.specs.declared.module.RtlWire.{RtlWire}
use Rattle.rtlil_text.specs.Grammar.{IsWhole}
use Rattle.rtlil_text.specs.Written.{AreWidths, width_among}

abbrev found : List ℕ → Option ℕ → RtlWire → Option ℕ
found id before w = cond (bytes_eq w.id id) (Some w.width) before

by_test : (all : List RtlWire) (w : RtlWire) (id : List ℕ) (before : Option ℕ) (width : ℕ) → Contains all w → (before ≡ Some width → IsWhole all id width)
    → (b : Bool) → bytes_eq w.id id ≡ b → cond b (Some w.width) before ≡ Some width → IsWhole all id width
by_test all w id before width among had true e h = record { wire = w; among = among; named = (bytes_eq-Decides w.id id).0 e; wide = the_same w.width width h }
  where
    the_same : (x y : ℕ) → ◌≡◌ {A = Option ℕ} (Some x) (Some y) → x ≡ y
    the_same x y e = cc
by_test all w id before width among had false e h = had h

behind : {A : Type 0} (x y : A) (ys : List A) → Contains ys x → Contains (y ∷ ys) x
behind x y ys h = (suc h.0, omega (arith, h.1), h.2)

-- each of these wires is among all, and so is what was found before them
whole_from : (all wires : List RtlWire) (id : List ℕ) (before : Option ℕ) (width : ℕ) → ((w : RtlWire) → Contains wires w → Contains all w) → (before ≡ Some width → IsWhole all id width)
    → fold (found id) before wires ≡ Some width → IsWhole all id width
whole_from all [] id before width among had e = had e
whole_from all (w ∷ wires) id before width among had e =
    whole_from all wires id (found id before w) width (λ v h. among v (behind v w wires h)) (by_test all w id before width (among w (0, omega arith, refl)) had (bytes_eq w.id id) refl) e

pub AreWidths-width_among : (wires : List RtlWire) → AreWidths wires (width_among wires)
AreWidths-width_among wires id width e = whole_from wires wires id None width (λ w h. h) (λ none. cc) e

fold-last : (id : List ℕ) (before : Option ℕ) (wires : List RtlWire) (w : RtlWire) → fold (found id) before (wires ++ w ∷ []) ≡ found id (fold (found id) before wires) w
fold-last id before [] w = refl
fold-last id before (v ∷ wires) w = fold-last id (found id before v) wires w

-- one wire more
pub width_among-last : (wires : List RtlWire) (w : RtlWire) (id : List ℕ) → width_among (wires ++ w ∷ []) id ≡ cond (bytes_eq w.id id) (Some w.width) (width_among wires id)
width_among-last wires w id = fold-last id None wires w
