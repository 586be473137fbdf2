-- Small expressions and statements, evaluated.
use Rattle.std.specs.Prelude.{◌≡◌, refl, ℕ, true, false, List, [], ◌∷◌, ℤ, pos, negsuc}
use Rattle.shape_rules.specs.Forms.{unsigned, signed_form}
use Rattle.shape_rules.specs.declared.op.Op.TheVariants.{Sub, Not, Div, Mod}
use Rattle.design_ir.specs.declared.expr.Expr.TheVariants.{Const, Unary, Binary, Mux, Slice, Cat, Part, Pick, Cast, Matches}
use Rattle.design_ir.specs.Pools.{Pooled}
use Rattle.design_ir.specs.Trees.{choose, none, arm, Block, done, next}
use Rattle.design_ir.specs.Values.{form, num}
use Rattle.design_ir.specs.Targets.{target_bits, target_signals, is_target}
use Rattle.design_ir.specs.Put.{put}
use Rattle.design_ir.specs.Guards.{driven}
use Rattle.design_ir.proofs.SanityParts.{signal, e, s, set}

-- ---- operators

-- y = a - b, of signed(4) and unsigned(4), into signed(6)
minus : Pooled
minus = record {
  signals = signal (signed_form 4) (pos 0) ∷ signal (unsigned 4) (pos 0) ∷ signal (signed_form 6) (pos 0) ∷ [];
  exprs = s 0 ∷ s 1 ∷ Binary Sub (e 0) (e 1) ∷ s 2 ∷ [];
}

minus_form : form minus 2 ≡ signed_form 6
unfolding minus form
minus_form = refl

minus_is : put minus (negsuc 7 ∷ pos 15 ∷ pos 0 ∷ []) (next (set 3 2) done) (negsuc 7 ∷ pos 15 ∷ pos 0 ∷ []) ≡ negsuc 7 ∷ pos 15 ∷ negsuc 22 ∷ []
unfolding minus form num target_bits
minus_is = refl

-- q = a // b, r = a % b
quotient : Pooled
quotient = record {
  signals = signal (signed_form 4) (pos 0) ∷ signal (signed_form 4) (pos 0) ∷ [];
  exprs = s 0 ∷ s 1 ∷ Binary Div (e 0) (e 1) ∷ Binary Mod (e 0) (e 1) ∷ [];
}

quotient_form : form quotient 2 ≡ signed_form 5
unfolding quotient form
quotient_form = refl

-- -7 by -2, 7 by -2, -8 by -1, 5 by 0
quotients : (num quotient (negsuc 6 ∷ negsuc 1 ∷ []) 2 ≡ pos 3) × (num quotient (negsuc 6 ∷ negsuc 1 ∷ []) 3 ≡ negsuc 0) × (num quotient (pos 7 ∷ negsuc 1 ∷ []) 2 ≡ negsuc 3) × (num quotient (negsuc 7 ∷ negsuc 0 ∷ []) 2 ≡ pos 8) × (num quotient (pos 5 ∷ pos 0 ∷ []) 2 ≡ pos 0) × (num quotient (pos 5 ∷ pos 0 ∷ []) 3 ≡ pos 0)
unfolding quotient form num
quotients = (refl, refl, refl, refl, refl, refl)

-- ---- the other expressions, of a = signed(4) and i = unsigned(3)

mixed : Pooled
mixed = record {
  signals = signal (signed_form 4) (pos 0) ∷ signal (unsigned 3) (pos 0) ∷ [];
  exprs = s 0 ∷ s 1
      ∷ Slice (e 0) 1 3
      ∷ Cat (e 1 ∷ e 0 ∷ [])
      ∷ Part (e 0) (e 1) 4 1
      ∷ Part (e 0) (e 1) 2 2
      ∷ Pick (e 1) (e 0 ∷ e 1 ∷ [])
      ∷ Cast (e 0) false
      ∷ Mux (e 1) (e 0) (e 1)
      ∷ Matches (e 0) (record { mask = 12; bits = 12 } ∷ record { mask = 15; bits = 2 } ∷ [])
      ∷ Matches (e 0) []
      ∷ Unary Not (e 1)
      ∷ [];
}

mixed_forms : (form mixed 2 ≡ unsigned 3) × (form mixed 3 ≡ unsigned 7) × (form mixed 4 ≡ unsigned 4) × (form mixed 6 ≡ signed_form 4) × (form mixed 7 ≡ unsigned 4) × (form mixed 8 ≡ signed_form 4)
unfolding mixed form
mixed_forms = (refl, refl, refl, refl, refl, refl)

-- a = -5, which is 1011, and i = 2
sliced : num mixed (negsuc 4 ∷ pos 2 ∷ []) 2 ≡ pos 5
unfolding mixed form num
sliced = refl

joined_up : num mixed (negsuc 4 ∷ pos 2 ∷ []) 3 ≡ pos 90
unfolding mixed form num
joined_up = refl

-- bits 2 to 5, and the word of two bits from bit 4 on: past the end the top bit
parts : (num mixed (negsuc 4 ∷ pos 2 ∷ []) 4 ≡ pos 14) × (num mixed (negsuc 4 ∷ pos 2 ∷ []) 5 ≡ pos 3)
unfolding mixed form num
parts = (refl, refl)

-- item 0, item 1, and past the end the last
picks : (num mixed (negsuc 4 ∷ pos 0 ∷ []) 6 ≡ negsuc 4) × (num mixed (negsuc 4 ∷ pos 1 ∷ []) 6 ≡ pos 1) × (num mixed (negsuc 4 ∷ pos 5 ∷ []) 6 ≡ pos 5)
unfolding mixed form num
picks = (refl, refl, refl)

casts : num mixed (negsuc 4 ∷ pos 2 ∷ []) 7 ≡ pos 11
unfolding mixed form num
casts = refl

muxes : (num mixed (negsuc 4 ∷ pos 2 ∷ []) 8 ≡ negsuc 4) × (num mixed (negsuc 4 ∷ pos 0 ∷ []) 8 ≡ pos 0)
unfolding mixed form num
muxes = (refl, refl)

-- 11-- matches -4 and 0010 matches 2; nothing matches where there is no pattern
matched : (num mixed (negsuc 3 ∷ pos 0 ∷ []) 9 ≡ pos 1) × (num mixed (pos 2 ∷ pos 0 ∷ []) 9 ≡ pos 1) × (num mixed (negsuc 4 ∷ pos 0 ∷ []) 9 ≡ pos 0) × (num mixed (pos 2 ∷ pos 0 ∷ []) 10 ≡ pos 0)
unfolding mixed form num
matched = (refl, refl, refl, refl)

turned_bits : num mixed (pos 0 ∷ pos 2 ∷ []) 11 ≡ pos 5
unfolding mixed form num
turned_bits = refl

-- ---- targets: x = unsigned(4), y = unsigned(4), i = unsigned(3), k = 0b10110101

targets : Pooled
targets = record {
  signals = signal (unsigned 4) (pos 0) ∷ signal (unsigned 4) (pos 0) ∷ signal (unsigned 3) (pos 0) ∷ [];
  exprs = s 0 ∷ s 1 ∷ s 2
      ∷ Const (pos 181) (unsigned 8)
      ∷ Cat (e 0 ∷ e 1 ∷ [])
      ∷ Part (e 0) (e 2) 4 1
      ∷ Cat (e 5 ∷ e 1 ∷ [])
      ∷ Slice (e 0) 1 2
      ∷ Pick (e 2) (e 7 ∷ e 1 ∷ [])
      ∷ Cat (e 8 ∷ e 0 ∷ [])
      ∷ Cast (e 0) true
      ∷ [];
}

from : ℕ → ℕ → ℕ → List ℤ
from x y i = pos x ∷ pos y ∷ pos i ∷ []

-- the low half and the high half
joined_target : put targets (from 0 0 0) (next (set 4 3) done) (from 0 0 0) ≡ from 5 11 0
unfolding targets from form num target_bits
joined_target = refl

-- a selection from bit 3 on writes one bit, and what stands above it in a join still takes its own bits
past_the_end : put targets (from 0 0 3) (next (set 6 3) done) (from 7 0 3) ≡ from 15 11 3
unfolding targets from form num target_bits
past_the_end = refl

-- a picked item that is narrower than the others takes the low bits, and the join goes on above the widest
picked_target : put targets (from 0 0 0) (next (set 9 3) done) (from 0 0 0) ≡ from 11 0 0
unfolding targets from form num target_bits
picked_target = refl

picked_last : put targets (from 0 0 5) (next (set 9 3) done) (from 0 0 5) ≡ from 11 5 5
unfolding targets from form num target_bits
picked_last = refl

-- a slice leaves the other bits, and a reading with a sign is the same bits
sliced_target : put targets (from 0 0 0) (next (set 7 3) done) (from 9 0 0) ≡ from 11 0 0
unfolding targets from form num target_bits
sliced_target = refl

cast_target : put targets (from 0 0 0) (next (set 10 3) done) (from 0 0 0) ≡ from 5 0 0
unfolding targets from form num target_bits
cast_target = refl

which_targets : (is_target targets 6 ≡ true) × (is_target targets 3 ≡ false) × (target_signals targets 9 ≡ 0 ∷ 1 ∷ 0 ∷ [])
unfolding targets is_target target_signals
which_targets = (refl, refl, refl)

-- a number is wrapped to the target's shape
wrapped : Pooled
wrapped = record {
  signals = signal (unsigned 8) (pos 0) ∷ signal (signed_form 8) (pos 0) ∷ [];
  exprs = s 0 ∷ s 1 ∷ Const (pos 300) (unsigned 9) ∷ Const (pos 200) (unsigned 8) ∷ Const (negsuc 0) (signed_form 1) ∷ [];
}

wraps : put wrapped [] (next (set 0 2) (next (set 1 3) done)) (pos 0 ∷ pos 0 ∷ []) ≡ pos 44 ∷ negsuc 55 ∷ []
unfolding wrapped form num target_bits
wraps = refl

wraps_minus : put wrapped [] (next (set 0 4) (next (set 1 4) done)) (pos 0 ∷ pos 0 ∷ []) ≡ pos 255 ∷ negsuc 0 ∷ []
unfolding wrapped form num target_bits
wraps_minus = refl

-- ---- choices: x, y, c, d of 2 bits; the numbers 1, 2, 3

choices : Pooled
choices = record {
  signals = signal (unsigned 2) (pos 0) ∷ signal (unsigned 2) (pos 0) ∷ signal (unsigned 2) (pos 0) ∷ signal (unsigned 2) (pos 0) ∷ [];
  exprs = s 0 ∷ s 1 ∷ s 2 ∷ s 3 ∷ Const (pos 1) (unsigned 2) ∷ Const (pos 2) (unsigned 2) ∷ Const (pos 3) (unsigned 2) ∷ Slice (e 0) 0 1 ∷ [];
}

-- x = 1; if c: x = 2; elif d: x = 3; then x[0] = y
chosen : Block
chosen =
    next (set 0 4) (next (choose (arm (e 2) (next (set 0 5) done) (arm (e 3) (next (set 0 6) done) none))) (next (set 7 1) done))

with_inputs : ℕ → ℕ → ℕ → ℕ → List ℤ
with_inputs x y c d = pos x ∷ pos y ∷ pos c ∷ pos d ∷ []

-- the first arm whose condition is not 0, and the last active assignment wins bit by bit
chosen_is : (put choices (with_inputs 0 0 2 1) chosen (with_inputs 0 0 2 1) ≡ with_inputs 2 0 2 1) × (put choices (with_inputs 0 1 0 1) chosen (with_inputs 0 1 0 1) ≡ with_inputs 3 1 0 1) × (put choices (with_inputs 0 0 0 1) chosen (with_inputs 0 0 0 1) ≡ with_inputs 2 0 0 1) × (put choices (with_inputs 0 1 0 0) chosen (with_inputs 0 1 0 0) ≡ with_inputs 1 1 0 0)
unfolding choices chosen with_inputs form num target_bits
chosen_is = (refl, refl, refl, refl)

chosen_drives : driven choices chosen ≡ 0 ∷ 0 ∷ 0 ∷ 0 ∷ []
unfolding choices chosen target_signals
chosen_drives = refl
