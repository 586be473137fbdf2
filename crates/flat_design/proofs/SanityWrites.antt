-- The writes of small targets.
use Rattle.std.specs.Prelude.{◌≡◌, refl, ℕ, List, [], ◌∷◌, pos}
use Rattle.shape_rules.specs.Forms.{unsigned}
use Rattle.design_ir.specs.declared.expr.Expr.TheVariants.{Const, Slice, Cat, Part, Pick}
use Rattle.design_ir.specs.Pools.{Pooled}
use Rattle.design_ir.specs.Values.{form}
use Rattle.design_ir.specs.Targets.{numbers}
use Rattle.design_ir.proofs.SanityParts.{signal, e, s}
use Rattle.flat_design.specs.declared.writes.Test.{Test}
use Rattle.flat_design.specs.declared.writes.Write.{Write}
use Rattle.flat_design.specs.Writes.{is_number, is_no_less, writes}

-- so many bits of the value from one on, into a signal from a bit on
abbrev bits : ℕ → ℕ → ℕ → ℕ → List Test → Write
bits from sig low width tests = record { tests = tests; sig = record { 0 = sig }; low = low; width = width; from = from }

-- a = unsigned(2), w = unsigned(4), i = unsigned(1), j = unsigned(2)
written : Pooled
written = record {
  signals = signal (unsigned 2) (pos 0) ∷ signal (unsigned 4) (pos 0) ∷ signal (unsigned 1) (pos 0) ∷ signal (unsigned 2) (pos 0) ∷ [];
  exprs = s 0 ∷ s 1 ∷ s 2 ∷ s 3
      ∷ Const (pos 1) (unsigned 1)
      ∷ Part (e 1) (e 2) 2 1
      ∷ Part (e 1) (e 3) 2 2
      ∷ Part (e 1) (e 3) 2 3
      ∷ Part (e 1) (e 4) 2 1
      ∷ Slice (e 5) 1 1
      ∷ Cat (e 0 ∷ e 5 ∷ [])
      ∷ Pick (e 3) (e 0 ∷ e 1 ∷ [])
      ∷ Pick (e 4) (e 0 ∷ e 1 ∷ [])
      ∷ Slice (e 0) 1 0
      ∷ Part (e 1) (e 3) 2 0
      ∷ Part (e 11) (e 2) 1 1
      ∷ [];
}

whole : writes written 1 ≡ bits 0 1 0 4 [] ∷ []
unfolding written form numbers writes
whole = refl

-- w.bit_select(i, 2): w[0:2] at 0, w[1:3] at 1
bit_select : writes written 5 ≡ bits 0 1 0 2 (is_number (e 2) 0 ∷ []) ∷ bits 0 1 1 2 (is_number (e 2) 1 ∷ []) ∷ []
unfolding written form numbers writes
bit_select = refl

-- w.word_select(j, 2): at 2 and 3 it is past the end
word_select : writes written 6 ≡ bits 0 1 0 2 (is_number (e 3) 0 ∷ []) ∷ bits 0 1 2 2 (is_number (e 3) 1 ∷ []) ∷ []
unfolding written form numbers writes
word_select = refl

-- in steps of three bits the second part is cut short
cut_short : writes written 7 ≡ bits 0 1 0 2 (is_number (e 3) 0 ∷ []) ∷ bits 0 1 3 1 (is_number (e 3) 1 ∷ []) ∷ []
unfolding written form numbers writes
cut_short = refl

-- the constant 1 for an offset is not tested
constant_offset : writes written 8 ≡ bits 0 1 1 2 [] ∷ []
unfolding written form numbers writes
constant_offset = refl

-- the upper bit of w.bit_select(i, 2)
upper : writes written 9 ≡ bits 0 1 1 1 (is_number (e 2) 0 ∷ []) ∷ bits 0 1 2 1 (is_number (e 2) 1 ∷ []) ∷ []
unfolding written form numbers writes
upper = refl

-- Cat(a, w.bit_select(i, 2))
joined : writes written 10 ≡ bits 0 0 0 2 [] ∷ bits 2 1 0 2 (is_number (e 2) 0 ∷ []) ∷ bits 2 1 1 2 (is_number (e 2) 1 ∷ []) ∷ []
unfolding written form numbers writes
joined = refl

-- Array([a, w])[j]: past the end the last item
picked : writes written 11 ≡ bits 0 0 0 2 (is_number (e 3) 0 ∷ []) ∷ bits 0 1 0 4 (is_no_less (e 3) 1 ∷ []) ∷ []
unfolding written form numbers writes
picked = refl

picked_by_constant : writes written 12 ≡ bits 0 1 0 4 [] ∷ []
unfolding written form numbers writes
picked_by_constant = refl

-- a target of width 0
nothing : writes written 13 ≡ []
unfolding written form numbers writes
nothing = refl

-- an offset that moves nothing is not tested
still : writes written 14 ≡ bits 0 1 0 2 [] ∷ []
unfolding written form numbers writes
still = refl

-- Array([a, w])[j].bit_select(i, 1): one test after the other
both : writes written 15 ≡
    bits 0 0 0 1 (is_number (e 3) 0 ∷ is_number (e 2) 0 ∷ []) ∷ bits 0 1 0 1 (is_no_less (e 3) 1 ∷ is_number (e 2) 0 ∷ [])
    ∷ bits 0 0 1 1 (is_number (e 3) 0 ∷ is_number (e 2) 1 ∷ []) ∷ bits 0 1 1 1 (is_no_less (e 3) 1 ∷ is_number (e 2) 1 ∷ []) ∷ []
unfolding written form numbers writes
both = refl
