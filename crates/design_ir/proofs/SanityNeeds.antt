-- The bits that small expressions need.
use Rattle.std.specs.Prelude.{◌≡◌, refl, [], ◌∷◌, pos}
use Rattle.shape_rules.specs.Forms.{unsigned, signed_form}
use Rattle.shape_rules.specs.declared.op.Op.TheVariants.{Add, And, Not}
use Rattle.design_ir.specs.declared.expr.Expr.TheVariants.{Unary, Binary, Mux, Slice, Cat, Part, Pick}
use Rattle.design_ir.specs.Pools.{Pooled}
use Rattle.design_ir.specs.Values.{form}
use Rattle.design_ir.specs.Needed.{needed, needed_indices}
use Rattle.design_ir.proofs.SanityParts.{signal, e, s, bit}

-- x = unsigned(2), y = signed(1), i = unsigned(1)
needy : Pooled
needy = record {
  signals = signal (unsigned 2) (pos 0) ∷ signal (signed_form 1) (pos 0) ∷ signal (unsigned 1) (pos 0) ∷ [];
  exprs = s 0 ∷ s 1 ∷ s 2
      ∷ Binary And (e 0) (e 1)
      ∷ Binary Add (e 0) (e 2)
      ∷ Mux (e 2) (e 0) (e 1)
      ∷ Cat (e 1 ∷ e 0 ∷ [])
      ∷ Slice (e 6) 1 2
      ∷ Part (e 0) (e 2) 1 1
      ∷ Pick (e 2) (e 0 ∷ e 1 ∷ [])
      ∷ Unary Not (e 0)
      ∷ Cat (e 8 ∷ e 1 ∷ [])
      ∷ [];
}

-- bit by bit: past the width of a signed operand its top bit, past that of an unsigned one nothing
bitwise : (needed needy 3 1 ≡ bit 0 1 ∷ bit 1 0 ∷ []) × (needed needy 3 2 ≡ bit 1 0 ∷ [])
unfolding needy form needed
bitwise = (refl, refl)

-- every bit of both
whole : needed needy 4 0 ≡ bit 0 0 ∷ bit 0 1 ∷ bit 2 0 ∷ []
unfolding needy form needed
whole = refl

-- the whole choice, and one bit of each branch
chosen : needed needy 5 0 ≡ bit 2 0 ∷ bit 0 0 ∷ bit 1 0 ∷ []
unfolding needy form needed
chosen = refl

joined_and_cut : (needed needy 6 0 ≡ bit 1 0 ∷ []) × (needed needy 6 2 ≡ bit 0 1 ∷ []) × (needed needy 7 0 ≡ bit 0 0 ∷ [])
unfolding needy form needed
joined_and_cut = (refl, refl, refl)

-- a selection and an element need every bit of all
selected : (needed needy 8 0 ≡ bit 0 0 ∷ bit 0 1 ∷ bit 2 0 ∷ []) × (needed needy 9 0 ≡ bit 2 0 ∷ bit 0 0 ∷ bit 0 1 ∷ bit 1 0 ∷ [])
unfolding needy form needed
selected = (refl, refl)

turned : needed needy 10 1 ≡ bit 0 1 ∷ []
unfolding needy form needed
turned = refl

-- the offset of a target is needed by all of it
offset_needed : needed_indices needy 11 ≡ bit 2 0 ∷ []
unfolding needy form needed needed_indices
offset_needed = refl
