-- The bits at which small targets aim, and the places where they stand.
use Rattle.std.specs.Prelude.{◌≡◌, refl, ℕ, List, [], ◌∷◌, map, pos, Option, Some, None}
use Rattle.std.specs.List.{filter, range_with_len}
use Rattle.shape_rules.specs.Forms.{unsigned}
use Rattle.design_ir.specs.declared.expr.Expr.TheVariants.{Const, Slice, Cat, Part, Pick}
use Rattle.design_ir.specs.Pools.{Pooled}
use Rattle.design_ir.specs.Values.{form}
use Rattle.design_ir.specs.Targets.{Bit, Aim, stands_at, fixed_place, numbers, aims}
use Rattle.design_ir.proofs.SanityParts.{signal, e, s, bit}

-- a bit, its place where that is fixed, and all places below 8 where it stands
pub record Seen : Type 0 where
  bit : Bit
  fixed : Option ℕ
  places : List ℕ

abbrev at : ℕ → ℕ → ℕ → Seen
at sig index place = record { bit = bit sig index; fixed = Some place; places = place ∷ [] }

abbrev among : ℕ → ℕ → List ℕ → Seen
among sig index places = record { bit = bit sig index; fixed = None; places = places }

abbrev seen : Aim → Seen
seen x = record { bit = x.bit; fixed = fixed_place x.spot; places = filter (stands_at x.spot) (range_with_len 0 8) }

-- a = unsigned(2), b = unsigned(2), i = unsigned(1), w = unsigned(4), j = unsigned(2)
aimed : Pooled
aimed = record {
  signals = signal (unsigned 2) (pos 0) ∷ signal (unsigned 2) (pos 0) ∷ signal (unsigned 1) (pos 0) ∷ signal (unsigned 4) (pos 0) ∷ signal (unsigned 2) (pos 0) ∷ [];
  exprs = s 0 ∷ s 1 ∷ s 2 ∷ s 3 ∷ s 4
      ∷ Const (pos 1) (unsigned 1)
      ∷ Pick (e 2) (e 0 ∷ e 1 ∷ [])
      ∷ Slice (e 6) 0 1
      ∷ Part (e 3) (e 2) 2 1
      ∷ Part (e 3) (e 5) 2 1
      ∷ Part (e 3) (e 4) 2 2
      ∷ Slice (e 8) 1 1
      ∷ Cat (e 0 ∷ e 0 ∷ [])
      ∷ Slice (e 0) 1 0
      ∷ Pick (e 5) (e 0 ∷ e 1 ∷ e 3 ∷ [])
      ∷ Pick (e 4) (e 0 ∷ e 1 ∷ [])
      ∷ Cat (e 7 ∷ e 0 ∷ [])
      ∷ Part (e 0) (e 2) 2 0
      ∷ [];
}

-- bit 0 of an element: bit 0 of each item, and no other bit
first_of_item : map seen (aims aimed 7) ≡ among 0 0 (0 ∷ []) ∷ among 1 0 (0 ∷ []) ∷ []
unfolding aimed form numbers aims
first_of_item = refl

-- w.bit_select(i, 2), where i is 0 or 1: w[3] is never reached, and w[1] stands at place 1 or 0
selected : map seen (aims aimed 8) ≡ among 3 0 (0 ∷ []) ∷ among 3 1 (0 ∷ 1 ∷ []) ∷ among 3 2 (1 ∷ []) ∷ []
unfolding aimed form numbers aims
selected = refl

-- the same with the constant 1 for an offset
selected_by_constant : map seen (aims aimed 9) ≡ among 3 1 (0 ∷ []) ∷ among 3 2 (1 ∷ []) ∷ []
unfolding aimed form numbers aims
selected_by_constant = refl

-- w.word_select(j, 2): numbers past the end write nothing
word : map seen (aims aimed 10) ≡ among 3 0 (0 ∷ []) ∷ among 3 1 (1 ∷ []) ∷ among 3 2 (0 ∷ []) ∷ among 3 3 (1 ∷ []) ∷ []
unfolding aimed form numbers aims
word = refl

-- the upper half of w.bit_select(i, 2)
upper : map seen (aims aimed 11) ≡ among 3 1 (0 ∷ []) ∷ among 3 2 (0 ∷ []) ∷ []
unfolding aimed form numbers aims
upper = refl

-- a signal named twice, and a target of width 0
twice : map seen (aims aimed 12) ≡ at 0 0 0 ∷ at 0 1 1 ∷ at 0 0 2 ∷ at 0 1 3 ∷ []
unfolding aimed form numbers aims
twice = refl

nothing : map seen (aims aimed 13) ≡ []
unfolding aimed form numbers aims
nothing = refl

-- a constant index picks its own item alone, and an index past the end the last
own_item : map seen (aims aimed 14) ≡ among 1 0 (0 ∷ []) ∷ among 1 1 (1 ∷ []) ∷ []
unfolding aimed form numbers aims
own_item = refl

past_the_end : map seen (aims aimed 15) ≡ among 0 0 (0 ∷ []) ∷ among 0 1 (1 ∷ []) ∷ among 1 0 (0 ∷ []) ∷ among 1 1 (1 ∷ []) ∷ []
unfolding aimed form numbers aims
past_the_end = refl

-- a join of what is chosen and what is fixed
joined : map seen (aims aimed 16) ≡ among 0 0 (0 ∷ []) ∷ among 1 0 (0 ∷ []) ∷ at 0 0 1 ∷ at 0 1 2 ∷ []
unfolding aimed form numbers aims
joined = refl

-- with stride 0 each number chooses the same bits
standing_still : map seen (aims aimed 17) ≡ among 0 0 (0 ∷ []) ∷ among 0 1 (1 ∷ []) ∷ []
unfolding aimed form numbers aims
standing_still = refl
