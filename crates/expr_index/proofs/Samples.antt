-- A small pool, worked out by hand.
use Rattle.std.specs.Prelude.{◌≡◌, refl, ℕ, true, false, List, [], ◌∷◌, map, pos, Some, None, codes}
use Rattle.amh_host.specs.declared.place.Place.{Place}
use Rattle.shape_rules.specs.Forms.{unsigned, signed_form}
use Rattle.shape_rules.specs.declared.op.Op.TheVariants.{Add, Sub}
use Rattle.design_ir.specs.declared.ids.ExprId.{ExprId}
use Rattle.design_ir.specs.declared.expr.Expr as expr
use Rattle.design_ir.specs.declared.expr.Expr.{Expr}
use Rattle.design_ir.specs.declared.expr.Expr.TheVariants.{Const, Binary, Mux, Slice, Cat, Part, Pick, Matches, Reset}
use Rattle.expr_index.specs.First.{first_number, has_reset}
use Rattle.expr_index.specs.Knows.{numbers_in}
use Rattle.expr_index.specs.Lists.{list_of, mixed}
use Rattle.expr_index.specs.Numbers.{number_now, renumbered}
use Rattle.expr_index.specs.Same.{same}

abbrev e : ℕ → ExprId
e n = record { 0 = n }

abbrev s : ℕ → Expr
s n = expr.TheVariants.Sig (record { 0 = n })

abbrev at : ℕ → Place
at line = record { line = line; col = 5 }

-- a, b, a + b, the reset, the reset ? a + b : a, b again, a + b over it, and the sum with the reset above it
abbrev pool : List Expr
pool = s 0 ∷ s 1 ∷ Binary Add (e 0) (e 1) ∷ Reset (codes "sync") (at 7) ∷ Mux (e 3) (e 2) (e 0) ∷ s 1 ∷ Binary Add (e 0) (e 5) ∷ Cat (e 6 ∷ e 4 ∷ []) ∷ []

-- ---- which expressions are the same

firsts : map (first_number pool) (s 1 ∷ Binary Add (e 0) (e 1) ∷ Binary Sub (e 0) (e 1) ∷ Binary Add (e 1) (e 0) ∷ Cat (e 6 ∷ e 4 ∷ []) ∷ Cat (e 4 ∷ e 6 ∷ []) ∷ s 2 ∷ []) ≡ Some 1 ∷ Some 2 ∷ None ∷ None ∷ Some 7 ∷ None ∷ None ∷ []
firsts = refl

-- a number of another shape, and a part with another step, are other expressions; so is a reset that stands elsewhere
others : same (Const (pos 3) (unsigned 4)) (Const (pos 3) (signed_form 4)) ≡ false
others = refl

steps : same (Part (e 0) (e 1) 4 1) (Part (e 0) (e 1) 4 4) ≡ false
steps = refl

places : map (same (Reset (codes "sync") (at 7))) (Reset (codes "sync") (at 7) ∷ Reset (codes "sync") (at 8) ∷ Reset (codes "fast") (at 7) ∷ []) ≡ true ∷ false ∷ false ∷ []
places = refl

-- ---- in which of them a reset stands, and in none past the last

resets : map (has_reset pool) (0 ∷ 1 ∷ 2 ∷ 3 ∷ 4 ∷ 5 ∷ 6 ∷ 7 ∷ 8 ∷ []) ≡ false ∷ false ∷ false ∷ true ∷ true ∷ false ∷ false ∷ true ∷ false ∷ []
resets = refl

-- ---- other numbers: the first five stay, the next two are 2 and 9, and past these they stay

now : map (number_now 5 (e 2 ∷ e 9 ∷ [])) (e 0 ∷ e 4 ∷ e 5 ∷ e 6 ∷ e 7 ∷ []) ≡ e 0 ∷ e 4 ∷ e 2 ∷ e 9 ∷ e 7 ∷ []
now = refl

anew : map (renumbered (number_now 5 (e 2 ∷ e 9 ∷ []))) (Cat (e 6 ∷ e 4 ∷ []) ∷ Pick (e 5) (e 0 ∷ e 6 ∷ []) ∷ Slice (e 6) 3 6 ∷ Part (e 5) (e 6) 5 6 ∷ s 5 ∷ []) ≡ Cat (e 9 ∷ e 4 ∷ []) ∷ Pick (e 2) (e 0 ∷ e 9 ∷ []) ∷ Slice (e 9) 3 6 ∷ Part (e 2) (e 9) 5 6 ∷ s 5 ∷ []
anew = refl

-- ---- lists: 2 * 2654435761 + 1 - 4294967291 = 1013904232, and that is 62312 past a multiple of 65536

list_of_b : list_of (s 1) ≡ 62312
unfolding list_of mixed
list_of_b = refl

of_b : numbers_in 62312 0 pool ≡ 1 ∷ 5 ∷ []
unfolding list_of mixed
of_b = refl
