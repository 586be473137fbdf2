-- In which of the lists the number of an expression stands. It follows from the expression alone; which one it is tells how long a search
-- takes, and nothing else. (Internal: no rule of the language.)
use Rattle.std.specs.Prelude.{ℕ, ◌+◌, ◌*◌, ◌%◌, List, [], ◌∷◌, ℤ, unsigned_abs}
use Rattle.design_ir.specs.declared.ids.ExprId.{ExprId}
use Rattle.design_ir.specs.declared.expr.Expr as expr
use Rattle.design_ir.specs.declared.expr.Expr.{Expr}
use Rattle.design_ir.specs.declared.expr.Expr.TheVariants.{Const, Unary, Binary, Mux, Slice, Cat, Part, Pick, Cast, Matches, Reset}

-- so many lists
abbrev pub list_count : ℕ
list_count = 65536

-- one number more, below a prime that is just below 2^32
unfoldable pub mixed : ℕ → ℕ → ℕ
mixed sum n = (sum * 2654435761 + n) % 4294967291

abbrev pub mixed_ids : ℕ → List ExprId → ℕ
mixed_ids sum [] = sum
mixed_ids sum (e ∷ es) = mixed_ids (mixed sum e.0) es

-- the low bits of a size
abbrev pub low_bits : ℤ → ℕ
low_bits n = unsigned_abs n % 4294967296

-- a mix of what an expression is made of
abbrev pub mix_of : Expr → ℕ
mix_of (Const n s) = mixed 1 (low_bits n)
mix_of (expr.TheVariants.Sig s) = mixed 2 s.0
mix_of (Unary op a) = mixed 3 a.0
mix_of (Binary op a b) = mixed (mixed 4 a.0) b.0
mix_of (Mux s a b) = mixed (mixed (mixed 5 s.0) a.0) b.0
mix_of (Slice a low width) = mixed (mixed (mixed 6 a.0) low) width
mix_of (Cat es) = mixed_ids 7 es
mix_of (Part a offset width stride) = mixed (mixed 8 a.0) offset.0
mix_of (Pick index es) = mixed_ids (mixed 9 index.0) es
mix_of (Cast a signed) = mixed 10 a.0
mix_of (Matches a patterns) = mixed 11 a.0
mix_of (Reset domain place) = mixed 12 place.line

unfoldable pub list_of : Expr → ℕ
list_of e = mix_of e % list_count
