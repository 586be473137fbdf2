-- Expressions whose parts have other numbers. (Internal: no rule of the language.)
use Rattle.std.specs.Prelude.{ℕ, ◌-◌, nat_lt, Bool, true, false, if◌then◌else◌, List, map, slice_index_or}
use Rattle.design_ir.specs.declared.ids.ExprId.{ExprId}
use Rattle.design_ir.specs.declared.expr.Expr as expr
use Rattle.design_ir.specs.declared.expr.Expr.{Expr}
use Rattle.design_ir.specs.declared.expr.Expr.TheVariants.{Const, Unary, Binary, Mux, Slice, Cat, Part, Pick, Cast, Matches, Reset}

-- the number that an expression gets: those behind the first `before` are counted from there, and past the list it stays
abbrev pub number_now : ℕ → List ExprId → ExprId → ExprId
number_now before now e = if nat_lt e.0 before then e else slice_index_or now (e.0 - before) e

-- the expression over the numbers that its parts get
abbrev pub renumbered : (ExprId → ExprId) → Expr → Expr
renumbered to (Const n s) = Const n s
renumbered to (expr.TheVariants.Sig s) = expr.TheVariants.Sig s
renumbered to (Unary op a) = Unary op (to a)
renumbered to (Binary op a b) = Binary op (to a) (to b)
renumbered to (Mux s a b) = Mux (to s) (to a) (to b)
renumbered to (Slice a low width) = Slice (to a) low width
renumbered to (Cat es) = Cat (map to es)
renumbered to (Part a offset width stride) = Part (to a) (to offset) width stride
renumbered to (Pick index es) = Pick (to index) (map to es)
renumbered to (Cast a signed) = Cast (to a) signed
renumbered to (Matches a patterns) = Matches (to a) patterns
renumbered to (Reset domain place) = Reset domain place

-- ---- which expressions are made in which function: those that hold a list, and operators, choices and parts

abbrev pub has_list : Expr → Bool
has_list (Cat es) = true
has_list (Pick index es) = true
has_list (Matches a patterns) = true
has_list (Reset domain place) = true
has_list e = false

abbrev pub is_operator : Expr → Bool
is_operator (Unary op a) = true
is_operator (Binary op a b) = true
is_operator (Mux s a b) = true
is_operator (Part a offset width stride) = true
is_operator e = false
