-- When two expressions are the same: they are of one kind, and each part of one is that of the other.
-- (Internal: no rule of the language.)
use Rattle.std.specs.Prelude.{ℕ, ◌==◌, ◌&&◌, Bool, true, false, List, [], ◌∷◌}
use Rattle.std.specs.Ordering.{int_eq}
use Rattle.lists.specs.Texts.{text_eq}
use Rattle.amh_host.specs.declared.place.Place.{Place}
use Rattle.shape_rules.specs.Forms.{Form}
use Rattle.shape_rules.specs.declared.op.Op.{Op}
use Rattle.shape_rules.specs.declared.op.Op.TheVariants.{Add, Sub, Neg, Mul, Div, Mod, Abs, Not, And, Or, Xor, Eq, Ne, Lt, Le, Gt, Ge, Any, All, Parity, Shl, Shr}
use Rattle.design_ir.specs.declared.ids.ExprId.{ExprId}
use Rattle.design_ir.specs.declared.expr.Pattern.{Pattern}
use Rattle.design_ir.specs.declared.expr.Expr as expr
use Rattle.design_ir.specs.declared.expr.Expr.{Expr}
use Rattle.design_ir.specs.declared.expr.Expr.TheVariants.{Const, Unary, Binary, Mux, Slice, Cat, Part, Pick, Cast, Matches, Reset}

-- ---- parts

-- each operator has a number of its own
abbrev pub op_number : Op → ℕ
op_number Add = 0
op_number Sub = 1
op_number Neg = 2
op_number Mul = 3
op_number Div = 4
op_number Mod = 5
op_number Abs = 6
op_number Not = 7
op_number And = 8
op_number Or = 9
op_number Xor = 10
op_number Eq = 11
op_number Ne = 12
op_number Lt = 13
op_number Le = 14
op_number Gt = 15
op_number Ge = 16
op_number Any = 17
op_number All = 18
op_number Parity = 19
op_number Shl = 20
op_number Shr = 21

abbrev pub same_op : Op → Op → Bool
same_op a b = op_number a == op_number b

abbrev pub same_bool : Bool → Bool → Bool
same_bool true b = b
same_bool false true = false
same_bool false false = true

abbrev pub same_form : Form → Form → Bool
same_form a b = (a.width == b.width) && same_bool a.signed b.signed

abbrev pub same_place : Place → Place → Bool
same_place a b = (a.line == b.line) && (a.col == b.col)

abbrev pub same_ids : List ExprId → List ExprId → Bool
same_ids [] [] = true
same_ids (a ∷ xs) (b ∷ ys) = (a.0 == b.0) && same_ids xs ys
same_ids xs ys = false

abbrev pub same_pattern : Pattern → Pattern → Bool
same_pattern p q = (p.mask == q.mask) && (p.bits == q.bits)

abbrev pub same_patterns : List Pattern → List Pattern → Bool
same_patterns [] [] = true
same_patterns (p ∷ ps) (q ∷ qs) = same_pattern p q && same_patterns ps qs
same_patterns ps qs = false

-- ---- expressions

abbrev pub same : Expr → Expr → Bool
same (Const n s) (Const m t) = int_eq n m && same_form s t
same (expr.TheVariants.Sig s) (expr.TheVariants.Sig t) = s.0 == t.0
same (Unary op a) (Unary po b) = same_op op po && (a.0 == b.0)
same (Binary op a b) (Binary po c d) = same_op op po && ((a.0 == c.0) && (b.0 == d.0))
same (Mux s a b) (Mux t c d) = (s.0 == t.0) && ((a.0 == c.0) && (b.0 == d.0))
same (Slice a low width) (Slice b from size) = (a.0 == b.0) && ((low == from) && (width == size))
same (Cat xs) (Cat ys) = same_ids xs ys
same (Part a offset width stride) (Part b place size step) = (a.0 == b.0) && ((offset.0 == place.0) && ((width == size) && (stride == step)))
same (Pick a xs) (Pick b ys) = (a.0 == b.0) && same_ids xs ys
same (Cast a signed) (Cast b minus) = (a.0 == b.0) && same_bool signed minus
same (Matches a ps) (Matches b qs) = (a.0 == b.0) && same_patterns ps qs
same (Reset name place) (Reset other there) = text_eq name other && same_place place there
same a b = false
