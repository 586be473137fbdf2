-- The table of operators: how many operands each has, and the cell that makes it.
-- Internal: no rule of the language.
use Rattle.std.specs.Prelude.{◌≡◌, ℕ, ◌==◌, List, [], ◌∷◌, filter}
use Rattle.shape_rules.specs.declared.op.Op.{Op}
use Rattle.shape_rules.specs.declared.op.Op.TheVariants.{Add, Sub, Neg, Mul, Div, Mod, Abs, Not, And, Or, Xor, Eq, Ne, Lt, Le, Gt, Ge, Any, All, Parity, Shl, Shr}
use Rattle.shape_rules.specs.declared.cell.CellKind.{CellKind}
use Rattle.shape_rules.specs.declared.cell.CellKind as kind
use Rattle.shape_rules.specs.declared.table.OpRow.{OpRow}

-- one operand, or two
abbrev pub operand_count : Op → ℕ
operand_count Neg = 1
operand_count Abs = 1
operand_count Not = 1
operand_count Any = 1
operand_count All = 1
operand_count Parity = 1
operand_count _ = 2

-- the one cell that makes an operator, or that it takes several: an opposite is 0 less the operand, `>` is `<` with its
-- operands in the other order, and which cell shifts down depends on the sign
abbrev pub cell_of : Op → CellKind
cell_of Add = kind.TheVariants.Add
cell_of Sub = kind.TheVariants.Sub
cell_of Neg = kind.TheVariants.Sub
cell_of Mul = kind.TheVariants.Mul
cell_of Div = kind.TheVariants.Many
cell_of Mod = kind.TheVariants.Many
cell_of Abs = kind.TheVariants.Many
cell_of Not = kind.TheVariants.Not
cell_of And = kind.TheVariants.And
cell_of Or = kind.TheVariants.Or
cell_of Xor = kind.TheVariants.Xor
cell_of Eq = kind.TheVariants.Eq
cell_of Ne = kind.TheVariants.Many
cell_of Lt = kind.TheVariants.Lt
cell_of Le = kind.TheVariants.Le
cell_of Gt = kind.TheVariants.Lt
cell_of Ge = kind.TheVariants.Le
cell_of Any = kind.TheVariants.ReduceOr
cell_of All = kind.TheVariants.ReduceAnd
cell_of Parity = kind.TheVariants.ReduceXor
cell_of Shl = kind.TheVariants.Shl
cell_of Shr = kind.TheVariants.Many

abbrev pub row_of : Op → OpRow
row_of op = record { op = op; cell = cell_of op; operands = operand_count op }

-- a number for each operator, by which two are compared
abbrev pub op_number : Op → ℕ
op_number Add = 0
op_number Sub = 1
op_number Neg = 2
op_number Mul = 3
op_number Div = 4
op_number Mod = 5
op_number Abs = 6
op_number Not = 7
op_number And = 8
op_number Or = 9
op_number Xor = 10
op_number Eq = 11
op_number Ne = 12
op_number Lt = 13
op_number Le = 14
op_number Gt = 15
op_number Ge = 16
op_number Any = 17
op_number All = 18
op_number Parity = 19
op_number Shl = 20
op_number Shr = 21

abbrev pub rows_for : Op → List OpRow → List OpRow
rows_for op rows = filter (λ row. op_number row.op == op_number op) rows

-- each operator has exactly one row, its own
abbrev pub IsOperatorTable : List OpRow → Type 0
IsOperatorTable rows = (op : Op) → rows_for op rows ≡ row_of op ∷ []
