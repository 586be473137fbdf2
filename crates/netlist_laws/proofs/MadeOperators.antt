-- Each operator's drawing makes the operator.
use Rattle.shape_rules.specs.declared.op.Op.{Op}
use Rattle.shape_rules.specs.declared.op.Op.TheVariants.{Add, Sub, Neg, Mul, Div, Mod, Abs, Not, And, Or, Xor, Eq, Ne, Lt, Le, Gt, Ge, Any, All, Parity, Shl, Shr}
use Rattle.netlist_laws.specs.Carried.{MakesOperator}
use Rattle.netlist_laws.proofs.Arithmetic.{makes_add, makes_sub, makes_neg, makes_mul}
use Rattle.netlist_laws.proofs.BitOperators.{makes_not, makes_and, makes_or, makes_xor, makes_ne}
use Rattle.netlist_laws.proofs.Comparisons.{makes_eq, makes_lt, makes_le, makes_gt, makes_ge}
use Rattle.netlist_laws.proofs.ReducedOperators.{makes_any, makes_all, makes_parity}
use Rattle.netlist_laws.proofs.ShiftOperators.{makes_shl, makes_shr}
use Rattle.netlist_laws.proofs.Divisions.{makes_div, makes_mod}
use Rattle.netlist_laws.proofs.Magnitudes.{makes_abs}

pub makes_operator : (o : Op) → MakesOperator o
makes_operator Add = makes_add
makes_operator Sub = makes_sub
makes_operator Neg = makes_neg
makes_operator Mul = makes_mul
makes_operator Div = makes_div
makes_operator Mod = makes_mod
makes_operator Abs = makes_abs
makes_operator Not = makes_not
makes_operator And = makes_and
makes_operator Or = makes_or
makes_operator Xor = makes_xor
makes_operator Eq = makes_eq
makes_operator Ne = makes_ne
makes_operator Lt = makes_lt
makes_operator Le = makes_le
makes_operator Gt = makes_gt
makes_operator Ge = makes_ge
makes_operator Any = makes_any
makes_operator All = makes_all
makes_operator Parity = makes_parity
makes_operator Shl = makes_shl
makes_operator Shr = makes_shr
