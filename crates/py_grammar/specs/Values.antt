-- What the texts of signs and keywords stand for.
-- Source: Python reference 6.17, Operator precedence; for comparisons 6.10.
use Rattle.std.specs.Prelude.{ℕ, Bool, true, false, zero, suc, if◌then◌else◌, Option, Some, None, List, [], ◌∷◌, codes}
use Rattle.lists.specs.Texts.{text_eq}
use Rattle.py_tree.specs.declared.expr.Constant.{Constant}
use Rattle.py_tree.specs.declared.expr.Constant.TheVariants.{Nothing, True, False}
use Rattle.py_tree.specs.declared.expr.Sign.{Sign}
use Rattle.py_tree.specs.declared.expr.Sign.TheVariants.{Minus, Plus, Invert}
use Rattle.py_tree.specs.declared.expr.Operator.{Operator}
use Rattle.py_tree.specs.declared.expr.Operator.TheVariants as op

abbrev pub constant_of : List ℕ → Option Constant
constant_of text =
    if text_eq text (codes "None") then Some Nothing else
    if text_eq text (codes "True") then Some True else
    if text_eq text (codes "False") then Some False else None

abbrev pub unary_of : List ℕ → Option Sign
unary_of text =
    if text_eq text (codes "-") then Some Minus else
    if text_eq text (codes "+") then Some Plus else
    if text_eq text (codes "~") then Some Invert else None

abbrev pub term_of : List ℕ → Option Operator
term_of text =
    if text_eq text (codes "*") then Some op.Mul else
    if text_eq text (codes "//") then Some op.FloorDiv else
    if text_eq text (codes "%") then Some op.Mod else None

abbrev pub sum_of : List ℕ → Option Operator
sum_of text =
    if text_eq text (codes "+") then Some op.Add else
    if text_eq text (codes "-") then Some op.Sub else None

abbrev pub shift_of : List ℕ → Option Operator
shift_of text =
    if text_eq text (codes "<<") then Some op.ShiftLeft else
    if text_eq text (codes ">>") then Some op.ShiftRight else None

abbrev pub comparison_of : List ℕ → Option Operator
comparison_of text =
    if text_eq text (codes "<") then Some op.Less else
    if text_eq text (codes "<=") then Some op.LessEqual else
    if text_eq text (codes ">") then Some op.Greater else
    if text_eq text (codes ">=") then Some op.GreaterEqual else
    if text_eq text (codes "==") then Some op.Equal else
    if text_eq text (codes "!=") then Some op.NotEqual else None

-- one operator alone
abbrev pub only : List ℕ → Operator → List ℕ → Option Operator
only this operator text = if text_eq text this then Some operator else None

-- The levels of operators that are one sign, the tightest first: `* // %`, `+ -`, `<< >>`, `&`, `^`, `|`,
-- comparisons, and then `and` and `or`, which are no signs.
abbrev pub sign_at : ℕ → List ℕ → Option Operator
sign_at zero = term_of
sign_at (suc zero) = sum_of
sign_at (suc (suc zero)) = shift_of
sign_at (suc (suc (suc zero))) = only (codes "&") op.BitAnd
sign_at (suc (suc (suc (suc zero)))) = only (codes "^") op.BitXor
sign_at (suc (suc (suc (suc (suc zero))))) = only (codes "|") op.BitOr
sign_at (suc (suc (suc (suc (suc (suc zero)))))) = comparison_of
sign_at _ = λ text. None

-- those that are one keyword
abbrev pub key_at : ℕ → List ℕ → Option Operator
key_at (suc (suc (suc (suc (suc (suc zero)))))) = only (codes "in") op.In
key_at (suc (suc (suc (suc (suc (suc (suc zero))))))) = only (codes "and") op.And
key_at (suc (suc (suc (suc (suc (suc (suc (suc zero)))))))) = only (codes "or") op.Or
key_at _ = λ text. None
