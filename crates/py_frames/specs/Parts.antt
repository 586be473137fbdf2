-- The parts of a node by their number, as a walk comes to them one after the other.
-- Internal: no rule of the language.
use Rattle.std.specs.Prelude.{ℕ, zero, suc}
use Rattle.amh_host.specs.declared.place.Place.{Place}
use Rattle.py_tree.specs.declared.expr.Operator.{Operator}
use Rattle.py_tree.specs.declared.expr.Operator.TheVariants as sign
use Rattle.py_tree.specs.declared.expr.Sign.{Sign}
use Rattle.py_tree.specs.declared.expr.Sign.TheVariants as prefix
use Rattle.py_tree.specs.Tree.{Tree, Name, Number, Decimal_time, Quotient, Str, Format, Constant_value, Tuple, Display, Dict, ListOf, DictOf, Trailed, Await, Power, Unary, Not, Binary, Compare, Boolean, Choice, Trees, none, some, Links, no_link, link, Pairs, no_pair, pair, Trailers, no_trailer, trailer, Arguments, no_argument, argument}
use Rattle.py_tree.specs.Steps.{Steps, last, next, Branches, no_branch, branch}
use Rattle.py_values.specs.declared.op.PyOp.{PyOp}
use Rattle.py_values.specs.declared.op.PyOp.TheVariants as op

-- the operator of a sign between two operands; `and` and `or` are none, and read as `==`
abbrev pub operator_of : Operator → PyOp
operator_of sign.Mul = op.Mul
operator_of sign.FloorDiv = op.FloorDiv
operator_of sign.Mod = op.Rem
operator_of sign.Add = op.Add
operator_of sign.Sub = op.Sub
operator_of sign.ShiftLeft = op.Shl
operator_of sign.ShiftRight = op.Shr
operator_of sign.BitAnd = op.And
operator_of sign.BitXor = op.Xor
operator_of sign.BitOr = op.Or
operator_of sign.Less = op.Lt
operator_of sign.LessEqual = op.Le
operator_of sign.Greater = op.Gt
operator_of sign.GreaterEqual = op.Ge
operator_of sign.Equal = op.Eq
operator_of sign.NotEqual = op.Ne
operator_of sign.In = op.In
operator_of sign.NotIn = op.NotIn
operator_of sign.Is = op.Is
operator_of sign.IsNot = op.IsNot
operator_of sign.And = op.Eq
operator_of sign.Or = op.Eq

-- the operator of a sign before one operand
abbrev pub prefix_of : Sign → PyOp
prefix_of prefix.Minus = op.Neg
prefix_of prefix.Plus = op.Pos
prefix_of prefix.Invert = op.Invert

-- the place of a node
abbrev pub place_of : Tree → Place
place_of (Name p n) = p
place_of (Number p n) = p
place_of (Decimal_time p d) = p
place_of (Quotient p n a) = p
place_of (Str p s) = p
place_of (Format p s) = p
place_of (Constant_value p c) = p
place_of (Tuple p ts) = p
place_of (Display p ts) = p
place_of (Dict p ps) = p
place_of (ListOf p t c) = p
place_of (DictOf p a b c) = p
place_of (Trailed p t ts) = p
place_of (Await p t) = p
place_of (Power p a b) = p
place_of (Unary p s t) = p
place_of (Not p t) = p
place_of (Binary p t ls) = p
place_of (Compare p t ls) = p
place_of (Boolean p t ls) = p
place_of (Choice p a b c) = p

-- ---- without the first so many

abbrev pub trees_from : ℕ → Trees → Trees
trees_from zero ts = ts
trees_from (suc n) none = none
trees_from (suc n) (some t ts) = trees_from n ts

abbrev pub links_from : ℕ → Links → Links
links_from zero ls = ls
links_from (suc n) no_link = no_link
links_from (suc n) (link o t ls) = links_from n ls

abbrev pub pairs_from : ℕ → Pairs → Pairs
pairs_from zero ps = ps
pairs_from (suc n) no_pair = no_pair
pairs_from (suc n) (pair a b ps) = pairs_from n ps

abbrev pub trailers_from : ℕ → Trailers → Trailers
trailers_from zero ts = ts
trailers_from (suc n) no_trailer = no_trailer
trailers_from (suc n) (trailer t ts) = trailers_from n ts

abbrev pub arguments_from : ℕ → Arguments → Arguments
arguments_from zero gs = gs
arguments_from (suc n) no_argument = no_argument
arguments_from (suc n) (argument g gs) = arguments_from n gs

abbrev pub steps_from : ℕ → Steps → Steps
steps_from zero ss = ss
steps_from (suc n) last = last
steps_from (suc n) (next s ss) = steps_from n ss

abbrev pub branches_from : ℕ → Branches → Branches
branches_from zero bs = bs
branches_from (suc n) no_branch = no_branch
branches_from (suc n) (branch t b bs) = branches_from n bs

-- ---- how many

abbrev pub tree_count : Trees → ℕ
tree_count none = zero
tree_count (some t ts) = suc (tree_count ts)

abbrev pub link_count : Links → ℕ
link_count no_link = zero
link_count (link o t ls) = suc (link_count ls)

abbrev pub trailer_count : Trailers → ℕ
trailer_count no_trailer = zero
trailer_count (trailer t ts) = suc (trailer_count ts)
