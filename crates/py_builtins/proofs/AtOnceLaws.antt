-- What is there at once is what the operators and the builtins give, at no cost.
use Rattle.std.proofs.Common.{◌≡◌, refl, ap, sym, List, [], ◌∷◌, Option, Some, None, Result, Ok, Err}
use Rattle.std.specs.Prelude.{ℤ, not}
use Rattle.std.specs.Ordering.{int_eq}
use Rattle.py_values.specs.declared.val.Val.{Val}
use Rattle.py_values.specs.declared.val.Val.TheVariants as val
use Rattle.py_values.specs.declared.val.ObjId.{ObjId}
use Rattle.py_values.specs.declared.val.ValueStop.{ValueStop}
use Rattle.py_values.specs.declared.val.NumberStop.{NumberStop}
use Rattle.py_values.specs.declared.op.PyOp.{PyOp}
use Rattle.py_values.specs.declared.op.PyOp.TheVariants as op
use Rattle.py_values.specs.declared.op.Builtin.TheVariants as of
use Rattle.py_heap.specs.Heaps.{Made, seen, row_at}
use Rattle.py_values.specs.Runs.{Run, free, after}
use Rattle.py_operators.specs.Sums.{plain}
use Rattle.py_heap.specs.Places.{placed}
use Rattle.py_operators.specs.Operators.{operate}
use Rattle.py_builtins.specs.Indices.{value_shown, item_of}
use Rattle.py_builtins.specs.Builtins.{builtin, settled}
use Rattle.py_values.specs.Numbers.{calculated}
use Rattle.py_builtins.specs.At_once.{kept_value, integers_give, integer_of, of_integers, integers_operated, item_at}

kept_free : (frozen own : Made) (r : Result Val NumberStop) (v : Val) → Some v ≡ kept_value r → after (free (plain r)) (λ x. free (placed (seen frozen own) x)) ≡ free (Ok (v, own))
kept_free frozen own (Ok x) v e = let q : v ≡ x = cc in ap (λ (z : Val). free (Ok (z, own))) (sym q)
kept_free frozen own (Err x) v e = cc

-- an operator on two integers
pub integers_free : (frozen own : Made) (o : PyOp) (m n : ℤ) (v : Val) → Some v ≡ integers_give o m n → operate frozen own o (val.Int m) (val.Int n) ≡ free (Ok (v, own))
integers_free frozen own op.Add m n v e = kept_free frozen own (calculated op.Add m n) v e
integers_free frozen own op.Sub m n v e = kept_free frozen own (calculated op.Sub m n) v e
integers_free frozen own op.Mul m n v e = kept_free frozen own (calculated op.Mul m n) v e
integers_free frozen own op.FloorDiv m n v e = kept_free frozen own (calculated op.FloorDiv m n) v e
integers_free frozen own op.Rem m n v e = kept_free frozen own (calculated op.Rem m n) v e
integers_free frozen own op.Pow m n v e = kept_free frozen own (calculated op.Pow m n) v e
integers_free frozen own op.Shl m n v e = kept_free frozen own (calculated op.Shl m n) v e
integers_free frozen own op.Shr m n v e = kept_free frozen own (calculated op.Shr m n) v e
integers_free frozen own op.And m n v e = kept_free frozen own (calculated op.And m n) v e
integers_free frozen own op.Or m n v e = kept_free frozen own (calculated op.Or m n) v e
integers_free frozen own op.Xor m n v e = kept_free frozen own (calculated op.Xor m n) v e
integers_free frozen own op.Neg m n v e = cc
integers_free frozen own op.Pos m n v e = cc
integers_free frozen own op.Invert m n v e = cc
integers_free frozen own op.Not m n v e = cc
integers_free frozen own op.Eq m n v e = let q : v ≡ val.Bool (int_eq m n) = cc in ap (λ (z : Val). free (Ok (z, own))) (sym q)
integers_free frozen own op.Ne m n v e = let q : v ≡ val.Bool (not (int_eq m n)) = cc in ap (λ (z : Val). free (Ok (z, own))) (sym q)
integers_free frozen own op.Lt m n v e = kept_free frozen own (calculated op.Lt m n) v e
integers_free frozen own op.Le m n v e = kept_free frozen own (calculated op.Le m n) v e
integers_free frozen own op.Gt m n v e = kept_free frozen own (calculated op.Gt m n) v e
integers_free frozen own op.Ge m n v e = kept_free frozen own (calculated op.Ge m n) v e
integers_free frozen own op.In m n v e = cc
integers_free frozen own op.NotIn m n v e = cc
integers_free frozen own op.Is m n v e = cc
integers_free frozen own op.IsNot m n v e = cc

is_integer : (a : Val) (m : ℤ) → Some m ≡ integer_of a → a ≡ val.Int m
is_integer val.None m e = cc
is_integer (val.Bool x) m e = cc
is_integer (val.Int n) m e = let q : m ≡ n = cc in ap (λ (z : ℤ). val.Int z) (sym q)
is_integer (val.Str x) m e = cc
is_integer (val.Time x) m e = cc
is_integer (val.List x) m e = cc
is_integer (val.Tuple x) m e = cc
is_integer (val.Dict x) m e = cc
is_integer (val.Range x) m e = cc
is_integer (val.Func x) m e = cc
is_integer (val.Class x) m e = cc
is_integer (val.Object x) m e = cc
is_integer (val.Hw x) m e = cc

-- two operands of which an operator gives a value at once
pub record AreIntegers (o : PyOp) (a b v : Val) : Type 0 where
  pub m : ℤ
  pub n : ℤ
  pub left : a ≡ val.Int m
  pub right : b ≡ val.Int n
  pub gives : Some v ≡ integers_give o m n

are_integers : (o : PyOp) (a b v : Val) (m n : Option ℤ) → m ≡ integer_of a → n ≡ integer_of b → Some v ≡ of_integers o m n → AreIntegers o a b v
are_integers o a b v None n p q e = cc
are_integers o a b v (Some m) None p q e = cc
are_integers o a b v (Some m) (Some n) p q e = record { m = m; n = n; left = is_integer a m p; right = is_integer b n q; gives = e }

pub integers_are : (o : PyOp) (a b v : Val) → Some v ≡ integers_operated o a b → AreIntegers o a b v
integers_are o a b v e = are_integers o a b v (integer_of a) (integer_of b) refl refl e

-- ---- an item at an index

item_free : (frozen own : Made) (o : Option Val) (v : Val) → Some v ≡ o → settled (seen frozen own) (value_shown o) ≡ Ok (v, own)
item_free frozen own None v e = cc
item_free frozen own (Some x) v e = let q : v ≡ x = cc in ap (λ (z : Val). Ok (z, own)) (sym q)

list_item_free : (frozen own : Made) (o : ObjId) (i v : Val) → Some v ≡ item_at (seen frozen own) (val.List o) i → builtin frozen own of.Index (val.List o ∷ i ∷ []) ≡ Ok (v, own)
list_item_free frozen own o val.None v e = cc
list_item_free frozen own o (val.Bool x) v e = cc
list_item_free frozen own o (val.Int n) v e = item_free frozen own (item_of (row_at (seen frozen own) o.0) n) v e
list_item_free frozen own o (val.Str x) v e = cc
list_item_free frozen own o (val.Time x) v e = cc
list_item_free frozen own o (val.List x) v e = cc
list_item_free frozen own o (val.Tuple x) v e = cc
list_item_free frozen own o (val.Dict x) v e = cc
list_item_free frozen own o (val.Range x) v e = cc
list_item_free frozen own o (val.Func x) v e = cc
list_item_free frozen own o (val.Class x) v e = cc
list_item_free frozen own o (val.Object x) v e = cc
list_item_free frozen own o (val.Hw x) v e = cc

tuple_item_free : (frozen own : Made) (o : ObjId) (i v : Val) → Some v ≡ item_at (seen frozen own) (val.Tuple o) i → builtin frozen own of.Index (val.Tuple o ∷ i ∷ []) ≡ Ok (v, own)
tuple_item_free frozen own o val.None v e = cc
tuple_item_free frozen own o (val.Bool x) v e = cc
tuple_item_free frozen own o (val.Int n) v e = item_free frozen own (item_of (row_at (seen frozen own) o.0) n) v e
tuple_item_free frozen own o (val.Str x) v e = cc
tuple_item_free frozen own o (val.Time x) v e = cc
tuple_item_free frozen own o (val.List x) v e = cc
tuple_item_free frozen own o (val.Tuple x) v e = cc
tuple_item_free frozen own o (val.Dict x) v e = cc
tuple_item_free frozen own o (val.Range x) v e = cc
tuple_item_free frozen own o (val.Func x) v e = cc
tuple_item_free frozen own o (val.Class x) v e = cc
tuple_item_free frozen own o (val.Object x) v e = cc
tuple_item_free frozen own o (val.Hw x) v e = cc

pub item_at_free : (frozen own : Made) (a i v : Val) → Some v ≡ item_at (seen frozen own) a i → builtin frozen own of.Index (a ∷ i ∷ []) ≡ Ok (v, own)
item_at_free frozen own val.None i v e = cc
item_at_free frozen own (val.Bool x) i v e = cc
item_at_free frozen own (val.Int x) i v e = cc
item_at_free frozen own (val.Str x) i v e = cc
item_at_free frozen own (val.Time x) i v e = cc
item_at_free frozen own (val.List o) i v e = list_item_free frozen own o i v e
item_at_free frozen own (val.Tuple o) i v e = tuple_item_free frozen own o i v e
item_at_free frozen own (val.Dict x) i v e = cc
item_at_free frozen own (val.Range x) i v e = cc
item_at_free frozen own (val.Func x) i v e = cc
item_at_free frozen own (val.Class x) i v e = cc
item_at_free frozen own (val.Object x) i v e = cc
item_at_free frozen own (val.Hw x) i v e = cc
