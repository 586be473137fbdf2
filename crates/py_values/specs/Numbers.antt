-- Operators on integers and booleans, as in Python.
-- Source: Python reference 6.5 to 6.10, operators on integers; the range of integers: own rule (docs/RULES.md).
use Rattle.std.specs.Prelude.{ℕ, zero, suc, ◌%◌, ◌^◌, ◌==◌, ◌&&◌, ◌||◌, nat_lt, not, Bool, true, false, if◌then◌else◌, ℤ, pos, negsuc, neg_ℤ, ◌+ℤ◌, ◌-ℤ◌, ◌*ℤ◌, int_lt, unsigned_abs, Option, Some, None, Result, Ok, Err}
use Rattle.std.specs.Ordering.{int_eq}
use Rattle.amh_bits.specs.Integers.{with_sign, sign_of, int_and, int_or, int_xor, int_not, floor_quotient, floor_div, floor_rem}
use Rattle.py_values.specs.declared.val.Val.{Val}
use Rattle.py_values.specs.declared.val.Val.TheVariants as val
use Rattle.py_values.specs.declared.val.NumberStop.{NumberStop}
use Rattle.py_values.specs.declared.val.NumberStop.TheVariants.{Raised, Width}
use Rattle.py_values.specs.declared.op.PyOp.{PyOp}
use Rattle.py_values.specs.declared.op.PyOp.TheVariants.{Add, Sub, Mul, FloorDiv, Rem, Pow, Shl, Shr, And, Or, Xor, Neg, Pos, Invert, Lt, Le, Gt, Ge}

-- a boolean is the number 0 or 1
abbrev pub bit_number : Bool → ℤ
bit_number false = pos 0
bit_number true = pos 1

abbrev pub number_of : Val → Option ℤ
number_of (val.Bool b) = Some (bit_number b)
number_of (val.Int n) = Some n
number_of _ = None

-- the integers from -2^127 to 2^128 - 1
abbrev pub is_kept : ℤ → Bool
is_kept (pos n) = nat_lt n (2 ^ 128)
is_kept (negsuc n) = nat_lt n (2 ^ 127)

abbrev pub kept : ℤ → Result Val NumberStop
kept n = if is_kept n then Ok (val.Int n) else Err Width

abbrev pub is_zero : ℤ → Bool
is_zero (pos zero) = true
is_zero (pos (suc n)) = false
is_zero (negsuc n) = false

-- a to the power of n: minus where a is negative and n is odd
abbrev pub int_pow : ℤ → ℕ → ℤ
int_pow a n = with_sign (sign_of a && (n % 2 == 1)) (unsigned_abs a ^ n)

abbrev pub powered : ℤ → ℤ → Result Val NumberStop
powered a (pos n) = kept (int_pow a n)
powered a (negsuc n) = Err Raised

abbrev pub shifted_up : ℤ → ℤ → Result Val NumberStop
shifted_up a (pos n) = kept (a *ℤ pos (2 ^ n))
shifted_up a (negsuc n) = Err Raised

abbrev pub shifted_down : ℤ → ℤ → Result Val NumberStop
shifted_down a (pos n) = Ok (val.Int (floor_quotient a (2 ^ n)))
shifted_down a (negsuc n) = Err Raised

abbrev pub quotient : ℤ → ℤ → Result Val NumberStop
quotient a b = if is_zero b then Err Raised else kept (floor_div a b)

abbrev pub remainder : ℤ → ℤ → Result Val NumberStop
remainder a b = if is_zero b then Err Raised else Ok (val.Int (floor_rem a b))

abbrev pub answer_of : Bool → Result Val NumberStop
answer_of b = Ok (val.Bool b)

-- an operator on two integers; equality is not among them, since it is defined on all values
abbrev pub calculated : PyOp → ℤ → ℤ → Result Val NumberStop
calculated Add a b = kept (a +ℤ b)
calculated Sub a b = kept (a -ℤ b)
calculated Mul a b = kept (a *ℤ b)
calculated FloorDiv a b = quotient a b
calculated Rem a b = remainder a b
calculated Pow a b = powered a b
calculated Shl a b = shifted_up a b
calculated Shr a b = shifted_down a b
calculated And a b = kept (int_and a b)
calculated Or a b = kept (int_or a b)
calculated Xor a b = kept (int_xor a b)
calculated Lt a b = answer_of (int_lt a b)
calculated Le a b = answer_of (not (int_lt b a))
calculated Gt a b = answer_of (int_lt b a)
calculated Ge a b = answer_of (not (int_lt a b))
calculated _ a b = Err Raised

-- an operator on one integer
abbrev pub turned : PyOp → ℤ → Result Val NumberStop
turned Neg a = kept (pos 0 -ℤ a)
turned Pos a = Ok (val.Int a)
turned Invert a = kept (int_not a)
turned _ a = Err Raised

-- what is done with two numbers, where both are
abbrev pub with_both : {A : Type 0} → Option ℤ → Option ℤ → (ℤ → ℤ → Result A NumberStop) → Result A NumberStop
with_both (Some m) (Some n) f = f m n
with_both (Some m) None f = Err Raised
with_both None y f = Err Raised

abbrev pub with_one : {A : Type 0} → Option ℤ → (ℤ → Result A NumberStop) → Result A NumberStop
with_one (Some m) f = f m
with_one None f = Err Raised

-- `&`, `|` and `^` of two booleans give a boolean
abbrev pub with_bits : PyOp → Bool → Bool → Result Val NumberStop
with_bits And x y = answer_of (x && y)
with_bits Or x y = answer_of (x || y)
with_bits Xor x y = answer_of ((x && not y) || (not x && y))
with_bits op x y = calculated op (bit_number x) (bit_number y)

abbrev pub with_bit : PyOp → Bool → Val → Result Val NumberStop
with_bit op x (val.Bool y) = with_bits op x y
with_bit op x b = with_one (number_of b) (λ n. calculated op (bit_number x) n)

abbrev pub on_numbers : PyOp → Val → Val → Result Val NumberStop
on_numbers op (val.Bool x) b = with_bit op x b
on_numbers op a b = with_both (number_of a) (number_of b) (calculated op)

abbrev pub on_number : PyOp → Val → Result Val NumberStop
on_number op a = with_one (number_of a) (turned op)
