-- Builtins that give a number, a boolean, a string or None.
-- Source: Python library reference, Built-in Functions; amaranth.utils; which arguments raise: own rule (docs/RULES.md).
use Rattle.std.specs.Prelude.{ℕ, zero, suc, ◌+◌, ◌^◌, nat_lt, max, Bool, true, false, if◌then◌else◌, List, [], ◌∷◌, ℤ, pos, negsuc, int_lt, unsigned_abs, Option, Some, None, is_some, unwrap_or, Result, Ok, Err, fold}
use Rattle.std.specs.List.{list_all, best_of}
use Rattle.amh_bits.specs.Decimals.{int_text}
use Rattle.py_values.specs.declared.val.Val.{Val}
use Rattle.py_values.specs.declared.val.Val.TheVariants as val
use Rattle.py_values.specs.declared.val.ValueStop.{ValueStop}
use Rattle.py_values.specs.declared.val.ValueStop.TheVariants as stop
use Rattle.py_values.specs.declared.val.NumberStop.{NumberStop}
use Rattle.py_values.specs.declared.val.NumberStop.TheVariants.{Raised, Width}
use Rattle.py_values.specs.declared.op.PyOp.TheVariants.{Add}
use Rattle.py_heap.specs.Heaps.{Made, Seen, text_at}
use Rattle.py_values.specs.Runs.{given}
use Rattle.py_values.specs.Numbers.{number_of, on_numbers}
use Rattle.py_operators.specs.Truths.{truth}
use Rattle.py_heap.specs.Places.{new_text}
use Rattle.py_operators.specs.Elements.{elements}

-- a value that is not new, or none
abbrev pub standing : Seen → Option Val → Result (Val × Made) ValueStop
standing s None = Err stop.Raised
standing s (Some v) = Ok (v, s.own)

-- the same, where a number may leave the range
abbrev pub counted : Seen → Result Val NumberStop → Result (Val × Made) ValueStop
counted s (Ok v) = Ok (v, s.own)
counted s (Err Raised) = Err stop.Raised
counted s (Err Width) = Err stop.Width

-- a value of a number, where there is one
abbrev pub of_number : (ℤ → Option Val) → Option ℤ → Option Val
of_number f None = None
of_number f (Some n) = f n

abbrev pub only : List Val → Option Val
only (v ∷ []) = Some v
only _ = None

-- the number that the only argument is
abbrev pub only_number : List Val → Option ℤ
only_number (v ∷ []) = number_of v
only_number _ = None

-- ---- `int`, `str`, `bool`, `abs`, `print`

abbrev pub int_of : Seen → List Val → Result (Val × Made) ValueStop
int_of s args = standing s (of_number (λ n. Some (val.Int n)) (only_number args))

-- a boolean has no text here; a string is made again
abbrev pub text_made : Seen → Option Val → Result (Val × Made) ValueStop
text_made s (Some (val.Int n)) = new_text s (int_text n)
text_made s (Some (val.Str x)) = new_text s (text_at s x.0)
text_made s _ = Err stop.Raised

-- the text that a hole of a string shows for a value
abbrev pub shown_text : Seen → Val → Option (List ℕ)
shown_text s (val.Int n) = Some (int_text n)
shown_text s (val.Str x) = Some (text_at s x.0)
shown_text s _ = None

abbrev pub str_of : Seen → List Val → Result (Val × Made) ValueStop
str_of s args = text_made s (only args)

abbrev pub as_bool : Option Bool → Option Val
as_bool None = None
as_bool (Some b) = Some (val.Bool b)

abbrev pub bool_of : Seen → List Val → Result (Val × Made) ValueStop
bool_of s [] = Ok (val.Bool false, s.own)
bool_of s (v ∷ []) = standing s (as_bool (truth s v))
bool_of s _ = Err stop.Raised

abbrev pub magnitude_of : Seen → List Val → Result (Val × Made) ValueStop
magnitude_of s args = standing s (of_number (λ n. Some (val.Int (pos (unsigned_abs n)))) (only_number args))

abbrev pub nothing_printed : Seen → List Val → Result (Val × Made) ValueStop
nothing_printed s args = Ok (val.None, s.own)

-- ---- `ceil_log2`, `bits_for`

-- the least number from k on of which a test holds, and the last of so many where it holds of none before
unfoldable pub first_from : ℕ → (ℕ → Bool) → ℕ → ℕ
first_from zero p k = k
first_from (suc n) p k = if p k then k else first_from n p (k + 1)

-- the least k with n below 2^k
abbrev pub bit_length : ℕ → ℕ
bit_length n = first_from 128 (λ k. nat_lt n (2 ^ k)) 0

-- the least k with 2^k at least n, for n above 0
abbrev pub log_of : ℤ → Option Val
log_of (pos zero) = Some (val.Int (pos 0))
log_of (pos (suc n)) = Some (val.Int (pos (bit_length n)))
log_of (negsuc n) = None

abbrev pub ceil_log2 : Seen → List Val → Result (Val × Made) ValueStop
ceil_log2 s args = standing s (of_number log_of (only_number args))

-- the least width that has the number, at least 1; a negative one stands in a signed shape
abbrev pub width_of : ℤ → ℕ
width_of (pos n) = max 1 (bit_length n)
width_of (negsuc n) = bit_length n + 1

abbrev pub bits_for : Seen → List Val → Result (Val × Made) ValueStop
bits_for s args = standing s (of_number (λ n. Some (val.Int (pos (width_of n)))) (only_number args))

-- ---- `min`, `max`, `sum`

abbrev pub is_number : Val → Bool
is_number v = is_some (number_of v)

-- the number of what is one
abbrev pub worth : Val → ℤ
worth v = unwrap_or (number_of v) (pos 0)

-- whether the first is to be taken before the second: it is less, or greater
abbrev pub is_before : Bool → Val → Val → Bool
is_before true v w = int_lt (worth v) (worth w)
is_before false v w = int_lt (worth w) (worth v)

-- the least of some numbers, or the greatest, and of equal ones the first
abbrev pub extreme : Bool → List Val → Result Val ValueStop
extreme least [] = Err stop.Raised
extreme least (v ∷ vs) = if list_all is_number (v ∷ vs) then Ok (best_of (is_before least) v vs) else Err stop.Raised

abbrev pub extreme_in : Bool → Result (List Val) ValueStop → Result Val ValueStop
extreme_in least (Ok vs) = extreme least vs
extreme_in least (Err e) = Err e

-- one argument has the numbers as its elements, more are the numbers
abbrev pub extreme_of : Bool → Seen → List Val → Result Val ValueStop
extreme_of least s (v ∷ []) = extreme_in least (elements s v)
extreme_of least s vs = extreme least vs

abbrev pub stood : Seen → Result Val ValueStop → Result (Val × Made) ValueStop
stood s (Ok v) = Ok (v, s.own)
stood s (Err e) = Err e

abbrev pub least_of : Seen → List Val → Result (Val × Made) ValueStop
least_of s args = stood s (extreme_of true s args)

abbrev pub greatest_of : Seen → List Val → Result (Val × Made) ValueStop
greatest_of s args = stood s (extreme_of false s args)

-- one number more
abbrev pub plus : Result Val NumberStop → Val → Result Val NumberStop
plus (Ok v) w = on_numbers Add v w
plus (Err e) w = Err e

-- the sum of numbers from the first on, each partial sum in the range
abbrev pub summed : Val → List Val → Result Val NumberStop
summed start vs = if list_all is_number vs then fold plus (Ok start) vs else Err Raised

abbrev pub sum_in : Seen → Val → Result (List Val) ValueStop → Result (Val × Made) ValueStop
sum_in s start (Ok vs) = counted s (summed start vs)
sum_in s start (Err e) = Err e

abbrev pub sum_from : Seen → Val → Val → Result (Val × Made) ValueStop
sum_from s v start = if is_number start then sum_in s start (elements s v) else Err stop.Raised

abbrev pub sum_of : Seen → List Val → Result (Val × Made) ValueStop
sum_of s (v ∷ []) = sum_from s v (val.Int (pos 0))
sum_of s (v ∷ start ∷ []) = sum_from s v start
sum_of s _ = Err stop.Raised
