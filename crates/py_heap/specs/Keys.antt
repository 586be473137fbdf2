-- The codes of keys, by which they are found, and rows whose first keys have these codes.
-- Internal: no rule of the language.
use Rattle.std.specs.Prelude.{ℕ, ◌≡◌, ◌&&◌, ◌⊎◌, ◌++◌, ◌/◌, ◌%◌, if◌then◌else◌, length, Bool, false, nat_eq, List, [], ◌∷◌, Option, Some, None, unsigned_abs, ℤ}
use Rattle.std.specs.Bool.{beq}
use Rattle.amh_bits.specs.Integers.{sign_of}
use Rattle.py_values.specs.declared.val.Val.{Val}
use Rattle.py_values.specs.declared.val.Val.TheVariants as val
use Rattle.py_heap.specs.declared.codes.Code.{Code}
use Rattle.py_heap.specs.declared.codes.Code.TheVariants.{Number, Thing}
use Rattle.py_values.specs.Numbers.{bit_number}

abbrev pub number_code : ℤ → Code
number_code n = Number (sign_of n) (unsigned_abs n)

-- numbers and things tell by themselves which keys they equal
abbrev pub code_of : Val → Option Code
code_of (val.Bool b) = Some (number_code (bit_number b))
code_of (val.Int n) = Some (number_code n)
code_of (val.Hw h) = Some (Thing h.0)
code_of _ = None

abbrev pub same_code : Code → Code → Bool
same_code (Number b m) (Number c n) = beq b c && nat_eq m n
same_code (Number b m) (Thing y) = false
same_code (Thing x) (Number c n) = false
same_code (Thing x) (Thing y) = nat_eq x y

abbrev pub is_code : Code → Option Code → Bool
is_code c None = false
is_code c (Some d) = same_code c d

-- whether a value has this code
abbrev pub has_code : Code → Val → Bool
has_code c k = is_code c (code_of k)

-- the first keys of a row have these codes
abbrev pub AreCoded : List Code → List Val → Type 0
AreCoded [] row = Unit {0}
AreCoded (c ∷ cs) [] = ⊥
AreCoded (c ∷ cs) (k ∷ []) = ⊥
AreCoded (c ∷ cs) (k ∷ v ∷ row) = (code_of k ≡ Some c) × AreCoded cs row

-- the code of a key behind a row, where all keys of the row have these codes
abbrev pub code_behind : List Code → List Val → Val → Option Code
code_behind cs row k = if nat_eq (length row / 2) (length cs) && nat_eq (length row % 2) 0 then code_of k else None

-- the codes that stay when the value at this place of the row changes
abbrev pub codes_after : ℕ → List Code → List Code
codes_after i cs = if nat_eq (i % 2) 0 then [] else cs

-- a code goes last, or all stay
abbrev pub AddsAtMost : Option Code → List Code → List Code → Type 0
AddsAtMost None old new = new ≡ old
AddsAtMost (Some c) old new = (new ≡ old) ⊎ (new ≡ old ++ c ∷ [])
