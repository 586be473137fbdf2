-- Patterns: what the bits of a value are matched with. Amaranth language guide 0.5, "Operators", match operator, and "Control blocks",
-- `Switch`: an integer, or a string of `0`, `1` and `-` whose leftmost sign is for the highest bit. That blanks alone are ignored in a
-- string, and that an integer which the value's shape does not hold is left off, are this project's own rules.
use Rattle.std.specs.Prelude.{◌≡◌, ℕ, ◌+◌, ◌-◌, ◌^◌, ◌==◌, ◌&&◌, ◌||◌, not, Bool, if◌then◌else◌, bit_and, ℤ, List, [], ◌∷◌, length, Option, Some, None, is_some}
use Rattle.std.specs.List.{filter, flat_map, list_all, AllByRecursion}
use Rattle.std.specs.Ordering.{int_eq}
use Rattle.amh_bits.specs.Patterns.{pattern, wrap}
use Rattle.shape_rules.specs.Forms.{Form}
use Rattle.design_ir.specs.declared.expr.Pattern.{Pattern}
use Rattle.py_values.specs.declared.val.Val.{Val}
use Rattle.py_values.specs.declared.val.Val.TheVariants as val
use Rattle.py_heap.specs.Heaps.{Seen, text_at}
use Rattle.py_values.specs.Numbers.{number_of}

-- ---- texts

abbrev pub is_blank : ℕ → Bool
is_blank c = c == 32

-- `0` and `1` are bits, and `-` is a bit that is not looked at
abbrev pub is_zero_sign : ℕ → Bool
is_zero_sign c = c == 48

abbrev pub is_one_sign : ℕ → Bool
is_one_sign c = c == 49

abbrev pub is_any_sign : ℕ → Bool
is_any_sign c = c == 45

abbrev pub is_sign : ℕ → Bool
is_sign c = is_zero_sign c || is_one_sign c || is_any_sign c

-- a text without its blanks
abbrev pub signs : List ℕ → List ℕ
signs text = filter (λ c. not (is_blank c)) text

-- the bits that are looked at: each sign is for the bit that has as many signs behind it
abbrev pub bits_looked_at : List ℕ → ℕ
bits_looked_at [] = 0
bits_looked_at (c ∷ cs) = (if is_any_sign c then 0 else 2 ^ length cs) + bits_looked_at cs

-- the bits that are to be 1
abbrev pub bits_set : List ℕ → ℕ
bits_set [] = 0
bits_set (c ∷ cs) = (if is_one_sign c then 2 ^ length cs else 0) + bits_set cs

-- a text is a pattern for so many bits where it has a sign for each
abbrev pub is_text_pattern : ℕ → List ℕ → Bool
is_text_pattern width text = list_all is_sign (signs text) && (length (signs text) == width)

abbrev pub text_pattern : List ℕ → Pattern
text_pattern text = record { mask = bits_looked_at (signs text); bits = bits_set (signs text) }

-- ---- integers

abbrev pub is_held : Form → ℤ → Bool
is_held f n = int_eq (wrap f.signed f.width n) n

-- all bits are those of the integer; one that the shape does not hold is left off
abbrev pub number_patterns : Form → Option ℤ → List Pattern
number_patterns f None = []
number_patterns f (Some n) = if is_held f n then record { mask = 2 ^ f.width - 1; bits = pattern f.width n } ∷ [] else []

-- ---- values of the program

abbrev pub is_pattern : Seen → ℕ → Val → Bool
is_pattern s width (val.Str x) = is_text_pattern width (text_at s x.0)
is_pattern s width v = is_some (number_of v)

abbrev pub patterns_of : Seen → Form → Val → List Pattern
patterns_of s f (val.Str x) = text_pattern (text_at s x.0) ∷ []
patterns_of s f v = number_patterns f (number_of v)

-- the patterns that values are for a value of this shape; none where one of them is no pattern
abbrev pub patterns_meant : Seen → Form → List Val → Option (List Pattern)
patterns_meant s f vals = if list_all (is_pattern s f.width) vals then Some (flat_map (patterns_of s f) vals) else None

-- ---- patterns as an expression takes them

abbrev pub IsWithin : Pattern → Type 0
IsWithin p = bit_and p.bits p.mask ≡ p.bits

abbrev pub AreWithin : List Pattern → Type 0
AreWithin ps = AllByRecursion IsWithin ps
