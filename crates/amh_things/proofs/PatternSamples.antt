-- Samples of patterns, computed.
use Rattle.std.specs.Prelude.{◌≡◌, refl, ℕ, true, false, [], ◌∷◌, pos, negsuc, Some, None, codes}
use Rattle.shape_rules.specs.Forms.{unsigned, signed_form}
use Rattle.py_values.specs.declared.val.Val.{Val}
use Rattle.py_values.specs.declared.val.Val.TheVariants as val
use Rattle.py_heap.specs.Heaps.{Seen, seen, nothing}
use Rattle.amh_things.specs.Patterns.{is_text_pattern, text_pattern, patterns_meant}

-- the leftmost sign is for the highest bit, and blanks are nothing
three_signs : text_pattern (codes "1-0") ≡ record { mask = 5; bits = 4 }
three_signs = refl

with_blanks : text_pattern (codes " 1 -0 ") ≡ record { mask = 5; bits = 4 }
with_blanks = refl

-- a sign for each bit, and no other one
few_signs : is_text_pattern 3 (codes "10") ≡ false
few_signs = refl

many_signs : is_text_pattern 3 (codes "10-0") ≡ false
many_signs = refl

other_sign : is_text_pattern 3 (codes "1x0") ≡ false
other_sign = refl

no_signs : is_text_pattern 0 (codes " ") ≡ true
no_signs = refl

-- ---- values: string 0 is `01`, and string 1 is `012`

heap : Seen
heap = seen nothing (record nothing { texts = codes "01" ∷ codes "012" ∷ [] })

text : ℕ → Val
text n = val.Str (record { 0 = n })

-- 2 and True, and 4 left off, as 2 bits without a sign do not hold it
of_two_bits : patterns_meant heap (unsigned 2) (text 0 ∷ val.Int (pos 2) ∷ val.Int (pos 4) ∷ val.Bool true ∷ [])
    ≡ Some (record { mask = 3; bits = 1 } ∷ record { mask = 3; bits = 2 } ∷ record { mask = 3; bits = 1 } ∷ [])
unfolding heap text
of_two_bits = refl

-- with a sign they hold -1 and not 2
of_signed_bits : patterns_meant heap (signed_form 2) (val.Int (negsuc 0) ∷ val.Int (pos 2) ∷ []) ≡ Some (record { mask = 3; bits = 3 } ∷ [])
unfolding heap
of_signed_bits = refl

no_pattern : patterns_meant heap (unsigned 2) (val.Int (pos 1) ∷ val.None ∷ []) ≡ None
unfolding heap
no_pattern = refl

wrong_text : patterns_meant heap (unsigned 3) (text 1 ∷ []) ≡ None
unfolding heap text
wrong_text = refl

none_given : patterns_meant heap (unsigned 3) [] ≡ Some []
unfolding heap
none_given = refl
