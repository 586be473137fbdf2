-- The definitions at literal texts.
use Rattle.std.specs.Prelude.{◌≡◌, refl, false, codes}
use Rattle.py_lexer.specs.Numbers.{digit_count, run_width, value_from, numeral_of, exponent_lead, fraction_count, parts_of, number_front}
use Rattle.py_lexer.specs.Strings.{style_of, part_of, string_from, string_front}
use Rattle.py_lexer.specs.declared.piece.Piece.TheVariants.{Token}
use Rattle.py_lexer.specs.declared.token.TokenForm.TheVariants.{Number, Decimal, Str}

number-hex : number_front (codes "0x1F+") ≡ record { piece = Token Number; width = 4 }
unfolding number_front parts_of numeral_of run_width value_from digit_count exponent_lead fraction_count
number-hex = refl

number-decimal : number_front (codes "12.50e-3 ") ≡ record { piece = Token Decimal; width = 8 }
unfolding number_front parts_of numeral_of run_width value_from digit_count exponent_lead fraction_count
number-decimal = refl

string-short : string_front (style_of false 39 (codes "a\\'b' + 1")) (codes "'a\\'b' + 1") ≡ record { piece = Token Str; width = 6 }
unfolding string_front string_from part_of
string-short = refl
