-- Strings side by side are joined one by one.
use Rattle.std.proofs.Common.{◌≡◌, ◌≢◌, ◌+◌, ◌^◌, take, drop, ℕ, refl, ap, List, [], ◌∷◌, ◌++◌, append_assoc}
use Rattle.std.specs.Prelude.{Bool, true, false, if◌then◌else◌, nat_lt, Option, Some, None}
use Rattle.std.specs.Str.{is_utf8}
use Rattle.py_lexer.specs.declared.token.TokenForm.{TokenForm}
use Rattle.py_lexer.specs.declared.token.TokenForm.TheVariants as form
use Rattle.py_lexer.specs.Numbers.{value_from}
use Rattle.py_tree.specs.declared.name.Piece.{Piece}
use Rattle.amh_host.specs.declared.place.Place.{Place}
use Rattle.py_grammar.specs.declared.word.Word.{Word}
use Rattle.py_grammar.specs.declared.word.Mark.{Mark}
use Rattle.py_grammar.specs.declared.word.Mark.TheVariants as mark
use Rattle.py_grammar.specs.Words.{word}
use Rattle.py_words.specs.Words_of.{string_before, joined_to, format_of, mark_of, number_value, mantissa_width, decimal_by, is_small, fraction_width, exponent_value, pieces_from, between_quotes}
use Rattle.py_words.specs.Openings.{is_string}

joins_to : (p q : Place) (a b : List ℕ) (m : Mark) (w : Word) (ws : List Word) → joined_to p (a ++ b) m w ws ≡ string_before p a (joined_to q b m w ws)
joins_to p q a b (mark.Str c) w ws = ap (λ (z : List ℕ). word (mark.Str z) p ∷ ws) (append_assoc a b c)
joins_to p q a b (mark.Name c) w ws = refl
joins_to p q a b (mark.Keyword c) w ws = refl
joins_to p q a b (mark.Number n) w ws = refl
joins_to p q a b (mark.Decimal d) w ws = refl
joins_to p q a b (mark.Format ps) w ws = refl
joins_to p q a b (mark.Sign c) w ws = refl
joins_to p q a b mark.Other w ws = refl

pub joins : (p q : Place) (a b : List ℕ) (ws : List Word) → string_before p (a ++ b) ws ≡ string_before p a (string_before q b ws)
joins p q a b [] = refl
joins p q a b (w ∷ ws) = joins_to p q a b w.mark w ws

either_no_string : (b : Bool) (m : Mark) → is_string m ≡ false → is_string (if b then m else mark.Other) ≡ false
either_no_string true m h = h
either_no_string false m h = refl

format_no_string : (ps : Option (List Piece)) → is_string (format_of ps) ≡ false
format_no_string None = refl
format_no_string (Some ps) = refl

-- what is no token of a string stands for none
pub no_string : (f : TokenForm) (bs : List ℕ) → f ≢ form.Str → is_string (mark_of f bs) ≡ false
no_string form.Str bs h = absurd (h refl)
no_string form.Name bs h = either_no_string (is_utf8 bs) (mark.Name bs) refl
no_string form.Keyword bs h = either_no_string (is_utf8 bs) (mark.Keyword bs) refl
no_string form.Sign bs h = either_no_string (is_utf8 bs) (mark.Sign bs) refl
no_string form.Number bs h = either_no_string (nat_lt (number_value bs) (2 ^ 128)) (mark.Number (number_value bs)) refl
no_string form.Decimal bs h = decimal_no_string (take (mantissa_width bs) bs) (drop (mantissa_width bs + 1) bs)
  where
    decimal_no_string : (bs exponent : List ℕ) → is_string (decimal_by bs exponent) ≡ false
    decimal_no_string bs exponent = either_no_string (is_small (value_from 10 0 bs) (fraction_width bs) (value_from 10 0 exponent)) (mark.Decimal (record { digits = value_from 10 0 bs; exponent = exponent_value exponent (fraction_width bs) })) refl
no_string form.FormatStr bs h = format_no_string (pieces_from (Some []) [] 0 (between_quotes (drop 1 bs)))
