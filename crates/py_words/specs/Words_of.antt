-- The words of a line: what each of its tokens stands for.
-- Source: Python reference 2.4, Literals: 2.4.1 to 2.4.3 strings, 2.4.5 and 2.4.6 numbers; their limits: own rule (docs/RULES.md).
use Rattle.std.specs.Prelude.{ℕ, zero, suc, max, ◌+◌, ◌-◌, ◌^◌, ◌==◌, ◌&&◌, ◌||◌, not, nat_lt, nat_le, Bool, ℤ, pos, ◌-ℤ◌, List, [], ◌∷◌, ◌++◌, map, take, drop, take_while, length, slice_index, Option, Some, None, if◌then◌else◌}
use Rattle.std.specs.Str.{is_utf8}
use Rattle.amh_host.specs.declared.place.Place.{Place}
use Rattle.py_lexer.specs.declared.token.Token.{Token}
use Rattle.py_lexer.specs.declared.token.TokenForm.{TokenForm}
use Rattle.py_lexer.specs.declared.token.TokenForm.TheVariants as form
use Rattle.py_lexer.specs.Characters.{line_end, ends_line}
use Rattle.py_lexer.specs.Numbers.{named_base, value_from}
use Rattle.py_tree.specs.declared.name.Piece.{Piece}
use Rattle.py_tree.specs.declared.name.Piece.TheVariants as piece
use Rattle.py_grammar.specs.declared.word.Word.{Word}
use Rattle.py_grammar.specs.declared.word.Mark.{Mark}
use Rattle.py_grammar.specs.declared.word.Mark.TheVariants as mark
use Rattle.py_grammar.specs.Words.{word}

-- the mark that a text makes, where these bytes are one
abbrev pub text_mark : (List ℕ → Mark) → List ℕ → Mark
text_mark make bs = if is_utf8 bs then make bs else mark.Other

-- ---- numbers

-- the base that stands behind a zero, or 0 where none does
abbrev pub base_behind : List ℕ → ℕ
base_behind bs = if slice_index bs 0 == 48 then named_base (slice_index bs 1) else 0

-- the value of a whole number, in base 10 where it names no other
abbrev pub number_value : List ℕ → ℕ
number_value bs = if nat_lt 0 (base_behind bs) then value_from (base_behind bs) 0 (drop 2 bs) else value_from 10 0 bs

abbrev pub number_mark : List ℕ → Mark
number_mark bs = if nat_lt (number_value bs) (2 ^ 128) then mark.Number (number_value bs) else mark.Other

-- `e` or `E`
abbrev pub begins_exponent : ℕ → Bool
begins_exponent b = (b == 101) || (b == 69)

-- how many bytes stand before the exponent
abbrev pub mantissa_width : List ℕ → ℕ
mantissa_width bs = length (take_while (λ b. not (begins_exponent b)) bs)

-- how many bytes stand before the point
abbrev pub whole_width : List ℕ → ℕ
whole_width bs = length (take_while (λ b. not (b == 46)) bs)

-- how many digits stand behind the point of a mantissa
abbrev pub fraction_width : List ℕ → ℕ
fraction_width bs = length bs - (whole_width bs + 1)

-- a sign and digits, less what the fraction takes from them
abbrev pub exponent_value : List ℕ → ℕ → ℤ
exponent_value bs fraction =
    if slice_index bs 0 == 45 then pos 0 -ℤ pos (value_from 10 0 bs + fraction) else pos (value_from 10 0 bs) -ℤ pos fraction

-- so many digits before an exponent, which is so large without its sign, are a decimal
abbrev pub is_small : ℕ → ℕ → ℕ → Bool
is_small digits fraction exponent = nat_lt digits (10 ^ 18) && (nat_le fraction 18 && nat_le exponent 18)

-- a mantissa and the bytes behind `e` or `E`
abbrev pub decimal_by : List ℕ → List ℕ → Mark
decimal_by bs exponent =
    if is_small (value_from 10 0 bs) (fraction_width bs) (value_from 10 0 exponent)
    then mark.Decimal (record { digits = value_from 10 0 bs; exponent = exponent_value exponent (fraction_width bs) })
    else mark.Other

abbrev pub decimal_mark : List ℕ → Mark
decimal_mark bs = decimal_by (take (mantissa_width bs) bs) (drop (mantissa_width bs + 1) bs)

-- ---- strings

-- how many quotes open and close a string: three where the first stands there twice more
abbrev pub quotes_of : List ℕ → ℕ
quotes_of bs = if (slice_index bs 1 == slice_index bs 0) && (slice_index bs 2 == slice_index bs 0) then 3 else 1

-- what stands between the quotes
abbrev pub between_quotes : List ℕ → List ℕ
between_quotes bs = take (length bs - (quotes_of bs + quotes_of bs)) (drop (quotes_of bs) bs)

-- what an escaped byte stands for: `n` for a line feed, `t` for a tab, others for themselves
abbrev pub escaped : ℕ → ℕ
escaped b = if b == 110 then 10 else if b == 116 then 9 else b

-- how many bytes a part of a string takes that begins here: a backslash with an escaped byte or a line end, or CR LF,
-- or a byte
abbrev pub part_width : List ℕ → ℕ
part_width bs = if slice_index bs 0 == 92 then 1 + max 1 (line_end (drop 1 bs)) else max 1 (line_end bs)

-- what that part stands for: a line end is a line feed, and none behind a backslash
abbrev pub part_meaning : List ℕ → List ℕ
part_meaning bs =
    if slice_index bs 0 == 92
    then (if ends_line (drop 1 bs) then [] else escaped (slice_index bs 1) ∷ [])
    else (if ends_line bs then 10 ∷ [] else slice_index bs 0 ∷ [])

-- what these bytes stand for behind what those before them did, with so many left of the part that stands here
unfoldable pub meaning_from : List ℕ → ℕ → List ℕ → List ℕ
meaning_from meant left [] = meant
meaning_from meant (suc left) (b ∷ bs) = meaning_from meant left bs
meaning_from meant zero (b ∷ bs) = meaning_from (meant ++ part_meaning (b ∷ bs)) (part_width (b ∷ bs) - 1) bs

abbrev pub string_mark : List ℕ → Mark
string_mark bs = text_mark mark.Str (meaning_from [] 0 (between_quotes bs))

-- ---- format strings

-- two braces of one kind, which stand for one
abbrev pub is_doubled : List ℕ → Bool
is_doubled bs = ((slice_index bs 0 == 123) || (slice_index bs 0 == 125)) && (slice_index bs 1 == slice_index bs 0)

-- a brace that opens a hole
abbrev pub opens_hole : List ℕ → Bool
opens_hole bs = (slice_index bs 0 == 123) && not (slice_index bs 1 == 123)

-- how many bytes of a hole stand before `}`
abbrev pub hole_width : List ℕ → ℕ
hole_width bs = length (take_while (λ b. not (b == 125)) bs)

abbrev pub format_width : List ℕ → ℕ
format_width bs = if is_doubled bs then 2 else part_width bs

abbrev pub format_meaning : List ℕ → List ℕ
format_meaning bs = if is_doubled bs then slice_index bs 0 ∷ [] else part_meaning bs

-- pieces and one more, where its bytes are a text
abbrev pub with_piece : (List ℕ → Piece) → List ℕ → Option (List Piece) → Option (List Piece)
with_piece make bs None = None
with_piece make bs (Some ps) = if is_utf8 bs then Some (ps ++ make bs ∷ []) else None

-- pieces and the text behind them, which is left out where it is empty
abbrev pub with_text : List ℕ → Option (List Piece) → Option (List Piece)
with_text [] ps = ps
with_text (b ∷ bs) ps = with_piece piece.Text (b ∷ bs) ps

abbrev pub format_of : Option (List Piece) → Mark
format_of None = mark.Other
format_of (Some ps) = mark.Format ps

-- the pieces that these bytes are behind others and a text that is not ended, with so many left of the part that
-- stands here
unfoldable pub pieces_from : Option (List Piece) → List ℕ → ℕ → List ℕ → Option (List Piece)
pieces_from ps text left [] = with_text text ps
pieces_from ps text (suc left) (b ∷ bs) = pieces_from ps text left bs
pieces_from ps text zero (b ∷ bs) =
    if opens_hole (b ∷ bs)
    then pieces_from (with_piece piece.Hole (take (hole_width (b ∷ bs) - 1) bs) (with_text text ps)) [] (hole_width (b ∷ bs)) bs
    else pieces_from ps (text ++ format_meaning (b ∷ bs)) (format_width (b ∷ bs) - 1) bs

-- behind the prefix
abbrev pub format_mark : List ℕ → Mark
format_mark bs = format_of (pieces_from (Some []) [] 0 (between_quotes (drop 1 bs)))

-- ---- lines

abbrev pub mark_of : TokenForm → List ℕ → Mark
mark_of form.Name bs = text_mark mark.Name bs
mark_of form.Keyword bs = text_mark mark.Keyword bs
mark_of form.Number bs = number_mark bs
mark_of form.Decimal bs = decimal_mark bs
mark_of form.Str bs = string_mark bs
mark_of form.FormatStr bs = format_mark bs
mark_of form.Sign bs = text_mark mark.Sign bs

-- the bytes of a token
abbrev pub bytes_of : List ℕ → Token → List ℕ
bytes_of text t = drop t.start (take t.end text)

abbrev pub word_of : List ℕ → Token → Word
word_of text t = word (mark_of t.form (bytes_of text t)) t.place

-- a string before other words, of which the first is joined to it where it is a string, at the place of the first
abbrev pub joined_to : Place → List ℕ → Mark → Word → List Word → List Word
joined_to p a (mark.Str b) w ws = word (mark.Str (a ++ b)) p ∷ ws
joined_to p a _ w ws = word (mark.Str a) p ∷ (w ∷ ws)

abbrev pub string_before : Place → List ℕ → List Word → List Word
string_before p a [] = word (mark.Str a) p ∷ []
string_before p a (w ∷ ws) = joined_to p a w.mark w ws

-- a word before others
abbrev pub before : Mark → Place → List Word → List Word
before (mark.Str a) p ws = string_before p a ws
before m p ws = word m p ∷ ws

-- strings that stand side by side are one
abbrev pub joined : List Word → List Word
joined [] = []
joined (w ∷ ws) = before w.mark w.place (joined ws)

-- the words of tokens of a text
abbrev pub words_of : List ℕ → List Token → List Word
words_of text ts = joined (map (word_of text) ts)
