-- Strings and format strings.
-- Source: Python reference 2.4.1, String and Bytes literals, 2.4.3, Formatted string literals; a part of them: own rule (docs/RULES.md).
use Rattle.std.specs.Prelude.{ℕ, zero, suc, ◌+◌, ◌-◌, ◌==◌, ◌&&◌, ◌||◌, Bool, true, false, List, [], ◌∷◌, take, drop, codes, Option, None, Some, if◌then◌else◌, slice_index}
use Rattle.py_lexer.specs.Characters.{line_end, ends_line}
use Rattle.py_lexer.specs.Names.{starts_name, name_width, word_form}
use Rattle.py_lexer.specs.Signs.{is_in}
use Rattle.py_lexer.specs.declared.token.TokenForm.{TokenForm}
use Rattle.py_lexer.specs.declared.token.TokenForm.TheVariants.{Name, Keyword, Number, Decimal, Str, FormatStr, Sign}
use Rattle.py_lexer.specs.declared.piece.Front.{Front}
use Rattle.py_lexer.specs.declared.piece.Piece.TheVariants.{Token, Fault, Unclosed}
use Rattle.py_lexer.specs.declared.strings.Style.{Style}
use Rattle.py_lexer.specs.declared.strings.Part.{Part}
use Rattle.py_lexer.specs.declared.strings.Part.TheVariants.{Inner, Missing, Bad}
use Rattle.py_lexer.specs.declared.strings.Body.{Body}
use Rattle.py_lexer.specs.declared.strings.Body.TheVariants.{Closed, Cut, Spoiled}

-- the quote, twice more
abbrev pub is_tripled : ℕ → List ℕ → Bool
is_tripled quote cs = (slice_index cs 0 == quote) && (slice_index cs 1 == quote)

-- how many quotes open and close the string
abbrev pub quotes : Style → ℕ
quotes style = if style.triple then 3 else 1

-- the closing quotes stand here
abbrev pub closes : Style → List ℕ → Bool
closes style cs = (slice_index cs 0 == style.quote) && (if style.triple then is_tripled style.quote (drop 1 cs) else true)

-- a backslash before one of these, or before a line end
abbrev pub escape : List ℕ → Part
escape cs =
    if is_in (codes "\\'\"nt") (slice_index cs 0) then Inner 2
    else (if ends_line cs then Inner (1 + line_end cs) else Bad)

-- the form is that of a name
abbrev pub is_name : Option TokenForm → Bool
is_name (Some Name) = true
is_name (Some Keyword) = false
is_name (Some Number) = false
is_name (Some Decimal) = false
is_name (Some Str) = false
is_name (Some FormatStr) = false
is_name (Some Sign) = false
is_name None = false

-- behind a brace: a name and the closing brace
unfoldable pub hole : List ℕ → Part
hole cs =
    let width = name_width (drop 1 cs) in
    if starts_name (slice_index cs 0) && (slice_index cs width == 125) && is_name (word_form (take width cs))
    then Inner (width + 2)
    else Bad

-- behind a brace that opens: another one, or a hole
abbrev pub opening_brace : List ℕ → Part
opening_brace cs = if slice_index cs 0 == 123 then Inner 2 else hole cs

-- behind a brace that closes: another one
abbrev pub closing_brace : List ℕ → Part
closing_brace cs = if slice_index cs 0 == 125 then Inner 2 else Bad

-- the part that a character begins that is neither a closing quote nor a backslash, where the line may end
abbrev pub plain_part : Style → ℕ → List ℕ → Bool → Part
plain_part style c cs line_ends =
    if line_ends then (if style.triple then Inner 1 else Missing)
    else (if style.holes && (c == 123) then opening_brace cs
    else (if style.holes && (c == 125) then closing_brace cs
    else Inner 1))

-- the part of a string that begins here, where it is not closed yet
unfoldable pub part_of : Style → List ℕ → Part
part_of style cs =
    if slice_index cs 0 == 92 then escape (drop 1 cs)
    else plain_part style (slice_index cs 0) (drop 1 cs) (ends_line cs)

-- what a part says of the string, n characters behind its opening quotes, where `more` says it behind the part
abbrev pub by_part : ℕ → Part → (ℕ → Body) → Body
by_part n (Inner width) more = more (width - 1)
by_part n Missing more = Cut
by_part n Bad more = Spoiled n

-- how a string goes on, n characters behind its opening quotes, with so many left of the part that stands here
unfoldable pub string_from : Style → ℕ → ℕ → List ℕ → Body
string_from style n left [] = Cut
string_from style n (suc left) (c ∷ cs) = string_from style (suc n) left cs
string_from style n zero (c ∷ cs) =
    if closes style (c ∷ cs) then Closed (n + quotes style)
    else by_part n (part_of style (c ∷ cs)) (λ left. string_from style (suc n) left cs)

-- what a string is that has this body; a string of one line that is cut is told at its opening
abbrev pub string_by : Style → ℕ → Body → Front
string_by style lead (Closed n) = record { piece = Token (if style.holes then FormatStr else Str); width = lead + n }
string_by style lead Cut = if style.triple then record { piece = Unclosed; width = lead } else record { piece = Fault; width = 0 }
string_by style lead (Spoiled n) = record { piece = Fault; width = lead + n }

-- how many characters stand before the body: the prefix and the opening quotes
abbrev pub lead_of : Style → ℕ
lead_of style = (if style.holes then 1 else 0) + quotes style

-- the style of a string whose first quote stands before these
abbrev pub style_of : Bool → ℕ → List ℕ → Style
style_of holes quote cs = record { quote = quote; triple = is_tripled quote cs; holes = holes }

-- the string of this style that begins here
unfoldable pub string_front : Style → List ℕ → Front
string_front style cs = string_by style (lead_of style) (string_from style 0 0 (drop (lead_of style) cs))

-- a quote
abbrev pub is_quote : ℕ → Bool
is_quote c = (c == 39) || (c == 34)
