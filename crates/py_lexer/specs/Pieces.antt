-- A text as its pieces, one behind the other: spaces, comments, line ends and tokens.
-- Source: Python reference 2.1.2, 2.1.3, 2.1.5, 2.1.9 (line ends, comments, joints, blanks), and 2.2, Other tokens.
use Rattle.std.specs.Prelude.{ℕ, zero, suc, ◌+◌, ◌-◌, ◌==◌, ◌&&◌, nat_lt, true, false, List, [], ◌∷◌, take, drop, length, Option, None, Some, if◌then◌else◌, slice_index}
use Rattle.py_lexer.specs.Characters.{line_end, ends_line, line_width, next, past}
use Rattle.py_lexer.specs.Names.{starts_name, name_width, word_form}
use Rattle.py_lexer.specs.Numbers.{is_digit, number_front}
use Rattle.py_lexer.specs.Signs.{opened_by, closed_by, sign_width}
use Rattle.py_lexer.specs.Strings.{is_quote, style_of, string_front}
use Rattle.py_lexer.specs.declared.token.TokenForm.{TokenForm}
use Rattle.py_lexer.specs.declared.token.TokenForm.TheVariants.{Sign}
use Rattle.py_lexer.specs.declared.piece.Bracket.{Bracket}
use Rattle.py_lexer.specs.declared.piece.Front.{Front}
use Rattle.py_lexer.specs.declared.piece.Mark.{Mark}
use Rattle.py_lexer.specs.declared.piece.Placed.{Placed}
use Rattle.py_lexer.specs.declared.piece.Piece.TheVariants.{Space, Tab, Comment, LineEnd, Joint, Token, Open, Close, Fault}

-- what no token begins with
abbrev pub fault : Front
fault = record { piece = Fault; width = 0 }

-- a backslash before these: it joins its line to the next, so one has to follow
abbrev pub joint_front : List ℕ → Front
joint_front cs =
    if ends_line cs && nat_lt (line_end cs) (length cs)
    then record { piece = Joint; width = 1 + line_end cs }
    else fault

-- a sign that is no bracket
abbrev pub sign_front : List ℕ → Front
sign_front cs =
    let width = sign_width (slice_index cs 0) (slice_index cs 1) (slice_index cs 2) in
    if nat_lt 0 width then record { piece = Token Sign; width = width } else fault

-- a closing bracket, or a sign
abbrev pub closed_front : Option Bracket → List ℕ → Front
closed_front None cs = sign_front cs
closed_front (Some b) cs = record { piece = Close b; width = 1 }

-- a bracket or a sign
abbrev pub bracket_front : Option Bracket → List ℕ → Front
bracket_front None cs = closed_front (closed_by (slice_index cs 0)) cs
bracket_front (Some b) cs = record { piece = Open b; width = 1 }

-- a word of this form, or a fault where it may not stand
abbrev pub word_by : Option TokenForm → ℕ → Front
word_by None width = fault
word_by (Some form) width = record { piece = Token form; width = width }

-- a name or a keyword
abbrev pub word_front : List ℕ → Front
word_front cs = let width = name_width (drop 1 cs) in word_by (word_form (take width cs)) width

-- a name, a number or a sign
unfoldable pub plain_front : List ℕ → Front
plain_front cs =
    if starts_name (slice_index cs 0) then word_front cs
    else (if is_digit 10 (slice_index cs 0) then number_front cs else bracket_front (opened_by (slice_index cs 0)) cs)

-- a token
unfoldable pub token_front : List ℕ → Front
token_front cs =
    if is_quote (slice_index cs 0) then string_front (style_of false (slice_index cs 0) (drop 1 cs)) cs
    else (
    if (slice_index cs 0 == 102) && is_quote (slice_index cs 1)
    then string_front (style_of true (slice_index cs 1) (drop 2 cs)) cs
    else plain_front cs
    )

-- the piece at the front of the text
unfoldable pub front_of : List ℕ → Front
front_of cs =
    if slice_index cs 0 == 32 then record { piece = Space; width = 1 }
    else (if slice_index cs 0 == 9 then record { piece = Tab; width = 1 }
    else (if slice_index cs 0 == 35 then record { piece = Comment; width = 1 + line_width (drop 1 cs) }
    else (if ends_line cs then record { piece = LineEnd; width = line_end cs }
    else (if slice_index cs 0 == 92 then joint_front (drop 1 cs)
    else token_front cs))))

-- a piece between its marks
abbrev pub placed : Mark → Front → List ℕ → Placed
placed m f cs = record { piece = f.piece; from = m; upto = past m (take f.width cs) }

-- the pieces of a text, with so many characters left of the piece that stands here
unfoldable pub pieces_from : Mark → ℕ → List ℕ → List Placed
pieces_from m left [] = []
pieces_from m (suc left) (c ∷ cs) = pieces_from (next m c) left cs
pieces_from m zero (c ∷ cs) =
    let f = front_of (c ∷ cs) in placed m f (c ∷ cs) ∷ pieces_from (next m c) (f.width - 1) cs
