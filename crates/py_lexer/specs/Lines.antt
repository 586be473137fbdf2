-- The logical lines that the pieces of a text make, or the place of its first fault.
-- Source: Python reference 2.1.1, Logical lines, and 2.1.5 to 2.1.8 (joining to indents); the fault told: own rule (docs/RULES.md).
use Rattle.std.specs.Prelude.{ℕ, ◌+◌, ◌-◌, ◌==◌, ◌&&◌, Bool, true, false, List, [], ◌∷◌, ◌++◌, take, length, Option, None, Some, Result, Ok, Err, if◌then◌else◌, slice_get}
use Rattle.amh_host.specs.declared.place.Place.{Place}
use Rattle.py_lexer.specs.declared.token.Token.{Token}
use Rattle.py_lexer.specs.declared.token.TokenForm.{TokenForm}
use Rattle.py_lexer.specs.declared.token.TokenForm.TheVariants.{Sign}
use Rattle.py_lexer.specs.declared.line.Line.{Line}
use Rattle.py_lexer.specs.declared.piece.Bracket.{Bracket}
use Rattle.py_lexer.specs.declared.piece.Bracket.TheVariants.{Round, Square, Curly}
use Rattle.py_lexer.specs.declared.piece.Piece.{Piece}
use Rattle.py_lexer.specs.declared.piece.Piece.TheVariants.{Space, Tab, Comment, LineEnd, Joint, Token as Word, Open, Close, Fault, Unclosed}
use Rattle.py_lexer.specs.declared.piece.Placed.{Placed}
use Rattle.py_lexer.specs.declared.piece.Opening.{Opening}
use Rattle.py_lexer.specs.declared.going.Going.{Going}
use Rattle.py_lexer.specs.Characters.{start}
use Rattle.py_lexer.specs.Pieces.{pieces_from}

-- at the begin of a logical line
abbrev pub fresh : Going
fresh = record { indent = 0; in_indent = true; tokens = []; brackets = [] }

-- the token that a piece is
abbrev pub token_of : TokenForm → Placed → Token
token_of form p = record { form = form; start = p.from.byte; end = p.upto.byte; place = p.from.place }

-- with one more token
abbrev pub with_token : TokenForm → Placed → Going → Going
with_token form p g = record g { in_indent = false; tokens = g.tokens ++ token_of form p ∷ [] }

-- with one more bracket that stands open
abbrev pub opened : Bracket → Placed → Going → Going
opened b p g = record g { brackets = g.brackets ++ record { bracket = b; place = p.from.place } ∷ [] }

-- the two are of one pair
abbrev pub same_bracket : Bracket → Bracket → Bool
same_bracket Round Round = true
same_bracket Round Square = false
same_bracket Round Curly = false
same_bracket Square Round = false
same_bracket Square Square = true
same_bracket Square Curly = false
same_bracket Curly Round = false
same_bracket Curly Square = false
same_bracket Curly Curly = true

-- this bracket closes the one that was opened last
abbrev pub fits : Bracket → Option Opening → Bool
fits b None = false
fits b (Some o) = same_bracket b o.bracket

-- the bracket that was opened last
abbrev pub innermost : List Opening → Option Opening
innermost os = slice_get os (length os - 1)

-- without the bracket that was opened last
abbrev pub without_innermost : Going → Going
without_innermost g = record g { brackets = take (length g.brackets - 1) g.brackets }

-- after a bracket that closes the one that was opened last; else it is told at its place
abbrev pub closed : Bracket → Placed → Going → Result Going Place
closed b p g =
    if fits b (innermost g.brackets) then Ok (with_token Sign p (without_innermost g)) else Err p.from.place

-- one more blank; it counts where it is of the indent
abbrev pub spaced : Going → Going
spaced g = if g.in_indent then record g { indent = g.indent + 1 } else g

-- the place of the bracket that was opened first, or this place where none stands open
abbrev pub first_opened : List Opening → Place → Place
first_opened [] place = place
first_opened (o ∷ os) place = o.place

-- a logical line after one more piece, which does not end it
abbrev pub meet_by : Piece → Placed → Going → Result Going Place
meet_by Space p g = Ok (spaced g)
meet_by Tab p g = if g.in_indent then Err p.from.place else Ok g
meet_by Comment p g = Ok g
meet_by LineEnd p g = Ok g
meet_by Joint p g = Ok (record g { in_indent = false })
meet_by (Word form) p g = Ok (with_token form p g)
meet_by (Open b) p g = Ok (opened b p (with_token Sign p g))
meet_by (Close b) p g = closed b p g
meet_by Fault p g = Err p.upto.place
meet_by Unclosed p g = Err (first_opened g.brackets p.from.place)

-- the same by the piece itself
unfoldable pub meet : Placed → Going → Result Going Place
meet p g = meet_by p.piece p g

-- the piece ends its line in the text
abbrev pub is_line_end : Piece → Bool
is_line_end LineEnd = true
is_line_end Space = false
is_line_end Tab = false
is_line_end Comment = false
is_line_end Joint = false
is_line_end (Word form) = false
is_line_end (Open b) = false
is_line_end (Close b) = false
is_line_end Fault = false
is_line_end Unclosed = false

-- the piece ends the logical line, since no bracket stands open
abbrev pub ends_logical : Placed → Going → Bool
ends_logical p g = is_line_end p.piece && (length g.brackets == 0)

-- a line of these tokens; without a token there is none
abbrev pub line_by : ℕ → List Token → List Line
line_by indent [] = []
line_by indent (t ∷ ts) = record { indent = indent; place = t.place; tokens = t ∷ ts } ∷ []

-- the logical line, if it has a token
abbrev pub line_of : Going → List Line
line_of g = line_by g.indent g.tokens

-- these lines and those behind them
abbrev pub before : List Line → Result (List Line) Place → Result (List Line) Place
before ls (Ok more) = Ok (ls ++ more)
before ls (Err place) = Err place

-- what a text gives at its end, by the brackets that stand open
abbrev pub last_by : List Opening → Going → Result (List Line) Place
last_by [] g = Ok (line_of g)
last_by (o ∷ os) g = Err o.place

-- the last line, where the text ends; of the brackets that stand open the first is told
abbrev pub last_line : Going → Result (List Line) Place
last_line g = last_by g.brackets g

-- a fault is the first, since nothing behind it is looked at
abbrev pub going_on : Result Going Place → (Going → Result (List Line) Place) → Result (List Line) Place
going_on (Ok g) more = more g
going_on (Err place) more = Err place

-- the logical lines that these pieces make behind what the first of them has already
unfoldable pub lines_from : Going → List Placed → Result (List Line) Place
lines_from g [] = last_line g
lines_from g (p ∷ ps) =
    if ends_logical p g
    then before (line_of g) (lines_from fresh ps)
    else going_on (meet p g) (λ h. lines_from h ps)

-- the logical lines of a text, or the place of its first fault
unfoldable pub logical_lines : List ℕ → Result (List Line) Place
logical_lines cs = lines_from fresh (pieces_from start 0 cs)
