-- The words of a logical line tell where it begins.
use Rattle.std.specs.Prelude.{◌≡◌, refl, ℕ, Bool, true, false, if◌then◌else◌, List, [], ◌∷◌, ◌++◌, map, slice_get, Some, Result, Ok, Err, IfOk}
use Rattle.std.specs.List.{AllByRecursion}
use Rattle.std.proofs.Common.{sym, ◌∙◌, ap, subst, zero, suc}
use Rattle.amh_host.specs.declared.place.Place.{Place}
use Rattle.py_lexer.specs.declared.token.Token.{Token}
use Rattle.py_lexer.specs.declared.line.Line.{Line}
use Rattle.py_lexer.specs.declared.piece.Placed.{Placed}
use Rattle.py_lexer.specs.declared.piece.Opening.{Opening}
use Rattle.py_lexer.specs.declared.going.Going.{Going}
use Rattle.py_lexer.specs.Characters.{start}
use Rattle.py_lexer.specs.Pieces.{pieces_from}
use Rattle.py_lexer.specs.Lines.{fresh, meet, ends_logical, line_by, line_of, before as lines_before, last_by, going_on, lines_from, logical_lines}
use Rattle.py_grammar.specs.declared.word.Word.{Word}
use Rattle.py_grammar.specs.declared.word.Mark.{Mark}
use Rattle.py_grammar.specs.declared.word.Mark.TheVariants as mark
use Rattle.py_grammar.specs.Blocks.{Line as Words_line}
use Rattle.py_words.specs.Words_of.{word_of, words_of, joined, joined_to, string_before, before}
use Rattle.py_parser.specs.Parsing.{words_line}

-- ---- words

-- where the first word stands
abbrev first_place : List Word → Place
first_place [] = record { line = 0; col = 0 }
first_place (w ∷ ws) = w.place

joined_to-place : (p : Place) (a : List ℕ) (m : Mark) (w : Word) (ws : List Word) → first_place (joined_to p a m w ws) ≡ p
joined_to-place p a (mark.Name n) w ws = refl
joined_to-place p a (mark.Keyword n) w ws = refl
joined_to-place p a (mark.Number n) w ws = refl
joined_to-place p a (mark.Decimal d) w ws = refl
joined_to-place p a (mark.Str b) w ws = refl
joined_to-place p a (mark.Format ps) w ws = refl
joined_to-place p a (mark.Sign n) w ws = refl
joined_to-place p a mark.Other w ws = refl

string_before-place : (p : Place) (a : List ℕ) (ws : List Word) → first_place (string_before p a ws) ≡ p
string_before-place p a [] = refl
string_before-place p a (w ∷ ws) = joined_to-place p a w.mark w ws

before-place : (m : Mark) (p : Place) (ws : List Word) → first_place (before m p ws) ≡ p
before-place (mark.Name n) p ws = refl
before-place (mark.Keyword n) p ws = refl
before-place (mark.Number n) p ws = refl
before-place (mark.Decimal d) p ws = refl
before-place (mark.Str a) p ws = string_before-place p a ws
before-place (mark.Format ps) p ws = refl
before-place (mark.Sign n) p ws = refl
before-place mark.Other p ws = refl

-- ---- logical lines

-- a line has tokens, and begins where the first of them does
record IsPlaced (l : Line) : Type 0 where
  first : Token
  rest : List Token
  tokens : l.tokens ≡ first ∷ rest
  place : l.place ≡ first.place

words-place : (text : List ℕ) (l : Line) → IsPlaced l → first_place (words_line text l).words ≡ l.place
words-place text l h =
    ap (λ (ts : List Token). first_place (words_of text ts)) h.tokens
    ∙ before-place (word_of text h.first).mark h.first.place (joined (map (word_of text) h.rest))
    ∙ sym h.place

abbrev ArePlaced : List Line → Type 0
ArePlaced = AllByRecursion IsPlaced

line_by-placed : (indent : ℕ) (ts : List Token) → ArePlaced (line_by indent ts)
line_by-placed indent [] = tt
line_by-placed indent (t ∷ ts) = (record { first = t; rest = ts; tokens = refl; place = refl }, tt)

append-placed : (ls more : List Line) → ArePlaced ls → ArePlaced more → ArePlaced (ls ++ more)
append-placed [] more h k = k
append-placed (l ∷ ls) more h k = (h.0, append-placed ls more h.1 k)

abbrev ArePlacedIf : Result (List Line) Place → Type 0
ArePlacedIf told = IfOk told ArePlaced

lines_before-placed : (ls : List Line) (told : Result (List Line) Place) → ArePlaced ls → ArePlacedIf told → ArePlacedIf (lines_before ls told)
lines_before-placed ls (Ok more) h k = append-placed ls more h k
lines_before-placed ls (Err place) h k = tt

last_by-placed : (os : List Opening) (g : Going) → ArePlacedIf (last_by os g)
last_by-placed [] g = line_by-placed g.indent g.tokens
last_by-placed (o ∷ os) g = tt

going_on-placed : (r : Result Going Place) (more : Going → Result (List Line) Place) → ((g : Going) → ArePlacedIf (more g)) → ArePlacedIf (going_on r more)
going_on-placed (Ok g) more h = h g
going_on-placed (Err place) more h = tt

either-placed : (b : Bool) (x y : Result (List Line) Place) → ArePlacedIf x → ArePlacedIf y → ArePlacedIf (if b then x else y)
either-placed true x y h k = h
either-placed false x y h k = k

lines_from-placed : (g : Going) (ps : List Placed) → ArePlacedIf (lines_from g ps)
unfolding lines_from
lines_from-placed g [] = last_by-placed g.brackets g
lines_from-placed g (p ∷ ps) =
    either-placed (ends_logical p g) (lines_before (line_of g) (lines_from fresh ps)) (going_on (meet p g) (λ h. lines_from h ps))
    (lines_before-placed (line_of g) (lines_from fresh ps) (line_by-placed g.indent g.tokens) (lines_from-placed fresh ps))
    (going_on-placed (meet p g) (λ h. lines_from h ps) (λ h. lines_from-placed h ps))

logical_lines-placed : (cs : List ℕ) → ArePlacedIf (logical_lines cs)
unfolding logical_lines
logical_lines-placed cs = lines_from-placed fresh (pieces_from start 0 cs)

placed_at : (ls : List Line) (k : ℕ) (l : Line) → ArePlaced ls → slice_get ls k ≡ Some l → IsPlaced l
placed_at [] k l h is = absurd (cc)
placed_at (m ∷ ls) zero l h is = let e : m ≡ l = cc in subst IsPlaced e h.0
placed_at (m ∷ ls) (suc k) l h is = placed_at ls k l h.1 is

-- two logical lines of a text that have the same words begin at one place
pub place_by_words : (text cs : List ℕ) (lines : List Line) (j k : ℕ) (l m : Line) → logical_lines cs ≡ Ok lines → slice_get lines j ≡ Some l → slice_get lines k ≡ Some m → words_line text l ≡ words_line text m → l.place ≡ m.place
place_by_words text cs lines j k l m cut at_j at_k same =
    let all : ArePlaced lines = subst ArePlacedIf cut (logical_lines-placed cs) in
    sym (words-place text l (placed_at lines j l all at_j)) ∙ ap (λ (w : Words_line). first_place w.words) same ∙ words-place text m (placed_at lines k m all at_k)
