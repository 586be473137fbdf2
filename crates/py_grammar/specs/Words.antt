-- Words: tokens with their values.
-- Internal: no rule of the language.
use Rattle.std.specs.Prelude.{ℕ, Bool, true, false, List, [], ◌∷◌, Option, Some, None, is_some, option_and_then, if◌then◌else◌}
use Rattle.lists.specs.Texts.{text_eq}
use Rattle.amh_host.specs.declared.place.Place.{Place}
use Rattle.py_tree.specs.declared.name.Piece.{Piece}
use Rattle.py_tree.specs.declared.number.Decimal.{Decimal}
use Rattle.py_grammar.specs.declared.word.Word.{Word}
use Rattle.py_grammar.specs.declared.word.Mark.{Mark}
use Rattle.py_grammar.specs.declared.word.Mark.TheVariants as mark

-- the word with this mark at this place
abbrev pub word : Mark → Place → Word
word m p = record { mark = m; place = p }

-- the value of each kind of mark
abbrev pub name_of : Mark → Option (List ℕ)
name_of (mark.Name text) = Some text
name_of _ = None

abbrev pub keyword_of : Mark → Option (List ℕ)
keyword_of (mark.Keyword text) = Some text
keyword_of _ = None

abbrev pub sign_of : Mark → Option (List ℕ)
sign_of (mark.Sign text) = Some text
sign_of _ = None

abbrev pub number_of : Mark → Option ℕ
number_of (mark.Number n) = Some n
number_of _ = None

abbrev pub decimal_of : Mark → Option Decimal
decimal_of (mark.Decimal d) = Some d
decimal_of _ = None

abbrev pub string_of : Mark → Option (List ℕ)
string_of (mark.Str text) = Some text
string_of _ = None

abbrev pub format_of : Mark → Option (List Piece)
format_of (mark.Format pieces) = Some pieces
format_of _ = None

-- whether a text is there and is this one
abbrev pub is_text : List ℕ → Option (List ℕ) → Bool
is_text this None = false
is_text this (Some text) = text_eq text this

-- a test of the first word, which no words fail
abbrev pub next : (Mark → Bool) → List Word → Bool
next test [] = false
next test (w ∷ r) = test w.mark

-- whether a sign or a keyword comes next
abbrev pub next_sign : List ℕ → List Word → Bool
next_sign this = next (λ m. is_text this (sign_of m))

abbrev pub next_key : List ℕ → List Word → Bool
next_key this = next (λ m. is_text this (keyword_of m))

-- the value of the text of a mark, where both are there
abbrev pub valued : {A : Type 0} → (Mark → Option (List ℕ)) → (List ℕ → Option A) → Mark → Option A
valued text value m = option_and_then value (text m)
