-- The text that a trace gives a `set` event says that event in a script.
use Rattle.std.proofs.Common.{◌≡◌, refl, ℕ, ◌+◌, ◌-◌, ◌*◌, ◌≤◌, Bool, true, false, cond, List, [], ◌∷◌, ◌++◌, ap, ◌∙◌, arith}
use Rattle.std.specs.Prelude.{Option, Some, None, option_and_then, option_map, ℤ, pos, ◌==◌}
use Rattle.std.specs.List.{list_any}
use Rattle.std.proofs.lemmas.Bool.{or_parts, or_from}
use Rattle.std.proofs.lemmas.Bool.Decides.{nat_tests}
use Rattle.std.specs.Char.{is_ascii_digit}
use Rattle.amh_bits.specs.Decimals.{int_text}
use Rattle.design_ir.specs.declared.ids.SigId.{SigId}
use Rattle.design_ir.specs.declared.event.Event.TheVariants.{Set}
use Rattle.play_text.specs.declared.board.Shown.{Shown}
use Rattle.play_text.specs.declared.board.Board.{Board}
use Rattle.play_text.specs.declared.script_saying.Saying.TheVariants.{Asks}
use Rattle.play_text.specs.Trace.{event_text, name_of}
use Rattle.play_text.specs.Script.{says, settable, digits_from, natural_of, opposite, integer_of, holds, words_in}
use Rattle.play_text.proofs.ScriptNumberLaws.{integer_of-held}
use Rattle.play_text.proofs.ScriptNumerals.{digit_low}

-- a blank is among the bytes
abbrev pub has_blank : List ℕ → Bool
has_blank bytes = list_any (λ b. b == 32) bytes

-- a word before a blank
words_in-blank : (w rest : List ℕ) → has_blank w ≡ false → words_in (w ++ 32 ∷ rest) ≡ w ∷ words_in rest
words_in-blank [] rest h = refl
words_in-blank (b ∷ bs) rest h =
    let parts = or_parts (b == 32) (has_blank bs) h in
    rw (parts.0, words_in-blank bs rest parts.1) refl

-- a text without a blank is one word
words_in-one : (w : List ℕ) → has_blank w ≡ false → words_in w ≡ w ∷ []
words_in-one [] h = refl
words_in-one (b ∷ bs) h =
    let parts = or_parts (b == 32) (has_blank bs) h in
    rw (parts.0, words_in-one bs parts.1) refl

no_blank_byte : (b : ℕ) → is_ascii_digit b ≡ true → (b == 32) ≡ false
no_blank_byte b digit = let low = digit_low b digit in grind (arith, nat_tests)

digits_from-no_blank : (n m : ℕ) (ds : List ℕ) → digits_from n ds ≡ Some m → has_blank ds ≡ false
digits_from-no_blank n m [] h = refl
digits_from-no_blank n m (d ∷ ds) h = here (is_ascii_digit d) refl h (λ k. digits_from-no_blank (10 * n + (d - 48)) m ds k)
  where
    here : (t : Bool) → is_ascii_digit d ≡ t → cond t (digits_from (10 * n + (d - 48)) ds) None ≡ Some m → (digits_from (10 * n + (d - 48)) ds ≡ Some m → has_blank ds ≡ false) → has_blank (d ∷ ds) ≡ false
    here true digit e more = or_from (d == 32) (has_blank ds) (no_blank_byte d digit) (more e)
    here false digit e more = absurd (cc)

natural_of-no_blank : (text : List ℕ) (m : ℕ) → natural_of text ≡ Some m → has_blank text ≡ false
natural_of-no_blank [] m h = refl
natural_of-no_blank (b ∷ []) m h = digits_from-no_blank 0 m (b ∷ []) h
natural_of-no_blank (b ∷ c ∷ bs) m h = here (b == 48) h
  where
    here : (t : Bool) → cond t None (digits_from 0 (b ∷ c ∷ bs)) ≡ Some m → has_blank (b ∷ c ∷ bs) ≡ false
    here true e = absurd (cc)
    here false e = digits_from-no_blank 0 m (b ∷ c ∷ bs) e

from_natural : {U : Type 0} (f : ℕ → Option U) (text : List ℕ) (o : Option ℕ) (y : U) → natural_of text ≡ o → option_and_then f o ≡ Some y → has_blank text ≡ false
from_natural f text None y n h = absurd (cc)
from_natural f text (Some m) y n h = natural_of-no_blank text m n

from_pos : (text : List ℕ) (o : Option ℕ) (y : ℤ) → natural_of text ≡ o → option_map pos o ≡ Some y → has_blank text ≡ false
from_pos text None y n h = absurd (cc)
from_pos text (Some m) y n h = natural_of-no_blank text m n

-- an integer's text is one word
integer_of-no_blank : (text : List ℕ) (z : ℤ) → integer_of text ≡ Some z → has_blank text ≡ false
integer_of-no_blank [] z h = refl
integer_of-no_blank (b ∷ bs) z h = here (b == 45) refl h
  where
    minus : (b == 45) ≡ true → (b == 32) ≡ false
    minus q = grind (arith, nat_tests)

    here : (t : Bool) → (b == 45) ≡ t → cond t (option_and_then opposite (natural_of bs)) (option_map pos (natural_of (b ∷ bs))) ≡ Some z → has_blank (b ∷ bs) ≡ false
    here true q e = or_from (b == 32) (has_blank bs) (minus q) (from_natural opposite bs (natural_of bs) z refl e)
    here false q e = from_pos (b ∷ bs) (natural_of (b ∷ bs)) z refl e

-- a number of a settable column's shape, under the column's name
pub says-event_text : (b : Board) (before : List ℤ) (s : SigId) (n : ℤ) (x : Shown)
    → settable b (name_of b.columns s.0) ≡ Some x → x.sig ≡ s → holds x.shape n ≡ true → x.shape.width ≤ 128 → has_blank (name_of b.columns s.0) ≡ false
    → says b (event_text b before (Set s n)) ≡ Asks (Set s n)
unfolding event_text
says-event_text b before s n x column same fits narrow one_word =
    let text = int_text n in
    let number : integer_of text ≡ Some n = integer_of-held x.shape n narrow fits in
    let words : words_in (name_of b.columns s.0 ++ 32 ∷ text) ≡ name_of b.columns s.0 ∷ text ∷ [] =
    words_in-blank (name_of b.columns s.0) text one_word ∙ ap (λ ws. name_of b.columns s.0 ∷ ws) (words_in-one text (integer_of-no_blank text n number)) in
    rw (words, column, number, fits, same) refl
