use Rattle.std.proofs.Common.{◌≡◌, ◌<◌, List, ℕ, All, chars, true, sym, subst}
use Rattle.std.specs.Str.{IsAscii}
use Rattle.std.proofs.lemmas.Str.{chars-IsAscii}
use Rattle.std.proofs.lemmas.Str.Ascii.{All-from_ascii}
use Rattle.unicode_normalization.specs.Forms.{is_in_form, Nfkc}
use Rattle.unicode_normalization.proofs.FormsLemmas.{is_in_form_from, normalize-ascii}
use Rattle.identifiers.proofs.identifier.is_in_nfkc.Goals as goal

ascii_is : (text : List ℕ) → IsAscii text → is_in_form Nfkc (chars text) ≡ true
ascii_is text h = is_in_form_from Nfkc (chars text) (normalize-ascii Nfkc (chars text) (subst (All (λ b. b < 128)) (sym (chars-IsAscii text h)) (All-from_ascii text h)))

-- a text of ASCII is in NFKC
pub returns-then-is_ascii-clause-value : goal.returns-then-is_ascii-clause-value
returns-then-is_ascii-clause-value c = sym (ascii_is c.args.text.now (λ i. c.if-is_ascii.ensures.cases i))
