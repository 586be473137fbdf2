-- A text in UTF-8, by the form of its characters.
use Rattle.std.proofs.Common.{◌≡◌, ℕ, ◌&&◌, Bool, true, false, List, chars, refl, sym, ap}
use Rattle.std.specs.Str.{IsUtf8, is_utf8}
use Rattle.std.proofs.lemmas.Str.{is_utf8-from_IsUtf8}
use Rattle.unicode_normalization.specs.Forms.{is_in_form, Nfkc}
use Rattle.identifiers.specs.Identifiers.{is_identifier, has_form}

and_false : (a b : Bool) → b ≡ false → false ≡ (a && b)
and_false true b e = sym e
and_false false b e = refl

pub with_form : (text : List ℕ) → IsUtf8 text → has_form (chars text) ≡ true → is_in_form Nfkc (chars text) ≡ is_identifier text
unfolding is_identifier
with_form text u h = rw (is_utf8-from_IsUtf8 text u, h) refl

pub without_form : (text : List ℕ) → has_form (chars text) ≡ false → false ≡ is_identifier text
unfolding is_identifier
without_form text h = and_false (is_utf8 text) (has_form (chars text) && is_in_form Nfkc (chars text)) (ap (λ b. b && is_in_form Nfkc (chars text)) h)
