-- Whether bytes are a text, as a test.
use Rattle.std.proofs.Common.{◌≡◌, ℕ, List, true, false, refl}
use Rattle.std.specs.Prelude.{Bool}
use Rattle.std.specs.Str.{IsUtf8, is_utf8}
use Rattle.std.proofs.lemmas.Str.{IsUtf8-from_is_utf8, is_utf8-from_IsUtf8}

pub is_text : (bs : List ℕ) → IsUtf8 bs → is_utf8 bs ≡ true
is_text bs h = is_utf8-from_IsUtf8 bs h

no_text_by : (b : Bool) → (b ≡ true → ⊥) → b ≡ false
no_text_by true h = absurd (h refl)
no_text_by false h = refl

pub no_text : (bs : List ℕ) → (IsUtf8 bs → ⊥) → is_utf8 bs ≡ false
no_text bs h = no_text_by (is_utf8 bs) (λ e. h (IsUtf8-from_is_utf8 bs e))

pub ruleset tested = (is_text, no_text)
