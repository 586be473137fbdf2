-- The characters of a text, one by one.
use Rattle.std.proofs.Common.{◌≡◌, ℕ, ◌&&◌, Bool, true, List, [], ◌∷◌, ◌++◌, length, encode_utf8, chars, ap, arith}
use Rattle.std.specs.List.{list_all}
use Rattle.std.specs.Str.{IsUtf8}
use Rattle.std.proofs.lemmas.Str.{chars_past_char, chars-nil}

-- all characters pass where the first and all behind it do
pub all_past_char : (p : ℕ → Bool) (bs rest : List ℕ) (c : ℕ) → IsUtf8 bs → bs ≡ encode_utf8 c ++ rest → list_all p (chars bs) ≡ (p c && list_all p (chars rest))
all_past_char p bs rest c u e = ap (list_all p) (chars_past_char bs rest c u e)

pub all_none : (p : ℕ → Bool) (bs : List ℕ) → length bs ≡ 0 → list_all p (chars bs) ≡ true
all_none p [] e = ap (list_all p) chars-nil
all_none p (b ∷ bs) e = absurd (omega (arith, e))
