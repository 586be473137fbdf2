-- A string, part by part.
use Rattle.std.proofs.Common.{◌≡◌, ℕ, zero, suc, true, false, ◌+◌, ◌<◌, ◌≤◌, List, [], ◌∷◌, length, drop, refl, ap, sym, ◌∙◌, arith}
use Rattle.py_lexer.specs.declared.strings.Style.{Style}
use Rattle.py_lexer.specs.declared.strings.Part.{Part}
use Rattle.py_lexer.specs.declared.strings.Part.TheVariants.{Inner, Missing, Bad}
use Rattle.py_lexer.specs.declared.strings.Body.TheVariants.{Closed, Cut, Spoiled}
use Rattle.py_lexer.specs.Strings.{closes, part_of, by_part, quotes, string_from}

-- the rest of a part is passed over
pub string_passes : (style : Style) (n k : ℕ) (cs : List ℕ) → string_from style n k cs ≡ string_from style (n + k) 0 (drop k cs)
unfolding string_from
string_passes style n zero cs = ap (λ m. string_from style m 0 cs) (omega arith)
string_passes style n (suc k) [] = refl
string_passes style n (suc k) (c ∷ cs) = string_passes style (suc n) k cs ∙ ap (λ m. string_from style m 0 (drop k cs)) (omega arith)

pub string_closed : (style : Style) (n : ℕ) (cs : List ℕ) → 0 < length cs → true ≡ closes style cs → string_from style n 0 cs ≡ Closed (n + quotes style)
unfolding string_from
string_closed style n [] h e = absurd (omega arith)
string_closed style n (c ∷ cs) h e = rw (sym e) refl

string_step : (style : Style) (n : ℕ) (cs : List ℕ) (part : Part) → 0 < length cs → false ≡ closes style cs → part ≡ part_of style cs → string_from style n 0 cs ≡ by_part n part (λ k. string_from style (suc n) k (drop 1 cs))
unfolding string_from
string_step style n [] part h f e = absurd (omega arith)
string_step style n (c ∷ cs) part h f e = rw (sym f) (ap (λ p. by_part n p (λ k. string_from style (suc n) k cs)) (sym e))

pub string_missing : (style : Style) (n : ℕ) (cs : List ℕ) → 0 < length cs → false ≡ closes style cs → Missing ≡ part_of style cs → string_from style n 0 cs ≡ Cut
string_missing style n cs h f e = string_step style n cs Missing h f e

pub string_bad : (style : Style) (n : ℕ) (cs : List ℕ) → 0 < length cs → false ≡ closes style cs → Bad ≡ part_of style cs → string_from style n 0 cs ≡ Spoiled n
string_bad style n cs h f e = string_step style n cs Bad h f e

pub string_inner : (style : Style) (n w : ℕ) (cs : List ℕ) → false ≡ closes style cs → Inner w ≡ part_of style cs → 0 < w → w ≤ length cs → string_from style n 0 cs ≡ string_from style (n + w) 0 (drop w cs)
string_inner style n zero cs f e h l = absurd (omega arith)
string_inner style n (suc w) [] f e h l = absurd (omega arith)
string_inner style n (suc w) (c ∷ cs) f e h l =
    string_step style n (c ∷ cs) (Inner (suc w)) (omega arith) f e ∙ (ap (λ k. string_from style (suc n) k cs) (omega arith) ∙ (string_passes style (suc n) w cs ∙ ap (λ m. string_from style m 0 (drop w cs)) (omega arith)))

pub string_over : (style : Style) (n : ℕ) (cs : List ℕ) → length cs ≡ 0 → string_from style n 0 cs ≡ Cut
unfolding string_from
string_over style n [] h = refl
string_over style n (c ∷ cs) h = absurd (omega arith)

pub ruleset string_parts = (string_closed, string_missing, string_bad, string_inner, string_over)
