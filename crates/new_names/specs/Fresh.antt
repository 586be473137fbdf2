-- Names that are made new by a number.
-- Source: this project's own rule (docs/RULES.md): `$` and the least number with which a name is new.
use Rattle.std.specs.Prelude.{ℕ, ◌++◌, Bool, not, if◌then◌else◌, List, [], ◌∷◌, map, length, unwrap_or, codes}
use Rattle.std.specs.Fmt.{decimal}
use Rattle.std.specs.List.{list_any, find, range_with_len}
use Rattle.lists.specs.Texts.{text_eq}

abbrev pub has_name : List (List ℕ) → List ℕ → Bool
has_name names name = list_any (text_eq name) names

abbrev pub numbered_name : List ℕ → ℕ → List ℕ
numbered_name name k = name ++ (codes "$" ++ decimal k)

-- a name that stands already gets the least number from 1 on with which it is new; of as many numbers as there are names
-- one is
abbrev pub fresh_name : List (List ℕ) → List ℕ → List ℕ
fresh_name names name =
    if has_name names name then unwrap_or (find (λ x. not (has_name names x)) (map (numbered_name name) (range_with_len 1 (length names)))) name else name

-- the names that are given for these, one after another, where those stand already
abbrev pub given_names : List (List ℕ) → List (List ℕ) → List (List ℕ)
given_names names [] = []
given_names names (name ∷ more) = fresh_name names name ∷ given_names (names ++ fresh_name names name ∷ []) more
