-- Names, each of which is to stand once.
-- Source: own rule (docs/RULES.md).
use Rattle.std.specs.Prelude.{ℕ, Bool, false, ◌||◌, List, [], ◌∷◌}
use Rattle.std.specs.List.{list_any}
use Rattle.lists.specs.Texts.{text_eq}

-- whether a name stands twice
abbrev pub has_twins : List (List ℕ) → Bool
has_twins [] = false
has_twins (n ∷ ns) = list_any (text_eq n) ns || has_twins ns
