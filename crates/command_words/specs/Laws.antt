-- Plain words are read as they stand.
-- Source: this project's own rule (docs/RULES.md).
use Rattle.std.specs.Prelude.{◌≡◌, ◌==◌, Bool, true, not, List, [], ◌∷◌, Option, Some, None, codes}
use Rattle.std.specs.List.{list_all}
use Rattle.clap.specs.Words.{Text}
use Rattle.command_words.specs.Request.{Request, are_apart, asked}

-- a word that does not begin with a hyphen
abbrev pub is_plain_word : Text → Bool
is_plain_word [] = true
is_plain_word (b ∷ bs) = not (b == 45)

-- names that are plain words, of which no two are equal
abbrev pub ArePlain : List Text → Type 0
ArePlain names = (list_all is_plain_word names ≡ true) × (are_apart names ≡ true)

abbrev pub plain_request : Text → Text → Text → Option Text → Request
plain_request design il trace play = record {
  design = design;
  il = il;
  trace = trace;
  play = play;
  top = None;
  budget = 10000000;
  make = None;
}

pub record PlainWordsAreRead : Type 0 where
  pub names : (a b c : Text) → ArePlain (a ∷ b ∷ c ∷ []) → asked (a ∷ b ∷ c ∷ []) ≡ Some (plain_request a b c None)
  pub script : (a b c s : Text) → ArePlain (a ∷ b ∷ c ∷ s ∷ [])
      → asked (a ∷ b ∷ c ∷ codes "--play" ∷ s ∷ []) ≡ Some (plain_request a b c (Some s))
