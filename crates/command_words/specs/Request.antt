-- What the words of the command line ask for.
-- Source: this project's own rule (docs/RULES.md); the kit's `clap` for which words are of the command, and for their matches.
use Rattle.std.specs.Prelude.{◌≡◌, ◌≤◌, ℕ, ◌&&◌, Bool, true, not, if◌then◌else◌, List, [], ◌∷◌, Option, Some, None, IfSome, codes, unwrap_or, option_to_list}
use Rattle.std.specs.Option.{option_map}
use Rattle.std.specs.List.{list_any}
use Rattle.std.specs.Str.{bytes_eq}
use Rattle.std.specs.Str.Parse.{digits_value, without_leading_plus}
use Rattle.clap.specs.Words.{Row, Text, fault_of, first_of, matches_of, one_of}
use Rattle.clap.specs.Walk.{is_empty}
use Rattle.clap.specs.Values.{IsUnsignedIn}
use Rattle.command_words.specs.Command.{command}

pub record Request : Type 0 where
  pub design : Text
  pub il : Text
  pub trace : Text
  pub play : Option Text
  pub top : Option Text
  pub budget : ℕ
  pub make : Option ℕ

-- ---- what the matches hold

-- the value of a word that has to be given
abbrev pub place_at : Text → List Row → Text
place_at id rows = unwrap_or (first_of id rows) []

-- the number that is a value
abbrev pub number_at : Text → List Row → Option ℕ
number_at id rows = option_map (λ text. digits_value 10 (without_leading_plus text)) (one_of id rows)

unfoldable pub request_of : List Row → Request
request_of rows = record {
  design = place_at (codes "DESIGN") rows;
  il = place_at (codes "IL") rows;
  trace = place_at (codes "TRACE") rows;
  play = first_of (codes "play") rows;
  top = first_of (codes "top") rows;
  budget = unwrap_or (number_at (codes "budget") rows) 10000000;
  make = number_at (codes "make") rows;
}

-- each of the numbers is one, in its range
pub record HoldsNumbers (rows : List Row) : Type 0 where
  pub budget : (text : Text) → one_of (codes "budget") rows ≡ Some text → IsUnsignedIn 1 1000000000 text
  pub make : (text : Text) → one_of (codes "make") rows ≡ Some text → IsUnsignedIn 1 1000 text

-- ---- the words

-- DESIGN, IL, TRACE and FILE
abbrev pub names_of : Request → List Text
names_of r = r.design ∷ r.il ∷ r.trace ∷ option_to_list r.play

-- no two names are equal
abbrev pub are_apart : List Text → Bool
are_apart [] = true
are_apart (name ∷ rest) = not (list_any (bytes_eq name) rest) && are_apart rest

-- a parse of the words finds no fault
abbrev pub is_of_command : List Text → Bool
is_of_command words = is_empty (fault_of command words)

abbrev pub with_names_apart : Request → Option Request
with_names_apart r = if are_apart (names_of r) then Some r else None

-- what the words ask for: nothing where they are not of the command, or two of its names are equal
unfoldable pub asked : List Text → Option Request
asked words = if is_of_command words then with_names_apart (request_of (matches_of command words)) else None

-- what is asked for: each word that has to be given is there, no two names are equal, and each number is in its range
pub record IsGiven (words : List Text) (r : Request) : Type 0 where
  pub design : first_of (codes "DESIGN") (matches_of command words) ≡ Some r.design
  pub il : first_of (codes "IL") (matches_of command words) ≡ Some r.il
  pub trace : first_of (codes "TRACE") (matches_of command words) ≡ Some r.trace
  pub apart : are_apart (names_of r) ≡ true
  pub budget : (1 ≤ r.budget) × (r.budget ≤ 1000000000)
  pub make : IfSome r.make (λ n. (1 ≤ n) × (n ≤ 1000))
