-- The names that wires, memories and cells may have.
-- Source: Yosys manual, RTLIL text representation: Identifiers; the form of public and inner names: own rule (docs/RULES.md).
use Rattle.std.specs.Prelude.{◌≡◌, ◌≢◌, ◌⊎◌, ℕ, List, AllPairs, codes}
use Rattle.lists.specs.Names.{IsPublicName}
use Rattle.rtlil_text.specs.Numerals.{numeral}
use Rattle.rtlil_text.specs.Lines.{◌▸◌}

-- no two are equal
abbrev pub AreDistinct : List (List ℕ) → Type 0
AreDistinct ids = AllPairs (λ a b. a ≢ b) ids

-- `\` and a public name
abbrev pub IsPublicId : List ℕ → Type 0
IsPublicId id = (name : List ℕ) × IsPublicName name × (id ≡ codes "\\" ▸ name)

-- `$` and a number
abbrev pub IsInnerId : List ℕ → Type 0
IsInnerId id = (n : ℕ) × (id ≡ codes "$" ▸ numeral n)

abbrev pub IsId : List ℕ → Type 0
IsId id = IsPublicId id ⊎ IsInnerId id
