-- Identifiers are names.
-- Source: own rule (docs/RULES.md): names that are written are told by bytes.
use Rattle.std.specs.Prelude.{ℕ, List, IsTrue}
use Rattle.lists.specs.Names.{IsName}
use Rattle.identifiers.specs.Identifiers.{is_identifier}

-- by bytes, an identifier is a name
abbrev pub IdentifiersAreNames : Type 0
IdentifiersAreNames = (text : List ℕ) → IsTrue (is_identifier text) → IsName text
