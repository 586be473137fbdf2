-- What is added to the line of an answer.
-- Internal: no rule of the language.
use Rattle.std.specs.Prelude.{◌≡◌, ℕ, List, ◌++◌, None, string_bytes}
use Rattle.table_text.specs.Escapes.{Spells}
use Rattle.table_text.specs.declared.line.Line.{Line}

-- a line that is told was told before, and has this text more
abbrev pub Adds : Line → List ℕ → Line → Type 0
Adds old text new = new.stop ≡ None → (old.stop ≡ None) × (string_bytes new.text ≡ string_bytes old.text ++ text)

-- and the text spells these bytes
abbrev pub AddsSpelled : Line → List ℕ → Line → Type 0
AddsSpelled old bytes new = new.stop ≡ None → (text : List ℕ) × Spells bytes text × (string_bytes new.text ≡ string_bytes old.text ++ text)
