-- The lines of a text.
-- Source: this project's own rule (docs/RULES.md).
use Rattle.std.specs.Prelude.{ℕ, ◌==◌, if◌then◌else◌, List, [], ◌∷◌}

-- a line with its line feed; a file's last line may be without one
abbrev pub Line : Type 0
Line = List ℕ

-- a byte at the front of the first line
abbrev pub with_byte : ℕ → List Line → List Line
with_byte b [] = (b ∷ []) ∷ []
with_byte b (l ∷ ls) = (b ∷ l) ∷ ls

-- the lines of a text
abbrev pub lines_in : List ℕ → List Line
lines_in [] = []
lines_in (b ∷ bs) = if b == 10 then (10 ∷ []) ∷ lines_in bs else with_byte b (lines_in bs)
