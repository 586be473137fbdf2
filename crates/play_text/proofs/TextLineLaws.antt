-- Laws of the lines of a text.
use Rattle.std.proofs.Common.{ℕ, List, [], ◌∷◌, ◌++◌}
use Rattle.play_text.specs.TextLines.{Line}

-- lines whose first begins with these bytes
abbrev pub joined_line : List ℕ → List Line → List Line
joined_line [] ls = ls
joined_line (b ∷ bs) [] = (b ∷ bs) ∷ []
joined_line (b ∷ bs) (l ∷ ls) = ((b ∷ bs) ++ l) ∷ ls
