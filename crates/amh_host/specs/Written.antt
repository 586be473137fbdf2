-- A file that is made anew and then written.
-- Internal: no rule of the language.
use Rattle.std.specs.Prelude.{◌≡◌, ◌⊎◌, ℕ, List, Result, MatchResult}
use Rattle.amh_host.specs.Seen.{Seen, with_file}
use Rattle.amh_host.specs.Calls.{AddsFront}

-- nothing was done, or a front of the bytes is all that the file has
abbrev pub WritesFront : List ℕ → List ℕ → Seen → Seen → Type 0
WritesFront name bytes old new = (new ≡ old) ⊎ AddsFront (with_file name) bytes old new

-- the file has these bytes, or a front of them where the call was refused
abbrev pub Writes : {E : Type 0} → List ℕ → List ℕ → Result (Unit {0}) E → Seen → Seen → Type 0
Writes name bytes result old new = MatchResult result (λ _. new ≡ with_file name bytes old) (λ _. WritesFront name bytes old new)
