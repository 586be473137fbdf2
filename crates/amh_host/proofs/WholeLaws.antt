-- A front of a file.
use Rattle.std.proofs.Common.{◌≡◌, ℕ, ◌<◌, List, ◌++◌, length, take, drop, ap, ◌∙◌, arith}
use Rattle.std.specs.Prelude.{Option, None, Some, MatchOption, IfSome}
use Rattle.std.proofs.lemmas.List.{take-append-drop}
use Rattle.amh_host.specs.Seen.{Files}
use Rattle.amh_host.specs.Whole.{BeginsWith}

-- bytes read one piece after another are a front of the file, if there is one
pub front_read : (told : Option Files) (name bytes : List ℕ) (limit n : ℕ) → n ≡ length bytes → limit < n
    → IfSome told (λ files. MatchOption (files name) (n ≡ 0) (λ file. bytes ≡ take n file))
    → IfSome told (λ files. MatchOption (files name) ⊥ (λ file. BeginsWith file bytes × (limit < length bytes)))
front_read None name bytes limit n len past h = tt
front_read (Some files) name bytes limit n len past h = within (files name) h
  where
    within : (held : Option (List ℕ)) → MatchOption held (n ≡ 0) (λ file. bytes ≡ take n file) → MatchOption held ⊥ (λ file. BeginsWith file bytes × (limit < length bytes))
    within None h = absurd (omega arith)
    within (Some file) h = (record { rest = drop n file; whole = ap (λ b. b ++ drop n file) h ∙ take-append-drop n file }, omega arith)
