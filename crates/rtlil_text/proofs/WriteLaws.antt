-- Calls in a row that make a file anew.
use Rattle.std.proofs.Common.{◌≡◌, ◌∙◌, ◌⊎◌, ℕ, List, [], ◌++◌, refl, ap, inl, inr, ⊎_elim}
use Rattle.std.specs.Prelude.{Result, Ok, Err}
use Rattle.std.proofs.lemmas.List.{append-nil}
use Rattle.amh_host.specs.Seen.{Seen, with_file, written, started}
use Rattle.amh_host.specs.Calls.{Adds}
use Rattle.amh_host.specs.Written.{Writes, WritesFront}
use Rattle.amh_host.proofs.SeenLaws.{IsAt, IsAt-put, IsAt-refused}

-- a call that was refused, with a piece before it
pub WritesFront-start : (name whole : List ℕ) (old new : Seen) → (new ≡ old) ⊎ (new ≡ started name old) → WritesFront name whole old new
WritesFront-start name whole old new h = ⊎_elim inl (λ e. inr (record { front = []; rest = whole; whole = refl; changed = e })) h

-- the last call, as it is
pub Writes-last : {E : Type 0} (r : Result (Unit {0}) E) (name so_far piece whole : List ℕ) (old now new : Seen) → IsAt name so_far old now → so_far ++ piece ≡ whole → Adds (written name) piece r now new → Writes name whole r old new
Writes-last (Ok x) name so_far piece whole old now new at e h = (IsAt-put name so_far piece old now new at h).seen ∙ ap (λ (b : List ℕ). with_file name b old) e
Writes-last (Err x) name so_far piece whole old now new at e h = inr (IsAt-refused name so_far piece [] whole old now new at (append-nil (so_far ++ piece) ∙ e) h)
