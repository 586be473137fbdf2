-- What is known of a result where it is Ok.
use Rattle.std.specs.Prelude.{◌≡◌, Result, Ok, Err, IfOk}
use Rattle.std.proofs.Common.{◌∙◌}

pub along : {A E : Type 0} (r : Result A E) (a b : A) → a ≡ b → IfOk r (λ v. v ≡ a) → IfOk r (λ v. v ≡ b)
along (Ok v) a b e h = h ∙ e
along (Err x) a b e h = h

pub implied : {A E : Type 0} (P Q : A → Type 0) (r : Result A E) → ((v : A) → P v → Q v) → IfOk r P → IfOk r Q
implied P Q (Ok v) f h = f v h
implied P Q (Err x) f h = h
