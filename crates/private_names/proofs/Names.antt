-- What stays of a name.
use Rattle.std.proofs.Common.{◌≡◌, ◌≢◌, ℕ, ◌==◌, List, [], ◌∷◌, drop, refl, sym, ap}
use Rattle.std.proofs.lemmas.Bool.{cond-false, false_from_ne_true, eqb-true}
use Rattle.private_names.specs.Names.{underscore, without_underscores}

-- a name that begins with no underscore is left whole
pub without_underscores_same : (bs : List ℕ) → ((rest : List ℕ) → drop 0 bs ≢ underscore ∷ rest) → bs ≡ without_underscores bs
without_underscores_same [] h = refl
without_underscores_same (b ∷ bs) h = sym (cond-false (b == underscore) (without_underscores bs) (b ∷ bs) (false_from_ne_true (b == underscore) (λ e. h bs (ap (λ x. x ∷ bs) (eqb-true b underscore e)))))
