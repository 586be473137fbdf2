use Rattle.std.proofs.Common.{◌≡◌, ◌∙◌, sym, refl, List, [], ◌∷◌, None}
use Rattle.std.specs.Prelude.{slice_get}
use Rattle.py_lexer.proofs.going.Going.expect_closed.Goals as goal

empty : {A : Type 0} (xs : List A) → slice_get xs 0 ≡ None → xs ≡ []
empty [] e = refl
empty (x ∷ xs) e = cc

-- no bracket stands open where there is no first
pub returns-in-None-clause-ok : goal.returns-in-None-clause-ok
returns-in-None-clause-ok c = empty _ (sym c.first.ensures ∙ c.in-None.is)
