use Rattle.std.proofs.Common.{◌≡◌, ◌∙◌, sym, subst, arith, length}
use Rattle.py_lexer.specs.Gives.{Cuts}
use Rattle.py_lexer.proofs.WalkLaws.{owed_over}
use Rattle.py_lexer.proofs.walk.cut_chars.Goals as goal

pub returns : goal.returns
returns c =
    let over : length c.loop-rest.rest.now ≡ 0 = grind (arith, c.loop-rest-test.ensures) in
    subst (λ told. Cuts c.last.result told) (sym (owed_over c.loop-rest.walk c.loop-rest.rest.now over) ∙ c.loop-rest.invariant.told) c.last.ensures
