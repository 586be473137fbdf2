-- The marks of expressions, one after the other.
use Rattle.std.proofs.Common.{◌≡◌, ◌∙◌, ℕ, suc, ◌+◌, ◌≤◌, Bool, false, List, [], ◌∷◌, ◌++◌, take, length, sym, ap, arith, Some, slice_get}
use Rattle.std.proofs.lemmas.List.{take_all}
use Rattle.design_ir.specs.declared.expr.Expr.{Expr}
use Rattle.design_ir.specs.Pools.{answers}
use Rattle.design_ir.proofs.Answers.{answers_append}
use Rattle.digraph.proofs.Takes.{take_at}
use Rattle.design_table.specs.Tests.{is_at}

-- one expression more
pub marks_turn : (step : (ℕ → Bool) → Expr → Bool) (marks marks' : List Bool) (es : List Expr) (k : ℕ) (e : Expr) (b : Bool) → marks ≡ answers false step [] (take k es) → slice_get es k ≡ Some e → b ≡ step (is_at marks) e → marks' ≡ marks ++ b ∷ [] → marks' ≡ answers false step [] (take (k + 1) es)
marks_turn step marks marks' es k e b known at is grown =
    let more : k + 1 ≡ suc k = omega arith in
    let next : take (k + 1) es ≡ take k es ++ e ∷ [] = ap (λ n. take n es) more ∙ take_at es k e at in
    grown
    ∙ ap (λ x. marks ++ x ∷ []) is
    ∙ ap (λ ms. answers false step ms (e ∷ [])) known
    ∙ sym (answers_append false step [] (take k es) (e ∷ []))
    ∙ ap (answers false step []) (sym next)

-- all of them
pub marks_end : (step : (ℕ → Bool) → Expr → Bool) (marks : List Bool) (es : List Expr) (k : ℕ) → marks ≡ answers false step [] (take k es) → length es ≤ k → marks ≡ answers false step [] es
marks_end step marks es k known all = known ∙ ap (answers false step []) (take_all k es all)
