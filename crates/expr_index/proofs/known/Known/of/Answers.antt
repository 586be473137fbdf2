use Rattle.std.proofs.Common.{◌≡◌, ◌++◌, ◌∷◌, [], ◌∙◌, ap, sym, subst, take, ◌+◌}
use Rattle.std.proofs.lemmas.List.{take_more}
use Rattle.std.proofs.lemmas.Option.{get_or_from_slice_get, slice_get_within}
use Rattle.expr_index.specs.Knows.{Knows}
use Rattle.expr_index.proofs.known.Known.of.Goals as goal

pub loop-i-preserved : goal.loop-i-preserved
loop-i-preserved g c =
    let es = (g.P.Exprs.pooled c.args.pool.now).exprs in
    let i = c.loop-i.i in
    let e = c.at.result.now in
    let one : take (i + 1) es ≡ take i es ++ e ∷ [] =
    take_more es i e (slice_get_within es i e c.at.ensures) ∙ ap (λ x. take i es ++ x ∷ []) (get_or_from_slice_get es i e e c.at.ensures) in
    subst (λ l. Knows c.note.new.self l) (sym one) (c.in_ok-note.ensures.noted (take i es) c.loop-i.invariant)
