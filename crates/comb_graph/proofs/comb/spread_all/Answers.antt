use Rattle.std.proofs.Common.{◌≡◌, ◌+◌, ◌-◌, length, subst, arith}
use Rattle.comb_graph.specs.CombTargets.{FindsSame}
use Rattle.comb_graph.proofs.CombFinds.{finds_then}
use Rattle.comb_graph.proofs.comb.spread_all.Goals as goal

pub loop-i-preserved : goal.loop-i-preserved
loop-i-preserved c =
    let pool = c.args.design.now.pool in
    let count = length pool.exprs in
    let i = c.loop-i.i in
    let e1 = c.loop-i.exprs.items in
    let s1 = c.loop-i.signals.items in
    let e2 = c.spread.new.exprs.items in
    let s2 = c.spread.new.signals.items in
    let low : c.count-count.result - 1 - i ≡ count - (i + 1) = omega (arith, c.count-count.ensures.value) in
    let high : count - (i + 1) + 1 ≡ count - i = omega (arith, c.loop-i-test.true, c.count-count.ensures.value) in
    let step = subst (λ n. FindsSame pool e1 s1 (n + 1) e2 s2 n) low c.spread.ensures in
    let step' = subst (λ n. FindsSame pool e1 s1 n e2 s2 (count - (i + 1))) high step in
    finds_then pool c.args.exprs.now.items c.args.signals.now.items count e1 s1 (count - i) e2 s2 (count - (i + 1)) c.loop-i.invariant step'
