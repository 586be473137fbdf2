use Rattle.std.proofs.Common.{Option, ℕ, sym, subst, arith}
use Rattle.digraph.specs.Graphs.{IsSorted}
use Rattle.digraph.specs.Walks.{Walking, Explored, IsLooping, IsSeen}
use Rattle.digraph.proofs.WalkEnds.{seen_of, sorted_of}
use Rattle.digraph.proofs.walk.sort.Goals as goal

pub returns-in-Some : goal.returns-in-Some
returns-in-Some c =
    let g = c.args.graph.now in
    let w = c.visit.new.self in
    let P : Option ℕ → Type 0 = λ found. Explored g c.loop-root.root c.loop-root.walk w found in
    let loops : IsLooping g w c.in-Some.field-0 = subst P c.in-Some.is c.in_ok-visit.ensures in
    subst (λ (v : Walking). IsSeen g v.marks) (sym c.walk.view_is) (seen_of g w c.in-Some.field-0 loops)

pub returns : goal.returns
returns c =
    let g = c.args.graph.now in
    let w = c.loop-root.walk in
    let sorted = sorted_of g w c.loop-root.invariant.idle (λ n inside. c.loop-root.invariant.all n (omega (arith, inside, c.loop-root-test.false, c.size-root-end.ensures))) in
    subst (λ (v : Walking). IsSorted g v.order) (sym c.walk-2.view_is) sorted
