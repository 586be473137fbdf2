use Rattle.std.proofs.Common.{◌≡◌, ◌≢◌, ◌<◌, sym, subst, ap, arith, length}
use Rattle.digraph.specs.declared.walk.Mark.TheVariants.{New, Open}
use Rattle.digraph.specs.declared.walk.Frame.{Frame}
use Rattle.digraph.specs.Walks.{Walking, mark, Stands, Kept, opened}
use Rattle.digraph.proofs.WalkLaws.{kept-set, mark-same}
use Rattle.digraph.proofs.WalkTurns.{begun}
use Rattle.digraph.proofs.walk.Walk.explore.Goals as goal

pub loop-at-init : goal.loop-at-init
loop-at-init c =
    let g = c.args.graph.now in
    let w = c.args.self.now in
    let root = c.args.root in
    let last = c.open-at.result.rest in
    let there : Frame = record { node = root; rest = last } in
    let inside : root < length w.marks = omega (arith, c.requires.idle.closed.size, c.requires.root) in
    let after : c.open-at.new.self ≡ opened w root = c.open-at.ensures.opened in
    let result : c.open-at.result ≡ there = ap (λ n. record { node = n; rest = last }) c.open-at.ensures.node in
    let stands = begun g w root last c.requires.idle c.requires.new inside c.open-at.ensures.rest c.open-at.ensures.none in
    record {
      stands = subst (λ v. Stands g v c.open-at.result) (sym after) (subst (λ f. Stands g (opened w root) f) (sym result) stands);
      kept = subst (λ (v : Walking). Kept w.marks v.marks) (sym after) (kept-set w.marks root Open inside (λ q. cc));
      seen = subst (λ (v : Walking). mark v.marks root ≢ New) (sym after) (λ q. let is : mark (opened w root).marks root ≡ Open = mark-same w.marks root Open inside in cc);
    }
