use Rattle.std.proofs.Common.{◌≡◌, ◌∙◌, ◌<◌, ℕ, List, [], ◌∷◌, ◌++◌, sym, subst, ap, arith, length, slice_index_or}
use Rattle.digraph.specs.declared.walk.Mark.{Mark}
use Rattle.digraph.specs.declared.walk.Mark.TheVariants.{New, Open, Done}
use Rattle.digraph.specs.declared.walk.Frame.{Frame}
use Rattle.digraph.specs.Graphs.{Digraph}
use Rattle.digraph.specs.Walks.{Walking, mark, Stands, GoesOn, opened, waiting}
use Rattle.digraph.proofs.WalkLaws.{mark_read, kept-set}
use Rattle.digraph.proofs.WalkTurns.{passed, looped, entered}
use Rattle.digraph.proofs.WalkWork.{work_passed, work_entered}
use Rattle.digraph.proofs.walk.Walk.on.Goals as goal

inside : (g : Digraph) (w : Walking) (at : Frame) (upto : ℕ) → Stands g w at → upto < g.size → upto < length w.marks
inside g w at upto h below = omega (arith, h.closed.size, below)

-- the mark that was read
read : (g : Digraph) (w : Walking) (at : Frame) (upto : ℕ) (marks : List Mark) (x m : Mark) → Stands g w at → upto < g.size → marks ≡ w.marks → x ≡ slice_index_or marks upto x → x ≡ m → mark w.marks upto ≡ m
read g w at upto marks x m h below same found is =
    mark_read w.marks upto x m (inside g w at upto h below) (subst (λ ms. x ≡ slice_index_or ms upto x) same found) is

pub returns-in-Done : goal.returns-in-Done
returns-in-Done c =
    let g = c.args.graph.now in
    let w = c.args.self.now in
    let upto = c.next-next.result.upto in
    let others = c.next-next.result.others in
    let next = c.next-next.ensures.next c.args.at.node c.requires.stands.on_path.rest in
    let marks = ap (λ (v : Walking). v.marks) c.self.view_is in
    let is = read g w c.args.at upto c.self.inside.marks.items c.index.result.now Done c.requires.stands c.next-next.ensures.node marks c.index.ensures c.in-Done.is in
    record {
      stands = passed g w c.args.at upto others c.requires.stands next is;
      less = work_passed g w c.args.at others next.less;
      kept = λ n new. new;
    }

pub returns-in-Open : goal.returns-in-Open
returns-in-Open c =
    let g = c.args.graph.now in
    let w = c.args.self.now in
    let upto = c.next-next.result.upto in
    let next = c.next-next.ensures.next c.args.at.node c.requires.stands.on_path.rest in
    let marks = ap (λ (v : Walking). v.marks) c.self.view_is in
    let is = read g w c.args.at upto c.self.inside.marks.items c.index.result.now Open c.requires.stands c.next-next.ensures.node marks c.index.ensures c.in-Open.is in
    record { loops = looped g w c.args.at upto c.next-next.result.others c.requires.stands next is; closed = c.requires.stands.closed }

pub returns-in_ok-push-in-New : goal.returns-in_ok-push-in-New
returns-in_ok-push-in-New c =
    let g = c.args.graph.now in
    let w = c.args.self.now in
    let at = c.args.at in
    let upto = c.next-next.result.upto in
    let others = c.next-next.result.others in
    let last = c.open.result.rest in
    let here : Frame = record { node = at.node; rest = others } in
    let there : Frame = record { node = upto; rest = last } in
    let next = c.next-next.ensures.next at.node c.requires.stands.on_path.rest in
    let marks = ap (λ (v : Walking). v.marks) c.self.view_is in
    let is = read g w at upto c.self.inside.marks.items c.index.result.now New c.requires.stands c.next-next.ensures.node marks c.index.ensures c.in-New.is in
    let in' = inside g w at upto c.requires.stands c.next-next.ensures.node in
    let items : c.push.new.self.items ≡ c.self.inside.path.items ++ here ∷ [] = c.in_ok-push-in-New.ensures.items in
    let pushed = ap (λ (p : List Frame). opened (record { marks = c.self.inside.marks.items; path = p; order = c.self.inside.order }) upto) items in
    let after : c.open.new.self ≡ opened (waiting w here) upto = c.open.ensures.opened ∙ pushed ∙ ap (λ (v : Walking). opened (waiting v here) upto) c.self.view_is in
    let result : c.open.result ≡ there = ap (λ n. record { node = n; rest = last }) c.open.ensures.node in
    let stands = entered g w at upto others last c.requires.stands next is in' c.open.ensures.rest c.open.ensures.none in
    let less = work_entered g w at upto others last next.less c.open.ensures.rest.within in' is in
    let P : Walking → Frame → Type 0 = λ v f. GoesOn g w at v f in
    subst (λ v. P v c.open.result) (sym after) (subst (λ f. P (opened (waiting w here) upto) f) (sym result) (record { stands = stands; less = less; kept = kept-set w.marks upto Open in' (λ q. cc) }))
