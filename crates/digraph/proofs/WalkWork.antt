-- Each turn of the walk leaves less work.
use Rattle.std.proofs.Common.{◌≡◌, ◌∙◌, ℕ, ◌+◌, ◌*◌, ◌<◌, ◌≤◌, cond, List, [], ◌∷◌, ◌++◌, length, sym, ap, arith, slice_set}
use Rattle.std.specs.List.{sum_by, count_by}
use Rattle.std.proofs.lemmas.List.Sums.{sum_by-set, sum_by_push}
use Rattle.digraph.specs.declared.walk.Mark.{Mark}
use Rattle.digraph.specs.declared.walk.Mark.TheVariants.{New, Open, Done}
use Rattle.digraph.specs.declared.walk.Frame.{Frame}
use Rattle.digraph.specs.Graphs.{Digraph}
use Rattle.digraph.specs.Walks.{Walking, mark, is_new, work, opened, waiting}
use Rattle.digraph.proofs.WalkLaws.{marked_inside}

-- 1 for a node that is new
abbrev one : Mark → ℕ
one m = cond (is_new m) 1 0

-- how many nodes are new, where one is marked anew
count_marked : (marks : List Mark) (n : ℕ) (was m : Mark) → n < length marks → mark marks n ≡ was → count_by is_new (slice_set marks n m) + one was ≡ count_by is_new marks + one m
count_marked marks n was m inside is = ap (λ x. count_by is_new (slice_set marks n m) + one x) (sym is) ∙ sum_by-set one marks n m New inside

pub count_finished : (marks : List Mark) (n : ℕ) → mark marks n ≡ Open → count_by is_new (slice_set marks n Done) ≡ count_by is_new marks
count_finished marks n is = omega (arith, count_marked marks n Open Done (marked_inside marks n Open is (λ q. cc)) is)

pub count_opened : (marks : List Mark) (n : ℕ) → n < length marks → mark marks n ≡ New → count_by is_new marks ≡ count_by is_new (slice_set marks n Open) + 1
count_opened marks n inside is = omega (arith, count_marked marks n New Open inside is)

pub work_back : (g : Digraph) (w : Walking) (at f : Frame) (fs : List Frame) (order : List ℕ) → at.rest ≡ 0 → w.path ≡ fs ++ f ∷ [] → mark w.marks at.node ≡ Open
    → work g (record { marks = slice_set w.marks at.node Done; path = fs; order = order }) f < work g w at
work_back g w at f fs order none is was =
    let size : Frame → ℕ = λ x. x.rest + 1 in
    let count = ap (λ c. c * (length g.edges + 2)) (count_finished w.marks at.node was) in
    let path : sum_by size w.path ≡ sum_by size fs + size f = ap (sum_by size) is ∙ sum_by_push size fs f in
    omega (arith, count, path, none)

pub work_passed : (g : Digraph) (w : Walking) (at : Frame) (others : ℕ) → others < at.rest → work g w (record { node = at.node; rest = others }) < work g w at
work_passed g w at others less = omega (arith, less)

-- (n + 1) * m is n * m + m
pub work_entered : (g : Digraph) (w : Walking) (at : Frame) (upto others last : ℕ) → others < at.rest → last ≤ length g.edges → upto < length w.marks → mark w.marks upto ≡ New
    → work g (opened (waiting w (record { node = at.node; rest = others })) upto) (record { node = upto; rest = last }) < work g w at
work_entered g w at upto others last less within inside is =
    let size : Frame → ℕ = λ x. x.rest + 1 in
    let here : Frame = record { node = at.node; rest = others } in
    let count = ap (λ c. c * (length g.edges + 2)) (count_opened w.marks upto inside is) in
    let path : sum_by size (w.path ++ here ∷ []) ≡ sum_by size w.path + size here = sum_by_push size w.path here in
    omega (arith, count, path, less, within)
