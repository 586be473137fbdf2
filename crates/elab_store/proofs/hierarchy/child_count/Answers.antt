use Rattle.std.proofs.Common.{◌≡◌, ◌∙◌, ◌+◌, ◌==◌, length, take, Some, slice_get, refl, sym, ap, add-one, arith}
use Rattle.std.proofs.lemmas.Bool.{eq-eqb, ne_eqb}
use Rattle.std.proofs.lemmas.List.{length-take}
use Rattle.std.proofs.lemmas.Option.{slice_get_read}
use Rattle.elab_store.specs.Hierarchies.{numbers_of}
use Rattle.elab_store.proofs.HierarchyLaws.{few_numbers, count_more, one_if}
use Rattle.elab_store.proofs.hierarchy.child_count.Goals as goal
use Rattle.elab_store.proofs.hierarchy.child_count.Goals.{then-a-of, else-a-of}

pub overflow_add-count : goal.overflow_add-count
overflow_add-count c =
    let first = take c.loop-a.a-index c.args.additions.now in
    omega (arith, few_numbers c.args.of 0 first, length-take c.loop-a.a-index c.args.additions.now, c.loop-a.auto.a-index-end)

pub loop-a-preserved : goal.loop-a-preserved
loop-a-preserved c =
    let xs = c.args.additions.now in
    let i = c.loop-a.a-index in
    let a = c.a-item.result in
    let at : slice_get xs i ≡ Some a = slice_get_read xs (length xs) i a refl c.loop-a-test.true c.a-item.is in
    let more : length (numbers_of c.args.of 0 (take (i + 1) xs)) ≡ c.loop-a.count + one_if (a.of == c.args.of) = ap (λ n. length (numbers_of c.args.of 0 (take n xs))) (add-one i) ∙ count_more c.args.of 0 xs i a at ∙ ap (λ n. n + one_if (a.of == c.args.of)) (sym c.loop-a.invariant) in
    elim c.if-a-of.branch [
      | then-a-of w ↦ w.count-is ∙ sym (more ∙ ap (λ b. c.loop-a.count + one_if b) (eq-eqb a.of c.args.of w.if-a-of.true))
      | else-a-of w ↦ (let none : length (numbers_of c.args.of 0 (take (i + 1) xs)) ≡ c.loop-a.count + 0 = more ∙ ap (λ b. c.loop-a.count + one_if b) (ne_eqb a.of c.args.of w.if-a-of.false) in omega (arith, w.count-is, none))
    ]
