use Rattle.std.proofs.Common.{◌≡◌, ◌∙◌, ◌∷◌, [], ◌||◌, Bool, Some, length, take, slice_get, slice_index_or, sym, ap, arith}
use Rattle.std.specs.List.{list_any}
use Rattle.std.proofs.lemmas.Option.{slice_get-get_or}
use Rattle.design_ir.specs.declared.ids.ExprId.{ExprId}
use Rattle.fragment_walks.specs.Marks.{is_marked}
use Rattle.fragment_walks.specs.Numbers.{bounded, is_below, first_at}
use Rattle.fragment_walks.proofs.Lists.{any-append, below_at, or_false, take-push}
use Rattle.fragment_walks.proofs.NumberLaws.{below_lesser, bounded_at}
use Rattle.clock_domains.proofs.leasts.least_of.Goals as goal

pub bounds-leasts-e : goal.bounds-leasts-e
bounds-leasts-e c = omega (arith, below_at (length c.args.leasts.now) c.args.items.now c.loop-e.e-index (record { 0 = 0 }) c.requires c.loop-e-test.true)

pub loop-e-preserved : goal.loop-e-preserved
loop-e-preserved c i =
    let items = c.args.items.now in
    let leasts = c.args.leasts.now in
    let k = c.loop-e.e-index in
    let x : ExprId = slice_index_or items k (record { 0 = 0 }) in
    let at : slice_get items k ≡ Some x = slice_get-get_or items k (record { 0 = 0 }) c.loop-e-test.true in
    let hit : ExprId → Bool = λ e. is_marked (bounded i leasts) e.0 in
    ap (is_below i) c.lesser-least.ensures
    ∙ below_lesser i c.loop-e.least (first_at leasts x.0)
    ∙ ap (λ b. b || is_below i (first_at leasts x.0)) (c.loop-e.invariant i)
    ∙ ap (λ b. list_any hit (take k items) || b) (sym (bounded_at i leasts x.0) ∙ sym (or_false (hit x)))
    ∙ sym (ap (list_any hit) (take-push items k x at) ∙ any-append hit (take k items) (x ∷ []))
