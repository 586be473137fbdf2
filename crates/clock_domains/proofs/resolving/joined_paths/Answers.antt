use Rattle.std.proofs.Common.{◌≡◌, ◌++◌, ◌∙◌, [], ◌∷◌, ap, append_assoc, length, refl, slice_get, Some, sym, take}
use Rattle.std.proofs.lemmas.Option.{slice_get_read}
use Rattle.fragment_walks.proofs.Lists.{take-push}
use Rattle.clock_domains.proofs.resolving.joined_paths.Goals as goal

pub loop-path-preserved : goal.loop-path-preserved
loop-path-preserved c =
    let items = c.args.memories.now in
    let i = c.loop-path.path-index in
    let item = c.path-item.result in
    let at : slice_get items i ≡ Some item = slice_get_read items (length items) i item refl c.loop-path-test.true c.path-item.is in
    c.in_ok-push.ensures.ok
    ∙ ap (λ x. c.loop-path.paths ++ x ∷ []) c.in_ok-copied_name.ensures
    ∙ ap (λ xs. xs ++ item ∷ []) c.loop-path.invariant
    ∙ append_assoc c.args.processes (take i items) (item ∷ [])
    ∙ ap (λ xs. c.args.processes ++ xs) (sym (take-push items i item at))
