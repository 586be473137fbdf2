use Rattle.std.proofs.Common.{◌≡◌, length, Some, slice_get, refl, ap, ◌∙◌, ◌+◌}
use Rattle.std.specs.Prelude.{min}
use Rattle.domain_transforms.specs.Counted.{processes_count}
use Rattle.std.proofs.lemmas.Option.{slice_get_read}
use Rattle.domain_transforms.proofs.CountLaws.{forest_turn}
use Rattle.domain_transforms.proofs.counts.+fragment_counts.Goals as goal

pub loop-module-preserved : goal.loop-module-preserved
loop-module-preserved t c =
    let items = c.as_slice-module-items.result.now in
    let i = c.loop-module.module-index in
    let item = c.module-item.result in
    let at : slice_get items i ≡ Some item = slice_get_read items (length items) i item refl c.loop-module-test.true c.module-item.is in
    forest_turn items i item c.args.count c.loop-module.count c.count_processes-count.result c.count_all-count.result at c.loop-module.invariant
    (c.count_processes-count.ensures ∙ ap (λ ps. min 65537 (c.loop-module.count + processes_count ps)) c.as_slice.ensures) c.count_all-count.ensures
