use Rattle.std.proofs.Common.{◌≡◌, length, Some, slice_get, refl}
use Rattle.std.proofs.lemmas.Option.{slice_get_read}
use Rattle.domain_transforms.proofs.CountLaws.{arms_turn, block_turn}
use Rattle.domain_transforms.proofs.counts.+counts.Goals as goal

pub count_arms-loop-arm-preserved : goal.count_arms-loop-arm-preserved
count_arms-loop-arm-preserved t c =
    let items = c.as_slice-arm-items.result.now in
    let i = c.loop-arm.arm-index in
    let item = c.arm-item.result in
    let at : slice_get items i ≡ Some item = slice_get_read items (length items) i item refl c.loop-arm-test.true c.arm-item.is in
    arms_turn items i item c.args.count c.loop-arm.count c.count_block-count.result at c.loop-arm.invariant c.count_block-count.ensures

pub count_block-loop-statement-preserved : goal.count_block-loop-statement-preserved
count_block-loop-statement-preserved t c =
    let items = c.as_slice-statement-items.result.now in
    let i = c.loop-statement.statement-index in
    let item = c.statement-item.result in
    let at : slice_get items i ≡ Some item = slice_get_read items (length items) i item refl c.loop-statement-test.true c.statement-item.is in
    block_turn items i item c.args.count c.loop-statement.count c.count_statement-count.result at c.loop-statement.invariant c.count_statement-count.ensures
