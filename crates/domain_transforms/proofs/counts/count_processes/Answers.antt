use Rattle.std.proofs.Common.{◌≡◌, length, Some, slice_get, refl}
use Rattle.std.proofs.lemmas.Option.{slice_get_read}
use Rattle.domain_transforms.proofs.CountLaws.{processes_turn}
use Rattle.domain_transforms.proofs.counts.count_processes.Goals as goal

pub loop-process-preserved : goal.loop-process-preserved
loop-process-preserved c =
    let items = c.args.processes.now in
    let i = c.loop-process.process-index in
    let item = c.process-item.result in
    let at : slice_get items i ≡ Some item = slice_get_read items (length items) i item refl c.loop-process-test.true c.process-item.is in
    processes_turn items i item c.args.count c.loop-process.count c.count_block-count.result at c.loop-process.invariant c.count_block-count.ensures
