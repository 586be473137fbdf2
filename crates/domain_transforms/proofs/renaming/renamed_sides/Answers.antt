use Rattle.std.proofs.Common.{◌≡◌, Some, slice_get, length, refl}
use Rattle.std.proofs.lemmas.Option.{slice_get_read}
use Rattle.domain_transforms.proofs.RenameLaws.{sides_turn}
use Rattle.domain_transforms.proofs.renaming.renamed_sides.Goals as goal

pub loop-process-preserved : goal.loop-process-preserved
loop-process-preserved c =
    let items = c.args.processes.now in
    let i = c.loop-process.process-index in
    let item = c.process-item.result in
    let at : slice_get items i ≡ Some item = slice_get_read items (length items) i item refl c.loop-process-test.true c.process-item.is in
    sides_turn c.args.names.now items i item c.in_ok-side.side c.loop-process.sides.items c.add_side.new.sides.items at c.in_ok-side.ensures c.loop-process.invariant c.in_ok-add_side.ensures
