use Rattle.std.proofs.Common.{length}
use Rattle.fragment_walks.proofs.Lists.{below_at}
use Rattle.domain_transforms.proofs.remaking.any_marked.Goals as goal

pub bounds-marks-e : goal.bounds-marks-e
bounds-marks-e c = below_at (length c.args.marks.now) c.args.items.now c.loop-e.e-index (record { 0 = 0 }) c.requires c.loop-e-test.true
