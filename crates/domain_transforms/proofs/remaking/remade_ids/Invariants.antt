use Rattle.std.proofs.Common.{◌&&◌}
use Rattle.fragment_walks.specs.Marks.{is_marked}
use Rattle.domain_transforms.specs.Anew.{AreAnew}
use Rattle.domain_transforms.proofs.remaking.remade_ids.Given as goal

abbrev pub invariant-loop-k : goal.invariant-loop-k
invariant-loop-k l = AreAnew l.names l.fn.pool (λ k. is_marked l.within k && is_marked l.touched k) l.k l.ids.items l.pool
