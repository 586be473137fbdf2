use Rattle.std.proofs.Common.{◌≡◌, drop}
use Rattle.expr_index.specs.Lists.{mixed_ids}
use Rattle.expr_index.proofs.lists_of.mixed_ids.Given as goal

abbrev pub invariant-loop-id : goal.invariant-loop-id
invariant-loop-id l = mixed_ids l.all (drop l.id-index l.id-items) ≡ mixed_ids l.sum l.ids
