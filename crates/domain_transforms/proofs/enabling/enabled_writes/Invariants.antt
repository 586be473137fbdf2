use Rattle.std.proofs.Common.{◌≡◌, ◌≤◌, length, take}
use Rattle.domain_transforms.specs.Enabling.{enabled_write}
use Rattle.domain_transforms.specs.Making.{each_in}
use Rattle.domain_transforms.proofs.enabling.enabled_writes.Given as goal

abbrev pub invariant-loop-write : goal.invariant-loop-write
invariant-loop-write l = record {
  more : length l.fn.pool.exprs ≤ length l.pool.exprs;
  made : (l.all, l.pool) ≡ each_in (enabled_write l.controls) l.fn.pool (take l.write-index l.write-items);
}
