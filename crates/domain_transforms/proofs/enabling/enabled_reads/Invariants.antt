use Rattle.std.proofs.Common.{◌≡◌, ◌≤◌, length, take}
use Rattle.domain_transforms.specs.Enabling.{enabled_read}
use Rattle.domain_transforms.specs.Making.{each_in}
use Rattle.domain_transforms.proofs.enabling.enabled_reads.Given as goal

abbrev pub invariant-loop-read : goal.invariant-loop-read
invariant-loop-read l = record {
  more : length l.fn.pool.exprs ≤ length l.pool.exprs;
  made : (l.all, l.pool) ≡ each_in (enabled_read l.controls) l.fn.pool (take l.read-index l.read-items);
}
