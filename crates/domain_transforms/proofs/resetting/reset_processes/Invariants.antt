use Rattle.std.proofs.Common.{◌≡◌, ◌≤◌, length, take}
use Rattle.domain_transforms.specs.Making.{each_in}
use Rattle.domain_transforms.specs.Placed.{ArePlaces}
use Rattle.domain_transforms.specs.Resetting.{reset_process}
use Rattle.domain_transforms.proofs.resetting.reset_processes.Given as goal

abbrev pub invariant-loop-process : goal.invariant-loop-process
invariant-loop-process l = record {
  more : length l.fn.pool.exprs ≤ length l.pool.exprs;
  places : ArePlaces l.pool.exprs l.places;
  made : (l.all, l.pool) ≡ each_in (reset_process l.controls) l.fn.pool (take l.process-index l.process-items);
}
