use Rattle.std.proofs.Common.{◌≡◌, ◌≤◌, ◌+◌, ◌*◌, length, take}
use Rattle.design_ir.specs.Forests.{forest_size}
use Rattle.design_ir.specs.Fragments.{forest_of}
use Rattle.domain_transforms.specs.Changes.{IsReady, leaf_change}
use Rattle.domain_transforms.specs.Making.{forest_in}
use Rattle.domain_transforms.proofs.fragments.+fragments.Given as goal

abbrev pub decreases-changed : goal.decreases-changed
decreases-changed l = 2 * forest_size l.module.now.submodules + 1

abbrev pub decreases-changed_all : goal.decreases-changed_all
decreases-changed_all l = 2 * forest_size l.modules.now

abbrev pub invariant-changed_all-loop-module : goal.invariant-changed_all-loop-module
invariant-changed_all-loop-module l = record {
  more : length l.fn.pool.exprs ≤ length l.pool.exprs;
  ready : IsReady l.change l.pool;
  made : (l.all, l.pool) ≡ forest_in (leaf_change l.change) l.fn.pool (forest_of (take l.module-index l.module-items));
}
