use Rattle.std.proofs.Common.{◌≡◌, ◌+◌, ◌*◌, take}
use Rattle.design_ir.specs.Forests.{forest_size}
use Rattle.design_ir.specs.Fragments.{forest_of}
use Rattle.fragment_walks.specs.Marks.{marked, numbers}
use Rattle.domain_transforms.specs.Placed.{forest_exprs}
use Rattle.domain_transforms.proofs.roots.+fragment_roots.Given as goal

abbrev pub decreases-mark_all : goal.decreases-mark_all
decreases-mark_all l = 2 * forest_size l.modules.now

abbrev pub decreases-mark_fragment : goal.decreases-mark_fragment
decreases-mark_fragment l = 2 * forest_size l.module.now.submodules + 1

abbrev pub invariant-mark_all-loop-module : goal.invariant-mark_all-loop-module
invariant-mark_all-loop-module l = l.marks.items ≡ marked (numbers (forest_exprs (forest_of (take l.module-index l.module-items)))) l.fn.marks.items
