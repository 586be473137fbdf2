use Rattle.std.proofs.Common.{◌≡◌, ◌+◌, take}
use Rattle.std.specs.Prelude.{min}
use Rattle.design_ir.specs.Forests.{forest_size}
use Rattle.design_ir.specs.Fragments.{forest_of}
use Rattle.domain_transforms.specs.Counted.{forest_count}
use Rattle.domain_transforms.proofs.counts.+fragment_counts.Given as goal

abbrev pub decreases-count_all : goal.decreases-count_all
decreases-count_all l = forest_size l.modules.now

abbrev pub invariant-loop-module : goal.invariant-loop-module
invariant-loop-module l = l.count ≡ min 65537 (l.initial.count + forest_count (forest_of (take l.module-index l.module-items)))
