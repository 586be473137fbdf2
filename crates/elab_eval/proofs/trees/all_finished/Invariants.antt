use Rattle.std.proofs.Common.{◌≡◌, map}
use Rattle.elab_eval.specs.Trees.{finished}
use Rattle.elab_eval.proofs.trees.all_finished.Given as goal

abbrev pub invariant-loop-builder : goal.invariant-loop-builder
invariant-loop-builder l = l.all.items ≡ map finished l.yielded
