use Rattle.std.proofs.Common.{◌≡◌}
use Rattle.elab_eval.specs.Elaborates.{first_trees, other_trees}
use Rattle.elab_eval.proofs.trees.Trees.take.Given as goal

abbrev pub invariant-loop : goal.invariant-loop
invariant-loop l = (l.taken ≡ first_trees l.counter l.initial.self) × (l.self ≡ other_trees l.counter l.initial.self)
