use Rattle.std.proofs.Common.{◌≡◌, ℕ, ◌<◌}
use Rattle.digraph.specs.declared.walk.Mark.TheVariants.{Done}
use Rattle.digraph.specs.Walks.{mark, IsIdle}
use Rattle.digraph.proofs.walk.sort.Given as goal

abbrev pub invariant-loop-root : goal.invariant-loop-root
invariant-loop-root l = record {
  idle : IsIdle l.graph l.walk;
  all : (n : ℕ) → n < l.root → mark l.walk.marks n ≡ Done;
}
