use Rattle.std.proofs.Common.{◌≡◌, ◌++◌, drop}
use Rattle.std.specs.Prelude.{option_map}
use Rattle.std.specs.List.{AllByRecursion}
use Rattle.elab_store.specs.Held.{held_of}
use Rattle.elab_store.specs.Sound.{IsSample}
use Rattle.bench_acts.specs.Context.{all_read}
use Rattle.bench_acts.proofs.context.sample.Given as goal

abbrev pub invariant-loop-v : goal.invariant-loop-v
invariant-loop-v l = record {
  read : option_map (λ xs. l.more.items ++ xs) (all_read (held_of l.bench.held) (drop l.v-index l.v-items)) ≡ all_read (held_of l.bench.held) l.v-items;
  sound : AllByRecursion (IsSample l.bench.held.pool) l.more.items;
}
