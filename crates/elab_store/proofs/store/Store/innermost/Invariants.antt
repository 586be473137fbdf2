use Rattle.std.proofs.Common.{◌≡◌, drop}
use Rattle.elab_store.specs.OpenMachines.{last_open, innermost}
use Rattle.elab_store.proofs.store.Store.innermost.Given as goal

abbrev pub invariant-loop-k : goal.invariant-loop-k
invariant-loop-k l = last_open l.of l.k l.found (drop l.k l.self.machines) ≡ innermost l.of l.self.machines
