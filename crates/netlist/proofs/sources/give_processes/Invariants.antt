use Rattle.std.proofs.Common.{◌≡◌, ◌*◌, ℕ, List, length, take}
use Rattle.netlist_laws.specs.Latest.{Latest}
use Rattle.netlist.specs.Tables.{Shows, latest_of_all}
use Rattle.netlist.proofs.sources.give_processes.Given as goal

abbrev pub invariant-loop-p : goal.invariant-loop-p
invariant-loop-p l = record {
  long : length l.bits.items ≡ length l.design.pool.signals * 128;
  given :
      (ids : ℕ → List ℕ) (latest : Latest) → Shows ids (length l.design.pool.signals) l.initial.bits.items latest
      → Shows ids (length l.design.pool.signals) l.bits.items (latest_of_all l.design (take l.p-index l.p-items) latest);
}
