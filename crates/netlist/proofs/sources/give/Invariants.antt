use Rattle.std.proofs.Common.{◌≡◌, ◌*◌, ℕ, List, length, take}
use Rattle.netlist_laws.specs.Ids.{value_id}
use Rattle.netlist_laws.specs.Latest.{Latest, given}
use Rattle.netlist.specs.Tables.{Shows}
use Rattle.netlist.proofs.sources.give.Given as goal

abbrev pub invariant-loop-k : goal.invariant-loop-k
invariant-loop-k l = record {
  long : length l.bits.items ≡ l.count * 128;
  given : (ids : ℕ → List ℕ) (latest : Latest) → Shows ids l.count l.initial.bits.items latest → Shows ids l.count l.bits.items (given (record { id = value_id l.value.0; form = l.shape }) (take l.k l.places) 0 latest);
}
