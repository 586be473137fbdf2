use Rattle.std.proofs.Common.{◌≡◌, ◌+◌, ◌*◌, drop}
use Rattle.netlist_laws.specs.Expressions.{and_also, picked_of}
use Rattle.netlist_laws.specs.ItemSteps.{picked_from}
use Rattle.netlist_cells.proofs.item_cells.picked_of.Given as goal

abbrev pub invariant-loop-i : goal.invariant-loop-i
invariant-loop-i l = record {
  parts : l.part ≡ l.n + 4 * l.i;
  drawn : and_also l.drawing (picked_from l.part l.index l.i (drop l.i l.items) l.into) ≡ picked_of l.n l.index l.items l.y;
}
