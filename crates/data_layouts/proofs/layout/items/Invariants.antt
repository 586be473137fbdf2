use Rattle.std.proofs.Common.{◌≡◌, map}
use Rattle.std.specs.List.{range_with_len}
use Rattle.data_layouts.specs.Layouts.{item_at}
use Rattle.data_layouts.proofs.layout.items.Given as goal

abbrev pub invariant-loop-i : goal.invariant-loop-i
invariant-loop-i l = record {
  same : l.item ≡ l.fn.item;
  so_far : l.fields ≡ map (item_at l.fn.item) (range_with_len 0 l.i);
}
