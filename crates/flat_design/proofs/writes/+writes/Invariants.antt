use Rattle.std.proofs.Common.{◌+◌, ◌*◌, ◌≡◌, ◌++◌, ◌-◌, length, take, drop}
use Rattle.std.specs.List.{flat_map, enumerate_from}
use Rattle.design_ir.specs.Targets.{numbers}
use Rattle.design_ir.specs.Values.{form, total_width}
use Rattle.flat_design.specs.Writes.{writes, writes_of_all, item_at}
use Rattle.flat_design.proofs.writes.+writes.Given as goal

abbrev pub decreases-writes_of : goal.decreases-writes_of
decreases-writes_of l = 2 * l.target.0 + 1

abbrev pub decreases-joined_writes : goal.decreases-joined_writes
decreases-joined_writes l = 2 * l.target.0

abbrev pub decreases-picked_writes : goal.decreases-picked_writes
decreases-picked_writes l = 2 * l.target.0

abbrev pub invariant-joined_writes-loop-item : goal.invariant-joined_writes-loop-item
invariant-joined_writes-loop-item l = record {
  writes : l.list ++ writes_of_all (form l.pool) (writes l.pool) l.low (drop l.item-index l.items) ≡ writes_of_all (form l.pool) (writes l.pool) 0 l.items;
  widths : l.low + total_width (form l.pool) (drop l.item-index l.items) ≡ total_width (form l.pool) l.items;
}

abbrev pub invariant-picked_writes-loop-i : goal.invariant-picked_writes-loop-i
invariant-picked_writes-loop-i l = l.list ≡ flat_map (item_at (numbers l.pool l.index.0) l.index (length l.items - 1) (writes l.pool)) (enumerate_from 0 (take l.i l.items))
