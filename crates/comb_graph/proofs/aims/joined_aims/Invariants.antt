use Rattle.std.proofs.Common.{◌≡◌, ◌+◌, ◌++◌, drop, map}
use Rattle.design_ir.specs.Targets.{aims, aims_of_all}
use Rattle.design_ir.specs.Values.{form, total_width}
use Rattle.comb_graph.specs.Seen.{seen}
use Rattle.comb_graph.proofs.aims.joined_aims.Given as goal

abbrev pub invariant-loop-item : goal.invariant-loop-item
invariant-loop-item l = record {
  rows : map seen l.row ++ aims_of_all (form l.design.pool) (aims l.design.pool) l.by (drop l.item-index l.items) ≡ aims_of_all (form l.design.pool) (aims l.design.pool) 0 l.items;
  widths : l.by + total_width (form l.design.pool) (drop l.item-index l.items) ≡ total_width (form l.design.pool) l.items;
}
