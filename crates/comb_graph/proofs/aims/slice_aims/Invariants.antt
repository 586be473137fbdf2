use Rattle.std.proofs.Common.{◌≡◌, map, take}
use Rattle.std.specs.List.{filter_map}
use Rattle.design_ir.specs.Targets.{within}
use Rattle.comb_graph.specs.Seen.{seen}
use Rattle.comb_graph.proofs.aims.slice_aims.Given as goal

abbrev pub invariant-loop-aim : goal.invariant-loop-aim
invariant-loop-aim l = map seen l.row ≡ filter_map (within l.low l.width) (map seen (take l.aim-index l.aims))
