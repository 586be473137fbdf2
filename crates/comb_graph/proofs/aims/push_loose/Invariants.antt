use Rattle.std.proofs.Common.{◌≡◌, ◌++◌, map, take}
use Rattle.std.specs.List.{filter_map}
use Rattle.design_ir.specs.Targets.{loose}
use Rattle.comb_graph.specs.Seen.{seen}
use Rattle.comb_graph.proofs.aims.push_loose.Given as goal

abbrev pub invariant-loop-aim : goal.invariant-loop-aim
invariant-loop-aim l = map seen l.row ≡ map seen l.fn.row ++ filter_map (loose l.width) (map seen (take l.aim-index l.aims))
