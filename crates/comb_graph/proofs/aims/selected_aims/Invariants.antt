use Rattle.std.proofs.Common.{◌≡◌, map, take}
use Rattle.std.specs.List.{filter_map}
use Rattle.design_ir.specs.Targets.{shifted}
use Rattle.comb_graph.specs.Seen.{seen}
use Rattle.comb_graph.specs.Sets.{numbers_in}
use Rattle.comb_graph.proofs.aims.selected_aims.Given as goal

abbrev pub invariant-loop-aim : goal.invariant-loop-aim
invariant-loop-aim l = map seen l.row ≡ filter_map (shifted (numbers_in l.by.offset) l.by.wide l.by.width l.by.stride) (map seen (take l.aim-index l.aims))
