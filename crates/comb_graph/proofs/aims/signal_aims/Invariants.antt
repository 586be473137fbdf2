use Rattle.std.proofs.Common.{◌≡◌, map}
use Rattle.std.specs.List.{range_with_len}
use Rattle.design_ir.specs.Targets.{aim_at}
use Rattle.comb_graph.specs.Seen.{seen}
use Rattle.comb_graph.proofs.aims.signal_aims.Given as goal

abbrev pub invariant-loop-i : goal.invariant-loop-i
invariant-loop-i l = map seen l.row ≡ map (aim_at l.s.0) (range_with_len 0 l.i)
