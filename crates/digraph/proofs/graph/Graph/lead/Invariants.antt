use Rattle.std.proofs.Common.{◌≡◌, take}
use Rattle.digraph.specs.Graphs.{leading}
use Rattle.digraph.proofs.graph.Graph.lead.Given as goal

abbrev pub invariant-loop-target : goal.invariant-loop-target
invariant-loop-target l = l.self ≡ leading l.fn.self l.from (take l.target-index l.targets)
