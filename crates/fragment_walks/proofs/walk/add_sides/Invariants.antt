use Rattle.std.proofs.Common.{◌≡◌, ◌++◌, take}
use Rattle.std.specs.List.{filter_map}
use Rattle.design_ir.specs.declared.process.Process.{Process}
use Rattle.fragment_walks.specs.Walks.{side_name}
use Rattle.fragment_walks.proofs.walk.add_sides.Given as goal

abbrev pub invariant-loop-process : goal.invariant-loop-process
invariant-loop-process l = l.names ≡ l.fn.names ++ filter_map (λ (p : Process). side_name p.side) (take l.process-index l.processes)
