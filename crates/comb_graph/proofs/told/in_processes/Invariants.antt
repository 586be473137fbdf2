use Rattle.std.proofs.Common.{◌≡◌, [], None, take}
use Rattle.std.specs.List.{flat_map}
use Rattle.design_ir.specs.declared.process.DesignProcess.{DesignProcess}
use Rattle.design_ir.specs.Guards.{guarded}
use Rattle.comb_graph.specs.Rankings.{bit_of}
use Rattle.comb_graph.specs.Told.{first_place}
use Rattle.comb_graph.proofs.told.in_processes.Given as goal

abbrev pub invariant-loop-process : goal.invariant-loop-process
invariant-loop-process l = first_place l.table (bit_of l.bit) (flat_map (λ (p : DesignProcess). guarded [] p.body) (take l.process-index l.process-items)) ≡ None
