use Rattle.std.proofs.Common.{◌≡◌, ◌++◌, take}
use Rattle.std.specs.List.{filter_map}
use Rattle.design_ir.specs.declared.memory.MemRead.{MemRead}
use Rattle.fragment_walks.proofs.walk.add_reads.Given as goal

abbrev pub invariant-loop-read : goal.invariant-loop-read
invariant-loop-read l = l.names ≡ l.fn.names ++ filter_map (λ (r : MemRead). r.domain) (take l.read-index l.reads)
