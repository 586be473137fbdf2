use Rattle.std.proofs.Common.{◌≡◌, ◌++◌, map, take}
use Rattle.design_ir.specs.declared.memory.MemWrite.{MemWrite}
use Rattle.fragment_walks.proofs.walk.add_writes.Given as goal

abbrev pub invariant-loop-write : goal.invariant-loop-write
invariant-loop-write l = l.names ≡ l.fn.names ++ map (λ (w : MemWrite). w.domain) (take l.write-index l.writes)
