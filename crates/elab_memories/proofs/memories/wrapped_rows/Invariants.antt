use Rattle.std.proofs.Common.{◌≡◌, take}
use Rattle.elab_memories.specs.Memories.{wrapped_rows}
use Rattle.elab_memories.proofs.memories.wrapped_rows.Given as goal

abbrev pub invariant-loop-n : goal.invariant-loop-n
invariant-loop-n l = l.wrapped ≡ wrapped_rows l.fn.shape (take l.n-index l.rows)
