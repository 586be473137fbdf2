use Rattle.std.proofs.Common.{◌≡◌, drop, map, string_bytes}
use Rattle.elab_memories.specs.Memories.{with_keywords}
use Rattle.elab_memories.proofs.memories.with_keywords.Given as goal

abbrev pub invariant-loop-i : goal.invariant-loop-i
invariant-loop-i l = with_keywords (map string_bytes (drop l.i l.keywords)) (drop l.i l.vals) l.args ≡ with_keywords (map string_bytes l.keywords) l.vals l.fn.args
