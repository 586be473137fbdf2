use Rattle.std.proofs.Common.{length}
use Rattle.table_text.proofs.Spellings.{SpellsFrom, Refuted}
use Rattle.table_text.proofs.escapes.bytes_of.Given as goal

abbrev pub invariant-loop-rest : goal.invariant-loop-rest
invariant-loop-rest l = SpellsFrom l.bytes.items l.rest l.line × Refuted l.rest l.line

abbrev pub decreases-loop-rest : goal.decreases-loop-rest
decreases-loop-rest l = length l.rest
