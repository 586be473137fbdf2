use Rattle.std.proofs.Common.{take}
use Rattle.std.specs.String.{string_bytes}
use Rattle.table_text.specs.Escapes.{Spells}
use Rattle.table_text.proofs.spelling.spelled.Given as goal

abbrev pub invariant-loop-byte : goal.invariant-loop-byte
invariant-loop-byte l = Spells (take l.byte-index l.bytes) (string_bytes l.line)
