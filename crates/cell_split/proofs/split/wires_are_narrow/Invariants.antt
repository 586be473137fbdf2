use Rattle.std.proofs.Common.{take}
use Rattle.cell_split.specs.Short.{AreNarrow}
use Rattle.cell_split.proofs.split.wires_are_narrow.Given as goal

abbrev pub invariant-loop-wire : goal.invariant-loop-wire
invariant-loop-wire l = AreNarrow (take l.wire-index l.wire-items)
