use Rattle.std.proofs.Common.{take, All}
use Rattle.cell_split.specs.Needs.{Grows, Ties}
use Rattle.cell_split.proofs.needs.tie_all.Given as goal

abbrev pub invariant-loop-bit : goal.invariant-loop-bit
invariant-loop-bit l = record {
  grows : Grows l.fn.graph l.graph;
  tied : All (Ties l.graph l.cell l.is_output) (take l.bit-index l.bits);
}
