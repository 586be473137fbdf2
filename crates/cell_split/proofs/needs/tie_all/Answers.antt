use Rattle.std.proofs.Common.{refl, arith}
use Rattle.cell_split.specs.Needs.{Ties}
use Rattle.cell_split.proofs.Lists.{All-taken}
use Rattle.cell_split.proofs.NeedLaws.{grows_then, ties_next}
use Rattle.cell_split.proofs.needs.tie_all.Goals as goal

pub loop-bit-preserved : goal.loop-bit-preserved
loop-bit-preserved c = record {
  grows = grows_then c.args.graph.now c.loop-bit.graph c.tie.new.graph c.loop-bit.invariant.grows c.in_ok-tie.ensures.grows;
  tied = ties_next c.loop-bit.graph c.tie.new.graph c.args.cell c.args.is_output c.args.bits.now c.loop-bit.bit-index c.in_ok-tie.ensures.grows (omega (arith, c.loop-bit-test.true)) c.loop-bit.invariant.tied c.in_ok-tie.ensures.tied;
}

pub returns-clause-tied : goal.returns-clause-tied
returns-clause-tied c = All-taken (Ties c.loop-bit.graph c.args.cell c.args.is_output) c.args.bits.now c.args.bits.now c.loop-bit.bit-index refl (omega (arith, c.loop-bit-test.false)) c.loop-bit.invariant.tied
