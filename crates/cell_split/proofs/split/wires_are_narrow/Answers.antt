use Rattle.std.proofs.Common.{◌<◌, ◌^◌, arith}
use Rattle.rtlil_text.specs.declared.module.RtlWire.{RtlWire}
use Rattle.cell_split.proofs.Lists.{All-next, All-taken}
use Rattle.cell_split.proofs.split.wires_are_narrow.Goals as goal

pub loop-wire-preserved : goal.loop-wire-preserved
loop-wire-preserved c =
    All-next (λ (w : RtlWire). w.width < 2 ^ 32) c.as_slice-wire-items.result.now c.loop-wire.wire-index c.wire-item.result (omega (arith, c.loop-wire-test.true)) c.wire-item.is c.loop-wire.invariant c.is_narrow.ensures

pub returns : goal.returns
returns c =
    All-taken (λ (w : RtlWire). w.width < 2 ^ 32) c.as_slice-wire-items.result.now c.args.wires.now c.loop-wire.wire-index c.as_slice-wire-items.ensures (omega (arith, c.loop-wire-test.false)) c.loop-wire.invariant
