use Rattle.std.proofs.Common.{◌∙◌, ◌+◌, ◌++◌, [], ◌∷◌, List, take, sym, ap, arith}
use Rattle.std.proofs.Math.Path.{fun_ext}
use Rattle.std.proofs.lemmas.List.{take_more, take_all}
use Rattle.rtlil_text.specs.declared.module.RtlWire.{RtlWire}
use Rattle.rtlil_text.specs.Written.{width_among}
use Rattle.rtlil_text.proofs.WidthLaws.{width_among-more}
use Rattle.rtlil_text.proofs.widths.Widths.of.Goals as goal

pub loop-wire-preserved : goal.loop-wire-preserved
loop-wire-preserved c =
    let wires = c.as_slice-wire-items.result.now in
    let i = c.loop-wire.wire-index in
    let w = c.wire-item.result in
    let grown = take_more wires i w (omega (arith, c.loop-wire-test.true)) ∙ ap (λ (v : RtlWire). take i wires ++ v ∷ []) (sym c.wire-item.is) in
    width_among-more (take i wires) (take (i + 1) wires) c.loop-wire.by_id c.insert.new.self c.in_ok-from_str.field-0 w (c.in_ok-from_str.ensures.ok ∙ c.as_str.ensures) grown c.in_ok-insert.ensures.updates c.loop-wire.invariant

pub returns : goal.returns
returns c =
    let wires = c.as_slice-wire-items.result.now in
    let i = c.loop-wire.wire-index in
    fun_ext (λ id. c.loop-wire.invariant id ∙ ap (λ (ws : List RtlWire). width_among ws id) (take_all i wires (omega (arith, c.loop-wire-test.false)) ∙ c.as_slice-wire-items.ensures))
