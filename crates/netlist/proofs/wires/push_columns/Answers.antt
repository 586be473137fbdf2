use Rattle.std.proofs.Common.{◌++◌, ◌∷◌, [], ap, ◌∙◌, arith}
use Rattle.rtlil_text.specs.declared.module.RtlWire.{RtlWire}
use Rattle.netlist_laws.specs.Module.{column_wires}
use Rattle.netlist.proofs.LowerWires.{columns_turn}
use Rattle.netlist.proofs.wires.push_columns.Goals as goal

pub loop-k-preserved : goal.loop-k-preserved
loop-k-preserved c =
    let d = c.args.design.now in
    let l = c.loop-k in
    columns_turn d l.k c.column.result.now l.wires.items c.push.new.self.items (c.args.wires.now.items ++ column_wires d 0 d.columns) c.column.ensures (omega arith)
    (c.in_ok-push.ensures.items ∙ ap (λ (w : RtlWire). l.wires.items ++ w ∷ []) c.in_ok-column_wire.ensures) l.invariant
