use Rattle.std.specs.Prelude.{[], List, length, map}
use Rattle.std.specs.List.{range_with_len}
use Rattle.std.proofs.Common.{ap, ◌∙◌}
use Rattle.rtlil_text.specs.declared.module.RtlWire.{RtlWire}
use Rattle.netlist_laws.specs.Operators.{Drawing}
use Rattle.netlist_laws.specs.Expressions.{and_also}
use Rattle.netlist_laws.specs.Module.{drawings, signal_drawing}
use Rattle.netlist.specs.Tables.{together}
use Rattle.netlist.proofs.lowering.drawing_of.Goals as goal

pub returns-clause-drawn : goal.returns-clause-drawn
returns-clause-drawn c =
    let d = c.args.design.now in
    c.in_ok-push_signals.ensures
    ∙ ap (λ (x : Drawing). and_also x (together (map (signal_drawing d) (range_with_len 0 (length d.pool.signals)))))
    (c.in_ok-push_expressions.ensures.drawn ∙ ap (λ (x : Drawing). and_also x (together (drawings d))) (c.of_wires-drawing.ensures ∙ ap (λ (ws : List RtlWire). record { wires = ws; cells = []; links = [] }) c.in_ok-wires_of.ensures))
