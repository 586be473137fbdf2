use Rattle.std.proofs.Common.{length, map, ap, ◌∙◌, arith}
use Rattle.std.specs.List.{range_with_len}
use Rattle.netlist_laws.specs.Operators.{Drawing}
use Rattle.netlist_laws.specs.Expressions.{and_also}
use Rattle.netlist_laws.specs.Module.{signal_drawing}
use Rattle.netlist.specs.Tables.{together}
use Rattle.netlist.proofs.LowerWires.{signals_turn}
use Rattle.netlist.proofs.signals.push_signals.Goals as goal

pub loop-i-preserved : goal.loop-i-preserved
loop-i-preserved c =
    let d = c.args.design.now in
    let n = length d.pool.signals in
    let l = c.loop-i in
    signals_turn (signal_drawing d) l.i n l.drawing c.also.new.self (and_also c.args.drawing.now (together (map (signal_drawing d) (range_with_len 0 n)))) (omega (arith, c.signals-i-end.ensures))
    (c.in_ok-also.ensures ∙ ap (λ (x : Drawing). and_also l.drawing x) c.in_ok-signal_drawing.ensures) l.invariant
