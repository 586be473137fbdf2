use Rattle.std.proofs.Common.{ap, ◌∙◌, arith}
use Rattle.std.proofs.lemmas.Option.{get_or_from_slice_get}
use Rattle.design_ir.specs.Designs.{IsWritePort}
use Rattle.netlist_laws.specs.Operators.{Drawing}
use Rattle.netlist_laws.specs.Expressions.{and_also}
use Rattle.netlist_laws.specs.MemoryDrawings.{write_parts, drawn_parts}
use Rattle.netlist.specs.Tables.{own_parts, together}
use Rattle.netlist.proofs.LowerDomains.{at_place}
use Rattle.netlist.proofs.LowerPorts.{write_narrow}
use Rattle.netlist.proofs.LowerMemories.{writes_begin, writes_turn, writes_end}
use Rattle.netlist.proofs.memories.push_writes.Goals as goal

pub loop-k-init : goal.loop-k-init
loop-k-init c = writes_begin c.args.design.now c.args.plan.now c.args.m.now c.args.n c.args.drawing.now

pub write_drawing-requires-clause-port : goal.write_drawing-requires-clause-port
write_drawing-requires-clause-port c =
    let m = c.args.m.now in
    at_place (IsWritePort c.args.design.now m) m.writes c.loop-k.k c.get-port.result.now c.requires.memory.writes c.get-port.ensures.lookup

pub write_drawing-requires-clause-narrow : goal.write_drawing-requires-clause-narrow
write_drawing-requires-clause-narrow c =
    let d = c.args.design.now in
    let m = c.args.m.now in
    let w = c.get-port.result.now in
    write_narrow d m w (at_place (IsWritePort d m) m.writes c.loop-k.k w c.requires.memory.writes c.get-port.ensures.lookup) c.requires.memory.depth

pub loop-k-preserved : goal.loop-k-preserved
loop-k-preserved c =
    let d = c.args.design.now in
    let p = c.args.plan.now in
    let m = c.args.m.now in
    let l = c.loop-k in
    let w = c.get-port.result.now in
    writes_turn d p m c.args.n l.k m.writes w l.drawing c.also.new.self (and_also c.args.drawing.now (together (drawn_parts d c.args.n (own_parts p m (write_parts 0 m.writes))))) (omega arith)
    (get_or_from_slice_get m.writes l.k w w c.get-port.ensures.lookup) (c.in_ok-also.ensures ∙ ap (λ (x : Drawing). and_also l.drawing x) c.in_ok-write_drawing.ensures) l.invariant

pub returns : goal.returns
returns c =
    let d = c.args.design.now in
    let p = c.args.plan.now in
    let m = c.args.m.now in
    let l = c.loop-k in
    writes_end d p m c.args.n l.k l.drawing (and_also c.args.drawing.now (together (drawn_parts d c.args.n (own_parts p m (write_parts 0 m.writes))))) (omega (arith, c.loop-k-test.false, c.len-k-end.ensures)) l.invariant
