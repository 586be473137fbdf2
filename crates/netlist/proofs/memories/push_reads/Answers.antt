use Rattle.std.proofs.Common.{map, ap, ◌∙◌, arith}
use Rattle.std.proofs.lemmas.Option.{get_or_from_slice_get}
use Rattle.design_ir.specs.Designs.{IsReadPort}
use Rattle.netlist_laws.specs.Operators.{Drawing}
use Rattle.netlist_laws.specs.Expressions.{and_also}
use Rattle.netlist_laws.specs.MemoryDrawings.{Reads, drawn_parts}
use Rattle.netlist.specs.Tables.{own_parts, together}
use Rattle.netlist.proofs.LowerDomains.{at_place}
use Rattle.netlist.proofs.LowerPorts.{read_narrow}
use Rattle.netlist.proofs.LowerMemories.{reads_begin, reads_turn, reads_end}
use Rattle.netlist.proofs.memories.push_reads.Goals as goal

pub loop-k-init : goal.loop-k-init
loop-k-init c = reads_begin c.args.design.now c.args.plan.now c.args.m.now c.args.n c.args.drawing.now

pub read_drawing-requires-clause-port : goal.read_drawing-requires-clause-port
read_drawing-requires-clause-port c =
    let m = c.args.m.now in
    at_place (IsReadPort c.args.design.now m) m.reads c.loop-k.k c.get-port.result.now c.requires.memory.reads c.get-port.ensures.lookup

pub read_drawing-requires-clause-narrow : goal.read_drawing-requires-clause-narrow
read_drawing-requires-clause-narrow c =
    let d = c.args.design.now in
    let m = c.args.m.now in
    let r = c.get-port.result.now in
    read_narrow d m r (at_place (IsReadPort d m) m.reads c.loop-k.k r c.requires.memory.reads c.get-port.ensures.lookup) c.requires.memory.depth

pub loop-k-preserved : goal.loop-k-preserved
loop-k-preserved c =
    let d = c.args.design.now in
    let p = c.args.plan.now in
    let m = c.args.m.now in
    let l = c.loop-k in
    let r = c.get-port.result.now in
    reads_turn d p m c.args.n l.k m.reads r l.drawing c.also.new.self (and_also c.args.drawing.now (together (drawn_parts d c.args.n (own_parts p m (map Reads m.reads))))) (omega arith)
    (get_or_from_slice_get m.reads l.k r r c.get-port.ensures.lookup) (c.in_ok-also.ensures ∙ ap (λ (x : Drawing). and_also l.drawing x) c.in_ok-read_drawing.ensures) l.invariant

pub returns : goal.returns
returns c =
    let d = c.args.design.now in
    let p = c.args.plan.now in
    let m = c.args.m.now in
    let l = c.loop-k in
    reads_end d p m c.args.n l.k l.drawing (and_also c.args.drawing.now (together (drawn_parts d c.args.n (own_parts p m (map Reads m.reads))))) (omega (arith, c.loop-k-test.false, c.len-k-end.ensures)) l.invariant
