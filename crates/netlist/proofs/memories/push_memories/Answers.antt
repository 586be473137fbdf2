use Rattle.std.proofs.Common.{◌<◌, ◌≤◌, ◌+◌, ◌*◌, List, length, sym, ap, ◌∙◌, arith}
use Rattle.std.specs.Prelude.{slice_get}
use Rattle.design_ir.specs.declared.memory.Memory.{Memory}
use Rattle.design_ir.specs.Designs.{IsMemory}
use Rattle.netlist_laws.specs.Expressions.{and_also}
use Rattle.netlist_laws.specs.MemoryDrawings.{all_parts, memories_of, memory_drawings, memory_lines}
use Rattle.netlist.specs.Tables.{together}
use Rattle.netlist.proofs.LowerDomains.{at_place}
use Rattle.netlist.proofs.LowerMemories.{turn_drawn, turn_lines, turn_total, begin_drawn, begin_lines, begin_total, end_drawn, end_lines, end_total, few_parts}
use Rattle.netlist.proofs.memories.push_memories.Goals as goal

pub loop-j-init : goal.loop-j-init
loop-j-init c =
    let d = c.args.design.now in
    let names = c.in_ok-names.names in
    let n = 3 * c.signals.result in
    let behind = ap (λ k. 3 * k) c.signals.ensures in
    record {
      drawn = begin_drawn d names n c.in_ok-names.ensures behind c.args.drawing.now;
      lines = begin_lines d names n c.in_ok-names.ensures behind c.new-lines.result c.new-lines.ensures;
      total = begin_total d names n c.in_ok-names.ensures behind;
      bound = omega (arith, c.signals.ensures);
    }

pub push_memory-requires-clause-memory : goal.push_memory-requires-clause-memory
push_memory-requires-clause-memory c =
    let d = c.args.design.now in
    at_place (IsMemory d) d.memories c.loop-j.j c.get-m.result.now c.requires.rules.memories (ap (λ (xs : List Memory). slice_get xs c.loop-j.j) (sym c.memories-memories.ensures) ∙ c.get-m.ensures.lookup)

pub loop-j-preserved : goal.loop-j-preserved
loop-j-preserved c =
    let d = c.args.design.now in
    let ms = d.memories in
    let l = c.loop-j in
    let m = c.get-m.result.now in
    let inside : l.j < length ms = omega (arith, c.loop-j-test.true, c.len-j-end.ensures, ap (λ (xs : List Memory). length xs) c.memories-memories.ensures) in
    let is = ap (λ (xs : List Memory). slice_get xs l.j) (sym c.memories-memories.ensures) ∙ c.get-m.ensures.lookup in
    let given = c.in_ok-n.ensures.names in
    let count = c.in_ok-n.ensures.count in
    record {
      drawn = turn_drawn d l.names c.push_memory.new.names l.n c.in_ok-n.n l.j m ms inside is given count l.drawing c.push_memory.new.drawing (and_also c.args.drawing.now (together (memory_drawings d))) c.in_ok-n.ensures.drawn l.invariant.drawn;
      lines = turn_lines d l.names c.push_memory.new.names l.n c.in_ok-n.n l.j m ms inside is given count l.lines c.push_memory.new.lines (memory_lines d) c.in_ok-n.ensures.lines l.invariant.lines;
      total = turn_total d l.names c.push_memory.new.names l.n c.in_ok-n.n l.j m ms inside is given count (3 * length d.pool.signals + 11 * length (all_parts (memories_of d))) l.invariant.total;
      bound = omega (arith, c.in_ok-n.ensures.few, l.invariant.bound);
    }

pub returns : goal.returns
returns c =
    let d = c.args.design.now in
    let l = c.loop-j in
    let end : length d.memories ≤ l.j = omega (arith, c.loop-j-test.false, c.len-j-end.ensures, ap (λ (xs : List Memory). length xs) c.memories-memories.ensures) in
    let whole = end_total d l.names l.n l.j end (3 * length d.pool.signals + 11 * length (all_parts (memories_of d))) l.invariant.total in
    record {
      lines = end_lines d l.names l.n l.j end l.lines (memory_lines d) l.invariant.lines;
      drawn = end_drawn d l.names l.n l.j end l.drawing (and_also c.args.drawing.now (together (memory_drawings d))) l.invariant.drawn;
      few = few_parts (length d.pool.signals) l.n l.j (length (all_parts (memories_of d))) (omega arith) whole l.invariant.bound;
    }
