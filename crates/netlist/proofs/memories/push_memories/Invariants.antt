use Rattle.std.proofs.Common.{◌≡◌, ◌≤◌, ◌+◌, ◌*◌, ◌++◌, length, drop, map}
use Rattle.memory_cells.specs.Plans.{planned}
use Rattle.netlist_laws.specs.Expressions.{and_also}
use Rattle.netlist_laws.specs.MemoryDrawings.{Placed, all_parts, drawn_parts, memories_of, memory_drawings, memory_lines}
use Rattle.netlist.specs.Tables.{together}
use Rattle.netlist.proofs.LowerMemories.{placed_all}
use Rattle.netlist.proofs.memories.push_memories.Given as goal

abbrev pub invariant-loop-j : goal.invariant-loop-j
invariant-loop-j l = record {
  drawn : and_also l.drawing (together (drawn_parts l.design l.n (all_parts (placed_all l.names (drop l.j l.design.memories))))) ≡ and_also l.initial.drawing (together (memory_drawings l.design));
  lines : l.lines ++ map (λ (x : Placed). planned x.plan) (placed_all l.names (drop l.j l.design.memories)) ≡ memory_lines l.design;
  total : l.n + 11 * length (all_parts (placed_all l.names (drop l.j l.design.memories))) ≡ 3 * length l.design.pool.signals + 11 * length (all_parts (memories_of l.design));
  bound : l.n ≤ 3 * length l.design.pool.signals + l.j * (11 * 65);
}
