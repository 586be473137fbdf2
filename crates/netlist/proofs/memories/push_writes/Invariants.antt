use Rattle.std.proofs.Common.{◌≡◌, ◌+◌, ◌*◌, drop}
use Rattle.netlist_laws.specs.Expressions.{and_also}
use Rattle.netlist_laws.specs.MemoryDrawings.{write_parts, drawn_parts}
use Rattle.netlist.specs.Tables.{own_parts, together}
use Rattle.netlist.proofs.memories.push_writes.Given as goal

abbrev pub invariant-loop-k : goal.invariant-loop-k
invariant-loop-k l =
    and_also l.drawing (together (drawn_parts l.design (l.n + 11 * l.k) (own_parts l.plan l.m (write_parts l.k (drop l.k l.m.writes)))))
    ≡ and_also l.initial.drawing (together (drawn_parts l.design l.n (own_parts l.plan l.m (write_parts 0 l.m.writes))))
