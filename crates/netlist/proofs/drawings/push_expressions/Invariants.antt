use Rattle.std.proofs.Common.{◌≡◌, ◌≤◌, ◌*◌, ◌^◌, take, drop}
use Rattle.netlist_laws.specs.Expressions.{and_also, part_total}
use Rattle.netlist_laws.specs.Module.{drawn_from, drawings}
use Rattle.netlist.specs.Tables.{together}
use Rattle.netlist.proofs.drawings.push_expressions.Given as goal

abbrev pub invariant-loop-i : goal.invariant-loop-i
invariant-loop-i l = record {
  total : l.n ≡ part_total (take l.i l.design.pool.exprs);
  bound : l.n ≤ l.i * 2 ^ 67;
  drawn : and_also l.drawing (together (drawn_from l.design l.i l.n (drop l.i l.design.pool.exprs))) ≡ and_also l.initial.drawing (together (drawings l.design));
}
