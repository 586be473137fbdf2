use Rattle.std.proofs.Common.{◌≡◌, ◌+◌, ◌*◌, drop}
use Rattle.netlist_laws.specs.Expressions.{and_also, matched_any}
use Rattle.netlist_cells.proofs.pattern_cells.push_matches.Given as goal

abbrev pub invariant-loop-p : goal.invariant-loop-p
invariant-loop-p l = record {
  parts : l.part ≡ l.n + 6 * l.p-index;
  drawn : and_also l.drawing (matched_any l.part l.a (drop l.p-index l.patterns) l.into) ≡ and_also l.initial.drawing (matched_any l.n l.a l.patterns l.initial.into);
}
