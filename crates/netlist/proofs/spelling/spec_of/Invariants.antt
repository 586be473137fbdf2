use Rattle.std.proofs.Common.{◌≡◌, ◌<◌, ◌≤◌, ◌-◌, ◌++◌, ◌∷◌, [], length, map, take, drop}
use Rattle.netlist_laws.specs.Module.{wire_id}
use Rattle.netlist_laws.specs.Spelled.{spec_of}
use Rattle.netlist.specs.Tables.{source_of, run_of}
use Rattle.netlist.proofs.spelling.spec_of.Given as goal

abbrev pub invariant-loop-j : goal.invariant-loop-j
invariant-loop-j l = record {
  some : length l.bits - l.j < l.high;
  within : l.high ≤ length l.bits;
  spelled :
      spec_of (map (source_of (wire_id l.design)) (drop (length l.bits - l.j) l.bits))
      ≡ l.spec ++ run_of (map (source_of (wire_id l.design)) (take (l.high - (length l.bits - l.j)) (drop (length l.bits - l.j) l.bits))) ∷ [];
}
