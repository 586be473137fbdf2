use Rattle.std.proofs.Common.{◌≡◌, ℕ, List, map, take}
use Rattle.netlist.specs.Tables.{source_of, bit_of}
use Rattle.netlist.proofs.spelling.constants.Given as goal

abbrev pub invariant-loop-x : goal.invariant-loop-x
invariant-loop-x l = (ids : ℕ → List ℕ) → l.bits ≡ map bit_of (map (source_of ids) (take l.x-index l.run))
