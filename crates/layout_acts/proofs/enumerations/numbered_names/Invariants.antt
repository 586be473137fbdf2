use Rattle.std.proofs.Common.{◌≡◌, true, drop, map, string_bytes}
use Rattle.layout_acts.specs.Enumerations.{numbered_names, behind_names}
use Rattle.layout_acts.proofs.enumerations.numbered_names.Given as goal

abbrev pub invariant-loop-i : goal.invariant-loop-i
invariant-loop-i l =
    behind_names true l.members (numbered_names (drop l.i l.vals) (map string_bytes (drop l.i l.names))) ≡ numbered_names l.vals (map string_bytes l.names)
