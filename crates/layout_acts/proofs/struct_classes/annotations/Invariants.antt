use Rattle.std.proofs.Common.{◌≡◌, true, drop, map, string_bytes}
use Rattle.layout_acts.specs.StructClasses.{annotations, behind_members}
use Rattle.layout_acts.proofs.struct_classes.annotations.Given as goal

abbrev pub invariant-loop-i : goal.invariant-loop-i
invariant-loop-i l =
    behind_members true l.members (annotations (drop l.i l.vals) (map string_bytes (drop l.i l.names))) ≡ annotations l.vals (map string_bytes l.names)
