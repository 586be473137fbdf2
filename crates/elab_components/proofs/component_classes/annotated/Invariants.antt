use Rattle.std.proofs.Common.{◌≡◌, true, drop, map, string_bytes}
use Rattle.elab_components.specs.ComponentClasses.{annotated, behind_members}
use Rattle.elab_components.proofs.component_classes.annotated.Given as goal

abbrev pub invariant-loop-i : goal.invariant-loop-i
invariant-loop-i l =
    behind_members true l.members (annotated l.store (drop l.i l.vals) (map string_bytes (drop l.i l.names))) ≡ annotated l.store l.vals (map string_bytes l.names)
