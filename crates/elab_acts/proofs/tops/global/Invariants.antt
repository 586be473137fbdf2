use Rattle.std.proofs.Common.{◌≡◌, drop, map, string_bytes}
use Rattle.elab_acts.specs.Tops.{global}
use Rattle.elab_acts.proofs.tops.global.Given as goal

abbrev pub invariant-loop-i : goal.invariant-loop-i
invariant-loop-i l = global l.name (drop l.i l.vals) (map string_bytes (drop l.i l.names)) ≡ global l.name l.vals (map string_bytes l.names)
