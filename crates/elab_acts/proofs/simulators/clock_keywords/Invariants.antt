use Rattle.std.proofs.Common.{◌≡◌, drop, map, string_bytes}
use Rattle.elab_acts.specs.Simulators.{clock_keywords}
use Rattle.elab_acts.proofs.simulators.clock_keywords.Given as goal

abbrev pub invariant-loop-i : goal.invariant-loop-i
invariant-loop-i l = clock_keywords (map string_bytes (drop l.i l.keywords)) (drop l.i l.vals) l.args ≡ clock_keywords (map string_bytes l.keywords) l.vals l.fn.args
