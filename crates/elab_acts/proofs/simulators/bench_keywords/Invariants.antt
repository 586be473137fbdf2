use Rattle.std.proofs.Common.{◌≡◌, drop, map, string_bytes}
use Rattle.elab_acts.specs.Simulators.{bench_keywords}
use Rattle.elab_acts.proofs.simulators.bench_keywords.Given as goal

abbrev pub invariant-loop-i : goal.invariant-loop-i
invariant-loop-i l = bench_keywords (map string_bytes (drop l.i l.keywords)) (drop l.i l.vals) l.args ≡ bench_keywords (map string_bytes l.keywords) l.vals l.fn.args
