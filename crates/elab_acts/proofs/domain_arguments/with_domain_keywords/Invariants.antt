use Rattle.std.proofs.Common.{◌≡◌, drop, map, string_bytes}
use Rattle.elab_acts.specs.ClockDomains.{with_domain_keywords}
use Rattle.elab_acts.proofs.domain_arguments.with_domain_keywords.Given as goal

abbrev pub invariant-loop-i : goal.invariant-loop-i
invariant-loop-i l = with_domain_keywords (map string_bytes (drop l.i l.keywords)) (drop l.i l.vals) l.args ≡ with_domain_keywords (map string_bytes l.keywords) l.vals l.fn.args
