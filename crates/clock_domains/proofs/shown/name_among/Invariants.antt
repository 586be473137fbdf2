use Rattle.std.proofs.Common.{◌≡◌, drop}
use Rattle.clock_domains.specs.Resolved.{name_among}
use Rattle.clock_domains.proofs.shown.name_among.Given as goal

-- no domain so far names the signal
abbrev pub invariant-loop-domain : goal.invariant-loop-domain
invariant-loop-domain l = name_among l.domains l.s.0 l.other ≡ name_among (drop l.domain-index l.domains) l.s.0 l.other
