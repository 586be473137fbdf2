use Rattle.std.proofs.Common.{take}
use Rattle.clock_domains.specs.Made.{AreMade}
use Rattle.clock_domains.proofs.domains.domains_made.Given as goal

abbrev pub invariant-loop-name : goal.invariant-loop-name
invariant-loop-name l = AreMade l.fn.pool l.definitions (take l.name-index l.names) l.pool l.domains
