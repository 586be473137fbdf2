use Rattle.std.proofs.Common.{length}
use Rattle.design_table.proofs.domains.+domains_apart.Given as goal

abbrev pub decreases-domains_apart : goal.decreases-domains_apart
decreases-domains_apart l = length l.domains.now
