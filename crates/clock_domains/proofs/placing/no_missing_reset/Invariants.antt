use Rattle.std.proofs.Common.{◌≡◌, None}
use Rattle.fragment_walks.specs.Holders.{all_roots}
use Rattle.clock_domains.specs.Resolved.{reset_refusal}
use Rattle.clock_domains.proofs.PlacingLaws.{calls_to}
use Rattle.clock_domains.proofs.placing.no_missing_reset.Given as goal

abbrev pub invariant-loop-k : goal.invariant-loop-k
invariant-loop-k g l = reset_refusal l.definitions (calls_to l.pool (all_roots g.roots) l.k) ≡ None
