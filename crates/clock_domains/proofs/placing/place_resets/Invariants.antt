use Rattle.std.proofs.Common.{◌≡◌}
use Rattle.clock_domains.specs.Placed.{placed_from}
use Rattle.clock_domains.proofs.PlacingLaws.{has_holder, up_to}
use Rattle.clock_domains.proofs.placing.place_resets.Given as goal

abbrev pub invariant-loop-k : goal.invariant-loop-k
invariant-loop-k l = l.pool ≡ record l.fn.pool { exprs = placed_from l.domains (up_to l.domains (has_holder l.holders) l.k) 0 l.fn.pool.exprs }
