use Rattle.std.proofs.Common.{length, arith}
use Rattle.fragment_walks.proofs.Lists.{below_at}
use Rattle.clock_domains.proofs.hits.is_any_hit.Goals as goal

pub bounds-hits-e : goal.bounds-hits-e
bounds-hits-e c = omega (arith, below_at (length c.args.hits.now) c.args.items.now c.loop-e.e-index (record { 0 = 0 }) c.requires c.loop-e-test.true)
