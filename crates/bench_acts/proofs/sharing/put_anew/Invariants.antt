use Rattle.std.proofs.Common.{◌≡◌}
use Rattle.bench_acts.proofs.ShareLaws.{first_of}
use Rattle.bench_acts.proofs.sharing.put_anew.Given as goal

abbrev pub invariant-loop-i : goal.invariant-loop-i
invariant-loop-i l = l.pool ≡ first_of l.design.pool l.i
