use Rattle.std.proofs.Common.{◌≡◌}
use Rattle.expr_index.specs.Numbers.{number_now}
use Rattle.bench_acts.specs.Sharing.{kepts_now}
use Rattle.bench_acts.proofs.sharing.renumber_kept.Given as goal

-- what is left gives the whole
abbrev pub invariant-loop-i : goal.invariant-loop-i
invariant-loop-i l = kepts_now l.i (number_now l.before l.now) l.kept ≡ kepts_now l.from (number_now l.before l.now) l.initial.kept
