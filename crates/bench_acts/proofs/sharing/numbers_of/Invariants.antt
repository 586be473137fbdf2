use Rattle.std.proofs.Common.{◌≡◌, false, length, drop}
use Rattle.std.specs.Prelude.{fold}
use Rattle.expr_index.specs.Knows.{Knows}
use Rattle.bench_acts.specs.Sharing.{share_one, shared, too_many}
use Rattle.bench_acts.proofs.ShareLaws.{IsShared}
use Rattle.bench_acts.proofs.sharing.numbers_of.Given as goal

-- what is left gives the whole
abbrev pub invariant-loop-i : goal.invariant-loop-i
invariant-loop-i l = record {
  state : IsShared l.before l.pool l.design.pool l.now.items l.i;
  read : fold (share_one l.before) (record { numbers = l.now.items; exprs = l.design.pool.exprs }) (drop l.i l.pool.exprs) ≡ shared l.initial.design.pool.exprs (drop l.before l.pool.exprs);
  design : l.design ≡ record (l.initial.design) { pool = record (l.initial.design.pool) { exprs = l.design.pool.exprs } };
  known : Knows l.known l.design.pool.exprs;
  few : too_many l.initial.design.pool l.design.pool.exprs ≡ false;
}
