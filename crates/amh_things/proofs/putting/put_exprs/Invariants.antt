use Rattle.std.proofs.Common.{◌≡◌, ◌+◌, ◌≤◌, length}
use Rattle.amh_things.specs.Plans.{AreDrafted, grown_by}
use Rattle.amh_things.proofs.putting.put_exprs.Given as goal

abbrev pub invariant-loop-e : goal.invariant-loop-e
invariant-loop-e g l = record {
  drafted : AreDrafted (g.P.Exprs.pooled l.pool) l.exprs;
  room : length (g.P.Exprs.pooled l.pool).exprs + length l.exprs ≤ 262144;
  whole : grown_by (g.P.Exprs.pooled l.pool) l.exprs ≡ grown_by (g.P.Exprs.pooled l.initial.pool) l.initial.exprs;
}

abbrev pub decreases-loop-e : goal.decreases-loop-e
decreases-loop-e g l = length l.exprs
