use Rattle.std.proofs.Common.{◌<◌, ◌∙◌, length, sym, ap, arith}
use Rattle.amh_things.specs.Plans.{grown_by}
use Rattle.amh_things.proofs.PutLaws.{askable, not_refused, next_drafted, grown_more, grown_none, only_memory, length_added}
use Rattle.amh_things.proofs.putting.put_exprs.Goals as goal

pub expr-requires : goal.expr-requires
expr-requires g c =
    let drafted = rw c.in-Some.ensures.first at c.loop-e.invariant.drafted in
    askable (g.P.Exprs.pooled c.loop-e.pool) c.in-Some.e c.next.new.self drafted

pub loop-e-preserved : goal.loop-e-preserved
loop-e-preserved g c =
    let p = g.P.Exprs.pooled c.loop-e.pool in
    let split = c.in-Some.ensures.first in
    let drafted = rw split at c.loop-e.invariant.drafted in
    let added = c.in-Ok.ensures.added.2 in
    let counted = ap (λ q. length q.exprs) added in
    record {
      drafted = rw added (next_drafted p c.in-Some.e c.next.new.self drafted);
      room = omega (arith, counted, ap length split, length_added p c.in-Some.e, c.loop-e.invariant.room);
      whole = rw added (grown_more p c.in-Some.e c.next.new.self ∙ ap (grown_by p) (sym split) ∙ c.loop-e.invariant.whole);
    }

pub want_of_memory-requires : goal.want_of_memory-requires
want_of_memory-requires g c =
    let p = g.P.Exprs.pooled c.loop-e.pool in
    let split = c.in-Some.ensures.first in
    let drafted = rw split at c.loop-e.invariant.drafted in
    let few : length p.exprs < 262144 = omega (arith, ap length split, c.loop-e.invariant.room) in
    only_memory _ _ (not_refused p c.in-Some.e c.next.new.self drafted few) c.in-Err.ensures.refused.0

pub returns : goal.returns
returns g c =
    let p = g.P.Exprs.pooled c.loop-e.pool in
    sym (grown_none p) ∙ ap (grown_by p) (sym c.in_default.ensures.none) ∙ c.loop-e.invariant.whole
