use Rattle.std.proofs.Common.{sym, subst}
use Rattle.std.specs.Prelude.{slice_get}
use Rattle.amh_things.specs.Plans.{IsPlanned}
use Rattle.value_acts.proofs.IndexLaws.{indexed_value}
use Rattle.amh_things.proofs.PutLaws.{bare_expr_below}
use Rattle.value_acts.proofs.indices.thing_indexed.Goals as goal

pub value_indexed-requires-clause-there : goal.value_indexed-requires-clause-there
value_indexed-requires-clause-there g c = bare_expr_below _ c.args.values.now c.args.hw.0 _ c.requires.held (sym c.in-Some.ensures)

pub returns-in-Some-clause-planned : goal.returns-in-Some-clause-planned
returns-in-Some-clause-planned g c =
    let p = g.P.Exprs.pooled c.args.pool.now in
    let made = rw c.requires.ends at c.value_indexed.ensures.planned in
    subst (IsPlanned c.value_indexed.result) (sym (indexed_value p c.args.values.now (slice_get c.args.values.now c.args.hw.0) c.in-Some.e c.args.vals.now (sym c.in-Some.ensures))) made
