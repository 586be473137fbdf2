use Rattle.std.proofs.Common.{◌<◌, ◌≤◌, length, sym, ap, ◌∙◌, subst, arith}
use Rattle.design_ir.specs.Named.{AllBelow, named}
use Rattle.sim_plans.specs.Tasks.{places_of}
use Rattle.sim_plans.proofs.Marks.{marked_length}
use Rattle.sim_plans.proofs.Spreading.{values_spread, turn_marked, names_below, values_stay, stands_turn, values_turn}
use Rattle.sim_plans.proofs.spread.spread_all_values.Goals as goal

pub mark_named-requires : goal.mark_named-requires
mark_named-requires c =
    subst (λ n. AllBelow n (named c.at.result.now)) (sym c.loop-i.invariant.values) (names_below c.args.design.now.pool c.count.ensures.rules c.get.result c.at.result.now c.at.ensures)

pub loop-i-preserved : goal.loop-i-preserved
loop-i-preserved c =
    let p = c.args.design.now.pool in
    let rules = c.count.ensures.rules in
    let v = c.loop-i.invariant in
    let i = c.loop-i.i in
    let k = c.get.result in
    let x = c.at.result.now in
    let values = c.loop-i.values.marks in
    let values' = c.mark_named.new.marks.marks in
    let list = c.loop-i.values.list in
    let there : i < length list = omega (arith, c.loop-i-test.true, c.len.ensures.count) in
    let here = turn_marked c.loop-i.values c.len.ensures.rules i k there c.get.ensures in
    let ev = c.mark_named.ensures.marks in
    record {
      values = ap length ev ∙ marked_length (places_of (named x)) values ∙ v.values;
      stay = λ j h. values_stay p rules k x c.at.ensures values values' here ev j (v.stay j h);
      done = values_turn p rules k x c.at.ensures values values' here ev i list c.mark_named.new.marks.list v.values there c.get.ensures c.mark_named.ensures.list v.done;
      only = λ r was. stands_turn p rules k x c.at.ensures values values' here ev r (v.only r was);
    }

pub returns-clause-spread : goal.returns-clause-spread
returns-clause-spread c =
    let le : length c.loop-i.values.list ≤ c.loop-i.i = omega (arith, c.loop-i-test.false, c.len.ensures.count) in
    values_spread c.args.design.now.pool c.loop-i.i c.loop-i.values c.len.ensures.rules le c.loop-i.invariant.done
