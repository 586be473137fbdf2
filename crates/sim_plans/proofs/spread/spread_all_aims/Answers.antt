use Rattle.std.proofs.Common.{◌<◌, ◌≤◌, length, sym, ap, ◌∙◌, subst, arith}
use Rattle.design_ir.specs.Named.{AllBelow, named}
use Rattle.sim_plans.specs.Marks.{aimed_names, placing_names}
use Rattle.sim_plans.specs.Tasks.{places_of}
use Rattle.sim_plans.proofs.Marks.{marked_length}
use Rattle.sim_plans.proofs.Spreading.{aims_spread, turn_marked, names_below, aims_stay, placed_stay, targets_turn, read_turn, aims_turn}
use Rattle.sim_plans.proofs.spread.spread_all_aims.Goals as goal

pub mark_aimed-requires-clause-aims : goal.mark_aimed-requires-clause-aims
mark_aimed-requires-clause-aims c =
    subst (λ n. AllBelow n (named c.at.result.now)) (sym c.loop-i.invariant.aims) (names_below c.args.design.now.pool c.count.ensures.rules c.get.result c.at.result.now c.at.ensures)

pub mark_aimed-requires-clause-values : goal.mark_aimed-requires-clause-values
mark_aimed-requires-clause-values c =
    subst (λ n. AllBelow n (named c.at.result.now)) (sym c.loop-i.invariant.values) (names_below c.args.design.now.pool c.count.ensures.rules c.get.result c.at.result.now c.at.ensures)

pub loop-i-preserved : goal.loop-i-preserved
loop-i-preserved c =
    let p = c.args.design.now.pool in
    let rules = c.count.ensures.rules in
    let v = c.loop-i.invariant in
    let i = c.loop-i.i in
    let k = c.get.result in
    let x = c.at.result.now in
    let aims = c.loop-i.aims.marks in
    let values = c.loop-i.values.marks in
    let aims' = c.mark_aimed.new.aims.marks in
    let values' = c.mark_aimed.new.values.marks in
    let list = c.loop-i.aims.list in
    let there : i < length list = omega (arith, c.loop-i-test.true, c.len.ensures.count) in
    let here = turn_marked c.loop-i.aims c.len.ensures.rules i k there c.get.ensures in
    let ea = c.mark_aimed.ensures.aims in
    let ep = c.mark_aimed.ensures.values in
    record {
      aims = ap length ea ∙ marked_length (places_of (aimed_names x)) aims ∙ v.aims;
      values = ap length ep ∙ marked_length (places_of (placing_names x)) values ∙ v.values;
      aims_stay = λ j h. aims_stay p rules k x c.at.ensures aims values aims' values' here ea ep j (v.aims_stay j h);
      values_stay = λ j h. placed_stay p rules k x c.at.ensures aims values aims' values' here ea ep j (v.values_stay j h);
      done = aims_turn p rules k x c.at.ensures aims values aims' values' here ea ep i list c.mark_aimed.new.aims.list v.aims v.values there c.get.ensures c.mark_aimed.ensures.aims_list v.done;
      targets = targets_turn p rules k x c.at.ensures aims values aims' values' here ea ep v.targets;
      only = λ r was. read_turn p rules k x c.at.ensures aims values aims' values' here ea ep r (v.only r was);
    }

pub returns-clause-spread : goal.returns-clause-spread
returns-clause-spread c =
    let le : length c.loop-i.aims.list ≤ c.loop-i.i = omega (arith, c.loop-i-test.false, c.len.ensures.count) in
    aims_spread c.args.design.now.pool c.loop-i.i c.loop-i.aims c.loop-i.values.marks c.len.ensures.rules le c.loop-i.invariant.done
