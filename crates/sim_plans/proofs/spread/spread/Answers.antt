use Rattle.sim_plans.proofs.Spreading.{all_stay}
use Rattle.sim_plans.proofs.spread.spread.Goals as goal

pub returns-clause-values_stay : goal.returns-clause-values_stay
returns-clause-values_stay c = λ k h. c.spread_all_values.ensures.stay k (c.spread_all_aims.ensures.values_stay k h)

pub returns-clause-spread : goal.returns-clause-spread
returns-clause-spread c = record {
  of_values = c.spread_all_values.ensures.spread;
  of_aims = record {
    named = c.spread_all_aims.ensures.spread.named;
    placed = λ j x is m. all_stay _ _ _ c.spread_all_values.ensures.stay (c.spread_all_aims.ensures.spread.placed j x is m);
  };
}

pub returns-clause-only : goal.returns-clause-only
returns-clause-only c = λ r was.
    let first = c.spread_all_aims.ensures.only r was in
    (c.spread_all_values.ensures.only r first.0, first.1)
