use Rattle.std.proofs.Common.{◌≡◌, ◌+◌, ◌*◌, ◌≤◌, ◌∷◌, List, ℤ, length}
use Rattle.design_ir.specs.Histories.{DeltasFrom}
use Rattle.design_ir.proofs.NumbersFit.{FitsSignals}
use Rattle.sim_plans.specs.Plans.{Notes, Rests}
use Rattle.sim_plans.specs.Settling.{IsWoken, nobody}
use Rattle.delta_sim.specs.Standing.{state_of}
use Rattle.sim_plans.specs.Tasks.{AreFitting}
use Rattle.sim_plans.specs.Woken.{deltas_of, runs_of}
use Rattle.delta_sim.proofs.Settles.{Left, Counted}
use Rattle.delta_sim.proofs.settle.settle.Given as goal

abbrev pub invariant-loop : goal.invariant-loop
invariant-loop g l = record {
  signals : length l.env.items ≡ length l.design.pool.signals;
  fits : FitsSignals l.design.pool l.env.items;
  count : length l.nums.items ≡ length l.initial.nums.items;
  numbers : AreFitting l.design.pool l.nums.items;
  next : length l.next ≡ length l.design.pool.signals;
  next_fits : FitsSignals l.design.pool l.next;
  waits : length l.waits.marks ≡ l.plan.jobs;
  then : l.then ≡ nobody l.plan.jobs;
  woken : length l.woken.marks ≡ l.plan.agents;
  moved : Notes l.initial.env.items l.env.items l.initial.moved.marks l.moved.marks;
  rests : Rests l.design (state_of l.held l.rows) l.plan l.waits.marks l.env.items;
  left : Left l.design (state_of l.held l.rows) l.env.items l.waits.marks l.most l.counter;
  counts : (before : List (List ℤ)) (old : List ℤ) (rest : List (List ℤ)) → IsWoken l.design l.plan old l.initial.env.items before l.rows l.initial.woken.marks → DeltasFrom l.design (state_of l.held l.rows) l.initial.env.items rest
      → Counted l.design (state_of l.held l.rows) l.plan l.env.items l.woken.marks l.counts.deltas l.counts.runs (deltas_of l.design before l.rows old (l.initial.env.items ∷ rest)) (runs_of l.design before l.rows old (l.initial.env.items ∷ rest));
  few_deltas : l.counts.deltas ≤ l.counter;
  few_runs : l.counts.runs ≤ l.counter * l.plan.agents;
  steps : l.steps ≡ l.initial.steps + l.counts.runs;
}
