use Rattle.std.proofs.Common.{◌≡◌, true}
use Rattle.design_ir.specs.Circuits.{is_among}
use Rattle.design_ir.specs.Targets.{is_target}
use Rattle.sim_plans.specs.Tasks.{places_of}
use Rattle.delta_sim.specs.Walked.{place_of}
use Rattle.delta_sim.proofs.place.place_at.Given as goal

abbrev pub invariant-loop-place : goal.invariant-loop-place
invariant-loop-place l = record {
  among : is_among (places_of l.task.exprs) l.e.0 ≡ true;
  target : is_target l.design.pool l.e.0 ≡ true;
  place : place_of l.design.pool l.env l.e.0 l.i ≡ place_of l.design.pool l.env l.fn.target.0 l.fn.index;
}

abbrev pub decreases-loop-place : goal.decreases-loop-place
decreases-loop-place l = l.e.0
