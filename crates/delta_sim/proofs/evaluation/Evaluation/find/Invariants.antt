use Rattle.std.proofs.Common.{◌≡◌, length}
use Rattle.delta_sim.specs.Evaluations.{IsFinding, work}
use Rattle.delta_sim.proofs.evaluation.Evaluation.find.Given as goal

abbrev pub invariant-loop-at : goal.invariant-loop-at
invariant-loop-at l = record {
  finding : IsFinding l.design.pool l.env l.e.0 l.self;
  bound : length l.self.numbers ≡ length l.fn.self.numbers;
}

abbrev pub decreases-loop-at : goal.decreases-loop-at
decreases-loop-at l = work l.self
