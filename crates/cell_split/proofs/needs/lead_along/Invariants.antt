use Rattle.std.proofs.Common.{◌<◌, ℕ}
use Rattle.cell_split.specs.Needs.{Grows, LeadsAt}
use Rattle.cell_split.proofs.needs.lead_along.Given as goal

abbrev pub invariant-loop-place : goal.invariant-loop-place
invariant-loop-place l = record {
  grows : Grows l.fn.graph l.graph;
  leads : (k : ℕ) → k < l.place → LeadsAt l.graph l.froms l.uptos k;
}
