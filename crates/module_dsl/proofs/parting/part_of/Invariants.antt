use Rattle.std.proofs.Common.{◌≡◌, drop}
use Rattle.module_dsl.specs.Parting.{parted, parts_begun, parts_from}
use Rattle.module_dsl.proofs.parting.part_of.Given as goal

abbrev pub invariant-loop-step : goal.invariant-loop-step
invariant-loop-step l = parts_from l.side (parted l.parts) (drop l.step-index l.steps) ≡ parts_from l.side parts_begun l.steps
