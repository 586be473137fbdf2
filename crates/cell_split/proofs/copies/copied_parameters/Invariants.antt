use Rattle.std.proofs.Common.{◌≡◌, take}
use Rattle.cell_split.proofs.copies.copied_parameters.Given as goal

abbrev pub invariant-loop-parameter : goal.invariant-loop-parameter
invariant-loop-parameter l = l.copy ≡ take l.parameter-index l.parameter-items
