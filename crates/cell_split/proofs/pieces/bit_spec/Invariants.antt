use Rattle.std.proofs.Common.{◌≡◌, ◌≤◌, ◌+◌, [], length, drop}
use Rattle.rtlil_text.specs.Sources.{spec_bits}
use Rattle.cell_split.proofs.pieces.bit_spec.Given as goal

-- the bits of the parts that were passed, and those that are left to the place
abbrev pub invariant-loop-above : goal.invariant-loop-above
invariant-loop-above l = record {
  empty : l.bit ≡ [];
  within : l.above ≤ length l.spec;
  passed : length (spec_bits (drop l.above l.spec)) + l.left ≡ l.place;
}

abbrev pub decreases-loop-above : goal.decreases-loop-above
decreases-loop-above l = l.above
