use Rattle.std.proofs.Common.{◌≡◌, ◌≤◌, map, length, drop}
use Rattle.rtlil_text.specs.Sources.{spec_bits}
use Rattle.cell_split.specs.Needs.{node_of}
use Rattle.cell_split.proofs.spec_nodes.spec_nodes.Given as goal

-- the bits of the parts that were passed
abbrev pub invariant-loop-above : goal.invariant-loop-above
invariant-loop-above l = record {
  within : l.above ≤ length l.spec;
  passed : l.nodes.items ≡ map (node_of l.all) (spec_bits (drop l.above l.spec));
}

abbrev pub decreases-loop-above : goal.decreases-loop-above
decreases-loop-above l = l.above
