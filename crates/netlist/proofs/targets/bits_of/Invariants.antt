use Rattle.std.proofs.Common.{◌≡◌, ◌++◌, ◌-◌, map}
use Rattle.std.specs.List.{range_with_len}
use Rattle.design_ir.specs.Targets.{bits_of}
use Rattle.netlist.proofs.LowerTargets.{bit_at}
use Rattle.netlist.proofs.targets.bits_of.Given as goal

abbrev pub invariant-loop-index : goal.invariant-loop-index
invariant-loop-index l = l.bits.items ++ map (bit_at l.sig) (range_with_len l.index (l.width - l.index)) ≡ bits_of l.sig l.width
