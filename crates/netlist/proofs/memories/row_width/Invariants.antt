use Rattle.std.proofs.Common.{◌≡◌, ◌-◌, ◌^◌}
use Rattle.std.specs.Prelude.{nat_le}
use Rattle.std.specs.List.{find, range_with_len}
use Rattle.netlist.proofs.memories.row_width.Given as goal

abbrev pub invariant-loop-w : goal.invariant-loop-w
invariant-loop-w l = find (λ v. nat_le l.depth (2 ^ v)) (range_with_len l.w (17 - l.w)) ≡ find (λ v. nat_le l.depth (2 ^ v)) (range_with_len 0 17)
