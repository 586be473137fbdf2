use Rattle.std.proofs.Common.{◌≡◌, ◌++◌, take}
use Rattle.clock_domains.specs.Tracked.{IsTracked, names_of}
use Rattle.clock_domains.specs.Resolved.{columns_after}
use Rattle.clock_domains.proofs.columns.add_registers.Given as goal

abbrev pub invariant-loop-register : goal.invariant-loop-register
invariant-loop-register l = record {
  columns : l.columns ≡ l.fn.columns ++ columns_after (names_of l.fn.columns) (take l.register-index l.registers);
  tracked : IsTracked l.numbers l.columns;
}
