use Rattle.std.proofs.Common.{◌≡◌}
use Rattle.std.specs.List.{filter_map, range_with_len}
use Rattle.domain_transforms.specs.Resetting.{reset_register}
use Rattle.domain_transforms.proofs.resetting.reset_registers.Given as goal

abbrev pub invariant-loop-s : goal.invariant-loop-s
invariant-loop-s l = l.registers.items ≡ filter_map (reset_register l.pool l.body) (range_with_len 0 l.s)
