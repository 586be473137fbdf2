use Rattle.std.proofs.Common.{◌≡◌, ◌++◌, drop}
use Rattle.std.specs.List.{flat_map}
use Rattle.rtlil_text.specs.Lines.{memory_text}
use Rattle.rtlil_text.proofs.text.add_memories.Given as goal

abbrev pub invariant-loop-m : goal.invariant-loop-m
invariant-loop-m l = l.page ++ flat_map memory_text (drop l.m-index l.m-items) ≡ l.fn.page ++ flat_map memory_text l.m-items
