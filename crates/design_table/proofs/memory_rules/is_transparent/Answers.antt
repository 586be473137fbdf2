use Rattle.std.proofs.Common.{◌∙◌, sym}
use Rattle.design_table.proofs.MemoryTests.{some_named}
use Rattle.design_table.proofs.memory_rules.is_transparent.Goals as goal

pub returns-then-k-len : goal.returns-then-k-len
returns-then-k-len c = λ t. some_named c.args.memory.now.writes c.args.k c.get.result.now c.args.domain.now c.get.ensures.lookup (sym c.is.ensures ∙ t)
