use Rattle.design_table.proofs.MemoryTests.{memory_is}
use Rattle.design_table.proofs.memory_rules.is_memory.Goals as goal

pub returns-then-is_formed : goal.returns-then-is_formed
returns-then-is_formed c = λ t.
    let formed = c.is_formed.ensures in
    let is = c.if-is_formed.true in
    let ports = c.has_ports.ensures in
    memory_is c.args.signals.now.sheet.pool c.args.signals.now.domains c.args.memory.now (formed.path is) (formed.depth is) (formed.size is) (formed.shapes is) (formed.few is) (ports.writes t) (ports.domain t) (ports.reads t)
