use Rattle.std.proofs.Common.{◌∙◌, ap, subst, rules, IsTrue}
use Rattle.std.specs.List.{AllByRecursion}
use Rattle.design_ir.specs.Designs.{IsMemory}
use Rattle.design_table.specs.MemoryTests.{bare, given_ports}
use Rattle.design_table.proofs.MemoryTests.{given_is}
use Rattle.design_table.proofs.sound.keep_rules.Goals as goal

pub returns : goal.returns
returns c =
    let s = c.args.signals.now in
    let kept : IsTrue c.are_memories.result = search rules in
    let rules_kept = subst (AllByRecursion (IsMemory (bare s.sheet.pool s.domains))) c.as_slice-all.ensures (c.are_memories.ensures kept) in
    given_is s.sheet.pool s.ports s.sides.items s.domains c.args.processes.now c.args.memories.now c.in_ok-given.given c.are_given.result
    (c.in_ok-given.ensures ∙ ap given_ports c.as_slice-all.ensures) rules_kept c.are_given.ensures
