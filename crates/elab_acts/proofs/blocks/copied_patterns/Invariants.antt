use Rattle.std.proofs.Common.{◌≡◌, take}
use Rattle.elab_acts.proofs.blocks.copied_patterns.Given as goal

abbrev pub invariant-loop-pattern : goal.invariant-loop-pattern
invariant-loop-pattern l = l.list ≡ take l.pattern-index l.pattern-items
