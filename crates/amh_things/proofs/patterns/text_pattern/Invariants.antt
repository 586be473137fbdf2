use Rattle.std.proofs.Common.{drop, ◌≤◌}
use Rattle.amh_things.specs.Patterns.{signs}
use Rattle.amh_things.proofs.PatternLaws.{IsRead}
use Rattle.amh_things.proofs.patterns.text_pattern.Given as goal

abbrev pub invariant-loop-c : goal.invariant-loop-c
invariant-loop-c l = IsRead (signs l.text) (signs (drop l.c-index l.text)) l.count l.mask l.bits × l.count ≤ l.width
