use Rattle.std.proofs.Common.{take}
use Rattle.std.specs.BTreeMap.{get_by_text}
use Rattle.clock_domains.specs.Placing.{IsLacking}
use Rattle.clock_domains.proofs.placing.lacking_names.Given as goal

abbrev pub invariant-loop-definition : goal.invariant-loop-definition
invariant-loop-definition l = IsLacking (take l.definition-index l.definitions) (get_by_text l.lacking)
