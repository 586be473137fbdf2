use Rattle.std.proofs.Common.{◌≡◌, ◌++◌, drop}
use Rattle.std.specs.List.{filter_map}
use Rattle.elab_store.specs.ClockDomains.{definition_in, defined_by}
use Rattle.elab_store.proofs.domains.ClockDomains.defined_by.Given as goal

abbrev pub invariant-loop-definition : goal.invariant-loop-definition
invariant-loop-definition l = l.all ++ filter_map (definition_in l.of l.self.made) (drop l.definition-index l.self.definitions) ≡ defined_by l.of l.self
