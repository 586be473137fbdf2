use Rattle.std.proofs.Common.{◌≡◌, drop}
use Rattle.amh_things.specs.Members.{counted}
use Rattle.elab_memories.specs.Memories.{all_given, all_counted}
use Rattle.elab_memories.proofs.GivenLaws.{found_so}
use Rattle.elab_memories.proofs.memories.all_counted.Given as goal

abbrev pub invariant-loop-i : goal.invariant-loop-i
invariant-loop-i l = found_so l.numbers (all_given (counted l.store.things) (drop l.i l.vals)) ≡ all_counted l.store.things l.vals
