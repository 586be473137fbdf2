use Rattle.std.proofs.Common.{◌≡◌, drop}
use Rattle.elab_store.specs.Stores.{kept_of}
use Rattle.elab_memories.specs.Memories.{all_given}
use Rattle.elab_memories.specs.Ports.{write_number, write_numbers}
use Rattle.elab_memories.proofs.GivenLaws.{found_so}
use Rattle.elab_memories.proofs.ports.write_numbers.Given as goal

abbrev pub invariant-loop-i : goal.invariant-loop-i
invariant-loop-i l = found_so l.numbers (all_given (λ v. write_number l.of (kept_of l.store v)) (drop l.i l.vals)) ≡ write_numbers l.store l.of l.vals
