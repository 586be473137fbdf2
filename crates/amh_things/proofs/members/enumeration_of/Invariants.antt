use Rattle.std.proofs.Common.{◌≡◌, drop}
use Rattle.amh_things.specs.Members.{enumeration_of}
use Rattle.amh_things.proofs.members.enumeration_of.Given as goal

abbrev pub invariant-loop-t : goal.invariant-loop-t
invariant-loop-t l = enumeration_of l.e (drop l.t-index l.things) ≡ enumeration_of l.e l.things
