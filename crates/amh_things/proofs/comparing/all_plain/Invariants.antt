use Rattle.std.proofs.Common.{◌≡◌, ◌++◌, drop, map}
use Rattle.amh_things.specs.Members.{plain}
use Rattle.amh_things.proofs.comparing.all_plain.Given as goal

abbrev pub invariant-loop-v : goal.invariant-loop-v
invariant-loop-v l = l.all ++ map (plain l.values) (drop l.v-index l.vals) ≡ map (plain l.values) l.vals
