use Rattle.std.proofs.Common.{◌≡◌, drop}
use Rattle.std.specs.List.{list_any}
use Rattle.amh_values.specs.Acts.{is_kept}
use Rattle.amh_values.proofs.above.has_kept.Given as goal

abbrev pub invariant-loop-v : goal.invariant-loop-v
invariant-loop-v l = list_any (is_kept l.values) (drop l.v-index l.vals) ≡ list_any (is_kept l.values) l.vals
