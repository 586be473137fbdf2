use Rattle.std.proofs.Common.{◌≡◌}
use Rattle.expr_index.specs.Numbers.{number_now}
use Rattle.amh_things.specs.Renumbered.{things_now}
use Rattle.amh_things.proofs.values.Values.renumber.Given as goal

-- what is left gives the whole
abbrev pub invariant-loop-i : goal.invariant-loop-i
invariant-loop-i l = things_now l.i (number_now l.before l.now) l.self-inside.things.items ≡ things_now l.from (number_now l.before l.now) l.initial.self-inside.things.items
