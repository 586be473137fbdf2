use Rattle.std.proofs.Common.{◌≡◌, map, take}
use Rattle.expr_index.specs.Numbers.{number_now}
use Rattle.expr_index.proofs.numbers.ids_now.Given as goal

abbrev pub invariant-loop-id : goal.invariant-loop-id
invariant-loop-id l = l.all ≡ map (number_now l.before l.now) (take l.id-index l.id-items)
