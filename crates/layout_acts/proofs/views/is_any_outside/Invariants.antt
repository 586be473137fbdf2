use Rattle.std.proofs.Common.{◌≡◌, drop}
use Rattle.std.specs.List.{list_any}
use Rattle.layout_acts.specs.Views.{is_outside}
use Rattle.layout_acts.proofs.views.is_any_outside.Given as goal

abbrev pub invariant-loop-x : goal.invariant-loop-x
invariant-loop-x l = list_any (is_outside l.width l.item) (drop l.x-index l.fields) ≡ list_any (is_outside l.width l.item) l.fields
