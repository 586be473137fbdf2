use Rattle.std.proofs.Common.{◌≡◌, ◌+◌, ◌*◌, ◌≤◌, ◌++◌, length, drop}
use Rattle.layout_acts.specs.Views.{item_exprs, item_ids}
use Rattle.layout_acts.proofs.views.item_exprs.Given as goal

abbrev pub invariant-loop-x : goal.invariant-loop-x
invariant-loop-x l = record {
  exprs : l.exprs ++ item_exprs l.e l.shape l.next (drop l.x-index l.fields) ≡ item_exprs l.e l.shape l.fn.next l.fields;
  ids : l.ids ++ item_ids l.shape l.next (drop l.x-index l.fields) ≡ item_ids l.shape l.fn.next l.fields;
  next : l.next ≤ l.fn.next + 2 * l.x-index;
  few : length l.exprs ≤ 2 * l.x-index;
}
