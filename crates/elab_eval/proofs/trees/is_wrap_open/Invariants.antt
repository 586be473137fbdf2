use Rattle.std.proofs.Common.{◌≡◌, drop}
use Rattle.std.specs.List.{list_any}
use Rattle.elab_eval.specs.Elaborates.{is_open_wrap}
use Rattle.elab_eval.proofs.trees.is_wrap_open.Given as goal

abbrev pub invariant-loop-k : goal.invariant-loop-k
invariant-loop-k l = list_any (is_open_wrap l.store) (drop l.k-index l.wraps) ≡ list_any (is_open_wrap l.store) l.wraps
