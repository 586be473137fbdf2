use Rattle.std.proofs.Common.{◌≡◌, drop}
use Rattle.std.specs.List.{list_any}
use Rattle.elab_eval.specs.Elaborates.{is_nameless}
use Rattle.elab_eval.proofs.finish.has_nameless.Given as goal

abbrev pub invariant-loop-i : goal.invariant-loop-i
invariant-loop-i l = list_any is_nameless (drop l.i l.pool.exprs) ≡ list_any is_nameless l.pool.exprs
