use Rattle.std.proofs.Common.{◌≡◌, ◌+◌, ◌∷◌, drop, List, ap, sym, ◌∙◌, subst, Result, Err}
use Rattle.py_values.specs.Runs.{Answers}
use Rattle.py_heap.specs.Objects.{names_listed}
use Rattle.py_values.specs.Bindings.{Binding}
use Rattle.py_heap.proofs.ObjectLaws.{drop_at, listed_turn, listed_stop}
use Rattle.py_heap.proofs.objects.list_names.Goals as goal

pub returns-in-Err : goal.returns-in-Err
returns-in-Err c =
    let here = drop_at c.args.bindings.now c.loop-i.i _ c.at-v.ensures in
    rw (← c.loop-i.invariant, here) (listed_stop c.args.before c.loop-i.texts c.loop-i.row _ _ (drop (c.loop-i.i + 1) c.args.bindings.now) c.in-Err.stop c.in-Err.ensures)

pub loop-i-preserved : goal.loop-i-preserved
loop-i-preserved c =
    let here = drop_at c.args.bindings.now c.loop-i.i _ c.at-v.ensures in
    sym (ap (names_listed c.args.before c.loop-i.texts c.loop-i.row) here ∙ listed_turn c.args.before c.loop-i.texts c.loop-i.row _ _ (drop (c.loop-i.i + 1) c.args.bindings.now) c.list_name.new.texts c.list_name.new.row c.in-Ok.ensures) ∙ c.loop-i.invariant
