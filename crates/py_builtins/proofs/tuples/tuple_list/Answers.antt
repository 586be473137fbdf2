use Rattle.std.proofs.Common.{◌≡◌, [], arith}
use Rattle.std.proofs.lemmas.Grind.{common_steps}
use Rattle.py_builtins.proofs.TupleLaws.{tuple_turn, tuple_fails, tuples_end}
use Rattle.py_builtins.proofs.tuples.tuple_list.Goals as goal

pub loop-row-preserved : goal.loop-row-preserved
loop-row-preserved c =
    tuple_turn c.args.frozen.now c.loop-row.heap c.place.new.self c.loop-row.all c.push.new.self c.loop-row.rows.items c.pop.new.self.items c.in-Some.row c.in-Ok.v _ c.in-Some.ensures.items c.in-Ok.ensures c.in-Ok-push.ensures.ok c.loop-row.invariant

pub returns-in-Err : goal.returns-in-Err
returns-in-Err c =
    tuple_fails c.args.frozen.now c.loop-row.heap c.loop-row.all c.loop-row.rows.items c.pop.new.self.items c.in-Some.row c.in-Err.stop _ c.in-Some.ensures.items c.in-Err.ensures c.loop-row.invariant

pub returns : goal.returns
returns c =
    let e : c.loop-row.rows.items ≡ [] = grind (arith, common_steps) in
    tuples_end c.args.frozen.now c.loop-row.heap c.loop-row.all c.loop-row.rows.items _ _ e c.place-2.ensures c.loop-row.invariant
