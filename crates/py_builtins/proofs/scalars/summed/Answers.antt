use Rattle.std.proofs.Common.{◌≡◌, sym, ◌∙◌, ap, drop, ◌+◌, Ok, Err, true}
use Rattle.std.specs.Prelude.{fold}
use Rattle.std.specs.List.{list_all}
use Rattle.py_builtins.specs.Scalars.{is_number, plus}
use Rattle.py_builtins.proofs.ScalarLaws.{fold_turn, fold-plus-err}
use Rattle.py_builtins.proofs.scalars.summed.Goals as goal

pub returns-in-Err : goal.returns-in-Err
returns-in-Err c =
    let all : list_all is_number c.args.row.now ≡ true = cc in
    let here : plus (Ok c.loop-v.sum) c.v-item.result ≡ Err c.in-Err.stop = sym c.on_numbers.ensures ∙ c.in-Err.is in
    let whole : Err c.in-Err.stop ≡ fold plus (Ok c.args.start) c.args.row.now =
    sym (fold_turn plus (Ok c.loop-v.sum) c.args.row.now c.loop-v.v-index c.v-item.result c.loop-v-test.true c.v-item.is ∙ ap (λ r. fold plus r (drop (c.loop-v.v-index + 1) c.args.row.now)) here ∙ fold-plus-err c.in-Err.stop (drop (c.loop-v.v-index + 1) c.args.row.now)) ∙ c.loop-v.invariant in
    rw all whole
