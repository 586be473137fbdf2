use Rattle.std.proofs.Common.{◌≡◌, ◌∙◌, ◌<◌, [], ◌∷◌, ◌++◌, sym, subst, ap, arith, length}
use Rattle.std.proofs.lemmas.List.{length-append}
use Rattle.design_ir.specs.Targets.{aims}
use Rattle.comb_graph.specs.Seen.{HasRows}
use Rattle.comb_graph.proofs.AimTables.{aims_of, rows_push}
use Rattle.comb_graph.proofs.aims.all_aims.Goals as goal

pub loop-e-preserved : goal.loop-e-preserved
loop-e-preserved c =
    let pool = c.args.design.now.pool in
    let table = c.loop-e.table in
    let row = c.in_ok-row.row in
    let there : length table < length pool.exprs = omega (arith, c.loop-e-test.true, c.loop-e.auto.e-end, c.count-e-end.ensures.value, c.loop-e.invariant.count) in
    let pushed : c.push.new.self ≡ table ++ row ∷ [] = c.in_ok-push.ensures.ok in
    record {
      rows = subst (HasRows pool) (sym pushed) (rows_push pool table row there c.loop-e.invariant.rows (c.in_ok-row.ensures ∙ ap (aims pool) (sym c.loop-e.invariant.count)));
      count = omega (arith, ap length pushed, length-append table (row ∷ []), c.loop-e.invariant.count);
    }

pub returns : goal.returns
returns c =
    let pool = c.args.design.now.pool in
    let all : length c.loop-e.table ≡ length pool.exprs = omega (arith, c.loop-e.invariant.count, c.loop-e-test.false, c.loop-e.auto.e-end, c.count-e-end.ensures.value) in
    aims_of pool c.loop-e.table c.count-e-end.ensures.rules c.loop-e.invariant.rows all
