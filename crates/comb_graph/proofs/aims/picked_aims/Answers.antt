use Rattle.std.proofs.Common.{◌≡◌, ◌∙◌, ◌<◌, ◌≤◌, sym, ap, subst, arith, List, ◌++◌, map, length, slice_index_or, slice_get, Some}
use Rattle.std.specs.List.{filter_map}
use Rattle.std.proofs.lemmas.Option.{slice_get-get_or}
use Rattle.design_ir.specs.declared.ids.ExprId.{ExprId}
use Rattle.design_ir.specs.Targets.{Aim, aims, loose}
use Rattle.design_ir.specs.Values.{form}
use Rattle.comb_graph.specs.Seen.{AllStandBelow, row_at, seen}
use Rattle.comb_graph.proofs.AimTables.{all_narrow, picked_more, stand_below}
use Rattle.comb_graph.proofs.GraphBelow.{below_at}
use Rattle.comb_graph.proofs.GraphSteps.{narrow}
use Rattle.comb_graph.proofs.GraphTables.{shape_of}
use Rattle.comb_graph.proofs.aims.picked_aims.Goals as goal

pub row_of-requires : goal.row_of-requires
row_of-requires c = below_at (length c.args.table.now) c.args.items.now c.loop-item.item-index (record { 0 = 0 }) c.requires.names c.loop-item-test.true

pub push_loose-requires : goal.push_loose-requires
push_loose-requires c =
    let pool = c.args.design.now.pool in
    let table = c.args.table.now in
    let d : ExprId = record { 0 = 0 } in
    let e : ExprId = slice_index_or c.args.items.now c.loop-item.item-index d in
    let there : e.0 < length table = below_at (length table) c.args.items.now c.loop-item.item-index d c.requires.names c.loop-item-test.true in
    let low : (form pool e.0).width ≤ 128 = narrow (form pool e.0).width (form pool e.0).signed (shape_of pool e.0 c.requires.rules (omega (arith, there, c.requires.rows.few))) in
    subst (AllStandBelow 128) (sym c.row_of.ensures) (all_narrow (form pool e.0).width 128 (row_at table e.0) low (stand_below pool table e.0 c.requires.rules c.requires.rows there))

pub loop-item-preserved : goal.loop-item-preserved
loop-item-preserved c =
    let pool = c.args.design.now.pool in
    let table = c.args.table.now in
    let items = c.args.items.now in
    let i = c.loop-item.item-index in
    let f = loose c.args.width in
    let d : ExprId = record { 0 = 0 } in
    let e : ExprId = slice_index_or items i d in
    let at : slice_get items i ≡ Some e = slice_get-get_or items i d c.loop-item-test.true in
    let there : e.0 < length table = below_at (length table) items i d c.requires.names c.loop-item-test.true in
    let own : map seen c.row_of.result.now ≡ aims pool e.0 = ap (map seen) c.row_of.ensures ∙ c.requires.rows.rows e.0 there in
    c.in_ok-push_loose.ensures ∙ ap (λ (xs : List Aim). map seen c.loop-item.row ++ filter_map f xs) own ∙ ap (λ (xs : List Aim). xs ++ filter_map f (aims pool e.0)) c.loop-item.invariant
    ∙ sym (picked_more f (aims pool) items i e at)
