use Rattle.std.proofs.Common.{ℕ, ◌≡◌, ◌∙◌, ◌+◌, ◌<◌, sym, ap, subst, arith, List, ◌++◌, map, length, drop, slice_index_or, slice_get, Some}
use Rattle.std.proofs.lemmas.Option.{slice_get-get_or}
use Rattle.shape_rules.specs.Forms.{Form}
use Rattle.design_ir.specs.declared.ids.ExprId.{ExprId}
use Rattle.design_ir.specs.Targets.{Aim, aims, aims_of_all, raised}
use Rattle.design_ir.specs.Values.{form, total_width}
use Rattle.comb_graph.specs.Seen.{AllStandBelow, seen}
use Rattle.comb_graph.proofs.AimTables.{joined_more, stand_below}
use Rattle.comb_graph.proofs.GraphBelow.{below_at}
use Rattle.comb_graph.proofs.GraphRows.{widths_more}
use Rattle.comb_graph.proofs.aims.joined_aims.Goals as goal

pub shape-requires : goal.shape-requires
shape-requires c = omega (arith, below_at (length c.args.table.now) c.args.items.now c.loop-item.item-index (record { 0 = 0 }) c.requires.names c.loop-item-test.true, c.requires.rows.few)

pub row_of-requires : goal.row_of-requires
row_of-requires c = below_at (length c.args.table.now) c.args.items.now c.loop-item.item-index (record { 0 = 0 }) c.requires.names c.loop-item-test.true

pub push_lifted-requires-clause-below : goal.push_lifted-requires-clause-below
push_lifted-requires-clause-below c =
    let pool = c.args.design.now.pool in
    let table = c.args.table.now in
    let d : ExprId = record { 0 = 0 } in
    let e : ExprId = slice_index_or c.args.items.now c.loop-item.item-index d in
    let there : e.0 < length table = below_at (length table) c.args.items.now c.loop-item.item-index d c.requires.names c.loop-item-test.true in
    let width : c.width.inside.width ≡ (form pool e.0).width = ap (λ (f : Form). f.width) (c.width.view_is ∙ c.shape.ensures) in
    subst (λ w. AllStandBelow w c.row_of.result.now) (sym width) (subst (AllStandBelow (form pool e.0).width) (sym c.row_of.ensures) (stand_below pool table e.0 c.requires.rules c.requires.rows there))

pub push_lifted-requires-clause-narrow : goal.push_lifted-requires-clause-narrow
push_lifted-requires-clause-narrow c =
    let pool = c.args.design.now.pool in
    let items = c.args.items.now in
    let i = c.loop-item.item-index in
    let d : ExprId = record { 0 = 0 } in
    let e : ExprId = slice_index_or items i d in
    let at : slice_get items i ≡ Some e = slice_get-get_or items i d c.loop-item-test.true in
    let width : c.width.inside.width ≡ (form pool e.0).width = ap (λ (f : Form). f.width) (c.width.view_is ∙ c.shape.ensures) in
    let left = widths_more (form pool) c.loop-item.by items i e (total_width (form pool) items) at c.loop-item.invariant.widths in
    omega (arith, left, width, c.requires.narrow)

pub loop-item-preserved : goal.loop-item-preserved
loop-item-preserved c =
    let pool = c.args.design.now.pool in
    let table = c.args.table.now in
    let items = c.args.items.now in
    let i = c.loop-item.item-index in
    let by = c.loop-item.by in
    let d : ExprId = record { 0 = 0 } in
    let e : ExprId = slice_index_or items i d in
    let at : slice_get items i ≡ Some e = slice_get-get_or items i d c.loop-item-test.true in
    let there : e.0 < length table = below_at (length table) items i d c.requires.names c.loop-item-test.true in
    let own : map seen c.row_of.result.now ≡ aims pool e.0 = ap (map seen) c.row_of.ensures ∙ c.requires.rows.rows e.0 there in
    let pushed : map seen c.push_lifted.new.row ≡ map seen c.loop-item.row ++ map (raised by) (aims pool e.0) = c.in_ok-push_lifted.ensures ∙ ap (λ (xs : List Aim). map seen c.loop-item.row ++ map (raised by) xs) own in
    let width : c.width.inside.width ≡ (form pool e.0).width = ap (λ (f : Form). f.width) (c.width.view_is ∙ c.shape.ensures) in
    let all = aims_of_all (form pool) (aims pool) 0 items in
    let P : ℕ → List Aim → Type 0 = λ w xs. xs ++ aims_of_all (form pool) (aims pool) (by + w) (drop (i + 1) items) ≡ all in
    record {
      rows = subst (P c.width.inside.width) (sym pushed) (subst (λ w. P w (map seen c.loop-item.row ++ map (raised by) (aims pool e.0))) (sym width)
          (joined_more (form pool) (aims pool) (map seen c.loop-item.row) all by items i e at c.loop-item.invariant.rows));
      widths = subst (λ w. by + w + total_width (form pool) (drop (i + 1) items) ≡ total_width (form pool) items) (sym width)
          (widths_more (form pool) by items i e (total_width (form pool) items) at c.loop-item.invariant.widths);
    }
