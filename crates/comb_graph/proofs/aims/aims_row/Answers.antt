use Rattle.std.proofs.Common.{inl, inr, ◌≡◌, ◌∙◌, ℕ, ◌<◌, ◌≤◌, [], false, sym, ap, subst, arith, List, map, length, Some, slice_get}
use Rattle.std.specs.Prelude.{IfOk}
use Rattle.std.specs.List.{filter_map, flat_map, range_with_len}
use Rattle.shape_rules.specs.Forms.{Form}
use Rattle.design_ir.specs.declared.ids.ExprId.{ExprId}
use Rattle.design_ir.specs.declared.expr.Expr.{Expr}
use Rattle.design_ir.specs.declared.expr.Expr.TheVariants as expr
use Rattle.design_ir.specs.Named.{AllBelow}
use Rattle.design_ir.specs.Targets.{Aim, Numbers, aim_at, aim_step, aims, aims_of_all, chosen_items, loose, numbers, shifted, within}
use Rattle.design_ir.specs.Values.{common_of_all, form, signal_form, total_width}
use Rattle.design_ir.proofs.AimSteps.{aims_is}
use Rattle.design_ir.proofs.Equations.{form_is, standing}
use Rattle.design_ir.proofs.NumbersFit.{accepted_is}
use Rattle.comb_graph.specs.Seen.{AllStandBelow, row_at, seen}
use Rattle.comb_graph.specs.Sets.{numbers_in}
use Rattle.comb_graph.proofs.AimTables.{all_narrow, copied, items_below, stand_below}
use Rattle.comb_graph.proofs.GraphSteps.{narrow}
use Rattle.comb_graph.proofs.GraphTables.{shape_of}
use Rattle.comb_graph.proofs.aims.aims_row.Goals as goal

pub row_of-requires : goal.row_of-requires
row_of-requires c =
    let pool = c.args.design.now.pool in
    let h = standing pool c.args.e.0 (expr.Slice c.in-Slice.a c.in-Slice.low c.in-Slice.width) c.count.ensures.rules (c.at.ensures ∙ ap (λ e. Some e) c.in-Slice.is) in
    omega (arith, h.names.0, c.requires.next)

pub joined_aims-requires-clause-names : goal.joined_aims-requires-clause-names
joined_aims-requires-clause-names c =
    let pool = c.args.design.now.pool in
    let h = standing pool c.args.e.0 (expr.Cat c.in-Cat.items) c.count.ensures.rules (c.at.ensures ∙ ap (λ e. Some e) c.in-Cat.is) in
    subst (λ n. AllBelow n c.as_slice.result.now) c.requires.next (subst (AllBelow c.args.e.0) (sym c.as_slice.ensures) h.names)

pub joined_aims-requires-clause-narrow : goal.joined_aims-requires-clause-narrow
joined_aims-requires-clause-narrow c =
    let pool = c.args.design.now.pool in
    let h = standing pool c.args.e.0 (expr.Cat c.in-Cat.items) c.count.ensures.rules (c.at.ensures ∙ ap (λ e. Some e) c.in-Cat.is) in
    subst (λ es. total_width (form pool) es ≤ 128) (sym c.as_slice.ensures) (accepted_is false (total_width (form pool) c.in-Cat.items) h.accepted).1

pub span_of-requires-clause-there : goal.span_of-requires-clause-there
span_of-requires-clause-there c =
    let pool = c.args.design.now.pool in
    let h = standing pool c.args.e.0 (expr.Part c.in-Part.a c.in-Part.offset c.in-Part.width c.in-Part.stride) c.count.ensures.rules (c.at.ensures ∙ ap (λ e. Some e) c.in-Part.is) in
    h.askable.names.1.0

pub span_of-requires-clause-plain : goal.span_of-requires-clause-plain
span_of-requires-clause-plain c =
    let pool = c.args.design.now.pool in
    let h = standing pool c.args.e.0 (expr.Part c.in-Part.a c.in-Part.offset c.in-Part.width c.in-Part.stride) c.count.ensures.rules (c.at.ensures ∙ ap (λ e. Some e) c.in-Part.is) in
    (accepted_is (form pool c.in-Part.offset.0).signed c.in-Part.width h.accepted).0

pub shape-requires-in-Part : goal.shape-requires-in-Part
shape-requires-in-Part c =
    let pool = c.args.design.now.pool in
    let h = standing pool c.args.e.0 (expr.Part c.in-Part.a c.in-Part.offset c.in-Part.width c.in-Part.stride) c.count.ensures.rules (c.at.ensures ∙ ap (λ e. Some e) c.in-Part.is) in
    h.askable.names.0

pub row_of-requires-in-Part : goal.row_of-requires-in-Part
row_of-requires-in-Part c =
    let pool = c.args.design.now.pool in
    let h = standing pool c.args.e.0 (expr.Part c.in-Part.a c.in-Part.offset c.in-Part.width c.in-Part.stride) c.count.ensures.rules (c.at.ensures ∙ ap (λ e. Some e) c.in-Part.is) in
    omega (arith, h.names.0, c.requires.next)

pub selected_aims-requires-clause-below : goal.selected_aims-requires-clause-below
selected_aims-requires-clause-below c =
    let pool = c.args.design.now.pool in
    let table = c.args.table.now in
    let a = c.in-Part.a.0 in
    let h = standing pool c.args.e.0 (expr.Part c.in-Part.a c.in-Part.offset c.in-Part.width c.in-Part.stride) c.count.ensures.rules (c.at.ensures ∙ ap (λ e. Some e) c.in-Part.is) in
    let there : a < length table = omega (arith, h.names.0, c.requires.next) in
    let low : (form pool a).width ≤ 128 = narrow (form pool a).width (form pool a).signed (shape_of pool a c.count.ensures.rules h.askable.names.0) in
    subst (AllStandBelow 128) (sym c.row_of-in-Part.ensures) (all_narrow (form pool a).width 128 (row_at table a) low (stand_below pool table a c.count.ensures.rules c.requires.rows there))

pub span_of-requires-in-Pick-clause-there : goal.span_of-requires-in-Pick-clause-there
span_of-requires-in-Pick-clause-there c =
    let pool = c.args.design.now.pool in
    let h = standing pool c.args.e.0 (expr.Pick c.in-Pick.index c.in-Pick.items) c.count.ensures.rules (c.at.ensures ∙ ap (λ e. Some e) c.in-Pick.is) in
    h.askable.names.0

pub span_of-requires-in-Pick-clause-plain : goal.span_of-requires-in-Pick-clause-plain
span_of-requires-in-Pick-clause-plain c =
    let pool = c.args.design.now.pool in
    let h = standing pool c.args.e.0 (expr.Pick c.in-Pick.index c.in-Pick.items) c.count.ensures.rules (c.at.ensures ∙ ap (λ e. Some e) c.in-Pick.is) in
    (accepted_is (form pool c.in-Pick.index.0).signed (common_of_all (form pool) c.in-Pick.items).width h.accepted).0

pub chosen_items-items-requires-clause-some : goal.chosen_items-items-requires-clause-some
chosen_items-items-requires-clause-some c =
    let pool = c.args.design.now.pool in
    let h = standing pool c.args.e.0 (expr.Pick c.in-Pick.index c.in-Pick.items) c.count.ensures.rules (c.at.ensures ∙ ap (λ e. Some e) c.in-Pick.is) in
    λ none. h.askable.parts (sym c.as_slice-in-Pick.ensures ∙ none)

pub picked_aims-requires-clause-names : goal.picked_aims-requires-clause-names
picked_aims-requires-clause-names c =
    let pool = c.args.design.now.pool in
    let h = standing pool c.args.e.0 (expr.Pick c.in-Pick.index c.in-Pick.items) c.count.ensures.rules (c.at.ensures ∙ ap (λ e. Some e) c.in-Pick.is) in
    let n = numbers_in c.span_of-in-Pick.result in
    let all : AllBelow c.args.e.0 (chosen_items n c.in-Pick.items) = items_below c.args.e.0 n c.in-Pick.items h.names.1 in
    subst (λ k. AllBelow k c.chosen_items-items.result.now) c.requires.next
    (subst (AllBelow c.args.e.0) (sym (c.chosen_items-items.ensures ∙ ap (chosen_items n) c.as_slice-in-Pick.ensures)) all)

pub row_of-requires-in-Cast : goal.row_of-requires-in-Cast
row_of-requires-in-Cast c =
    let pool = c.args.design.now.pool in
    let h = standing pool c.args.e.0 (expr.Cast c.in-Cast.a c.in-Cast.signed) c.count.ensures.rules (c.at.ensures ∙ ap (λ e. Some e) c.in-Cast.is) in
    omega (arith, h.names.0, c.requires.next)

pub returns-in-Sig : goal.returns-in-Sig
returns-in-Sig c =
    let pool = c.args.design.now.pool in
    let s = c.in-Sig.s.0 in
    let at : slice_get pool.exprs c.args.e.0 ≡ Some (expr.Sig c.in-Sig.s) = c.at.ensures ∙ ap (λ e. Some e) c.in-Sig.is in
    let width : c.width.inside.width ≡ (signal_form pool.signals s).width = ap (λ (f : Form). f.width) (c.width.view_is ∙ c.shape.ensures ∙ form_is pool c.args.e.0 (expr.Sig c.in-Sig.s) c.count.ensures.rules at) in
    let is : map (aim_at s) (range_with_len 0 c.width.inside.width) ≡ aims pool c.args.e.0 =
    ap (λ w. map (aim_at s) (range_with_len 0 w)) width ∙ sym (aims_is pool c.args.e.0 (expr.Sig c.in-Sig.s) c.count.ensures.rules at) in
    subst (λ (xs : List Aim). IfOk c.signal_aims.result (λ row. map seen row ≡ xs)) is c.signal_aims.ensures

pub returns-in-Slice : goal.returns-in-Slice
returns-in-Slice c =
    let pool = c.args.design.now.pool in
    let a = c.in-Slice.a.0 in
    let e = expr.Slice c.in-Slice.a c.in-Slice.low c.in-Slice.width in
    let at : slice_get pool.exprs c.args.e.0 ≡ Some e = c.at.ensures ∙ ap (λ x. Some x) c.in-Slice.is in
    let there : a < length c.args.table.now = omega (arith, (standing pool c.args.e.0 e c.count.ensures.rules at).names.0, c.requires.next) in
    let own : map seen c.row_of.result.now ≡ aims pool a = ap (map seen) c.row_of.ensures ∙ c.requires.rows.rows a there in
    let f = filter_map (within c.in-Slice.low c.in-Slice.width) in
    let is : f (map seen c.row_of.result.now) ≡ aims pool c.args.e.0 = ap f own ∙ sym (aims_is pool c.args.e.0 e c.count.ensures.rules at) in
    subst (λ (xs : List Aim). IfOk c.slice_aims.result (λ row. map seen row ≡ xs)) is c.slice_aims.ensures

pub returns-in-Cat : goal.returns-in-Cat
returns-in-Cat c =
    let pool = c.args.design.now.pool in
    let at : slice_get pool.exprs c.args.e.0 ≡ Some (expr.Cat c.in-Cat.items) = c.at.ensures ∙ ap (λ e. Some e) c.in-Cat.is in
    let is : aims_of_all (form pool) (aims pool) 0 c.as_slice.result.now ≡ aims pool c.args.e.0 =
    ap (aims_of_all (form pool) (aims pool) 0) c.as_slice.ensures ∙ sym (aims_is pool c.args.e.0 (expr.Cat c.in-Cat.items) c.count.ensures.rules at) in
    subst (λ (xs : List Aim). IfOk c.joined_aims.result (λ row. map seen row ≡ xs)) is c.joined_aims.ensures

pub returns-in-Part : goal.returns-in-Part
returns-in-Part c =
    let pool = c.args.design.now.pool in
    let a = c.in-Part.a.0 in
    let stride = c.in-Part.stride in
    let e = expr.Part c.in-Part.a c.in-Part.offset c.in-Part.width stride in
    let at : slice_get pool.exprs c.args.e.0 ≡ Some e = c.at.ensures ∙ ap (λ x. Some x) c.in-Part.is in
    let there : a < length c.args.table.now = omega (arith, (standing pool c.args.e.0 e c.count.ensures.rules at).names.0, c.requires.next) in
    let own : map seen c.row_of-in-Part.result.now ≡ aims pool a = ap (map seen) c.row_of-in-Part.ensures ∙ c.requires.rows.rows a there in
    let width : c.width.inside.width ≡ c.in-Part.width = ap (λ (f : Form). f.width) (c.width.view_is ∙ c.shape.ensures ∙ form_is pool c.args.e.0 e c.count.ensures.rules at) in
    let wide : c.by.inside.width ≡ (form pool a).width = ap (λ (f : Form). f.width) (c.by.view_is ∙ c.shape-in-Part.ensures) in
    let F : Numbers → ℕ → ℕ → List Aim → List Aim = λ n w v xs. filter_map (shifted n w v stride) xs in
    let is : F (numbers_in c.span_of.result) c.by.inside.width c.width.inside.width (map seen c.row_of-in-Part.result.now) ≡ aims pool c.args.e.0 =
    (λ i. F (c.span_of.ensures.numbers i) (wide i) (width i) (own i)) ∙ sym (aims_is pool c.args.e.0 e c.count.ensures.rules at) in
    subst (λ (xs : List Aim). IfOk c.selected_aims.result (λ row. map seen row ≡ xs)) is c.selected_aims.ensures

pub returns-in-Pick : goal.returns-in-Pick
returns-in-Pick c =
    let pool = c.args.design.now.pool in
    let e = expr.Pick c.in-Pick.index c.in-Pick.items in
    let at : slice_get pool.exprs c.args.e.0 ≡ Some e = c.at.ensures ∙ ap (λ x. Some x) c.in-Pick.is in
    let width : c.width.inside.width ≡ (common_of_all (form pool) c.in-Pick.items).width = ap (λ (f : Form). f.width) (c.width.view_is ∙ c.shape.ensures ∙ form_is pool c.args.e.0 e c.count.ensures.rules at) in
    let items : c.chosen_items-items.result.now ≡ chosen_items (numbers pool c.in-Pick.index.0) c.in-Pick.items =
    c.chosen_items-items.ensures ∙ (λ i. chosen_items (c.span_of-in-Pick.ensures.numbers i) (c.as_slice-in-Pick.ensures i)) in
    let F : ℕ → List ExprId → List Aim = λ w es. filter_map (loose w) (flat_map (λ (x : ExprId). aims pool x.0) es) in
    let is : F c.width.inside.width c.chosen_items-items.result.now ≡ aims pool c.args.e.0 = (λ i. F (width i) (items i)) ∙ sym (aims_is pool c.args.e.0 e c.count.ensures.rules at) in
    subst (λ (xs : List Aim). IfOk c.picked_aims.result (λ row. map seen row ≡ xs)) is c.picked_aims.ensures

pub returns-in-Cast : goal.returns-in-Cast
returns-in-Cast c =
    let pool = c.args.design.now.pool in
    let a = c.in-Cast.a.0 in
    let e = expr.Cast c.in-Cast.a c.in-Cast.signed in
    let at : slice_get pool.exprs c.args.e.0 ≡ Some e = c.at.ensures ∙ ap (λ x. Some x) c.in-Cast.is in
    let there : a < length c.args.table.now = omega (arith, (standing pool c.args.e.0 e c.count.ensures.rules at).names.0, c.requires.next) in
    let own : map seen c.row_of-in-Cast.result.now ≡ aims pool a = ap (map seen) c.row_of-in-Cast.ensures ∙ c.requires.rows.rows a there in
    copied c.copied_aims.result c.row_of-in-Cast.result.now (aims pool c.args.e.0) (own ∙ sym (aims_is pool c.args.e.0 e c.count.ensures.rules at)) c.copied_aims.ensures

pub returns-in-Const : goal.returns-in-Const
returns-in-Const c =
    let pool = c.args.design.now.pool in
    let none : map seen c.new.result ≡ [] = ap (map seen) c.new.ensures in
    let by : (e : Expr) → c.at.result.now ≡ e → aims pool c.args.e.0 ≡ aim_step (signal_form pool.signals) (form pool) (numbers pool) (aims pool) e =
    λ e is. aims_is pool c.args.e.0 e c.count.ensures.rules (c.at.ensures ∙ ap (λ x. Some x) is) in
    elim c.in-Const.is [
      | inl (n, s, is) ↦ none ∙ sym (by (expr.Const n s) is)
      | inr (inl (o, a, is)) ↦ none ∙ sym (by (expr.Unary o a) is)
      | inr (inr (inl (o, a, b, is))) ↦ none ∙ sym (by (expr.Binary o a b) is)
      | inr (inr (inr (inl (s, a, b, is)))) ↦ none ∙ sym (by (expr.Mux s a b) is)
      | inr (inr (inr (inr (inl (a, ps, is))))) ↦ none ∙ sym (by (expr.Matches a ps) is)
      | inr (inr (inr (inr (inr (d, p, is))))) ↦ none ∙ sym (by (expr.Reset d p) is)
    ]
