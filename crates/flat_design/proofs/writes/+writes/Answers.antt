use Rattle.std.proofs.Common.{inl, inr, ◌≡◌, ◌∙◌, ℕ, ◌+◌, ◌-◌, ◌<◌, ◌≤◌, [], ◌∷◌, ◌++◌, true, false, sym, ap, subst, arith, append-nil, List, map, length, take, drop, slice_index_or, slice_get, Some}
use Rattle.std.specs.Prelude.{if◌then◌else◌, ◌==◌, ◌&&◌, nat_le, min, All}
use Rattle.std.specs.List.{filter_map, flat_map, list_all, enumerate_from}
use Rattle.std.proofs.lemmas.Bool.{cond-true, cond-false}
use Rattle.std.proofs.lemmas.Option.{slice_get-get_or}
use Rattle.std.proofs.lemmas.Result.{IfOk-weaker}
use Rattle.shape_rules.specs.Forms.{Form}
use Rattle.design_ir.specs.declared.ids.ExprId.{ExprId}
use Rattle.design_ir.specs.declared.expr.Expr.{Expr}
use Rattle.design_ir.specs.declared.expr.Expr.TheVariants as expr
use Rattle.design_ir.specs.Named.{AllBelow}
use Rattle.design_ir.specs.Targets.{Numbers, is_target, numbers}
use Rattle.design_ir.specs.Values.{form, signal_form, total_width, common_of_all}
use Rattle.design_ir.proofs.Equations.{standing, form_is}
use Rattle.design_ir.proofs.NumbersFit.{accepted_is}
use Rattle.design_ir.proofs.TargetLaws.{is_target_is}
use Rattle.comb_graph.proofs.GraphBelow.{below_at}
use Rattle.comb_graph.proofs.GraphRows.{widths_more}
use Rattle.flat_design.specs.declared.writes.Test.{Test}
use Rattle.flat_design.specs.declared.writes.Write.{Write}
use Rattle.flat_design.specs.Pieces.{IsNarrow, IsWithin, numbers_in}
use Rattle.flat_design.specs.Writes.{cut, raised, tested, writes_of_all, parts_at, item_at, is_number, is_no_less, writes_step, writes}
use Rattle.flat_design.proofs.TargetItems.{all_get}
use Rattle.flat_design.proofs.WriteSteps.{writes_is}
use Rattle.flat_design.proofs.WriteBounds.{all_narrow, all_within, joined_more, items_more}
use Rattle.flat_design.proofs.writes.+writes.Goals as goal
use Rattle.flat_design.proofs.writes.+writes.Goals.{picked_writes-then-may_pick+in_ok-own+in_ok-push_tested, picked_writes-else-may_pick}

-- ---- items one above the other

pub joined_writes-writes_of-requires : goal.joined_writes-writes_of-requires
joined_writes-writes_of-requires t c =
    let pool = c.args.pool.now in
    let items = c.args.items.now in
    let i = c.loop-item.item-index in
    let e : ExprId = slice_index_or items i (record { 0 = 0 }) in
    let at : slice_get items i ≡ Some e = slice_get-get_or items i (record { 0 = 0 }) c.loop-item-test.true in
    let below : e.0 < c.args.target.0 = below_at c.args.target.0 items i (record { 0 = 0 }) c.requires.names c.loop-item-test.true in
    (omega (arith, below, c.decreases), (omega (arith, below, c.requires.there), all_get (λ (x : ExprId). is_target pool x.0) items i e c.requires.targets at))

pub joined_writes-push_raised-requires : goal.joined_writes-push_raised-requires
joined_writes-push_raised-requires t c =
    let pool = c.args.pool.now in
    let items = c.args.items.now in
    let i = c.loop-item.item-index in
    let e : ExprId = slice_index_or items i (record { 0 = 0 }) in
    let at : slice_get items i ≡ Some e = slice_get-get_or items i (record { 0 = 0 }) c.loop-item-test.true in
    let target : is_target pool e.0 ≡ true = all_get (λ (x : ExprId). is_target pool x.0) items i e c.requires.targets at in
    let own : c.as_slice.result.now ≡ writes pool e.0 = c.as_slice.ensures ∙ c.in_ok-own.ensures in
    let within : All (IsWithin (form pool e.0).width) c.as_slice.result.now = subst (All (IsWithin (form pool e.0).width)) (sym own) (all_within pool e.0 c.count.ensures.rules target) in
    let left = widths_more (form pool) c.loop-item.low items i e (total_width (form pool) items) at c.loop-item.invariant.widths in
    λ k d h. omega (arith, within k d h, left, c.requires.narrow)

pub joined_writes-shape-requires : goal.joined_writes-shape-requires
joined_writes-shape-requires t c =
    let below = below_at c.args.target.0 c.args.items.now c.loop-item.item-index (record { 0 = 0 }) c.requires.names c.loop-item-test.true in
    omega (arith, below, c.requires.there)

pub joined_writes-loop-item-preserved : goal.joined_writes-loop-item-preserved
joined_writes-loop-item-preserved t c =
    let pool = c.args.pool.now in
    let items = c.args.items.now in
    let i = c.loop-item.item-index in
    let low = c.loop-item.low in
    let e : ExprId = slice_index_or items i (record { 0 = 0 }) in
    let at : slice_get items i ≡ Some e = slice_get-get_or items i (record { 0 = 0 }) c.loop-item-test.true in
    let own : c.as_slice.result.now ≡ writes pool e.0 = c.as_slice.ensures ∙ c.in_ok-own.ensures in
    let pushed : c.push_raised.new.list ≡ c.loop-item.list ++ map (raised low) (writes pool e.0) = c.in_ok-push_raised.ensures ∙ ap (λ ws. c.loop-item.list ++ map (raised low) ws) own in
    let width : c.low.inside.width ≡ (form pool e.0).width = ap (λ (f : Form). f.width) (c.low.view_is ∙ c.shape.ensures) in
    let all = writes_of_all (form pool) (writes pool) 0 items in
    let P : ℕ → List Write → Type 0 = λ w ws. ws ++ writes_of_all (form pool) (writes pool) (low + w) (drop (i + 1) items) ≡ all in
    record {
      writes = subst (P c.low.inside.width) (sym pushed) (subst (λ w. P w (c.loop-item.list ++ map (raised low) (writes pool e.0))) (sym width)
          (joined_more (form pool) (writes pool) c.loop-item.list all low items i e at c.loop-item.invariant.writes));
      widths = subst (λ w. low + w + total_width (form pool) (drop (i + 1) items) ≡ total_width (form pool) items) (sym width)
          (widths_more (form pool) low items i e (total_width (form pool) items) at c.loop-item.invariant.widths);
    }

-- ---- items of which one is picked

pub picked_writes-writes_of-requires : goal.picked_writes-writes_of-requires
picked_writes-writes_of-requires t c =
    let pool = c.args.pool.now in
    let items = c.args.items.now in
    let i = c.loop-i.i in
    let e : ExprId = slice_index_or items i (record { 0 = 0 }) in
    let at : slice_get items i ≡ Some e = slice_get-get_or items i (record { 0 = 0 }) c.loop-i-test.true in
    let below : e.0 < c.args.target.0 = below_at c.args.target.0 items i (record { 0 = 0 }) c.requires.names c.loop-i-test.true in
    (omega (arith, below, c.decreases), (omega (arith, below, c.requires.there), all_get (λ (x : ExprId). is_target pool x.0) items i e c.requires.targets at))

pub picked_writes-loop-i-preserved : goal.picked_writes-loop-i-preserved
picked_writes-loop-i-preserved t c =
    let pool = c.args.pool.now in
    let items = c.args.items.now in
    let i = c.loop-i.i in
    let index = c.args.index in
    let last = length items - 1 in
    let e : ExprId = slice_index_or items i (record { 0 = 0 }) in
    let at : slice_get items i ≡ Some e = slice_get-get_or items i (record { 0 = 0 }) c.loop-i-test.true in
    let n : Numbers = numbers_in c.span_of-numbers.result in
    let f = item_at n index last (writes pool) in
    let all : f ≡ item_at (numbers pool index.0) index last (writes pool) = ap (λ ns. item_at ns index last (writes pool)) c.span_of-numbers.ensures.numbers in
    let was : c.loop-i.list ≡ flat_map f (enumerate_from 0 (take i items)) = c.loop-i.invariant ∙ ap (λ g. flat_map g (enumerate_from 0 (take i items))) (sym all) in
    let test : Test = if i == last then is_no_less index i else is_number index i in
    let more : flat_map f (enumerate_from 0 (take i items)) ++ f (i, e) ≡ flat_map (item_at (numbers pool index.0) index last (writes pool)) (enumerate_from 0 (take (i + 1) items)) =
    sym (items_more f items i e c.loop-i-test.true at) ∙ ap (λ g. flat_map g (enumerate_from 0 (take (i + 1) items))) all in
    elim c.if-may_pick.branch [
      | picked_writes-then-may_pick+in_ok-own+in_ok-push_tested w ↦
          let own : w.as_slice.result.now ≡ writes pool e.0 = w.as_slice.ensures ∙ w.in_ok-own.ensures in
          let here : f (i, e) ≡ map (tested n test) (writes pool e.0) =
          cond-true (nat_le (min n.least last) i && nat_le i n.greatest) (map (tested n test) (writes pool e.0)) [] (sym c.may_pick.ensures ∙ w.if-may_pick.true) in
          w.list-is ∙ w.in_ok-push_tested.ensures ∙ (λ j. was j ++ map (tested n (w.item_test-test.ensures j)) (own j)) ∙ ap (λ ws. flat_map f (enumerate_from 0 (take i items)) ++ ws) (sym here) ∙ more
      | picked_writes-else-may_pick w ↦
          let none : f (i, e) ≡ [] =
          cond-false (nat_le (min n.least last) i && nat_le i n.greatest) (map (tested n test) (writes pool e.0)) [] (sym c.may_pick.ensures ∙ w.if-may_pick.false) in
          w.list-is ∙ was ∙ sym (append-nil (flat_map f (enumerate_from 0 (take i items)))) ∙ ap (λ ws. flat_map f (enumerate_from 0 (take i items)) ++ ws) (sym none) ∙ more
    ]

-- ---- a target

pub writes_of-writes_of-requires : goal.writes_of-writes_of-requires
writes_of-writes_of-requires t c =
    let pool = c.args.pool.now in
    let k = c.args.target.0 in
    let e = expr.Slice c.in-Slice.a c.in-Slice.low c.in-Slice.width in
    let at : slice_get pool.exprs k ≡ Some e = c.at.ensures ∙ ap (λ x. Some x) c.in-Slice.is in
    let h = standing pool k e c.count.ensures.rules at in
    (omega (arith, h.names.0, c.decreases), (h.askable.names.0, sym (is_target_is pool k e c.count.ensures.rules at) ∙ c.requires.target))

pub writes_of-cut_writes-requires-clause-narrow : goal.writes_of-cut_writes-requires-clause-narrow
writes_of-cut_writes-requires-clause-narrow t c =
    let pool = c.args.pool.now in
    let k = c.args.target.0 in
    let e = expr.Slice c.in-Slice.a c.in-Slice.low c.in-Slice.width in
    let at : slice_get pool.exprs k ≡ Some e = c.at.ensures ∙ ap (λ x. Some x) c.in-Slice.is in
    let own : c.as_slice.result.now ≡ writes pool c.in-Slice.a.0 = c.as_slice.ensures ∙ c.in_ok-whole-in-Slice.ensures in
    subst (All IsNarrow) (sym own) (all_narrow pool c.in-Slice.a.0 c.count.ensures.rules (sym (is_target_is pool k e c.count.ensures.rules at) ∙ c.requires.target))

pub writes_of-joined_writes-requires : goal.writes_of-joined_writes-requires
writes_of-joined_writes-requires t c =
    let pool = c.args.pool.now in
    let k = c.args.target.0 in
    let e = expr.Cat c.in-Cat.items in
    let at : slice_get pool.exprs k ≡ Some e = c.at.ensures ∙ ap (λ x. Some x) c.in-Cat.is in
    let h = standing pool k e c.count.ensures.rules at in (
      omega (arith, c.decreases),
      (
        c.requires.there,
        (
          subst (AllBelow k) (sym c.as_slice-in-Cat.ensures) h.names,
          (
            subst (λ es. list_all (λ (x : ExprId). is_target pool x.0) es ≡ true) (sym c.as_slice-in-Cat.ensures) (sym (is_target_is pool k e c.count.ensures.rules at) ∙ c.requires.target),
            subst (λ es. total_width (form pool) es ≤ 128) (sym c.as_slice-in-Cat.ensures) (accepted_is false (total_width (form pool) c.in-Cat.items) h.accepted).1,
          ),
        ),
      ),
    )

pub writes_of-writes_of-requires-in-Part : goal.writes_of-writes_of-requires-in-Part
writes_of-writes_of-requires-in-Part t c =
    let pool = c.args.pool.now in
    let k = c.args.target.0 in
    let e = expr.Part c.in-Part.a c.in-Part.offset c.in-Part.width c.in-Part.stride in
    let at : slice_get pool.exprs k ≡ Some e = c.at.ensures ∙ ap (λ x. Some x) c.in-Part.is in
    let h = standing pool k e c.count.ensures.rules at in
    (omega (arith, h.names.0, c.decreases), (h.askable.names.0, sym (is_target_is pool k e c.count.ensures.rules at) ∙ c.requires.target))

pub writes_of-span_of-requires-clause-there : goal.writes_of-span_of-requires-clause-there
writes_of-span_of-requires-clause-there t c =
    let pool = c.args.pool.now in
    let e = expr.Part c.in-Part.a c.in-Part.offset c.in-Part.width c.in-Part.stride in
    (standing pool c.args.target.0 e c.count.ensures.rules (c.at.ensures ∙ ap (λ x. Some x) c.in-Part.is)).askable.names.1.0

pub writes_of-span_of-requires-clause-plain : goal.writes_of-span_of-requires-clause-plain
writes_of-span_of-requires-clause-plain t c =
    let pool = c.args.pool.now in
    let e = expr.Part c.in-Part.a c.in-Part.offset c.in-Part.width c.in-Part.stride in
    let h = standing pool c.args.target.0 e c.count.ensures.rules (c.at.ensures ∙ ap (λ x. Some x) c.in-Part.is) in
    (accepted_is (form pool c.in-Part.offset.0).signed c.in-Part.width h.accepted).0

pub writes_of-shape-requires-in-Part : goal.writes_of-shape-requires-in-Part
writes_of-shape-requires-in-Part t c =
    let pool = c.args.pool.now in
    let e = expr.Part c.in-Part.a c.in-Part.offset c.in-Part.width c.in-Part.stride in
    (standing pool c.args.target.0 e c.count.ensures.rules (c.at.ensures ∙ ap (λ x. Some x) c.in-Part.is)).askable.names.0

pub writes_of-part_writes-requires-clause-narrow : goal.writes_of-part_writes-requires-clause-narrow
writes_of-part_writes-requires-clause-narrow t c =
    let pool = c.args.pool.now in
    let k = c.args.target.0 in
    let e = expr.Part c.in-Part.a c.in-Part.offset c.in-Part.width c.in-Part.stride in
    let at : slice_get pool.exprs k ≡ Some e = c.at.ensures ∙ ap (λ x. Some x) c.in-Part.is in
    let own : c.as_slice-in-Part.result.now ≡ writes pool c.in-Part.a.0 = c.as_slice-in-Part.ensures ∙ c.in_ok-whole-in-Part.ensures in
    subst (All IsNarrow) (sym own) (all_narrow pool c.in-Part.a.0 c.count.ensures.rules (sym (is_target_is pool k e c.count.ensures.rules at) ∙ c.requires.target))

pub writes_of-part_writes-requires-clause-within : goal.writes_of-part_writes-requires-clause-within
writes_of-part_writes-requires-clause-within t c =
    let pool = c.args.pool.now in
    let k = c.args.target.0 in
    let a = c.in-Part.a.0 in
    let e = expr.Part c.in-Part.a c.in-Part.offset c.in-Part.width c.in-Part.stride in
    let at : slice_get pool.exprs k ≡ Some e = c.at.ensures ∙ ap (λ x. Some x) c.in-Part.is in
    let own : c.as_slice-in-Part.result.now ≡ writes pool a = c.as_slice-in-Part.ensures ∙ c.in_ok-whole-in-Part.ensures in
    let wide : c.by.inside.width ≡ (form pool a).width = ap (λ (f : Form). f.width) (c.by.view_is ∙ c.shape-in-Part.ensures) in
    subst (λ w. All (IsWithin w) c.as_slice-in-Part.result.now) (sym wide) (subst (All (IsWithin (form pool a).width)) (sym own)
    (all_within pool a c.count.ensures.rules (sym (is_target_is pool k e c.count.ensures.rules at) ∙ c.requires.target)))

pub writes_of-picked_writes-requires : goal.writes_of-picked_writes-requires
writes_of-picked_writes-requires t c =
    let pool = c.args.pool.now in
    let k = c.args.target.0 in
    let e = expr.Pick c.in-Pick.index c.in-Pick.items in
    let at : slice_get pool.exprs k ≡ Some e = c.at.ensures ∙ ap (λ x. Some x) c.in-Pick.is in
    let h = standing pool k e c.count.ensures.rules at in (
      omega (arith, c.decreases),
      (
        c.requires.there,
        (
          h.askable.names.0,
          (
            (accepted_is (form pool c.in-Pick.index.0).signed (common_of_all (form pool) c.in-Pick.items).width h.accepted).0,
            (
              (λ none. h.askable.parts (sym c.as_slice-in-Pick.ensures ∙ none)),
              (
                subst (AllBelow k) (sym c.as_slice-in-Pick.ensures) h.names.1,
                subst (λ es. list_all (λ (x : ExprId). is_target pool x.0) es ≡ true) (sym c.as_slice-in-Pick.ensures) (sym (is_target_is pool k e c.count.ensures.rules at) ∙ c.requires.target),
              ),
            ),
          ),
        ),
      ),
    )

pub writes_of-writes_of-requires-in-Cast : goal.writes_of-writes_of-requires-in-Cast
writes_of-writes_of-requires-in-Cast t c =
    let pool = c.args.pool.now in
    let k = c.args.target.0 in
    let e = expr.Cast c.in-Cast.a c.in-Cast.signed in
    let at : slice_get pool.exprs k ≡ Some e = c.at.ensures ∙ ap (λ x. Some x) c.in-Cast.is in
    let h = standing pool k e c.count.ensures.rules at in
    (omega (arith, h.names.0, c.decreases), (h.askable.names.0, sym (is_target_is pool k e c.count.ensures.rules at) ∙ c.requires.target))

pub writes_of-returns-in-Sig : goal.writes_of-returns-in-Sig
writes_of-returns-in-Sig t c =
    let pool = c.args.pool.now in
    let k = c.args.target.0 in
    let s = c.in-Sig.s in
    let at : slice_get pool.exprs k ≡ Some (expr.Sig s) = c.at.ensures ∙ ap (λ x. Some x) c.in-Sig.is in
    let width : c.signal_writes.inside.width ≡ (signal_form pool.signals s.0).width = ap (λ (f : Form). f.width) (c.signal_writes.view_is ∙ c.shape.ensures ∙ form_is pool k (expr.Sig s) c.count.ensures.rules at) in
    let whole : ℕ → List Write = λ w. if w == 0 then [] else record { tests = []; sig = s; low = 0; width = w; from = 0 } ∷ [] in
    IfOk-weaker c.signal_writes-in-Sig.result _ _ (λ list is. is ∙ ap whole width ∙ sym (writes_is pool k (expr.Sig s) c.count.ensures.rules at)) c.signal_writes-in-Sig.ensures

pub writes_of-returns-in_ok-whole-in-Slice : goal.writes_of-returns-in_ok-whole-in-Slice
writes_of-returns-in_ok-whole-in-Slice t c =
    let pool = c.args.pool.now in
    let k = c.args.target.0 in
    let e = expr.Slice c.in-Slice.a c.in-Slice.low c.in-Slice.width in
    let at : slice_get pool.exprs k ≡ Some e = c.at.ensures ∙ ap (λ x. Some x) c.in-Slice.is in
    let own : c.as_slice.result.now ≡ writes pool c.in-Slice.a.0 = c.as_slice.ensures ∙ c.in_ok-whole-in-Slice.ensures in
    IfOk-weaker c.cut_writes.result _ _ (λ list is. is ∙ ap (filter_map (cut c.in-Slice.low c.in-Slice.width)) own ∙ sym (writes_is pool k e c.count.ensures.rules at)) c.cut_writes.ensures

pub writes_of-returns-in-Cat : goal.writes_of-returns-in-Cat
writes_of-returns-in-Cat t c =
    let pool = c.args.pool.now in
    let k = c.args.target.0 in
    let at : slice_get pool.exprs k ≡ Some (expr.Cat c.in-Cat.items) = c.at.ensures ∙ ap (λ x. Some x) c.in-Cat.is in
    IfOk-weaker c.joined_writes.result _ _ (λ list is. is ∙ ap (writes_of_all (form pool) (writes pool) 0) c.as_slice-in-Cat.ensures ∙ sym (writes_is pool k (expr.Cat c.in-Cat.items) c.count.ensures.rules at)) c.joined_writes.ensures

pub writes_of-returns-in_ok-whole-in-Part : goal.writes_of-returns-in_ok-whole-in-Part
writes_of-returns-in_ok-whole-in-Part t c =
    let pool = c.args.pool.now in
    let k = c.args.target.0 in
    let a = c.in-Part.a.0 in
    let e = expr.Part c.in-Part.a c.in-Part.offset c.in-Part.width c.in-Part.stride in
    let at : slice_get pool.exprs k ≡ Some e = c.at.ensures ∙ ap (λ x. Some x) c.in-Part.is in
    let own : c.as_slice-in-Part.result.now ≡ writes pool a = c.as_slice-in-Part.ensures ∙ c.in_ok-whole-in-Part.ensures in
    let wide : c.by.inside.width ≡ (form pool a).width = ap (λ (f : Form). f.width) (c.by.view_is ∙ c.shape-in-Part.ensures) in
    let all : parts_at (numbers_in c.span_of.result) c.in-Part.offset c.by.inside.width c.in-Part.width c.in-Part.stride c.as_slice-in-Part.result.now ≡ writes pool k =
    (λ i. parts_at (c.span_of.ensures.numbers i) c.in-Part.offset (wide i) c.in-Part.width c.in-Part.stride (own i)) ∙ sym (writes_is pool k e c.count.ensures.rules at) in
    IfOk-weaker c.part_writes.result _ _ (λ list is. is ∙ all) c.part_writes.ensures

pub writes_of-returns-in-Pick : goal.writes_of-returns-in-Pick
writes_of-returns-in-Pick t c =
    let pool = c.args.pool.now in
    let k = c.args.target.0 in
    let index = c.in-Pick.index in
    let e = expr.Pick index c.in-Pick.items in
    let at : slice_get pool.exprs k ≡ Some e = c.at.ensures ∙ ap (λ x. Some x) c.in-Pick.is in
    let all : List ExprId → List Write = λ es. flat_map (item_at (numbers pool index.0) index (length es - 1) (writes pool)) (enumerate_from 0 es) in
    let own : List Write → Type 0 = λ list. list ≡ all c.as_slice-in-Pick.result.now in
    IfOk-weaker c.picked_writes.result own _ (λ list is. is ∙ ap all c.as_slice-in-Pick.ensures ∙ sym (writes_is pool k e c.count.ensures.rules at)) c.picked_writes.ensures

pub writes_of-returns-in-Cast : goal.writes_of-returns-in-Cast
writes_of-returns-in-Cast t c =
    let pool = c.args.pool.now in
    let k = c.args.target.0 in
    let e = expr.Cast c.in-Cast.a c.in-Cast.signed in
    let at : slice_get pool.exprs k ≡ Some e = c.at.ensures ∙ ap (λ x. Some x) c.in-Cast.is in
    IfOk-weaker c.writes_of-in-Cast.result _ _ (λ list is. is ∙ sym (writes_is pool k e c.count.ensures.rules at)) c.writes_of-in-Cast.ensures

pub writes_of-returns-in-Const : goal.writes_of-returns-in-Const
writes_of-returns-in-Const t c =
    let pool = c.args.pool.now in
    let k = c.args.target.0 in
    let by : (e : Expr) → c.at.result.now ≡ e → writes pool k ≡ writes_step (signal_form pool.signals) (form pool) (numbers pool) (writes pool) e =
    λ e is. writes_is pool k e c.count.ensures.rules (c.at.ensures ∙ ap (λ x. Some x) is) in
    elim c.in-Const.is [
      | inl (n, s, is) ↦ c.new.ensures ∙ sym (by (expr.Const n s) is)
      | inr (inl (o, a, is)) ↦ c.new.ensures ∙ sym (by (expr.Unary o a) is)
      | inr (inr (inl (o, a, b, is))) ↦ c.new.ensures ∙ sym (by (expr.Binary o a b) is)
      | inr (inr (inr (inl (s, a, b, is)))) ↦ c.new.ensures ∙ sym (by (expr.Mux s a b) is)
      | inr (inr (inr (inr (inl (a, ps, is))))) ↦ c.new.ensures ∙ sym (by (expr.Matches a ps) is)
      | inr (inr (inr (inr (inr (d, p, is))))) ↦ c.new.ensures ∙ sym (by (expr.Reset d p) is)
    ]
