use Rattle.std.proofs.Common.{rules, ◌≡◌, sym, ◌∙◌, ap, arith}
use Rattle.std.specs.Option.{option_copied}
use Rattle.py_heap.specs.Heaps.{seen}
use Rattle.elab_store.specs.Stores.{kept_of}
use Rattle.elab_acts.specs.Sides.{equation_of}
use Rattle.elab_acts.proofs.SideLaws.{one_equation, no_list, no_room, told_none, told_one, row_stops, row_done}
use Rattle.elab_acts.proofs.sides.+collect.Goals as goal

pub returns-in-Some : goal.returns-in-Some
returns-in-Some t c =
    let e1 : c.equation_of.result ≡ equation_of (kept_of c.args.store.now c.args.v) = c.equation_of.ensures ∙ ap equation_of c.kept_of.ensures in
    told_one c.args.into.now.items c.push.new.self.items c.in-Some.q _ c.in_ok-push.ensures.items
    (one_equation c.args.room (seen c.args.frozen.now c.args.heap.now) c.args.store.now c.args.v c.equation_of.result c.in-Some.q e1 c.in-Some.is)

pub returns-in_default-row_of_list : goal.returns-in_default-row_of_list
returns-in_default-row_of_list t c =
    let e1 : c.equation_of.result ≡ equation_of (kept_of c.args.store.now c.args.v) = c.equation_of.ensures ∙ ap equation_of c.kept_of.ensures in
    told_none c.args.into.now.items _
    (no_list c.args.room (seen c.args.frozen.now c.args.heap.now) c.args.store.now c.args.v c.equation_of.result e1 c.in_default.is (sym c.row_of_list.ensures ∙ ap option_copied c.in_default-row_of_list.is))

pub returns-then-room-eq0 : goal.returns-then-room-eq0
returns-then-room-eq0 t c =
    let e1 : c.equation_of.result ≡ equation_of (kept_of c.args.store.now c.args.v) = c.equation_of.ensures ∙ ap equation_of c.kept_of.ensures in
    told_none c.args.into.now.items _
    (no_room c.args.room (seen c.args.frozen.now c.args.heap.now) c.args.store.now c.args.v c.equation_of.result c.if-room-eq0.true e1 c.in_default.is)

pub returns-then-not-branch : goal.returns-then-not-branch
returns-then-not-branch t c =
    let e1 : c.equation_of.result ≡ equation_of (kept_of c.args.store.now c.args.v) = c.equation_of.ensures ∙ ap equation_of c.kept_of.ensures in
    row_stops c.args.room (seen c.args.frozen.now c.args.heap.now) c.args.store.now c.args.v c.equation_of.result c.in-Some-row_of_list.row.now c.loop-item.item-index c.item-item.result
    c.args.into.now.items c.loop-item.into.items c.collect.new.into.items c.in_ok-collect.field-0 (omega arith) e1 c.in_default.is (sym c.row_of_list.ensures ∙ ap option_copied c.in-Some-row_of_list.is)
    (omega arith) c.item-item.is c.in_ok-collect.ensures (search rules) c.loop-item.invariant

pub returns : goal.returns
returns t c =
    let e1 : c.equation_of.result ≡ equation_of (kept_of c.args.store.now c.args.v) = c.equation_of.ensures ∙ ap equation_of c.kept_of.ensures in
    row_done c.args.room (seen c.args.frozen.now c.args.heap.now) c.args.store.now c.args.v c.equation_of.result c.in-Some-row_of_list.row.now c.loop-item.item-index
    c.args.into.now.items c.loop-item.into.items (omega arith) e1 c.in_default.is (sym c.row_of_list.ensures ∙ ap option_copied c.in-Some-row_of_list.is) (omega arith) c.loop-item.invariant
