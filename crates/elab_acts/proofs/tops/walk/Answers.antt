use Rattle.std.proofs.Common.{◌≡◌, ◌∙◌, ◌-◌, ◌+◌, suc, sym, ap, subst, true, false, None, Some, nat_lt, arith}
use Rattle.std.proofs.lemmas.Bool.{lt-ltb, le-ltb}
use Rattle.py_heap.specs.Heaps.{seen}
use Rattle.elab_store.specs.Hierarchies.{first_waiting, thing_waiting}
use Rattle.elab_store.specs.Stores.{Stored}
use Rattle.elab_store.specs.Held.{held_of, Gives}
use Rattle.elab_acts.specs.Tops.{deepest_submodule, walked}
use Rattle.elab_acts.proofs.WalkLaws.{walked_ended, walked_last, walked_deep, walked_nothing, IsNext, walked_called, walked_more}
use Rattle.elab_acts.proofs.tops.walk.Goals as goal

pub returns-in_default : goal.returns-in_default
returns-in_default c =
    let j = c.saturating_sub-room.result - c.loop-i.i in
    subst (Gives c.give.result c.give.new.self)
    (walked_ended j (seen c.args.frozen.now c.args.heap.now) (held_of c.loop-i.elaboration) _ (ap first_waiting (sym c.hierarchy-in-loop-i.ensures) ∙ sym c.first_waiting.ensures ∙ c.in_default.is) c.loop-i.invariant)
    c.give.ensures

pub returns-then-next-gt-DEEPEST_SUBMODULE : goal.returns-then-next-gt-DEEPEST_SUBMODULE
returns-then-next-gt-DEEPEST_SUBMODULE c =
    let h = held_of c.loop-i.elaboration in
    let j = c.saturating_sub-room.result - c.loop-i.i in
    let n = c.saturating_sub-room.result - (c.loop-i.i + 1) in
    let w = c.in-Some.next in
    let step : j ≡ suc n = omega (arith, c.loop-i-test.true) in
    let first : first_waiting h.store.hierarchy ≡ Some w = ap first_waiting (sym c.hierarchy-in-loop-i.ensures) ∙ sym c.first_waiting.ensures ∙ c.in-Some.is in
    let deep : nat_lt deepest_submodule w.depth ≡ true = lt-ltb deepest_submodule w.depth c.if-next-gt-DEEPEST_SUBMODULE.true in
    subst (Gives c.refuse.result c.refuse.new.self) (walked_deep j n (seen c.args.frozen.now c.args.heap.now) h w _ step first deep c.loop-i.invariant) c.refuse.ensures

pub returns-in_default-thing_waiting : goal.returns-in_default-thing_waiting
returns-in_default-thing_waiting c =
    let h = held_of c.loop-i.elaboration in
    let j = c.saturating_sub-room.result - c.loop-i.i in
    let n = c.saturating_sub-room.result - (c.loop-i.i + 1) in
    let w = c.in-Some.next in
    let step : j ≡ suc n = omega (arith, c.loop-i-test.true) in
    let first : first_waiting h.store.hierarchy ≡ Some w = ap first_waiting (sym c.hierarchy-in-loop-i.ensures) ∙ sym c.first_waiting.ensures ∙ c.in-Some.is in
    let deep : nat_lt deepest_submodule w.depth ≡ false = le-ltb deepest_submodule w.depth c.if-next-gt-DEEPEST_SUBMODULE.false in
    let none : thing_waiting h.store.hierarchy ≡ None = cc in
    subst (Gives c.refuse-in_default-thing_waiting.result c.refuse-in_default-thing_waiting.new.self)
    (walked_nothing j n (seen c.args.frozen.now c.args.heap.now) h w _ step first deep none c.loop-i.invariant)
    c.refuse-in_default-thing_waiting.ensures

pub returns-in_default-node : goal.returns-in_default-node
returns-in_default-node c =
    let h = held_of c.loop-i.elaboration in
    let j = c.saturating_sub-room.result - c.loop-i.i in
    let n = c.saturating_sub-room.result - (c.loop-i.i + 1) in
    let w = c.in-Some.next in
    let v = c.in-Some-thing_waiting.v in
    let step : j ≡ suc n = omega (arith, c.loop-i-test.true) in
    let first : first_waiting h.store.hierarchy ≡ Some w = ap first_waiting (sym c.hierarchy-in-loop-i.ensures) ∙ sym c.first_waiting.ensures ∙ c.in-Some.is in
    let deep : nat_lt deepest_submodule w.depth ≡ false = le-ltb deepest_submodule w.depth c.if-next-gt-DEEPEST_SUBMODULE.false in
    let thing : thing_waiting h.store.hierarchy ≡ Some v = cc in
    let is : IsNext h v c.inner_of-inner.result None (held_of c.take_wraps.new.elaboration) = record {
      thing = thing;
      inner = c.inner_of-inner.ensures;
      node = sym c.in_default-node.is ∙ c.node_of-node.ensures;
      taken = c.in_ok-take_wraps.ensures;
    } in
    subst (Gives c.call_below.result c.call_below.new.elaboration)
    (walked_called j n (seen c.args.frozen.now c.args.heap.now) h w v c.inner_of-inner.result _ _ step first deep is c.loop-i.invariant)
    c.call_below.ensures

pub loop-i-preserved : goal.loop-i-preserved
loop-i-preserved c =
    let s = seen c.args.frozen.now c.args.heap.now in
    let h = held_of c.loop-i.elaboration in
    let j = c.saturating_sub-room.result - c.loop-i.i in
    let n = c.saturating_sub-room.result - (c.loop-i.i + 1) in
    let w = c.in-Some.next in
    let v = c.in-Some-thing_waiting.v in
    let m = c.in-Some-node.node in
    let g = held_of c.take_wraps.new.elaboration in
    let step : j ≡ suc n = omega (arith, c.loop-i-test.true) in
    let first : first_waiting h.store.hierarchy ≡ Some w = ap first_waiting (sym c.hierarchy-in-loop-i.ensures) ∙ sym c.first_waiting.ensures ∙ c.in-Some.is in
    let deep : nat_lt deepest_submodule w.depth ≡ false = le-ltb deepest_submodule w.depth c.if-next-gt-DEEPEST_SUBMODULE.false in
    let thing : thing_waiting h.store.hierarchy ≡ Some v = cc in
    let is : IsNext h v c.inner_of-inner.result (Some m) g = record {
      thing = thing;
      inner = c.inner_of-inner.ensures;
      node = sym c.in-Some-node.is ∙ c.node_of-node.ensures;
      taken = c.in_ok-take_wraps.ensures;
    } in
    ap (λ (store : Stored). walked n s (record { pool = g.pool; store = store })) c.in_ok-take_node.ensures
    ∙ walked_more j n s h w v c.inner_of-inner.result m g _ step first deep is c.loop-i.invariant

pub returns-in-Some-first_waiting : goal.returns-in-Some-first_waiting
returns-in-Some-first_waiting c =
    let j = c.saturating_sub-room.result - c.loop-i.i in
    subst (Gives c.refuse-in-Some-first_waiting.result c.refuse-in-Some-first_waiting.new.self)
    (walked_last j (seen c.args.frozen.now c.args.heap.now) (held_of c.loop-i.elaboration) _ _ (omega (arith, c.loop-i-test.false)) (ap first_waiting (sym c.hierarchy-2.ensures) ∙ sym c.first_waiting-2.ensures ∙ c.in-Some-first_waiting.is) c.loop-i.invariant)
    c.refuse-in-Some-first_waiting.ensures

pub returns-in-None : goal.returns-in-None
returns-in-None c =
    let j = c.saturating_sub-room.result - c.loop-i.i in
    subst (Gives c.give-in-None.result c.give-in-None.new.self)
    (walked_ended j (seen c.args.frozen.now c.args.heap.now) (held_of c.loop-i.elaboration) _ (ap first_waiting (sym c.hierarchy-2.ensures) ∙ sym c.first_waiting-2.ensures ∙ c.in-None.is) c.loop-i.invariant)
    c.give-in-None.ensures
