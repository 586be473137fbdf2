use Rattle.std.proofs.Common.{◌≡◌, ◌∷◌, [], take, sym, ◌∙◌, subst, refl}
use Rattle.std.specs.Prelude.{Contains}
use Rattle.std.proofs.lemmas.List.{take_all}
use Rattle.design_ir.specs.Guards.{Guarded}
use Rattle.flat_design.specs.Writes.{writes}
use Rattle.flat_design.specs.Begun.{all_hold, all_need}
use Rattle.flat_design.specs.Shown.{AreSlots}
use Rattle.flat_design.proofs.Growing.{more_refl, more_trans, target_more, readable_more, active_more}
use Rattle.flat_design.proofs.WritesPutLaw.{writes_put}
use Rattle.flat_design.proofs.WriteLaws.{writes_are_aims, writes_are_inside}
use Rattle.flat_design.proofs.WriteTests.{tests_are_own}
use Rattle.flat_design.proofs.SlotLists.{take_one_more, has_read}
use Rattle.flat_design.proofs.ShownAssignments.{midway, midway_end, slots_of_more}
use Rattle.flat_design.proofs.ShownTurns.{all_tests_more, write_tests, write_few, write_slot, turn}
use Rattle.flat_design.proofs.assignments.put_assignment.Goals as goal

pub writes_of-requires-clause-target : goal.writes_of-requires-clause-target
writes_of-requires-clause-target c =
    let b = c.requires.3 in
    target_more c.requires.0.pool c.args.latest.now.pool b.rules b.shown.more c.args.target.0 (b.readable.0).there ∙ (b.own.0).target

pub loop-write-init : goal.loop-write-init
loop-write-init c = record {
  more = more_refl c.args.latest.now.pool;
  rules = c.known.ensures;
  shown = λ t gs place begun. slots_of_more t c.args.latest.now.pool (record { guards = gs; target = c.args.target; value = c.args.value; place = place } ∷ []) c.args.latest.now.slots.items begun.shown;
}

pub put_write-requires-clause-value : goal.put_write-requires-clause-value
put_write-requires-clause-value c =
    let b = c.requires.3 in
    let p = c.requires.0.pool in
    readable_more p c.loop-write.latest.pool b.rules (more_trans p c.args.latest.now.pool c.loop-write.latest.pool b.shown.more c.loop-write.invariant.more) c.args.value (b.readable.1).0

pub put_write-requires-clause-active : goal.put_write-requires-clause-active
put_write-requires-clause-active c =
    let b = c.requires.3 in
    let p = c.requires.0.pool in
    let gs = c.requires.1 in
    (all_hold p gs, all_need p gs, active_more c.args.latest.now.pool c.loop-write.latest.pool c.known.ensures c.loop-write.invariant.more (all_hold p gs) (all_need p gs) c.args.active b.taken)

pub put_write-requires-clause-tests : goal.put_write-requires-clause-tests
put_write-requires-clause-tests c =
    let q = c.args.latest.now.pool in
    let rules = c.known.ensures in
    let t = c.requires.0 in
    let gs = c.requires.1 in
    let g : Guarded = record { guards = gs; target = c.args.target; value = c.args.value; place = c.requires.2 } in
    let among : Contains (writes q c.args.target.0) c.write-item.result =
    has_read c.as_slice-write-items.result.now (writes q c.args.target.0) c.loop-write.write-index c.write-item.result (c.as_slice-write-items.ensures ∙ c.in_ok-writes.ensures) c.loop-write-test.true c.write-item.is in
    all_tests_more q c.loop-write.latest.pool rules c.loop-write.invariant.more c.write-item.result.tests
    (write_tests t gs q c.args.latest.now.slots.items c.args.active g c.requires.3 refl rules (writes_are_aims q rules) (writes_are_inside q rules) (tests_are_own q rules) c.write-item.result among)

pub put_write-requires-clause-few : goal.put_write-requires-clause-few
put_write-requires-clause-few c =
    let q = c.args.latest.now.pool in
    let rules = c.known.ensures in
    let t = c.requires.0 in
    let gs = c.requires.1 in
    let g : Guarded = record { guards = gs; target = c.args.target; value = c.args.value; place = c.requires.2 } in
    let among : Contains (writes q c.args.target.0) c.write-item.result =
    has_read c.as_slice-write-items.result.now (writes q c.args.target.0) c.loop-write.write-index c.write-item.result (c.as_slice-write-items.ensures ∙ c.in_ok-writes.ensures) c.loop-write-test.true c.write-item.is in
    write_few t gs q c.args.latest.now.slots.items c.args.active g c.requires.3 refl rules (writes_are_aims q rules) (writes_are_inside q rules) (tests_are_own q rules) c.write-item.result among

pub put_write-requires-clause-slot : goal.put_write-requires-clause-slot
put_write-requires-clause-slot c =
    let q = c.args.latest.now.pool in
    let rules = c.known.ensures in
    let t = c.requires.0 in
    let gs = c.requires.1 in
    let g : Guarded = record { guards = gs; target = c.args.target; value = c.args.value; place = c.requires.2 } in
    let among : Contains (writes q c.args.target.0) c.write-item.result =
    has_read c.as_slice-write-items.result.now (writes q c.args.target.0) c.loop-write.write-index c.write-item.result (c.as_slice-write-items.ensures ∙ c.in_ok-writes.ensures) c.loop-write-test.true c.write-item.is in
    write_slot t gs q c.args.latest.now.slots.items c.args.active g c.requires.3 refl rules (writes_are_aims q rules) (writes_are_inside q rules) (tests_are_own q rules) c.write-item.result among
    (take c.loop-write.write-index c.as_slice-write-items.result.now) c.loop-write.latest.pool c.loop-write.latest.slots.items (c.loop-write.invariant.shown t gs c.requires.2 c.requires.3)

pub loop-write-preserved : goal.loop-write-preserved
loop-write-preserved c = record {
  more = more_trans c.args.latest.now.pool c.loop-write.latest.pool c.put_write.new.latest.pool c.loop-write.invariant.more c.in_ok-put_write.ensures.more;
  rules = c.in_ok-put_write.ensures.rules;
  shown = λ t gs place begun.
      let q = c.args.latest.now.pool in
      let rules = c.known.ensures in
      let g : Guarded = record { guards = gs; target = c.args.target; value = c.args.value; place = place } in
      let ws = c.as_slice-write-items.result.now in
      let w = c.write-item.result in
      let now = c.loop-write.latest in
      let new = c.put_write.new.latest in
      let among : Contains (writes q c.args.target.0) w =
      has_read ws (writes q c.args.target.0) c.loop-write.write-index w (c.as_slice-write-items.ensures ∙ c.in_ok-writes.ensures) c.loop-write-test.true c.write-item.is in
      let act = active_more q now.pool rules c.loop-write.invariant.more (all_hold t.pool gs) (all_need t.pool gs) c.args.active begun.taken in
      subst (λ xs. AreSlots (midway t q g xs) new.pool new.slots.items) (sym (take_one_more ws c.loop-write.write-index w c.loop-write-test.true c.write-item.is))
      (turn t gs q c.args.latest.now.slots.items c.args.active g begun refl rules (writes_are_aims q rules) (writes_are_inside q rules) (tests_are_own q rules) w among now.pool c.loop-write.invariant.rules c.loop-write.invariant.more new.pool
      (take c.loop-write.write-index ws) now.slots.items new.slots.items c.in_ok-put_write.ensures.more (c.loop-write.invariant.shown t gs place begun) (c.in_ok-put_write.ensures.written (all_hold t.pool gs) (all_need t.pool gs) act));
}

pub returns-clause-put : goal.returns-clause-put
returns-clause-put c = λ t gs place begun.
    let q = c.args.latest.now.pool in
    let g : Guarded = record { guards = gs; target = c.args.target; value = c.args.value; place = place } in
    let ws = c.as_slice-write-items.result.now in
    let all : take c.loop-write.write-index ws ≡ writes q c.args.target.0 = take_all c.loop-write.write-index ws c.loop-write-test.false ∙ c.as_slice-write-items.ensures ∙ c.in_ok-writes.ensures in
    midway_end t q c.loop-write.latest.pool g c.loop-write.latest.slots.items begun.rules c.known.ensures begun.shown.more (writes_put q c.known.ensures) (begun.readable.0).there (begun.own.0).target
    (subst (λ xs. AreSlots (midway t q g xs) c.loop-write.latest.pool c.loop-write.latest.slots.items) all (c.loop-write.invariant.shown t gs place begun))
