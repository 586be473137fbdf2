use Rattle.std.proofs.Common.{◌≡◌, ◌∙◌, ◌+◌, ◌++◌, ◌∷◌, [], ap, sym, subst, refl, List, ℕ, drop, length, map}
use Rattle.std.proofs.lemmas.List.{drop_all}
use Rattle.std.specs.List.{AllByRecursion, flat_map}
use Rattle.std.proofs.lemmas.Result.{err_from_is_err_and}
use Rattle.amh_host.specs.Seen.{written}
use Rattle.amh_host.specs.Calls.{AddsFront}
use Rattle.amh_host.proofs.SeenLaws.{written-nil, written-written}
use Rattle.design_ir.specs.Legal.{AllLegal}
use Rattle.play_text.specs.Lanes.{lanes_at, lane_text, moved, row_head}
use Rattle.play_text.specs.Trace.{Row, line_feed, row_line, row_lines}
use Rattle.play_text.specs.Stripes.{IsNoted, grid, joined}
use Rattle.play_text.proofs.StripeLaws.{noted_at}
use Rattle.amh_tool.specs.Verdicts.{events_of, rows_of}
use Rattle.amh_tool.proofs.LaneLaws.{lanes_moved, row_line-parts}
use Rattle.amh_tool.proofs.TraceLaws.{GoesOn, drop_at, gone_next, legal_next, goes_from_first, goes_on, rows_front, row_front, rows_whole}
use Rattle.amh_tool.proofs.trace.put_rows.Goals as goal

pub returns-in_err-stripes-clause-done : goal.returns-in_err-stripes-clause-done
returns-in_err-stripes-clause-done g c = λ envs history.
    let p = err_from_is_err_and c.from_residual.result c.from_residual.ensures.1 in
    let a = c.args.accepted.now in
    let old = g.H.Host.seen c.args.host.now in
    rw p.1 (rows_front c.args.name.now [] _ a.ranked.design a.board 0 (events_of a) c.args.sim.now old old (sym (written-nil c.args.name.now old)) (goes_from_first a.ranked.design a.board (events_of a) c.args.sim.now envs c.requires.first history))

pub loop-event-init : goal.loop-event-init
loop-event-init g c =
    let a = c.args.accepted.now in
    let events : c.played-event-items.result.now ≡ events_of a = c.played-event-items.ensures in
    record {
      faults = refl;
      time = refl;
      gone = [];
      whole = refl;
      stands = c.requires.first;
      shown = c.in_ok-stripes.ensures.lanes ∙ (λ j. lanes_at (c.as_slice.ensures j) (c.values.ensures j));
      found = c.in_ok-stripes.ensures.found;
      many = c.in_ok-stripes.ensures.count ∙ ap length c.values.ensures ∙ c.requires.first.of_design.env.count;
      so_far = [];
      seen = sym (written-nil c.args.name.now (g.H.Host.seen c.args.host.now));
      rest = λ envs history.
          subst (λ es. GoesOn a.ranked.design a.board 0 es c.args.sim.now [] (row_lines a.board (rows_of a) c.args.sim.now.env envs)) (sym events)
          (goes_from_first a.ranked.design a.board (events_of a) c.args.sim.now envs c.requires.first history);
    }

pub apply-requires-clause-legal : goal.apply-requires-clause-legal
apply-requires-clause-legal g c =
    let v = c.loop-event.invariant in
    let d = c.args.accepted.now.ranked.design in
    let e = c.event-item.result in
    let i = c.loop-event.event-index in
    let items = c.played-event-items.result.now in
    let split = drop_at items i e c.loop-event-test.true c.event-item.is in
    let legal = subst (AllLegal d) (sym c.played-event-items.ensures) c.requires.fitting.legal in
    (legal_next d v.gone (drop i items) (drop (i + 1) items) items e split v.whole legal).0

pub returns-in_err-push_front-clause-done : goal.returns-in_err-push_front-clause-done
returns-in_err-push_front-clause-done g c = λ envs history.
    let p = err_from_is_err_and c.from_residual-in_err-push_front.result c.from_residual-in_err-push_front.ensures.1 in
    let v = c.loop-event.invariant in
    let a = c.args.accepted.now in
    rw p.1 (rows_front c.args.name.now v.so_far _ a.ranked.design a.board c.loop-event.time _ c.loop-event.sim (g.H.Host.seen c.args.host.now) (g.H.Host.seen c.loop-event.host) v.seen (v.rest envs history))

pub returns-in_err-apply-clause-done : goal.returns-in_err-apply-clause-done
returns-in_err-apply-clause-done g c = λ envs history.
    let p = err_from_is_err_and c.from_residual-in_err-apply.result c.from_residual-in_err-apply.ensures.1 in
    let v = c.loop-event.invariant in
    let a = c.args.accepted.now in
    rw p.1 (rows_front c.args.name.now v.so_far _ a.ranked.design a.board c.loop-event.time _ c.loop-event.sim (g.H.Host.seen c.args.host.now) (g.H.Host.seen c.loop-event.host) v.seen (v.rest envs history))

pub returns-in_err-push_rest-clause-done : goal.returns-in_err-push_rest-clause-done
returns-in_err-push_rest-clause-done g c = λ envs history.
    let p = err_from_is_err_and c.from_residual-in_err-push_rest.result c.from_residual-in_err-push_rest.ensures.1 in
    let v = c.loop-event.invariant in
    let a = c.args.accepted.now in
    rw p.1 (rows_front c.args.name.now v.so_far _ a.ranked.design a.board c.loop-event.time _ c.loop-event.sim (g.H.Host.seen c.args.host.now) (g.H.Host.seen c.loop-event.host) v.seen (v.rest envs history))

pub push_rest-requires-clause-found : goal.push_rest-requires-clause-found
push_rest-requires-clause-found g c = c.loop-event.invariant.found

pub push_rest-requires-clause-noted : goal.push_rest-requires-clause-noted
push_rest-requires-clause-noted g c =
    let v = c.loop-event.invariant in
    let a = c.args.accepted.now in
    let count = length c.loop-event.stripes.shown.items in
    let new = c.apply.new.sim in
    let stripes = joined (grid c.loop-event.stripes.stripes.items) in
    let noted = noted_at count a.ranked.design c.loop-event.sim new a.board.columns v.many c.apply.ensures.moved in
    let shown = subst (λ xs. AllByRecursion (IsNoted count new.moved.list new.env) xs) (sym v.shown) noted in
    let told = subst (λ ss. AllByRecursion (IsNoted count ss new.env) stripes) (sym c.moved.ensures) shown in
    subst (λ env. AllByRecursion (IsNoted count c.moved.result.now env) stripes) (sym c.values-in-loop-event-2.ensures) told

pub returns-in_err-put-clause-done : goal.returns-in_err-put-clause-done
returns-in_err-put-clause-done g c = λ envs history.
    let p = err_from_is_err_and c.from_residual-in_err-put.result c.from_residual-in_err-put.ensures.1 in
    let v = c.loop-event.invariant in
    let a = c.args.accepted.now in
    let d = a.ranked.design in
    let e = c.event-item.result in
    let i = c.loop-event.event-index in
    let items = c.played-event-items.result.now in
    let more = drop (i + 1) items in
    let old = c.loop-event.sim in
    let new = c.apply.new.sim in
    let split = drop_at items i e c.loop-event-test.true c.event-item.is in
    let legal = legal_next d v.gone (drop i items) more items e split v.whole (subst (AllLegal d) (sym c.played-event-items.ensures) c.requires.fitting.legal) in
    let stands = c.in_ok-apply.ensures.lives v.gone v.stands in
    let line = c.push_rest.new.text.items in
    let before = c.values-in-loop-event.ensures in
    let now = c.values-in-loop-event-2.ensures in
    let row : Row = record { time = c.loop-event.time + 1; event = e } in
    let front : c.push_front.new.text.items ≡ row_head a.board row old.env = c.in_ok-push_front.ensures ∙ (λ j. c.clear.ensures.items j ++ row_head a.board row (before j)) in
    let made : line ≡ row_line a.board row old.env new.env = c.in_ok-push_rest.ensures.text ∙ (λ j. front j ++ (flat_map (lane_text (now j)) (v.shown j) ++ line_feed)) ∙ row_line-parts a.board row old.env new.env in
    let next = goes_on d a.board c.loop-event.time v.gone (drop i items) more e old new v.so_far line _ split (c.has_one_history.ensures (v.gone ++ e ∷ []) legal.1) v.stands stands made (v.rest envs history) in
    let s = g.H.Host.seen c.loop-event.host in
    let t = g.H.Host.seen c.put.new.self in
    let added : AddsFront (written c.args.name.now) line s t = subst (λ (b : List ℕ). AddsFront (written c.args.name.now) b s t) c.as_slice-in-loop-event.ensures.value c.in_err-put.ensures.done in
    rw p.1 (row_front c.args.name.now v.so_far line _ d a.board (c.loop-event.time + 1) more new (g.H.Host.seen c.args.host.now) s t v.seen added next)

pub loop-event-preserved : goal.loop-event-preserved
loop-event-preserved g c =
    let v = c.loop-event.invariant in
    let a = c.args.accepted.now in
    let d = a.ranked.design in
    let e = c.event-item.result in
    let i = c.loop-event.event-index in
    let items = c.played-event-items.result.now in
    let more = drop (i + 1) items in
    let old = c.loop-event.sim in
    let new = c.apply.new.sim in
    let split = drop_at items i e c.loop-event-test.true c.event-item.is in
    let legal = legal_next d v.gone (drop i items) more items e split v.whole (subst (AllLegal d) (sym c.played-event-items.ensures) c.requires.fitting.legal) in
    let stands = c.in_ok-apply.ensures.lives v.gone v.stands in
    let line = c.push_rest.new.text.items in
    let before = c.values-in-loop-event.ensures in
    let now = c.values-in-loop-event-2.ensures in
    let row : Row = record { time = c.loop-event.time + 1; event = e } in
    let front : c.push_front.new.text.items ≡ row_head a.board row old.env = c.in_ok-push_front.ensures ∙ (λ j. c.clear.ensures.items j ++ row_head a.board row (before j)) in
    let made : line ≡ row_line a.board row old.env new.env = c.in_ok-push_rest.ensures.text ∙ (λ j. front j ++ (flat_map (lane_text (now j)) (v.shown j) ++ line_feed)) ∙ row_line-parts a.board row old.env new.env in
    record {
      faults = c.in_ok-put.ensures.cause.ok ∙ v.faults;
      time = ap (λ (n : ℕ). n + 1) v.time;
      gone = v.gone ++ e ∷ [];
      whole = gone_next v.gone (drop i items) more items e split v.whole;
      stands = stands;
      shown = c.in_ok-push_rest.ensures.lanes ∙ (λ j. map (moved (now j)) (v.shown j)) ∙ lanes_moved a.board.columns old.env new.env;
      found = c.in_ok-push_rest.ensures.found;
      many = c.push_rest.ensures.count ∙ v.many;
      so_far = v.so_far ++ line;
      seen = c.in_ok-put.ensures.done ∙ (λ j. written c.args.name.now (c.as_slice-in-loop-event.ensures.value j) (v.seen j)) ∙ written-written c.args.name.now v.so_far line (g.H.Host.seen c.args.host.now);
      rest = λ envs history. goes_on d a.board c.loop-event.time v.gone (drop i items) more e old new v.so_far line _ split (c.has_one_history.ensures (v.gone ++ e ∷ []) legal.1) v.stands stands made (v.rest envs history);
    }

pub returns-clause-done : goal.returns-clause-done
returns-clause-done g c = λ envs history.
    let v = c.loop-event.invariant in
    let a = c.args.accepted.now in
    let none = drop_all c.loop-event.event-index c.played-event-items.result.now c.loop-event-test.false in
    v.seen ∙ ap (λ (t : List ℕ). written c.args.name.now t (g.H.Host.seen c.args.host.now)) (rows_whole v.so_far _ a.ranked.design a.board c.loop-event.time _ c.loop-event.sim none (v.rest envs history))
