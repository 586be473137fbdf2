use Rattle.std.proofs.Common.{◌≡◌, refl, sym, ◌∙◌, ap, subst, List, false}
use Rattle.std.specs.List.{list_any}
use Rattle.calendar.specs.Moments.{IsNext}
use Rattle.bench_run.specs.declared.testbench.Running.{Running}
use Rattle.bench_run.specs.Runs.{is_due, is_due_again, earliest}
use Rattle.bench_run.specs.Standing.{all_over, stands_in}
use Rattle.bench_run.proofs.MomentLaws.{GoesOver, over_ends, woken_owed, nothing_owed, past_owed, moving_owed, due_is}
use Rattle.bench_run.proofs.MomentSafety.{safe_woken, closer_woken}
use Rattle.bench_run.proofs.UnitLaws.{units_woken}
use Rattle.bench_run.proofs.rounds.round_over.Goals as goal
use Rattle.bench_run.proofs.rounds.round_over.Goals.{in-Some+else-is_due, in_default, in_default-earliest-via-in-Some-earliest+else-not-is_behind_end, in_default-earliest-via-in_default-earliest}

pub returns-then-may_end-clause-comes : goal.returns-then-may_end-clause-comes
returns-then-may_end-clause-comes g c =
    over_ends c.args.setting.now c.args.point.now c.args.end c.next_toggle-toggle.result
    (record {
      end = c.requires.end;
      over = c.requires.over;
      is_next = subst (λ cs. IsNext cs c.args.point.now.now c.next_toggle-toggle.result) c.as_slice.ensures.value c.next_toggle-toggle.ensures.next;
    })
    (sym (ap (all_over c.args.end) c.as_slice-2.ensures.value) ∙ sym c.may_end.ensures ∙ c.if-may_end.true)

pub returns-then-is_due-clause-safe : goal.returns-then-is_due-clause-safe
returns-then-is_due-clause-safe g c =
    safe_woken c.args.setting.now c.args.point.now _ c.in-Some.now c.args.point.now.now c.requires.safe.now c.requires.safe
    (record { bench = refl; sim = refl; benches = c.wake.ensures; turn = refl; now_is = refl; left = refl })

pub returns-then-is_due-clause-comes : goal.returns-then-is_due-clause-comes
returns-then-is_due-clause-comes g c =
    woken_owed c.args.setting.now c.args.point.now _ c.args.end c.next_toggle-toggle.result c.in-Some.now
    (record {
      round = record {
        end = c.requires.end;
        over = c.requires.over;
        is_next = subst (λ cs. IsNext cs c.args.point.now.now c.next_toggle-toggle.result) c.as_slice.ensures.value c.next_toggle-toggle.ensures.next;
      };
      lasts = sym (ap (all_over c.args.end) c.as_slice-2.ensures.value) ∙ sym c.may_end.ensures ∙ c.if-may_end.false;
    })
    c.in-Some.is
    (sym (ap (λ (ys : List Running). list_any (is_due c.in-Some.now) (stands_in ys)) c.as_slice-in-Some.ensures.value) ∙ sym c.is_due.ensures ∙ c.if-is_due.true)
    (record { bench = refl; sim = refl; benches = c.wake.ensures; turn = refl; now_is = c.in-Some.is; left = refl })

pub returns-then-is_due-clause-closer : goal.returns-then-is_due-clause-closer
returns-then-is_due-clause-closer g c =
    closer_woken c.in-Some.now c.args.point.now.turn c.args.point.now.testbenches.items c.wake.new.testbenches.items c.wake.ensures c.requires.over
    (sym (ap (λ (ys : List Running). list_any (is_due c.in-Some.now) (stands_in ys)) c.as_slice-in-Some.ensures.value) ∙ sym c.is_due.ensures ∙ c.if-is_due.true)

pub returns-then-is_due-clause-costs : goal.returns-then-is_due-clause-costs
returns-then-is_due-clause-costs g c =
    units_woken c.in-Some.now c.args.point.now.left.left c.args.point.now.testbenches.items c.wake.new.testbenches.items c.wake.ensures

pub at_moment-requires-clause-due : goal.at_moment-requires-clause-due
at_moment-requires-clause-due g c =
    due_is c.args.setting.now.clocks.items c.args.point.now.now c.next_toggle-toggle.result c.args.point.now.testbenches.items c.in-Some-earliest.t
    (subst (λ cs. IsNext cs c.args.point.now.now c.next_toggle-toggle.result) c.as_slice.ensures.value c.next_toggle-toggle.ensures.next)
    (sym (ap (λ (ys : List Running). earliest c.next_toggle-toggle.result (stands_in ys)) c.as_slice-3.ensures.value) ∙ sym c.earliest.ensures.least ∙ c.in-Some-earliest.is)

pub returns-in-Some-earliest-clause-comes : goal.returns-in-Some-earliest-clause-comes
returns-in-Some-earliest-clause-comes g c x first rows at =
    c.at_moment.ensures.comes x first rows
    (moving_owed c.args.setting.now c.args.point.now c.args.end c.next_toggle-toggle.result c.in-Some-earliest.t
    (record {
      round = record {
        end = c.requires.end;
        over = c.requires.over;
        is_next = subst (λ cs. IsNext cs c.args.point.now.now c.next_toggle-toggle.result) c.as_slice.ensures.value c.next_toggle-toggle.ensures.next;
      };
      lasts = sym (ap (all_over c.args.end) c.as_slice-2.ensures.value) ∙ sym c.may_end.ensures ∙ c.if-may_end.false;
    })
    (elim c.match-point.branch [
      | in-Some+else-is_due w ↦
          ap (λ n. is_due_again n (stands_in c.args.point.now.testbenches.items)) w.in-Some.is
          ∙ sym (ap (λ (ys : List Running). list_any (is_due w.in-Some.now) (stands_in ys)) w.as_slice-in-Some.ensures.value) ∙ sym w.is_due.ensures ∙ w.if-is_due.false
      | in_default w ↦ ap (λ n. is_due_again n (stands_in c.args.point.now.testbenches.items)) w.in_default.is
    ])
    (sym (ap (λ (ys : List Running). earliest c.next_toggle-toggle.result (stands_in ys)) c.as_slice-3.ensures.value) ∙ sym c.earliest.ensures.least ∙ c.in-Some-earliest.is)
    (sym c.is_behind_end.ensures ∙ c.if-not-is_behind_end.true)
    x first rows at)

pub returns-in_default-earliest-clause-comes : goal.returns-in_default-earliest-clause-comes
returns-in_default-earliest-clause-comes g c x first rows at =
    let s = c.args.setting.now in
    let p = c.args.point.now in
    let round : GoesOver s p c.args.end c.next_toggle-toggle.result = record {
      round = record {
        end = c.requires.end;
        over = c.requires.over;
        is_next = subst (λ cs. IsNext cs p.now c.next_toggle-toggle.result) c.as_slice.ensures.value c.next_toggle-toggle.ensures.next;
      };
      lasts = sym (ap (all_over c.args.end) c.as_slice-2.ensures.value) ∙ sym c.may_end.ensures ∙ c.if-may_end.false;
    } in
    let quiet : is_due_again p.now (stands_in p.testbenches.items) ≡ false =
    elim c.match-point.branch [
      | in-Some+else-is_due w ↦
          ap (λ n. is_due_again n (stands_in p.testbenches.items)) w.in-Some.is
          ∙ sym (ap (λ (ys : List Running). list_any (is_due w.in-Some.now) (stands_in ys)) w.as_slice-in-Some.ensures.value) ∙ sym w.is_due.ensures ∙ w.if-is_due.false
      | in_default w ↦ ap (λ n. is_due_again n (stands_in p.testbenches.items)) w.in_default.is
    ] in
    let found = sym (ap (λ (ys : List Running). earliest c.next_toggle-toggle.result (stands_in ys)) c.as_slice-3.ensures.value) ∙ sym c.earliest.ensures.least in
    elim c.in_default-earliest.branch [
      | in_default-earliest-via-in-Some-earliest+else-not-is_behind_end w ↦
          past_owed s p c.args.end c.next_toggle-toggle.result w.in-Some-earliest.t round quiet (found ∙ w.in-Some-earliest.is)
          (sym w.is_behind_end.ensures ∙ w.if-not-is_behind_end.false) x first rows at
      | in_default-earliest-via-in_default-earliest w ↦
          nothing_owed s p c.args.end c.next_toggle-toggle.result round quiet (found ∙ w.in_default-earliest.is) x first rows at
    ]
