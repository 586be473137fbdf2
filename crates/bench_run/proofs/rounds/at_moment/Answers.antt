use Rattle.std.proofs.Common.{refl, sym, ◌∙◌, ap, subst, Some, length, List}
use Rattle.bench_run.specs.declared.testbench.Running.{Running}
use Rattle.calendar.specs.Due.{due_domains}
use Rattle.std.specs.Prelude.{IsSome, Ok}
use Rattle.design_ir.specs.declared.event.Event.TheVariants.{Edge}
use Rattle.bench_run.specs.declared.point.Point.{Point as CodePoint}
use Rattle.bench_run.specs.Runs.{next_ready, file_start}
use Rattle.bench_run.specs.Standing.{all_left, stands_in}
use Rattle.bench_run.proofs.MomentLaws.{HasWoken, HasTicked, quiet_owed, toggled_all_owed}
use Rattle.bench_run.proofs.MomentSafety.{safe_woken, safe_ticked, safe_happened, none_due, ready_moment, toggled_legal}
use Rattle.bench_run.proofs.SafeLaws.{all_left-woken}
use Rattle.bench_run.proofs.UnitLaws.{costs_same, happened_costs, units_ticked, units_woken}
use Rattle.bench_run.proofs.rounds.at_moment.Goals as goal

pub returns-then-len-eq0-clause-safe : goal.returns-then-len-eq0-clause-safe
returns-then-len-eq0-clause-safe g c =
    safe_woken c.args.setting.now c.args.point.now _ c.args.t (Some c.args.t) c.requires.below c.requires.safe
    (record { bench = refl; sim = refl; benches = c.wake.ensures; turn = refl; now_is = refl; left = refl })

pub returns-then-len-eq0-clause-comes : goal.returns-then-len-eq0-clause-comes
returns-then-len-eq0-clause-comes g c =
    let clocks = ap (λ cs. due_domains cs (length c.args.point.now.bench.design.domains) c.args.t) c.as_slice.ensures.value in
    quiet_owed c.args.setting.now c.args.point.now _ c.args.t
    (none_due c.in_ok-toggled.toggled _ c.len.result (c.in_ok-toggled.ensures.due ∙ ap (λ n. due_domains c.as_slice.result.now n c.args.t) c.domains-domains.ensures ∙ clocks) c.len.ensures c.if-len-eq0.true)
    (record { bench = refl; sim = refl; benches = c.wake.ensures; turn = refl; now_is = refl; left = refl })

pub returns-then-len-eq0-clause-closer : goal.returns-then-len-eq0-clause-closer
returns-then-len-eq0-clause-closer g c = ap (λ (ys : List Running). all_left ys) c.wake.ensures ∙ all_left-woken c.args.t c.args.point.now.testbenches.items

pub returns-then-len-eq0-clause-ready : goal.returns-then-len-eq0-clause-ready
returns-then-len-eq0-clause-ready g c =
    let clocks = ap (λ cs. due_domains cs (length c.args.point.now.bench.design.domains) c.args.t) c.as_slice.ensures.value in
    let none = none_due c.in_ok-toggled.toggled _ c.len.result (c.in_ok-toggled.ensures.due ∙ ap (λ n. due_domains c.as_slice.result.now n c.args.t) c.domains-domains.ensures ∙ clocks) c.len.ensures c.if-len-eq0.true in
    subst (λ zs. IsSome (next_ready 0 (stands_in zs))) (sym c.wake.ensures)
    (ready_moment c.due_are_events.ensures.some c.args.setting.now.clocks.items (length c.args.point.now.bench.design.domains) c.args.t c.args.point.now.testbenches.items c.requires.safe.within none c.requires.due)

pub returns-then-len-eq0-clause-costs : goal.returns-then-len-eq0-clause-costs
returns-then-len-eq0-clause-costs g c = units_woken c.args.t c.args.point.now.left.left c.args.point.now.testbenches.items c.wake.new.testbenches.items c.wake.ensures

pub tick_all-requires-clause-legal : goal.tick_all-requires-clause-legal
tick_all-requires-clause-legal g c =
    toggled_legal c.due_are_events.ensures.event c.as_slice.result.now c.args.point.now.bench.design c.args.t c.in_ok-toggled.toggled
    (c.in_ok-toggled.ensures.due ∙ ap (λ n. due_domains c.as_slice.result.now n c.args.t) c.domains-domains.ensures) (λ e. c.if-len-eq0.false (c.len.ensures ∙ e))

pub happen-requires-clause-legal : goal.happen-requires-clause-legal
happen-requires-clause-legal g c =
    toggled_legal c.due_are_events.ensures.event c.as_slice.result.now c.args.point.now.bench.design c.args.t c.in_ok-toggled.toggled
    (c.in_ok-toggled.ensures.due ∙ ap (λ n. due_domains c.as_slice.result.now n c.args.t) c.domains-domains.ensures) (λ e. c.if-len-eq0.false (c.len.ensures ∙ e))

pub returns-clause-safe : goal.returns-clause-safe
returns-clause-safe g c =
    let s = c.args.setting.now in
    let p = c.args.point.now in
    let d : CodePoint = record p { testbenches = c.wake.new.testbenches; turn = 0; now = Some c.args.t } in
    let f : CodePoint = record d { sim = c.tick_all.new.sim; testbenches = c.tick_all.new.testbenches } in
    let woken : HasWoken p d c.args.t (Some c.args.t) = record { bench = refl; sim = refl; benches = c.wake.ensures; turn = refl; now_is = refl; left = refl } in
    let ticked : HasTicked d f c.in_ok-toggled.toggled = record { bench = refl; sim = c.tick_all.ensures.same; benches = c.in_ok-tick_all.ensures.ticked; turn = refl; now = refl; left = refl } in
    safe_happened s f c.happen.new.point file_start (Edge c.in_ok-toggled.toggled) c.happen.result
    (safe_ticked s d f c.in_ok-toggled.toggled (safe_woken s p d c.args.t (Some c.args.t) c.requires.below c.requires.safe woken) ticked)
    c.happen.ensures.step c.happen.ensures.behind

pub returns-clause-comes : goal.returns-clause-comes
returns-clause-comes g c =
    let s = c.args.setting.now in
    let p = c.args.point.now in
    let d : CodePoint = record p { testbenches = c.wake.new.testbenches; turn = 0; now = Some c.args.t } in
    let f : CodePoint = record d { sim = c.tick_all.new.sim; testbenches = c.tick_all.new.testbenches } in
    let woken : HasWoken p d c.args.t (Some c.args.t) = record { bench = refl; sim = refl; benches = c.wake.ensures; turn = refl; now_is = refl; left = refl } in
    let ticked : HasTicked d f c.in_ok-toggled.toggled = record { bench = refl; sim = c.tick_all.ensures.same; benches = c.in_ok-tick_all.ensures.ticked; turn = refl; now = refl; left = refl } in
    let safe = safe_ticked s d f c.in_ok-toggled.toggled (safe_woken s p d c.args.t (Some c.args.t) c.requires.below c.requires.safe woken) ticked in
    let due = c.in_ok-toggled.ensures.due ∙ ap (λ n. due_domains c.as_slice.result.now n c.args.t) c.domains-domains.ensures in
    let clocks = ap (λ cs. due_domains cs (length p.bench.design.domains) c.args.t) c.as_slice.ensures.value in
    toggled_all_owed c.growth_keeps_meaning.ensures s p d f c.happen.new.point c.args.t c.in_ok-toggled.toggled c.happen.result (sym (due ∙ clocks)) (λ e. c.if-len-eq0.false (c.len.ensures ∙ e)) woken ticked
    safe.sim (toggled_legal c.due_are_events.ensures.event c.as_slice.result.now p.bench.design c.args.t c.in_ok-toggled.toggled due (λ e. c.if-len-eq0.false (c.len.ensures ∙ e)))
    c.happen.ensures.step c.happen.ensures.behind

pub returns-clause-costs : goal.returns-clause-costs
returns-clause-costs g c =
    let p = c.args.point.now in
    let d : CodePoint = record p { testbenches = c.wake.new.testbenches; turn = 0; now = Some c.args.t } in
    let f : CodePoint = record d { sim = c.tick_all.new.sim; testbenches = c.tick_all.new.testbenches } in
    let ticked : HasTicked d f c.in_ok-toggled.toggled = record { bench = refl; sim = c.tick_all.ensures.same; benches = c.in_ok-tick_all.ensures.ticked; turn = refl; now = refl; left = refl } in
    costs_same p f c.happen.new.point (Ok c.happen.result) (units_ticked d f c.in_ok-toggled.toggled ticked ∙ units_woken c.args.t p.left.left p.testbenches.items d.testbenches.items c.wake.ensures)
    (happened_costs f c.happen.new.point file_start (Edge c.in_ok-toggled.toggled) c.happen.result c.happen.ensures.step c.happen.ensures.behind)
