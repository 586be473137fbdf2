use Rattle.std.proofs.Common.{◌≡◌, ◌∙◌, refl, sym, Some, length}
use Rattle.std.specs.Prelude.{slice_get, Ok}
use Rattle.std.proofs.lemmas.Option.{slice_get_read}
use Rattle.py_heap.specs.Heaps.{seen}
use Rattle.elab_store.specs.Held.{held_of}
use Rattle.bench_acts.specs.declared.serving.Bench.{Bench}
use Rattle.bench_acts.specs.Serving.{bench_served}
use Rattle.bench_run.specs.declared.testbench.Running.{Running}
use Rattle.bench_run.specs.Standing.{all_left}
use Rattle.bench_run.proofs.AskLaws.{Does, done_left, done_moves, done_owed, done_safe, refused_then, served_done, served_on, served_sim, stops_left, stops_moves, stops_safe}
use Rattle.bench_run.proofs.UnitLaws.{costs_same, done_costs, stops_costs}
use Rattle.bench_run.proofs.turns.asked.Goals as goal

pub serve-requires : goal.serve-requires
serve-requires g c =
    c.requires.safe.bench

pub refused-requires : goal.refused-requires
refused-requires g c =
    record { there = c.requires.there; units = c.requires.safe.units; live = c.requires.safe.live; waits = c.requires.waits }

pub done-requires : goal.done-requires
done-requires g c =
    let s = c.args.setting.now in
    let p = c.args.point.now in
    let y : Running = c.index.result.now in
    let r = c.args.request.now in
    let z = c.in_ok-served.served in
    let b : Bench = c.serve.new.bench in
    let there : slice_get p.testbenches.items c.args.i ≡ Some y = slice_get_read p.testbenches.items (length p.testbenches.items) c.args.i y refl c.requires.there c.index.ensures in
    let owed = bench_served (seen s.frozen y.machine.going.state.heap) p.bench.design r (held_of p.bench.held) in
    let on = served_on z p.bench b owed (sym c.refusal.ensures ∙ c.in-None.is) c.in_ok-served.ensures in
    let sim = served_sim (seen s.frozen y.machine.going.state.heap) p.bench b.design r c.requires.safe.bench on.2 c.growth_keeps_simulators.ensures c.count.ensures.rules c.processes.ensures.rules p.sim c.requires.safe.sim in
    record {
      there = c.requires.there;
      bench = on.3;
      sim = sim;
      may = served_done (seen s.frozen y.machine.going.state.heap) p.bench b.design r c.requires.safe.bench on.2 z c.count.ensures.rules on.0;
      now = c.requires.safe.now;
    }

pub returns-in-Some-clause-safe : goal.returns-in-Some-clause-safe
returns-in-Some-clause-safe g c =
    stops_safe c.args.setting.now c.refused.new.point c.refused.result c.refused.ensures.stops

pub returns-in-Some-clause-comes : goal.returns-in-Some-clause-comes
returns-in-Some-clause-comes g c =
    let s = c.args.setting.now in
    let p = c.args.point.now in
    let y : Running = c.index.result.now in
    let r = c.args.request.now in
    let z = c.in_ok-served.served in
    let b : Bench = c.serve.new.bench in
    let there : slice_get p.testbenches.items c.args.i ≡ Some y = slice_get_read p.testbenches.items (length p.testbenches.items) c.args.i y refl c.requires.there c.index.ensures in
    let owed = bench_served (seen s.frozen y.machine.going.state.heap) p.bench.design r (held_of p.bench.held) in
    λ x first rows a. c.refused.ensures.comes x first rows
    (refused_then s p (record p { bench = b }) c.args.i r y z c.in-Some.why c.requires.end there c.in_ok-served.ensures.0 (sym c.refusal.ensures ∙ c.in-Some.is) refl refl refl x first rows a)

pub returns-in-Some-clause-answers : goal.returns-in-Some-clause-answers
returns-in-Some-clause-answers g c =
    stops_left (all_left c.refused.new.point.testbenches.items ≡ all_left c.args.point.now.testbenches.items) c.refused.result c.refused.ensures.stops

pub returns-in-Some-clause-moved : goal.returns-in-Some-clause-moved
returns-in-Some-clause-moved g c =
    stops_moves c.args.point.now c.refused.new.point c.refused.result c.refused.ensures.stops

pub returns-in-Some-clause-costs : goal.returns-in-Some-clause-costs
returns-in-Some-clause-costs g c =
    stops_costs c.args.point.now c.refused.new.point c.refused.result c.refused.ensures.stops

pub returns-in-None-clause-safe : goal.returns-in-None-clause-safe
returns-in-None-clause-safe g c =
    let s = c.args.setting.now in
    let p = c.args.point.now in
    let y : Running = c.index.result.now in
    let r = c.args.request.now in
    let z = c.in_ok-served.served in
    let b : Bench = c.serve.new.bench in
    let there : slice_get p.testbenches.items c.args.i ≡ Some y = slice_get_read p.testbenches.items (length p.testbenches.items) c.args.i y refl c.requires.there c.index.ensures in
    let owed = bench_served (seen s.frozen y.machine.going.state.heap) p.bench.design r (held_of p.bench.held) in
    let on = served_on z p.bench b owed (sym c.refusal.ensures ∙ c.in-None.is) c.in_ok-served.ensures in
    let sim = served_sim (seen s.frozen y.machine.going.state.heap) p.bench b.design r c.requires.safe.bench on.2 c.growth_keeps_simulators.ensures c.count.ensures.rules c.processes.ensures.rules p.sim c.requires.safe.sim in
    let k : Does s p b c.args.i r y z c.done.result c.done.new.point = record { safe = c.requires.safe; there = there; waiting = c.requires.waits; said = on.0; held_is = on.1; design = on.2; bench = on.3; of_sim = sim; done = c.done.ensures.done } in
    done_safe s p b c.args.i r y z c.done.result c.done.new.point k

pub returns-in-None-clause-comes : goal.returns-in-None-clause-comes
returns-in-None-clause-comes g c =
    let s = c.args.setting.now in
    let p = c.args.point.now in
    let y : Running = c.index.result.now in
    let r = c.args.request.now in
    let z = c.in_ok-served.served in
    let b : Bench = c.serve.new.bench in
    let there : slice_get p.testbenches.items c.args.i ≡ Some y = slice_get_read p.testbenches.items (length p.testbenches.items) c.args.i y refl c.requires.there c.index.ensures in
    let owed = bench_served (seen s.frozen y.machine.going.state.heap) p.bench.design r (held_of p.bench.held) in
    let on = served_on z p.bench b owed (sym c.refusal.ensures ∙ c.in-None.is) c.in_ok-served.ensures in
    let sim = served_sim (seen s.frozen y.machine.going.state.heap) p.bench b.design r c.requires.safe.bench on.2 c.growth_keeps_simulators.ensures c.count.ensures.rules c.processes.ensures.rules p.sim c.requires.safe.sim in
    let k : Does s p b c.args.i r y z c.done.result c.done.new.point = record { safe = c.requires.safe; there = there; waiting = c.requires.waits; said = on.0; held_is = on.1; design = on.2; bench = on.3; of_sim = sim; done = c.done.ensures.done } in
    done_owed s p b c.args.i r y z c.done.result c.done.new.point k c.designs_grow_on.ensures c.growth_keeps_meaning.ensures c.requires.end

pub returns-in-None-clause-answers : goal.returns-in-None-clause-answers
returns-in-None-clause-answers g c =
    let s = c.args.setting.now in
    let p = c.args.point.now in
    let y : Running = c.index.result.now in
    let r = c.args.request.now in
    let z = c.in_ok-served.served in
    let b : Bench = c.serve.new.bench in
    let there : slice_get p.testbenches.items c.args.i ≡ Some y = slice_get_read p.testbenches.items (length p.testbenches.items) c.args.i y refl c.requires.there c.index.ensures in
    let owed = bench_served (seen s.frozen y.machine.going.state.heap) p.bench.design r (held_of p.bench.held) in
    let on = served_on z p.bench b owed (sym c.refusal.ensures ∙ c.in-None.is) c.in_ok-served.ensures in
    let sim = served_sim (seen s.frozen y.machine.going.state.heap) p.bench b.design r c.requires.safe.bench on.2 c.growth_keeps_simulators.ensures c.count.ensures.rules c.processes.ensures.rules p.sim c.requires.safe.sim in
    let k : Does s p b c.args.i r y z c.done.result c.done.new.point = record { safe = c.requires.safe; there = there; waiting = c.requires.waits; said = on.0; held_is = on.1; design = on.2; bench = on.3; of_sim = sim; done = c.done.ensures.done } in
    done_left s p b c.args.i r y z c.done.result c.done.new.point k

pub returns-in-None-clause-moved : goal.returns-in-None-clause-moved
returns-in-None-clause-moved g c =
    let s = c.args.setting.now in
    let p = c.args.point.now in
    let y : Running = c.index.result.now in
    let r = c.args.request.now in
    let z = c.in_ok-served.served in
    let b : Bench = c.serve.new.bench in
    let there : slice_get p.testbenches.items c.args.i ≡ Some y = slice_get_read p.testbenches.items (length p.testbenches.items) c.args.i y refl c.requires.there c.index.ensures in
    let owed = bench_served (seen s.frozen y.machine.going.state.heap) p.bench.design r (held_of p.bench.held) in
    let on = served_on z p.bench b owed (sym c.refusal.ensures ∙ c.in-None.is) c.in_ok-served.ensures in
    let sim = served_sim (seen s.frozen y.machine.going.state.heap) p.bench b.design r c.requires.safe.bench on.2 c.growth_keeps_simulators.ensures c.count.ensures.rules c.processes.ensures.rules p.sim c.requires.safe.sim in
    let k : Does s p b c.args.i r y z c.done.result c.done.new.point = record { safe = c.requires.safe; there = there; waiting = c.requires.waits; said = on.0; held_is = on.1; design = on.2; bench = on.3; of_sim = sim; done = c.done.ensures.done } in
    done_moves s p b c.args.i r y z c.done.result c.done.new.point k

pub returns-in-None-clause-costs : goal.returns-in-None-clause-costs
returns-in-None-clause-costs g c =
    let p = c.args.point.now in
    costs_same p (record p { bench = c.serve.new.bench }) c.done.new.point (Ok c.done.result) refl
    (done_costs c.done.result c.args.i c.args.request.now.place c.in_ok-served.served (record p { bench = c.serve.new.bench }) c.done.new.point c.done.ensures.done)
