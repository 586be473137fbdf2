use Rattle.std.proofs.Common.{◌≡◌, refl, Some, length}
use Rattle.std.specs.Prelude.{slice_get}
use Rattle.std.specs.Vec.{with_item}
use Rattle.std.proofs.lemmas.Option.{slice_get_read}
use Rattle.py_frames.specs.declared.request.Turn.TheVariants as turn
use Rattle.bench_run.specs.declared.point.Point.{Point as CodePoint}
use Rattle.bench_run.specs.declared.testbench.Running.{Running}
use Rattle.bench_run.specs.Standing.{IsLive}
use Rattle.bench_run.proofs.GoLaws.{Turns, asks_safe, asks_waiting, asks_owed, asks_closer, ended_safe, ends_owed, ended_closer, stops_owed, moves_same, ready_of, within_set}
use Rattle.bench_run.proofs.SafeLaws.{all_get}
use Rattle.bench_run.proofs.UnitLaws.{asks_units, costs_same, ended_units}
use Rattle.bench_run.proofs.turns.go_on.Goals as goal

pub take_answer-requires : goal.take_answer-requires
take_answer-requires g c =
    let p = c.args.point.now in
    let y : Running = c.index_mut.result.now in
    let there : slice_get p.testbenches.items c.args.i ≡ Some y = slice_get_read p.testbenches.items (length p.testbenches.items) c.args.i y refl c.requires.there c.index_mut.ensures.value in
    record {
      live = all_get (IsLive c.args.setting.now) p.testbenches.items c.args.i y c.requires.safe.live there;
      ready = ready_of p.turn c.args.i p.testbenches.items y c.requires.ready there;
      units = c.requires.safe.units;
    }

pub asked-requires : goal.asked-requires
asked-requires g c =
    let s = c.args.setting.now in
    let p = c.args.point.now in
    let y : Running = c.index_mut.result.now in
    let z : Running = c.take_answer.new.running in
    let d : CodePoint = record p { testbenches = with_item p.testbenches c.args.i z; turn = c.args.i; left = c.take_answer.new.left } in
    let there : slice_get p.testbenches.items c.args.i ≡ Some y = slice_get_read p.testbenches.items (length p.testbenches.items) c.args.i y refl c.requires.there c.index_mut.ensures.value in
    let k : Turns s p d c.args.i y z (turn.Asks c.in-Asks.request) = record { safe = c.requires.safe; ready = c.requires.ready; there = there; took = c.in-Asks.ensures.took; is = record { bench = refl; sim = refl; benches = refl; turn = refl; now = refl } } in
    record {
      safe = asks_safe s p d c.args.i y z c.in-Asks.request k;
      waits = asks_waiting s p d c.args.i y z c.in-Asks.request k;
      there = within_set p.testbenches.items c.args.i y z there;
      end = c.requires.end;
    }

pub returns-in-Asks-clause-comes : goal.returns-in-Asks-clause-comes
returns-in-Asks-clause-comes g c =
    let s = c.args.setting.now in
    let p = c.args.point.now in
    let y : Running = c.index_mut.result.now in
    let z : Running = c.take_answer.new.running in
    let d : CodePoint = record p { testbenches = with_item p.testbenches c.args.i z; turn = c.args.i; left = c.take_answer.new.left } in
    let there : slice_get p.testbenches.items c.args.i ≡ Some y = slice_get_read p.testbenches.items (length p.testbenches.items) c.args.i y refl c.requires.there c.index_mut.ensures.value in
    let k : Turns s p d c.args.i y z (turn.Asks c.in-Asks.request) = record { safe = c.requires.safe; ready = c.requires.ready; there = there; took = c.in-Asks.ensures.took; is = record { bench = refl; sim = refl; benches = refl; turn = refl; now = refl } } in
    λ x first rows at. c.asked.ensures.comes x first rows (asks_owed s p d c.args.i y z c.in-Asks.request k x first rows at)

pub returns-in-Asks-clause-closer : goal.returns-in-Asks-clause-closer
returns-in-Asks-clause-closer g c =
    let s = c.args.setting.now in
    let p = c.args.point.now in
    let y : Running = c.index_mut.result.now in
    let z : Running = c.take_answer.new.running in
    let d : CodePoint = record p { testbenches = with_item p.testbenches c.args.i z; turn = c.args.i; left = c.take_answer.new.left } in
    let there : slice_get p.testbenches.items c.args.i ≡ Some y = slice_get_read p.testbenches.items (length p.testbenches.items) c.args.i y refl c.requires.there c.index_mut.ensures.value in
    let k : Turns s p d c.args.i y z (turn.Asks c.in-Asks.request) = record { safe = c.requires.safe; ready = c.requires.ready; there = there; took = c.in-Asks.ensures.took; is = record { bench = refl; sim = refl; benches = refl; turn = refl; now = refl } } in
    asks_closer s p d c.args.i y z c.in-Asks.request c.asked.new.point c.asked.result k c.asked.ensures.answers

pub returns-in-Asks-clause-moved : goal.returns-in-Asks-clause-moved
returns-in-Asks-clause-moved g c =
    let s = c.args.setting.now in
    let p = c.args.point.now in
    let y : Running = c.index_mut.result.now in
    let z : Running = c.take_answer.new.running in
    let d : CodePoint = record p { testbenches = with_item p.testbenches c.args.i z; turn = c.args.i; left = c.take_answer.new.left } in
    moves_same p d c.asked.new.point c.asked.result refl c.asked.ensures.moved

pub returns-in-Asks-clause-costs : goal.returns-in-Asks-clause-costs
returns-in-Asks-clause-costs g c =
    let s = c.args.setting.now in
    let p = c.args.point.now in
    let y : Running = c.index_mut.result.now in
    let z : Running = c.take_answer.new.running in
    let d : CodePoint = record p { testbenches = with_item p.testbenches c.args.i z; turn = c.args.i; left = c.take_answer.new.left } in
    let there : slice_get p.testbenches.items c.args.i ≡ Some y = slice_get_read p.testbenches.items (length p.testbenches.items) c.args.i y refl c.requires.there c.index_mut.ensures.value in
    let k : Turns s p d c.args.i y z (turn.Asks c.in-Asks.request) = record { safe = c.requires.safe; ready = c.requires.ready; there = there; took = c.in-Asks.ensures.took; is = record { bench = refl; sim = refl; benches = refl; turn = refl; now = refl } } in
    costs_same p d c.asked.new.point c.asked.result (asks_units s p d c.args.i y z c.in-Asks.request k) c.asked.ensures.costs

pub returns-in-Ended-clause-safe : goal.returns-in-Ended-clause-safe
returns-in-Ended-clause-safe g c =
    let s = c.args.setting.now in
    let p = c.args.point.now in
    let y : Running = c.index_mut.result.now in
    let z : Running = c.take_answer.new.running in
    let d : CodePoint = record p { testbenches = with_item p.testbenches c.args.i z; turn = c.args.i; left = c.take_answer.new.left } in
    let there : slice_get p.testbenches.items c.args.i ≡ Some y = slice_get_read p.testbenches.items (length p.testbenches.items) c.args.i y refl c.requires.there c.index_mut.ensures.value in
    let k : Turns s p d c.args.i y z (turn.Ended c.in-Ended.field-0) = record { safe = c.requires.safe; ready = c.requires.ready; there = there; took = c.in-Ended.ensures.took; is = record { bench = refl; sim = refl; benches = refl; turn = refl; now = refl } } in
    ended_safe s p d c.args.i y z c.in-Ended.field-0 k

pub returns-in-Ended-clause-comes : goal.returns-in-Ended-clause-comes
returns-in-Ended-clause-comes g c =
    let s = c.args.setting.now in
    let p = c.args.point.now in
    let y : Running = c.index_mut.result.now in
    let z : Running = c.take_answer.new.running in
    let d : CodePoint = record p { testbenches = with_item p.testbenches c.args.i z; turn = c.args.i; left = c.take_answer.new.left } in
    let there : slice_get p.testbenches.items c.args.i ≡ Some y = slice_get_read p.testbenches.items (length p.testbenches.items) c.args.i y refl c.requires.there c.index_mut.ensures.value in
    let k : Turns s p d c.args.i y z (turn.Ended c.in-Ended.field-0) = record { safe = c.requires.safe; ready = c.requires.ready; there = there; took = c.in-Ended.ensures.took; is = record { bench = refl; sim = refl; benches = refl; turn = refl; now = refl } } in
    ends_owed s p d c.args.i y z c.in-Ended.field-0 c.requires.end k

pub returns-in-Ended-clause-closer : goal.returns-in-Ended-clause-closer
returns-in-Ended-clause-closer g c =
    let s = c.args.setting.now in
    let p = c.args.point.now in
    let y : Running = c.index_mut.result.now in
    let z : Running = c.take_answer.new.running in
    let d : CodePoint = record p { testbenches = with_item p.testbenches c.args.i z; turn = c.args.i; left = c.take_answer.new.left } in
    let there : slice_get p.testbenches.items c.args.i ≡ Some y = slice_get_read p.testbenches.items (length p.testbenches.items) c.args.i y refl c.requires.there c.index_mut.ensures.value in
    let k : Turns s p d c.args.i y z (turn.Ended c.in-Ended.field-0) = record { safe = c.requires.safe; ready = c.requires.ready; there = there; took = c.in-Ended.ensures.took; is = record { bench = refl; sim = refl; benches = refl; turn = refl; now = refl } } in
    ended_closer s p d c.args.i y z c.in-Ended.field-0 k

pub returns-in-Ended-clause-costs : goal.returns-in-Ended-clause-costs
returns-in-Ended-clause-costs g c =
    let s = c.args.setting.now in
    let p = c.args.point.now in
    let y : Running = c.index_mut.result.now in
    let z : Running = c.take_answer.new.running in
    let d : CodePoint = record p { testbenches = with_item p.testbenches c.args.i z; turn = c.args.i; left = c.take_answer.new.left } in
    let there : slice_get p.testbenches.items c.args.i ≡ Some y = slice_get_read p.testbenches.items (length p.testbenches.items) c.args.i y refl c.requires.there c.index_mut.ensures.value in
    let k : Turns s p d c.args.i y z (turn.Ended c.in-Ended.field-0) = record { safe = c.requires.safe; ready = c.requires.ready; there = there; took = c.in-Ended.ensures.took; is = record { bench = refl; sim = refl; benches = refl; turn = refl; now = refl } } in
    ended_units s p d c.args.i y z c.in-Ended.field-0 k

pub returns-in-Stopped-clause-comes : goal.returns-in-Stopped-clause-comes
returns-in-Stopped-clause-comes g c =
    let s = c.args.setting.now in
    let p = c.args.point.now in
    let y : Running = c.index_mut.result.now in
    let z : Running = c.take_answer.new.running in
    let d : CodePoint = record p { testbenches = with_item p.testbenches c.args.i z; turn = c.args.i; left = c.take_answer.new.left } in
    let there : slice_get p.testbenches.items c.args.i ≡ Some y = slice_get_read p.testbenches.items (length p.testbenches.items) c.args.i y refl c.requires.there c.index_mut.ensures.value in
    let k : Turns s p d c.args.i y z (turn.Stopped c.in-Stopped.stop) = record { safe = c.requires.safe; ready = c.requires.ready; there = there; took = c.in-Stopped.ensures.took; is = record { bench = refl; sim = refl; benches = refl; turn = refl; now = refl } } in
    stops_owed s p d c.args.i y z c.in-Stopped.stop c.requires.end k
