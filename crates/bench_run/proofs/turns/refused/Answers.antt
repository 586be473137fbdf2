use Rattle.std.proofs.Common.{◌≡◌, refl, sym, ap, subst, Some, length}
use Rattle.std.specs.Prelude.{slice_get, slice_set}
use Rattle.std.proofs.lemmas.Option.{slice_get_read}
use Rattle.py_frames.specs.declared.request.Answer.TheVariants as answer
use Rattle.py_frames.specs.declared.request.Turn.TheVariants as turn
use Rattle.bench_run.specs.declared.testbench.Running.{Running}
use Rattle.bench_run.specs.declared.testbench.Stand.TheVariants as stand
use Rattle.bench_run.specs.Runs.{is_ready}
use Rattle.bench_run.specs.Standing.{IsLive}
use Rattle.bench_run.proofs.GoLaws.{live_refused, put_is, refusing, refusing_asks, refusing_ends, refusing_stops, within_set}
use Rattle.bench_run.proofs.turns.refused.Goals as goal

pub take_answer-requires : goal.take_answer-requires
take_answer-requires g c =
    let s = c.args.setting.now in
    let p = c.args.point.now in
    let y : Running = c.index_mut.result.now in
    let w : Running = record y { stand = stand.Ready (answer.Refuse c.args.why) } in
    let there : slice_get p.testbenches.items c.args.i ≡ Some y = slice_get_read p.testbenches.items (length p.testbenches.items) c.args.i y refl c.requires.there c.index_mut.ensures.value in
    let v : Running = c.index_mut-2.result.now in
    let put : slice_get (slice_set p.testbenches.items c.args.i w) c.args.i ≡ Some v =
    slice_get_read (slice_set p.testbenches.items c.args.i w) (length (slice_set p.testbenches.items c.args.i w)) c.args.i v refl (within_set p.testbenches.items c.args.i y w there) c.index_mut-2.ensures.value in
    let same : v ≡ w = put_is p.testbenches.items c.args.i y w v there put in
    record {
      live = subst (IsLive s) (sym same) (live_refused s p.testbenches.items c.args.i y c.args.why c.requires.live there c.requires.waits);
      ready = ap (λ (u : Running). is_ready u.stand) same;
      units = c.requires.units;
    }

pub returns-in-Stopped-clause-comes : goal.returns-in-Stopped-clause-comes
returns-in-Stopped-clause-comes g c =
    let s = c.args.setting.now in
    let p = c.args.point.now in
    let y : Running = c.index_mut.result.now in
    let w : Running = record y { stand = stand.Ready (answer.Refuse c.args.why) } in
    let there : slice_get p.testbenches.items c.args.i ≡ Some y = slice_get_read p.testbenches.items (length p.testbenches.items) c.args.i y refl c.requires.there c.index_mut.ensures.value in
    let v : Running = c.index_mut-2.result.now in
    let put : slice_get (slice_set p.testbenches.items c.args.i w) c.args.i ≡ Some v =
    slice_get_read (slice_set p.testbenches.items c.args.i w) (length (slice_set p.testbenches.items c.args.i w)) c.args.i v refl (within_set p.testbenches.items c.args.i y w there) c.index_mut-2.ensures.value in
    let same : v ≡ w = put_is p.testbenches.items c.args.i y w v there put in
    let k = refusing s p.testbenches.items c.args.i y v c.take_answer.new.running c.args.why p.left.left c.take_answer.new.left.left (turn.Stopped c.in-Stopped.stop) c.requires.live there c.requires.waits c.requires.units same c.in-Stopped.ensures.took in
    refusing_stops s p c.args.i y c.args.why c.take_answer.new.running c.take_answer.new.left.left c.in-Stopped.stop k there

pub unreachable-requires : goal.unreachable-requires
unreachable-requires g c =
    let s = c.args.setting.now in
    let p = c.args.point.now in
    let y : Running = c.index_mut.result.now in
    let w : Running = record y { stand = stand.Ready (answer.Refuse c.args.why) } in
    let there : slice_get p.testbenches.items c.args.i ≡ Some y = slice_get_read p.testbenches.items (length p.testbenches.items) c.args.i y refl c.requires.there c.index_mut.ensures.value in
    let v : Running = c.index_mut-2.result.now in
    let put : slice_get (slice_set p.testbenches.items c.args.i w) c.args.i ≡ Some v =
    slice_get_read (slice_set p.testbenches.items c.args.i w) (length (slice_set p.testbenches.items c.args.i w)) c.args.i v refl (within_set p.testbenches.items c.args.i y w there) c.index_mut-2.ensures.value in
    let same : v ≡ w = put_is p.testbenches.items c.args.i y w v there put in
    let k = refusing s p.testbenches.items c.args.i y v c.take_answer.new.running c.args.why p.left.left c.take_answer.new.left.left (turn.Asks c.in-Asks.field-0) c.requires.live there c.requires.waits c.requires.units same c.in-Asks.ensures.took in
    refusing_asks s w c.take_answer.new.running p.left.left c.take_answer.new.left.left c.in-Asks.field-0 k

pub unreachable-requires-in-Ended : goal.unreachable-requires-in-Ended
unreachable-requires-in-Ended g c =
    let s = c.args.setting.now in
    let p = c.args.point.now in
    let y : Running = c.index_mut.result.now in
    let w : Running = record y { stand = stand.Ready (answer.Refuse c.args.why) } in
    let there : slice_get p.testbenches.items c.args.i ≡ Some y = slice_get_read p.testbenches.items (length p.testbenches.items) c.args.i y refl c.requires.there c.index_mut.ensures.value in
    let v : Running = c.index_mut-2.result.now in
    let put : slice_get (slice_set p.testbenches.items c.args.i w) c.args.i ≡ Some v =
    slice_get_read (slice_set p.testbenches.items c.args.i w) (length (slice_set p.testbenches.items c.args.i w)) c.args.i v refl (within_set p.testbenches.items c.args.i y w there) c.index_mut-2.ensures.value in
    let same : v ≡ w = put_is p.testbenches.items c.args.i y w v there put in
    let k = refusing s p.testbenches.items c.args.i y v c.take_answer.new.running c.args.why p.left.left c.take_answer.new.left.left (turn.Ended c.in-Ended.field-0) c.requires.live there c.requires.waits c.requires.units same c.in-Ended.ensures.took in
    refusing_ends s w c.take_answer.new.running p.left.left c.take_answer.new.left.left c.in-Ended.field-0 k
