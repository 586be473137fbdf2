use Rattle.std.proofs.Common.{◌≡◌, ◌<◌, ◌+◌, ◌∙◌, refl, ap, sym, subst, length, ℕ, ℤ, List, arith}
use Rattle.std.specs.List.{AllByRecursion}
use Rattle.std.proofs.lemmas.Result.{err_from_is_err_and}
use Rattle.amh_host.specs.Seen.{Seen, written}
use Rattle.amh_host.specs.Calls.{AddsFront}
use Rattle.delta_sim.specs.Standing.{Simulated}
use Rattle.bench_run.specs.Runs.{run_of, first_point}
use Rattle.bench_run.specs.Standing.{CanGoOn, units_of}
use Rattle.play_text.specs.Trace.{Row, row_line}
use Rattle.amh_tool.specs.RunParts.{Shows}
use Rattle.amh_tool.specs.declared.accept.Runs.{Runs as CodeRuns}
use Rattle.amh_tool.specs.declared.row_text.RowText.{RowText}
use Rattle.amh_tool.proofs.RowLaws.{RowsSoFar, none_so_far, so_far_front, one_more, one_more_front, safe_before, safe_goes}
use Rattle.amh_tool.proofs.EventLaws.{IsEventOf, costs_event, costs_first, event_goes, left_of, less_left, line_by, same_first, signals_below, tells_event, told_first, many_event, row_more, none_more, run_over, run_stopped}
use Rattle.amh_tool.proofs.run_rows.put_events.Goals as goal
use Rattle.amh_tool.proofs.run_rows.put_events.Goals.{in-Some+in_ok-set_row+in_ok-put, in_default}

pub returns-in_err-text-clause-rows : goal.returns-in_err-text-clause-rows
returns-in_err-text-clause-rows g c = λ k fits.
    let p = err_from_is_err_and c.from_residual.result c.from_residual.ensures.1 in
    let r = c.args.runs.now in
    let old = g.H.Host.seen c.args.host.now in
    rw p.1 (so_far_front k c.args.name.now r.run.point.sim.env r.run 0 old old (none_so_far k c.args.name.now r old fits))

pub loop-row-init : goal.loop-row-init
loop-row-init g c =
    let r = c.args.runs.now in
    let fits = c.requires.1 in
    record {
      faults = refl;
      board = refl;
      going = fits.going;
      few = omega (arith, fits.few);
      many = (safe_before r.run fits.before fits.going).sim.env.count;
      shows = subst (λ env. Shows r.board.columns env c.in_ok-text.text) c.values.ensures (subst (λ xs. Shows xs c.values.result.now c.in_ok-text.text) c.as_slice.ensures c.in_ok-text.ensures);
      so_far = λ k is. none_so_far k c.args.name.now r (g.H.Host.seen c.args.host.now) is;
      counted = omega arith;
    }

pub next_row-requires : goal.next_row-requires
next_row-requires g c = c.loop-row.invariant.going

pub returns-in-Ended-clause-rows : goal.returns-in-Ended-clause-rows
returns-in-Ended-clause-rows g c = λ k fits.
    let r = c.args.runs.now in
    let s = c.loop-row.invariant.so_far k fits in
    run_over k c.args.name.now r.run.point.sim.env c.loop-row.runs.run c.next_row.new.self c.loop-row.events (g.H.Host.seen c.args.host.now) (g.H.Host.seen c.loop-row.host) s (c.in-Ended.ensures.row _ _ s.rows s.stands)

pub returns-in-Stopped-clause-rows : goal.returns-in-Stopped-clause-rows
returns-in-Stopped-clause-rows g c = λ k fits.
    let r = c.args.runs.now in
    let s = c.loop-row.invariant.so_far k fits in
    run_stopped k c.args.name.now r.run.point.sim.env c.loop-row.runs.run c.next_row.new.self c.loop-row.events (g.H.Host.seen c.args.host.now) (g.H.Host.seen c.loop-row.host) c.in-Stopped.stop s (c.in-Stopped.ensures.row _ _ s.rows s.stands)

pub returns-in-NoMemory-clause-rows : goal.returns-in-NoMemory-clause-rows
returns-in-NoMemory-clause-rows g c = λ k fits.
    so_far_front k c.args.name.now c.args.runs.now.run.point.sim.env c.loop-row.runs.run c.loop-row.events (g.H.Host.seen c.args.host.now) (g.H.Host.seen c.loop-row.host) (c.loop-row.invariant.so_far k fits)

pub set_row-requires-clause-signals : goal.set_row-requires-clause-signals
set_row-requires-clause-signals g c =
    let k = c.requires.0 in
    let r = c.args.runs.now in
    let run = c.loop-row.runs.run in
    let new = c.next_row.new.self in
    let row = c.in-Row.row in
    let e = c.in-Some.event in
    let event : IsEventOf row e run new = record { is = c.in-Some.is; going = c.in-Row.ensures.going; told = λ k rows s. c.in-Row.ensures.row (run_of k.program k.found) (first_point k.found k.left) rows s } in
    let goes = event_goes k c.args.name.now r.run.point.sim.env row e run new c.loop-row.events (g.H.Host.seen c.args.host.now) (g.H.Host.seen c.loop-row.host) (c.loop-row.invariant.so_far k c.requires.1) event in
    let d = new.point.bench.design in
    let now = c.values-in-Some.result.now in
    let many : length now ≡ length d.pool.signals = ap length c.values-in-Some.ensures ∙ (safe_goes new goes c.in-Row.ensures.going).sim.env.count in
    let tells = tells_event row e run new c.in-Some.is c.in-Row.ensures.moved in
    subst (λ (moved : List ℕ). AllByRecursion (λ s. s < length now) moved) (sym c.moved.ensures) (signals_below d (length now) new.point.sim.moved.list many tells.signals)

pub returns-in_err-set_row-clause-rows : goal.returns-in_err-set_row-clause-rows
returns-in_err-set_row-clause-rows g c = λ k fits.
    let p = err_from_is_err_and c.from_residual-in_err-set_row.result c.from_residual-in_err-set_row.ensures.1 in
    rw p.1 (so_far_front k c.args.name.now c.args.runs.now.run.point.sim.env c.loop-row.runs.run c.loop-row.events (g.H.Host.seen c.args.host.now) (g.H.Host.seen c.loop-row.host) (c.loop-row.invariant.so_far k fits))

pub returns-in_err-put-clause-rows : goal.returns-in_err-put-clause-rows
returns-in_err-put-clause-rows g c = λ k fits.
    let p = err_from_is_err_and c.from_residual-in_err-put.result c.from_residual-in_err-put.ensures.1 in
    let v = c.loop-row.invariant in
    let r = c.args.runs.now in
    let name = c.args.name.now in
    let first = r.run.point.sim.env in
    let start = g.H.Host.seen c.args.host.now in
    let run = c.loop-row.runs.run in
    let new = c.next_row.new.self in
    let row = c.in-Row.row in
    let events = c.loop-row.events in
    let now = g.H.Host.seen c.loop-row.host in
    let e = c.in-Some.event in
    let at : Row = record { time = row.time; event = e } in
    let event : IsEventOf row e run new = record { is = c.in-Some.is; going = c.in-Row.ensures.going; told = λ k rows s. c.in-Row.ensures.row (run_of k.program k.found) (first_point k.found k.left) rows s } in
    let line = c.set_row.new.self.line.items in
    let is : line ≡ row_line c.loop-row.runs.board at run.point.sim.env new.point.sim.env = line_by c.loop-row.runs.board at line _ _ _ _ c.in_ok-set_row.ensures.line v.shows.before c.values-in-Some.ensures in
    let later = g.H.Host.seen c.put.new.self in
    let h = v.so_far k fits in
    let added : AddsFront (written name) line now later = subst (λ (b : List ℕ). AddsFront (written name) b now later) c.as_slice-in-Some.ensures.value c.in_err-put.ensures.done in
    rw p.1 (one_more_front k name first run events start now later h at line new (row_more k r name row e line c.loop-row.runs.board run new events start now fits h event v.board is) added)

pub loop-row-preserved : goal.loop-row-preserved
loop-row-preserved g c =
    let v = c.loop-row.invariant in
    let r = c.args.runs.now in
    let name = c.args.name.now in
    let first = r.run.point.sim.env in
    let start = g.H.Host.seen c.args.host.now in
    let run = c.loop-row.runs.run in
    let new = c.next_row.new.self in
    let row = c.in-Row.row in
    let events = c.loop-row.events in
    let now = g.H.Host.seen c.loop-row.host in
    elim c.match-row.branch [
      | in-Some+in_ok-set_row+in_ok-put w ↦
          let e = w.in-Some.event in
          let at : Row = record { time = row.time; event = e } in
          let costs = costs_event row e run new w.in-Some.is c.in-Row.ensures.costs in
          let event : IsEventOf row e run new = record { is = w.in-Some.is; going = c.in-Row.ensures.going; told = λ k rows s. c.in-Row.ensures.row (run_of k.program k.found) (first_point k.found k.left) rows s } in
          let line = w.set_row.new.self.line.items in
          let is : line ≡ row_line c.loop-row.runs.board at run.point.sim.env new.point.sim.env = line_by c.loop-row.runs.board at line _ _ _ _ w.in_ok-set_row.ensures.line v.shows.before w.values-in-Some.ensures in
          let later = g.H.Host.seen w.put.new.self in
          let units : units_of c.match-row.runs.run.point ≡ units_of new.point = ap (λ (x : CodeRuns). units_of x.run.point) w.runs-is in
          let shown = subst (λ (env : List ℤ). Shows c.loop-row.runs.board.columns env w.set_row.new.self) w.values-in-Some.ensures w.in_ok-set_row.ensures.shows in
          record {
            faults = ap (λ h. g.H.Host.faults h) w.host-is ∙ w.in_ok-put.ensures.cause.ok ∙ v.faults;
            board = ap (λ (x : CodeRuns). x.board) w.runs-is ∙ v.board;
            going = subst (λ (x : CodeRuns). CanGoOn x.run) (sym w.runs-is) c.in-Row.ensures.going;
            few = omega (arith, v.few, w.events-is, units, costs);
            many = ap (λ (x : CodeRuns). length x.run.point.sim.env) w.runs-is ∙ many_event c.requires.0 r name row e run new events start now c.requires.1 (v.so_far c.requires.0 c.requires.1) event;
            shows = subst (λ (t : RowText). Shows c.match-row.runs.board.columns c.match-row.runs.run.point.sim.env t) (sym w.text-is)
                (subst (λ (x : CodeRuns). Shows x.board.columns x.run.point.sim.env w.set_row.new.self) (sym w.runs-is) shown);
            so_far = λ k fits.
                let h = v.so_far k fits in
                let added : later ≡ written name line now = w.in_ok-put.ensures.done ∙ ap (λ (b : List ℕ). written name b now) w.as_slice-in-Some.ensures.value in
                let more = one_more k name first run events start now later h at line new (row_more k r name row e line c.loop-row.runs.board run new events start now fits h event v.board is) added in
                let ran = subst (λ (x : CodeRuns). RowsSoFar k name first x.run (events + 1) start later) (sym w.runs-is) more in
                let counted = subst (λ n. RowsSoFar k name first c.match-row.runs.run n start later) (sym w.events-is) ran in
                subst (λ (s : Seen). RowsSoFar k name first c.match-row.runs.run c.match-row.events start s) (sym (ap (λ h. g.H.Host.seen h) w.host-is)) counted;
            counted = omega (arith, v.counted, c.in-Row.ensures.counted);
          }
      | in_default w ↦
          let costs = costs_first row run new w.in_default.is c.in-Row.ensures.costs in
          let same = same_first row run new w.in_default.is c.in-Row.ensures.moved in
          let units : units_of c.match-row.runs.run.point ≡ units_of new.point = ap (λ (x : CodeRuns). units_of x.run.point) w.runs-is in
          let shown = subst (λ (s : Simulated). Shows c.loop-row.runs.board.columns s.env c.loop-row.text) (sym same) v.shows in
          record {
            faults = ap (λ h. g.H.Host.faults h) w.host-is ∙ v.faults;
            board = ap (λ (x : CodeRuns). x.board) w.runs-is ∙ v.board;
            going = subst (λ (x : CodeRuns). CanGoOn x.run) (sym w.runs-is) c.in-Row.ensures.going;
            few = omega (arith, v.few, w.events-is, units, costs);
            many = ap (λ (x : CodeRuns). length x.run.point.sim.env) w.runs-is ∙ ap (λ (s : Simulated). length s.env) same ∙ v.many;
            shows = subst (λ (t : RowText). Shows c.match-row.runs.board.columns c.match-row.runs.run.point.sim.env t) (sym w.text-is)
                (subst (λ (x : CodeRuns). Shows x.board.columns x.run.point.sim.env c.loop-row.text) (sym w.runs-is) shown);
            so_far = λ k fits.
                let h = v.so_far k fits in
                let told = told_first k run.stage row new h.rows w.in_default.is (c.in-Row.ensures.row (run_of k.program k.found) (first_point k.found k.left) h.rows h.stands) in
                let ran = subst (λ (x : CodeRuns). RowsSoFar k name first x.run events start now) (sym w.runs-is) (none_more k name first run new events start now h told.stands same) in
                let counted = subst (λ n. RowsSoFar k name first c.match-row.runs.run n start now) (sym w.events-is) ran in
                subst (λ (s : Seen). RowsSoFar k name first c.match-row.runs.run c.match-row.events start s) (sym (ap (λ h. g.H.Host.seen h) w.host-is)) counted;
            counted = omega (arith, v.counted, c.in-Row.ensures.counted);
          }
    ]

pub loop-row-smaller : goal.loop-row-smaller
loop-row-smaller g c =
    let k = c.requires.0 in
    let run = c.loop-row.runs.run in
    let new = c.next_row.new.self in
    let h = c.loop-row.invariant.so_far k c.requires.1 in
    let less : left_of new < left_of run = less_left k c.in-Row.row run new h.rows (c.in-Row.ensures.row (run_of k.program k.found) (first_point k.found k.left) h.rows h.stands) c.in-Row.ensures.costs in
    elim c.match-row.branch [
      | in-Some+in_ok-set_row+in_ok-put w ↦ subst (λ (x : CodeRuns). left_of x.run < left_of run) (sym w.runs-is) less
      | in_default w ↦ subst (λ (x : CodeRuns). left_of x.run < left_of run) (sym w.runs-is) less
    ]
