use Rattle.std.proofs.Common.{◌≡◌, ◌∙◌, ap, subst, List, ℕ}
use Rattle.std.proofs.lemmas.Result.{err_from_is_err_and}
use Rattle.amh_host.specs.Seen.{written}
use Rattle.amh_host.specs.Calls.{AddsFront}
use Rattle.rtlil_text.proofs.Puts.{puts_front, puts_stop, puts_more}
use Rattle.play_text.specs.Trace.{column_line}
use Rattle.amh_tool.proofs.trace_ends.put_columns.Goals as goal

pub returns-in_err-line-clause-done : goal.returns-in_err-line-clause-done
returns-in_err-line-clause-done g c =
    let p = err_from_is_err_and c.from_residual.result c.from_residual.ensures.1 in
    rw p.1 (puts_stop column_line c.args.columns.now c.loop-x.x-index c.args.name.now (g.H.Host.seen c.args.host.now) (g.H.Host.seen c.loop-x.host) c.loop-x.invariant.seen)

pub returns-in_err-put-clause-done : goal.returns-in_err-put-clause-done
returns-in_err-put-clause-done g c =
    let p = err_from_is_err_and c.from_residual-in_err-put.result c.from_residual-in_err-put.ensures.1 in
    let name = c.args.name.now in
    let x = c.x-item.result in
    let now = g.H.Host.seen c.loop-x.host in
    let new = g.H.Host.seen c.put.new.self in
    let text : c.as_bytes.result.now ≡ column_line x = c.as_bytes.ensures.value ∙ c.in_ok-line.ensures in
    let front : AddsFront (written name) (column_line x) now new = subst (λ (b : List ℕ). AddsFront (written name) b now new) text c.in_err-put.ensures.done in
    rw p.1 (puts_front column_line c.args.columns.now c.loop-x.x-index name (g.H.Host.seen c.args.host.now) now c.loop-x.invariant.seen x new c.loop-x-test.true c.x-item.is front)

pub loop-x-preserved : goal.loop-x-preserved
loop-x-preserved g c =
    let name = c.args.name.now in
    let x = c.x-item.result in
    let now = g.H.Host.seen c.loop-x.host in
    let text : c.as_bytes.result.now ≡ column_line x = c.as_bytes.ensures.value ∙ c.in_ok-line.ensures in
    record {
      seen = puts_more column_line c.args.columns.now c.loop-x.x-index name (g.H.Host.seen c.args.host.now) now c.loop-x.invariant.seen x (g.H.Host.seen c.put.new.self) c.loop-x-test.true c.x-item.is
          (c.in_ok-put.ensures.done ∙ ap (λ (b : List ℕ). written name b now) text);
      faults = c.in_ok-put.ensures.cause.ok ∙ c.loop-x.invariant.faults;
    }
