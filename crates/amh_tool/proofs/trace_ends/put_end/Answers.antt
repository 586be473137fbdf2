use Rattle.std.proofs.Common.{◌≡◌, ◌∙◌, refl, subst, ℕ, List}
use Rattle.std.proofs.lemmas.Result.{err_from_is_err_and}
use Rattle.amh_host.specs.Seen.{written}
use Rattle.amh_host.specs.Calls.{Adds}
use Rattle.amh_host.proofs.SeenLaws.{AddsFront-nothing, written-nil}
use Rattle.play_text.specs.Trace.{end_line}
use Rattle.amh_tool.specs.Outcome.{end_told}
use Rattle.amh_tool.proofs.trace_ends.put_end.Goals as goal

pub returns-in_err-line-clause-done : goal.returns-in_err-line-clause-done
returns-in_err-line-clause-done g c =
    let p = err_from_is_err_and c.from_residual.result c.from_residual.ensures.1 in
    let old = g.H.Host.seen c.args.host.now in
    rw p.1 (AddsFront-nothing (written c.args.name.now) (end_line (end_told c.args.stop)) old old (written-nil c.args.name.now old) refl)

pub returns-clause-done : goal.returns-clause-done
returns-clause-done g c =
    let old = g.H.Host.seen c.args.host.now in
    let new = g.H.Host.seen c.put.new.self in
    let text : c.as_bytes.result.now ≡ end_line (end_told c.args.stop) = c.as_bytes.ensures.value ∙ c.in_ok-line.ensures in
    subst (λ (t : List ℕ). Adds (written c.args.name.now) t c.put.result old new) text c.put.ensures.done
