use Rattle.std.proofs.Common.{◌≡◌, ◌∙◌, ◌∷◌, [], ap, subst, ℤ, List}
use Rattle.std.proofs.lemmas.Result.{err_from_is_err_and}
use Rattle.amh_host.specs.Seen.{with_file}
use Rattle.amh_host.specs.Written.{WritesFront}
use Rattle.play_text.specs.Trace.{front_text}
use Rattle.amh_tool.proofs.RunTraceLaws.{head_text, head_front, rows_front, ended_written, ended_front}
use Rattle.amh_tool.proofs.run_rows.write_run.Goals as goal

pub returns-in_err-put_head-clause-text : goal.returns-in_err-put_head-clause-text
returns-in_err-put_head-clause-text g c = λ k fits.
    let p = err_from_is_err_and c.from_residual.result c.from_residual.ensures.1 in
    let r = c.args.runs.now in
    let name = c.args.name.now in
    let old = g.H.Host.seen c.args.host.now in
    let new = g.H.Host.seen c.put_head.new.host in
    let front : WritesFront name (head_text r) old new = subst (λ (env : List ℤ). WritesFront name (front_text r.board [] (env ∷ [])) old new) c.values.ensures c.in_err-put_head.ensures.text in
    rw p.1 (head_front k name r old new fits front)

pub returns-in_err-ending-clause-text : goal.returns-in_err-ending-clause-text
returns-in_err-ending-clause-text g c = λ k fits.
    let p = err_from_is_err_and c.from_residual-in_err-ending.result c.from_residual-in_err-ending.ensures.1 in
    let r = c.args.runs.now in
    let name = c.args.name.now in
    let old = g.H.Host.seen c.args.host.now in
    let mid = g.H.Host.seen c.put_head.new.host in
    let new = g.H.Host.seen c.put_events.new.host in
    let is : mid ≡ with_file name (head_text r) old = c.in_ok-put_head.ensures.text ∙ ap (λ (env : List ℤ). with_file name (front_text r.board [] (env ∷ [])) old) c.values.ensures in
    rw p.1 (rows_front k name r old mid new fits is (c.in_err-ending.ensures.rows k fits))

pub returns-in_err-put_end-clause-text : goal.returns-in_err-put_end-clause-text
returns-in_err-put_end-clause-text g c = λ k fits.
    let p = err_from_is_err_and c.from_residual-in_err-put_end.result c.from_residual-in_err-put_end.ensures.1 in
    let r = c.args.runs.now in
    let name = c.args.name.now in
    let old = g.H.Host.seen c.args.host.now in
    let mid = g.H.Host.seen c.put_head.new.host in
    let later = g.H.Host.seen c.put_events.new.host in
    let new = g.H.Host.seen c.put_end.new.host in
    let is : mid ≡ with_file name (head_text r) old = c.in_ok-put_head.ensures.text ∙ ap (λ (env : List ℤ). with_file name (front_text r.board [] (env ∷ [])) old) c.values.ensures in
    rw p.1 (ended_front k name r c.in_ok-ending.ending old mid later new fits is (c.in_ok-ending.ensures.rows k fits) c.in_err-put_end.ensures.done)

pub returns-clause-text : goal.returns-clause-text
returns-clause-text g c = λ k fits.
    let r = c.args.runs.now in
    let name = c.args.name.now in
    let old = g.H.Host.seen c.args.host.now in
    let mid = g.H.Host.seen c.put_head.new.host in
    let later = g.H.Host.seen c.put_events.new.host in
    let new = g.H.Host.seen c.put_end.new.host in
    let is : mid ≡ with_file name (head_text r) old = c.in_ok-put_head.ensures.text ∙ ap (λ (env : List ℤ). with_file name (front_text r.board [] (env ∷ [])) old) c.values.ensures in
    ended_written k name r c.in_ok-ending.ending old mid later new fits is (c.in_ok-ending.ensures.rows k fits) c.in_ok-put_end.ensures.done
