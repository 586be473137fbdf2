use Rattle.std.proofs.Common.{◌≡◌, ◌∙◌, ◌++◌, ◌∷◌, [], refl, ap, sym, subst, inl, inr, ℕ, ℤ, List, append_assoc}
use Rattle.std.proofs.lemmas.Result.{err_from_is_err_and}
use Rattle.amh_host.specs.Seen.{with_file, written}
use Rattle.amh_host.specs.Calls.{Adds}
use Rattle.amh_host.specs.Written.{WritesFront}
use Rattle.amh_host.proofs.SeenLaws.{IsAt, IsAt-put, IsAt-refused}
use Rattle.rtlil_text.proofs.WriteLaws.{Writes-last}
use Rattle.play_text.specs.Trace.{End, end_line, front_text, row_lines, trace_text}
use Rattle.amh_tool.specs.Verdicts.{ending_of, events_of, rows_of}
use Rattle.amh_tool.proofs.Refused.{HasCause-handed}
use Rattle.amh_tool.proofs.TraceLaws.{WritesFront-more, begins_with, history_trace, trace_text-parts}
use Rattle.amh_tool.proofs.trace.write_lines.Goals as goal

pub returns-in_err-put_head-clause-text : goal.returns-in_err-put_head-clause-text
returns-in_err-put_head-clause-text g c =
    let p = err_from_is_err_and c.from_residual.result c.from_residual.ensures.1 in
    let a = c.args.accepted.now in
    let s = c.args.sim.now in
    let begun = begins_with a.ranked.design (events_of a) s c.has_one_history.ensures c.requires.fitting.legal c.requires.first in
    let envs = begun.envs in
    let all = trace_text a.board (rows_of a) (s.env ∷ envs) (ending_of a) in
    let trace = history_trace a (s.env ∷ envs) c.requires.fitting begun.is_history in
    let name = c.args.name.now in
    let old = g.H.Host.seen c.args.host.now in
    let new = g.H.Host.seen c.put_head.new.host in
    let head = front_text a.board [] (s.env ∷ []) in
    let rows = row_lines a.board (rows_of a) s.env envs in
    let order : head ++ (rows ++ end_line (ending_of a)) ≡ all = sym (append_assoc head rows (end_line (ending_of a))) ∙ trace_text-parts a.board (rows_of a) s.env envs (ending_of a) in
    let front : WritesFront name head old new = subst (λ (env : List ℤ). WritesFront name (front_text a.board [] (env ∷ [])) old new) c.values.ensures c.in_err-put_head.ensures.text in
    (all, trace, rw p.1 (WritesFront-more name head (rows ++ end_line (ending_of a)) all old new order front))

pub returns-in_err-put_rows-clause-text : goal.returns-in_err-put_rows-clause-text
returns-in_err-put_rows-clause-text g c =
    let p = err_from_is_err_and c.from_residual-in_err-put_rows.result c.from_residual-in_err-put_rows.ensures.1 in
    let a = c.args.accepted.now in
    let s = c.args.sim.now in
    let begun = begins_with a.ranked.design (events_of a) s c.has_one_history.ensures c.requires.fitting.legal c.requires.first in
    let envs = begun.envs in
    let all = trace_text a.board (rows_of a) (s.env ∷ envs) (ending_of a) in
    let trace = history_trace a (s.env ∷ envs) c.requires.fitting begun.is_history in
    let name = c.args.name.now in
    let old = g.H.Host.seen c.args.host.now in
    let s1 = g.H.Host.seen c.put_head.new.host in
    let head = front_text a.board [] (s.env ∷ []) in
    let rows = row_lines a.board (rows_of a) s.env envs in
    let at1 : IsAt name head old s1 = record { seen = c.in_ok-put_head.ensures.text ∙ ap (λ (env : List ℤ). with_file name (front_text a.board [] (env ∷ [])) old) c.values.ensures } in
    let s2 = g.H.Host.seen c.put_rows.new.host in
    (all, trace, rw p.1 (inr (IsAt-refused name head rows (end_line (ending_of a)) all old s1 s2 at1 (trace_text-parts a.board (rows_of a) s.env envs (ending_of a)) (c.in_err-put_rows.ensures.done envs begun.is_history.settles))))

pub returns-clause-text : goal.returns-clause-text
returns-clause-text g c =
    let a = c.args.accepted.now in
    let s = c.args.sim.now in
    let begun = begins_with a.ranked.design (events_of a) s c.has_one_history.ensures c.requires.fitting.legal c.requires.first in
    let envs = begun.envs in
    let all = trace_text a.board (rows_of a) (s.env ∷ envs) (ending_of a) in
    let trace = history_trace a (s.env ∷ envs) c.requires.fitting begun.is_history in
    let name = c.args.name.now in
    let old = g.H.Host.seen c.args.host.now in
    let s1 = g.H.Host.seen c.put_head.new.host in
    let head = front_text a.board [] (s.env ∷ []) in
    let rows = row_lines a.board (rows_of a) s.env envs in
    let at1 : IsAt name head old s1 = record { seen = c.in_ok-put_head.ensures.text ∙ ap (λ (env : List ℤ). with_file name (front_text a.board [] (env ∷ [])) old) c.values.ensures } in
    let s2 = g.H.Host.seen c.put_rows.new.host in
    let at2 : IsAt name (head ++ rows) old s2 = IsAt-put name head rows old s1 s2 at1 (c.in_ok-put_rows.ensures.done envs begun.is_history.settles) in
    let s3 = g.H.Host.seen c.put_end.new.host in
    let last : Adds (written name) (end_line (ending_of a)) c.put_end.result s2 s3 = subst (λ (e : End). Adds (written name) (end_line e) c.put_end.result s2 s3) c.stop.ensures c.put_end.ensures.done in
    (all, trace, Writes-last c.put_end.result name (head ++ rows) (end_line (ending_of a)) all old s2 s3 at2 (trace_text-parts a.board (rows_of a) s.env envs (ending_of a)) last)

pub returns-in_err-put_head-clause-cause : goal.returns-in_err-put_head-clause-cause
returns-in_err-put_head-clause-cause g c =
    HasCause-handed (g.H.Host.faults c.args.host.now) (g.H.Host.faults c.args.host.now) (g.H.Host.faults c.put_head.new.host) c.in_err-put_head.field-0.0 c.put_head.result c.from_residual.result c.in_err-put_head.was refl c.put_head.ensures.cause c.from_residual.ensures.1

pub returns-in_err-put_rows-clause-cause : goal.returns-in_err-put_rows-clause-cause
returns-in_err-put_rows-clause-cause g c =
    HasCause-handed (g.H.Host.faults c.args.host.now) (g.H.Host.faults c.put_head.new.host) (g.H.Host.faults c.put_rows.new.host) c.in_err-put_rows.field-0.0 c.put_rows.result c.from_residual-in_err-put_rows.result c.in_err-put_rows.was c.in_ok-put_head.ensures.cause.ok c.put_rows.ensures.cause c.from_residual-in_err-put_rows.ensures.1
