use Rattle.std.proofs.Common.{◌≡◌, ◌∙◌, ap, sym, subst, inl, inr, length}
use Rattle.std.proofs.lemmas.List.{length-map, length-take-le}
use Rattle.amh_host.specs.Seen.{Seen, with_file}
use Rattle.amh_host.specs.Written.{WritesFront}
use Rattle.play_text.specs.declared.board.Board.{Board}
use Rattle.play_text.specs.Boards.{shown_of}
use Rattle.amh_tool.specs.Outcome.{end_told}
use Rattle.amh_tool.specs.Verdicts.{ending_of, events_of, rows_of}
use Rattle.amh_tool.specs.Views.{plan_seen}
use Rattle.amh_tool.specs.Work.{Owed, with_files}
use Rattle.amh_tool.proofs.ClosingLaws.{IsClosing, performs_if, closing_part_if, of_rtlil}
use Rattle.amh_tool.proofs.RunLaws.{on_err, length-timed, written_whole, written_part}
use Rattle.amh_tool.proofs.perform.perform.Goals as goal

pub returns-in_err-put_rtlil-clause-err : goal.returns-in_err-put_rtlil-clause-err
returns-in_err-put_rtlil-clause-err g c = on_err _ (of_rtlil (plan_seen c.args.plan.now) c.args.accepted.now.ranked.design _ _ _ _ c.in_err-put_rtlil.ensures.err)

pub returns-in_err-write_trace-clause-err : goal.returns-in_err-write_trace-clause-err
returns-in_err-write_trace-clause-err g c =
    let old = g.H.Host.seen c.args.host.now in
    let p = plan_seen c.args.plan.now in
    let a = c.args.accepted.now in
    let d = a.ranked.design in
    let first = c.in_ok-put_rtlil.ensures.done in
    let trace = c.write_trace.ensures.text.0 in
    let owed : Owed d (rows_of a) (ending_of a) = record { il = first.il; trace = trace; stands = first.stands; is_trace = c.write_trace.ensures.text.1 } in
    let new = g.H.Host.seen c.write_trace.new.host in
    let part = written_part c.write_trace.result _ _ _ _ c.in_err-write_trace.was c.write_trace.ensures.text.2 in
    on_err _ (inr (inr (record { owed = owed; part = inl (subst (λ (s : Seen). WritesFront p.trace trace s new) first.whole part) })))

pub returns-clause-done : goal.returns-clause-done
returns-clause-done g c =
    let old = g.H.Host.seen c.args.host.now in
    let p = plan_seen c.args.plan.now in
    let a = c.args.accepted.now in
    let d = a.ranked.design in
    let first = c.in_ok-put_rtlil.ensures.done in
    let trace = c.write_trace.ensures.text.0 in
    let owed : Owed d (rows_of a) (ending_of a) = record { il = first.il; trace = trace; stands = first.stands; is_trace = c.write_trace.ensures.text.1 } in
    let both : g.H.Host.seen c.write_trace.new.host ≡ with_files p first.il trace old = written_whole c.write_trace.result _ _ _ _ c.in_ok-write_trace.was c.write_trace.ensures.text.2 ∙ ap (with_file p.trace trace) first.whole in
    let columns : c.len-columns.result ≡ length d.columns = c.len-columns.ensures ∙ ap (λ (b : Board). length b.columns) c.requires.board ∙ length-map d.columns (shown_of d) in
    let events : a.within ≡ length (rows_of a) = sym (length-timed 1 (events_of a) ∙ length-take-le a.within a.events c.requires.within) in
    let closing : IsClosing d (rows_of a) (ending_of a) c.len-columns.result a.within (end_told c.stop.result) = record { columns_are = columns; events_are = events; ends = c.stop.ensures } in
    performs_if p d (rows_of a) (ending_of a) owed _ _ _ old _ (g.H.Host.seen c.close.new.host) c.close.result closing both c.close.ensures.status c.close.ensures.done

pub returns-clause-err : goal.returns-clause-err
returns-clause-err g c =
    let old = g.H.Host.seen c.args.host.now in
    let p = plan_seen c.args.plan.now in
    let a = c.args.accepted.now in
    let d = a.ranked.design in
    let first = c.in_ok-put_rtlil.ensures.done in
    let trace = c.write_trace.ensures.text.0 in
    let owed : Owed d (rows_of a) (ending_of a) = record { il = first.il; trace = trace; stands = first.stands; is_trace = c.write_trace.ensures.text.1 } in
    let both : g.H.Host.seen c.write_trace.new.host ≡ with_files p first.il trace old = written_whole c.write_trace.result _ _ _ _ c.in_ok-write_trace.was c.write_trace.ensures.text.2 ∙ ap (with_file p.trace trace) first.whole in
    let columns : c.len-columns.result ≡ length d.columns = c.len-columns.ensures ∙ ap (λ (b : Board). length b.columns) c.requires.board ∙ length-map d.columns (shown_of d) in
    let events : a.within ≡ length (rows_of a) = sym (length-timed 1 (events_of a) ∙ length-take-le a.within a.events c.requires.within) in
    let closing : IsClosing d (rows_of a) (ending_of a) c.len-columns.result a.within (end_told c.stop.result) = record { columns_are = columns; events_are = events; ends = c.stop.ensures } in
    closing_part_if p d (rows_of a) (ending_of a) owed _ _ _ old _ (g.H.Host.seen c.close.new.host) c.close.result closing both c.close.ensures.err
