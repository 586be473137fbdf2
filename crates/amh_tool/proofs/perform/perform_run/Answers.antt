use Rattle.std.proofs.Common.{◌≡◌, ◌∙◌, ◌⊎◌, ap, sym, subst, length}
use Rattle.std.proofs.lemmas.List.{length-map}
use Rattle.design_ir.specs.Circuits.{Circuit}
use Rattle.comb_graph.specs.Rankings.{IsRanking}
use Rattle.play_text.specs.declared.board.Board.{Board}
use Rattle.play_text.specs.Boards.{shown_of}
use Rattle.amh_tool.specs.Designs.{circuit_of}
use Rattle.amh_tool.specs.Headline.{StandsFor}
use Rattle.amh_tool.specs.Views.{plan_seen}
use Rattle.amh_tool.specs.Work.{WritesRtlilPart}
use Rattle.amh_tool.proofs.ClosingLaws.{performs_run_if, closing_run_if, run_of_rtlil, run_part}
use Rattle.amh_tool.proofs.RunLaws.{on_err}
use Rattle.amh_tool.proofs.perform.perform_run.Goals as goal

pub put_rtlil-requires : goal.put_rtlil-requires
put_rtlil-requires g c =
    let fits = c.requires.1 in
    subst (λ (d : Circuit). IsRanking d c.args.runs.now.ranks) (sym (c.design.ensures ∙ fits.design)) fits.ranking

pub returns-in_err-put_rtlil-clause-err : goal.returns-in_err-put_rtlil-clause-err
returns-in_err-put_rtlil-clause-err g c = λ k fits.
    let p = plan_seen c.args.plan.now in
    let old = g.H.Host.seen c.args.host.now in
    let new = g.H.Host.seen c.put_rtlil.new.host in
    on_err _ (run_of_rtlil p k old new (subst (λ (d : Circuit). (new ≡ old) ⊎ WritesRtlilPart p d old new) (c.design.ensures ∙ fits.design) c.in_err-put_rtlil.ensures.err))

pub returns-in_err-ending-clause-err : goal.returns-in_err-ending-clause-err
returns-in_err-ending-clause-err g c = λ k fits.
    let p = plan_seen c.args.plan.now in
    let old = g.H.Host.seen c.args.host.now in
    let first = c.in_ok-put_rtlil.ensures.done in
    let stands : StandsFor first.il (circuit_of k) = subst (λ (d : Circuit). StandsFor first.il d) (c.design.ensures ∙ fits.design) first.stands in
    on_err _ (run_part p k first.il old (g.H.Host.seen c.put_rtlil.new.host) (g.H.Host.seen c.write_run.new.host) stands first.whole (c.in_err-ending.ensures.text k fits))

pub returns-clause-done : goal.returns-clause-done
returns-clause-done g c = λ k fits.
    let p = plan_seen c.args.plan.now in
    let old = g.H.Host.seen c.args.host.now in
    let first = c.in_ok-put_rtlil.ensures.done in
    let stands : StandsFor first.il (circuit_of k) = subst (λ (d : Circuit). StandsFor first.il d) (c.design.ensures ∙ fits.design) first.stands in
    let d = circuit_of k in
    let columns : c.len-columns.result ≡ length d.columns = c.len-columns.ensures ∙ ap (λ (b : Board). length b.columns) (c.in_ok-ending.ensures.board ∙ fits.board) ∙ length-map d.columns (shown_of d) in
    performs_run_if p k c.in_ok-ending.ending first.il c.len-columns.result old (g.H.Host.seen c.put_rtlil.new.host) (g.H.Host.seen c.write_run.new.host) (g.H.Host.seen c.close.new.host) c.close.result (c.in_ok-ending.ensures.text k fits) stands first.whole columns
    c.close.ensures.status c.close.ensures.done

pub returns-clause-err : goal.returns-clause-err
returns-clause-err g c = λ k fits.
    let p = plan_seen c.args.plan.now in
    let old = g.H.Host.seen c.args.host.now in
    let first = c.in_ok-put_rtlil.ensures.done in
    let stands : StandsFor first.il (circuit_of k) = subst (λ (d : Circuit). StandsFor first.il d) (c.design.ensures ∙ fits.design) first.stands in
    let d = circuit_of k in
    let columns : c.len-columns.result ≡ length d.columns = c.len-columns.ensures ∙ ap (λ (b : Board). length b.columns) (c.in_ok-ending.ensures.board ∙ fits.board) ∙ length-map d.columns (shown_of d) in
    closing_run_if p k c.in_ok-ending.ending first.il c.len-columns.result old (g.H.Host.seen c.put_rtlil.new.host) (g.H.Host.seen c.write_run.new.host) (g.H.Host.seen c.close.new.host) c.close.result (c.in_ok-ending.ensures.text k fits) stands first.whole columns c.close.ensures.err
