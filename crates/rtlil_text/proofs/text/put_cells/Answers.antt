use Rattle.std.proofs.Common.{◌∙◌, ap, subst, List, ℕ}
use Rattle.std.specs.List.{flat_map}
use Rattle.std.proofs.lemmas.Result.{err_from_is_err_and}
use Rattle.amh_host.specs.Seen.{written}
use Rattle.amh_host.specs.Calls.{AddsFront}
use Rattle.rtlil_text.specs.declared.cell.RtlCell.{RtlCell}
use Rattle.rtlil_text.specs.Widths.{width_in}
use Rattle.rtlil_text.specs.Written.{cell_text}
use Rattle.rtlil_text.proofs.Puts.{puts_front, puts_stop, puts_more}
use Rattle.rtlil_text.proofs.text.put_cells.Goals as goal

pub returns-in_err-cell_page-clause-done : goal.returns-in_err-cell_page-clause-done
returns-in_err-cell_page-clause-done g c =
    let p = err_from_is_err_and c.from_residual.result c.from_residual.ensures.1 in
    let text = cell_text (width_in c.args.widths.now) in
    let name = c.args.name.now in
    let old = g.H.Host.seen c.args.host.now in
    let now = g.H.Host.seen c.loop-c.host in
    rw p.1 (subst (λ (cs : List RtlCell). AddsFront (written name) (flat_map text cs) old now) c.as_slice-c-items.ensures
    (puts_stop text c.as_slice-c-items.result.now c.loop-c.c-index name old now c.loop-c.invariant.seen))

pub returns-in_err-put-clause-done : goal.returns-in_err-put-clause-done
returns-in_err-put-clause-done g c =
    let p = err_from_is_err_and c.from_residual-in_err-put.result c.from_residual-in_err-put.ensures.1 in
    let text = cell_text (width_in c.args.widths.now) in
    let name = c.args.name.now in
    let old = g.H.Host.seen c.args.host.now in
    let now = g.H.Host.seen c.loop-c.host in
    let new = g.H.Host.seen c.put-in-loop-c.new.host in
    let front : AddsFront (written name) (text c.c-item.result) now new = subst (λ (b : List ℕ). AddsFront (written name) b now new) c.in_ok-cell_page.ensures c.in_err-put.ensures.done in
    rw p.1 (subst (λ (cs : List RtlCell). AddsFront (written name) (flat_map text cs) old new) c.as_slice-c-items.ensures
    (puts_front text c.as_slice-c-items.result.now c.loop-c.c-index name old now c.loop-c.invariant.seen c.c-item.result new c.loop-c-test.true c.c-item.is front))

pub loop-c-preserved : goal.loop-c-preserved
loop-c-preserved g c =
    let text = cell_text (width_in c.args.widths.now) in
    let name = c.args.name.now in
    let now = g.H.Host.seen c.loop-c.host in
    record {
      seen = puts_more text c.as_slice-c-items.result.now c.loop-c.c-index name (g.H.Host.seen c.args.host.now) now c.loop-c.invariant.seen c.c-item.result (g.H.Host.seen c.put-in-loop-c.new.host) c.loop-c-test.true c.c-item.is
          (c.in_ok-put.ensures.done ∙ ap (λ b. written name b now) c.in_ok-cell_page.ensures);
      faults = c.in_ok-put.ensures.cause.ok ∙ c.loop-c.invariant.faults;
    }
