use Rattle.std.proofs.Common.{◌≡◌, ◌∙◌, ap, subst, List, ℕ, string_bytes}
use Rattle.std.specs.List.{flat_map}
use Rattle.std.proofs.lemmas.Result.{err_from_is_err_and}
use Rattle.amh_host.specs.Seen.{written}
use Rattle.amh_host.specs.Calls.{AddsFront}
use Rattle.rtlil_text.proofs.Puts.{puts_front, puts_more}
use Rattle.rtlil_text.proofs.page.Page.put.Goals as goal

pub returns-in_err-put-clause-done : goal.returns-in_err-put-clause-done
returns-in_err-put-clause-done g c =
    let p = err_from_is_err_and c.from_residual.result c.from_residual.ensures.1 in
    let text : flat_map string_bytes c.deref-line-items.result.now ≡ c.args.self.now = ap (flat_map string_bytes) c.deref-line-items.ensures.value ∙ c.self.view_is in
    let name = c.args.name.now in
    let old = g.H.Host.seen c.args.host.now in
    let now = g.H.Host.seen c.loop-line.host in
    let new = g.H.Host.seen c.put.new.self in
    let front : AddsFront (written name) (string_bytes c.line-item.result) now new = subst (λ (b : List ℕ). AddsFront (written name) b now new) c.as_bytes.ensures.value c.in_err-put.ensures.done in
    rw p.1 (subst (λ (b : List ℕ). AddsFront (written name) b old new) text
    (puts_front string_bytes c.deref-line-items.result.now c.loop-line.line-index name old now c.loop-line.invariant.seen c.line-item.result new c.loop-line-test.true c.line-item.is front))

pub loop-line-preserved : goal.loop-line-preserved
loop-line-preserved g c =
    let now = g.H.Host.seen c.loop-line.host in
    let name = c.args.name.now in
    record {
      seen = puts_more string_bytes c.deref-line-items.result.now c.loop-line.line-index name (g.H.Host.seen c.args.host.now) now c.loop-line.invariant.seen c.line-item.result (g.H.Host.seen c.put.new.self) c.loop-line-test.true c.line-item.is
          (c.in_ok-put.ensures.done ∙ ap (λ b. written name b now) c.as_bytes.ensures.value);
      faults = c.in_ok-put.ensures.cause.ok ∙ c.loop-line.invariant.faults;
    }
