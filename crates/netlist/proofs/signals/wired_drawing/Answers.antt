use Rattle.std.proofs.Common.{◌≡◌, refl, false, sym, ap, ◌∙◌}
use Rattle.std.specs.Prelude.{Some, None, is_some}
use Rattle.std.proofs.lemmas.Result.{IfOk-weaker}
use Rattle.design_ir.specs.Circuits.{is_input}
use Rattle.netlist_laws.specs.Module.{is_clocked, driving_drawing}
use Rattle.netlist_laws.proofs.Driven.{driving-found}
use Rattle.netlist.proofs.LowerLatest.{last_is, clocked_at}
use Rattle.netlist.proofs.signals.wired_drawing.Goals as goal

pub returns-in-Some : goal.returns-in-Some
returns-in-Some c =
    let d = c.args.design.now in
    let s = c.args.s.0 in
    let p = c.in-Some.p.now in
    let no_input : is_input d s ≡ false = sym c.is_input.ensures ∙ c.if-is_input.false in
    let by = driving-found d s no_input (Some p) (sym c.in-Some.ensures) in
    let last = last_is d c.requires.rules c.requires.plain s p (sym c.in-Some.ensures) (is_some p.domain) (ap is_clocked by ∙ clocked_at p p.domain) in
    IfOk-weaker c.driven_drawing.result _ _ (λ x h. h p refl last ∙ ap (driving_drawing d s) (sym by)) c.driven_drawing.ensures

pub returns-in-None : goal.returns-in-None
returns-in-None c =
    let d = c.args.design.now in
    let s = c.args.s.0 in
    let no_input : is_input d s ≡ false = sym c.is_input.ensures ∙ c.if-is_input.false in
    IfOk-weaker c.undriven_drawing.result _ _ (λ x h. h ∙ ap (driving_drawing d s) (sym (driving-found d s no_input None (sym c.in-None.ensures)))) c.undriven_drawing.ensures
