use Rattle.std.proofs.Common.{◌≡◌, ◌≤◌, ◌∙◌, sym, ap, subst, ℤ}
use Rattle.std.specs.Prelude.{Option, Some, None, option_and_then}
use Rattle.shape_rules.specs.Forms.{Form, IsForm}
use Rattle.play_text.specs.Script.{integer_of}
use Rattle.play_text.specs.ScriptParts.{in_shape}
use Rattle.play_text.proofs.ScriptNumberLaws.{in_shape-kept, in_shape-held, in_shape-other, narrow_form, numeral_in}
use Rattle.play_text.proofs.script_numbers.number_in.Goals as goal

pub returns-in_err-value : goal.returns-in_err-value
returns-in_err-value c =
    let f = c.args.shape in
    let narrow : f.width ≤ 128 = narrow_form f.width f.signed (subst (λ (g : Form). IsForm g.width g.signed) c.shape.view_is c.shape.invariant) in
    let value : c.from_residual.result ≡ option_and_then (in_shape f) (integer_of c.args.text.now) =
    c.from_residual.ensures ∙ ap (λ (o : Option ℤ). option_and_then (in_shape f) o) c.in_err-value.ensures ∙ in_shape-kept f (integer_of c.args.text.now) narrow in
    record { value = value; numeral = numeral_in f c.args.text.now c.from_residual.result narrow value }

pub returns-then-holds : goal.returns-then-holds
returns-then-holds c =
    let f = c.args.shape in
    let narrow : f.width ≤ 128 = narrow_form f.width f.signed (subst (λ (g : Form). IsForm g.width g.signed) c.shape.view_is c.shape.invariant) in
    let value = in_shape-held f (integer_of c.args.text.now) c.in_ok-value.value c.in_ok-value.ensures (sym c.holds.ensures ∙ c.if-holds.true) in
    record { value = value; numeral = numeral_in f c.args.text.now (Some c.in_ok-value.value) narrow value }

pub returns-else-holds : goal.returns-else-holds
returns-else-holds c =
    let f = c.args.shape in
    let narrow : f.width ≤ 128 = narrow_form f.width f.signed (subst (λ (g : Form). IsForm g.width g.signed) c.shape.view_is c.shape.invariant) in
    let value = in_shape-other f (integer_of c.args.text.now) c.in_ok-value.value c.in_ok-value.ensures (sym c.holds.ensures ∙ c.if-holds.false) in
    record { value = value; numeral = numeral_in f c.args.text.now None narrow value }
