use Rattle.std.proofs.Common.{◌≡◌, refl, ◌≤◌, ◌∙◌, sym, ap, drop, arith, length, ℕ, get_or}
use Rattle.std.specs.Prelude.{Option, option_and_then}
use Rattle.play_text.specs.ScriptParts.{as_u128}
use Rattle.std.proofs.lemmas.List.{length-drop}
use Rattle.play_text.proofs.ScriptNumberLaws.{digits_from-past, digits_from-end}
use Rattle.play_text.proofs.script_numbers.number_of.Goals as goal

pub returns-in_err-number : goal.returns-in_err-number
returns-in_err-number c =
    let past = digits_from-past c.loop-b.number _ (get_or c.args.text.now c.loop-b.b-index 0) c.loop-b.b-index c.args.text.now c.loop-b-test.true refl refl (sym c.is_ascii_digit.ensures.value ∙ c.if-not-is_ascii_digit.false) (sym c.in_err-number.ensures) in
    c.from_residual.ensures ∙ sym past ∙ ap (λ (o : Option ℕ). option_and_then as_u128 o) c.loop-b.invariant.number

pub returns : goal.returns
returns c =
    let end : length c.args.text.now ≤ c.loop-b.b-index = c.loop-b-test.false in
    let left : length (drop c.loop-b.b-index c.args.text.now) ≡ 0 = omega (arith, length-drop c.loop-b.b-index c.args.text.now) in
    digits_from-end c.loop-b.number (drop c.loop-b.b-index c.args.text.now) left c.loop-b.invariant.fits
    ∙ ap (λ (o : Option ℕ). option_and_then as_u128 o) c.loop-b.invariant.number
