use Rattle.std.proofs.Common.{◌≡◌, ◌∙◌, sym, ap, subst, arith, false, ◌≤◌, ◌+◌, length, length-drop}
use Rattle.py_lexer.specs.Strings.{closes, part_of, string_from}
use Rattle.py_lexer.specs.Fronts.{IsPartOf}
use Rattle.py_lexer.specs.declared.strings.Part.TheVariants.{Inner}
use Rattle.py_lexer.proofs.StringLaws.{string_inner}
use Rattle.py_lexer.proofs.strings.body_of.Goals as goal

-- the string behind a part is the string from that part on
pub loop-rest-preserved : goal.loop-rest-preserved
loop-rest-preserved c =
    let style = c.args.style in
    let rest = c.loop-rest.rest.now in
    let w = c.in-Inner.width in
    let open' : false ≡ closes style rest = c.if-closes.ensures.value in
    let part : Inner w ≡ part_of style rest = sym c.in-Inner.is ∙ c.in_ok-part_of.ensures.value in
    let within : IsPartOf (Inner w) (length rest) = subst (λ p. IsPartOf p (length rest)) c.in-Inner.is c.in_ok-part_of.ensures.within in
    let room : w ≤ length rest = within.1 in
    let told = string_inner style c.loop-rest.passed w rest open' part within.0 room in
    record {
      told = ap (λ cs. string_from style (c.loop-rest.passed + w) 0 cs) c.after-rest.ensures ∙ (sym told ∙ c.loop-rest.invariant.told);
      split = omega (arith, c.loop-rest.invariant.split, ap length c.after-rest.ensures, length-drop w rest);
    }
