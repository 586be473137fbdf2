use Rattle.std.proofs.Common.{ap, lit<, true, sym}
use Rattle.std.specs.Prelude.{None}
use Rattle.std.proofs.lemmas.Str.Pattern.{strip_prefix_char}
use Rattle.layout_acts.specs.Enumerations.{behind_names}
use Rattle.layout_acts.proofs.EnumerationLaws.{value_other}
use Rattle.layout_acts.proofs.enumerations.push_value.Goals as goal

pub returns : goal.returns
returns c = λ rest.
    ap (behind_names true c.args.members.now)
    (sym (value_other c.args.name.now c.args.number rest (strip_prefix_char 46 c.args.name.now None c.in_default.ensures.cases (lit< tt))))
