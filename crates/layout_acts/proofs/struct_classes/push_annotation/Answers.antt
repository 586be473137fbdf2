use Rattle.std.proofs.Common.{ap, lit<, true, sym}
use Rattle.std.specs.Prelude.{None}
use Rattle.std.proofs.lemmas.Str.Pattern.{strip_prefix_char}
use Rattle.layout_acts.specs.StructClasses.{behind_members}
use Rattle.layout_acts.proofs.StructLaws.{no_annotation}
use Rattle.layout_acts.proofs.struct_classes.push_annotation.Goals as goal

pub returns : goal.returns
returns c = λ rest.
    sym (ap (behind_members true c.args.members.now)
    (no_annotation c.args.name.now c.args.val rest (strip_prefix_char 58 c.args.name.now None c.in_default.ensures.cases (lit< tt))))
