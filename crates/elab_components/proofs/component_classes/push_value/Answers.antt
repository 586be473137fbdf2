use Rattle.std.proofs.Common.{◌∙◌, ap, lit<}
use Rattle.std.specs.Prelude.{not, None, Some}
use Rattle.std.proofs.lemmas.Str.Pattern.{strip_prefix_char}
use Rattle.elab_components.specs.ComponentClasses.{behind_members}
use Rattle.elab_components.proofs.ComponentLaws.{value_member, value_other}
use Rattle.elab_components.proofs.component_classes.push_value.Goals as goal

pub returns-in-Some : goal.returns-in-Some
returns-in-Some c = λ rest.
    value_member c.args.name.now c.in-Some.name.now c.args.member c.in-Some-member.member c.in_ok-of.field-0 c.args.members.now c.push.new.self rest
    (strip_prefix_char 58 c.args.name.now (Some c.in-Some.name) c.in-Some.ensures.cases (lit< tt)) c.in-Some-member.is c.in_ok-of.ensures c.in_ok-push.ensures.ok

pub returns : goal.returns
returns c = λ rest.
    ap (λ b. behind_members (not b) c.args.members.now rest) c.is_keyword.ensures
    ∙ value_other c.args.name.now c.args.member c.args.members.now rest (strip_prefix_char 58 c.args.name.now None c.in_default.ensures.cases (lit< tt))
