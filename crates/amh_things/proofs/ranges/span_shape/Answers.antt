use Rattle.std.proofs.Common.{◌∷◌, [], ap, sym, refl, ◌∙◌}
use Rattle.amh_things.specs.Ranges.{form_for_all, form_within}
use Rattle.amh_things.proofs.RangeLaws.{ends_decide, none_decide, some_counted, none_counted}
use Rattle.amh_things.proofs.ranges.span_shape.Goals as goal

pub returns-then-comes_before : goal.returns-then-comes_before
returns-then-comes_before c =
    let some = some_counted c.args.start c.args.stop c.args.step (sym c.comes_before.ensures ∙ c.if-comes_before.true) in
    c.ends_shape.ensures
    ∙ ap (λ n. form_within (form_for_all (c.args.start ∷ n ∷ []))) c.last_number.ensures
    ∙ ap form_within (sym (ends_decide c.args.start c.args.stop c.args.step _ refl some))

pub returns-else-comes_before : goal.returns-else-comes_before
returns-else-comes_before c =
    let none = none_counted c.args.start c.args.stop c.args.step (sym c.comes_before.ensures ∙ c.if-comes_before.false) in
    ap form_within (sym (none_decide c.args.start c.args.stop c.args.step none))
