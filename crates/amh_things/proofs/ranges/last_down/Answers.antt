use Rattle.std.proofs.Common.{◌+◌, ◌%◌, ◌+ℤ◌, ap, ◌∙◌}
use Rattle.amh_things.proofs.RangeLaws.{down_is}
use Rattle.amh_things.proofs.ranges.last_down.Goals as goal

pub returns : goal.returns
returns c =
    let w = c.way_parts-a.result in
    let rest = c.rest_of-rest.ensures.value ∙ ap (λ s. (w.0 + w.1) % s) c.size_of.ensures in
    c.in-Ok.ensures.1 ∙ ap (λ n. c.args.stop +ℤ n) c.of_u128.ensures
    ∙ down_is c.args.start c.args.stop c.args.step w.0 w.1 c.rest_of-rest.result c.requires.before c.requires.down c.way_parts-a.ensures rest
