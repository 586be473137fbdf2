use Rattle.std.proofs.Common.{◌++◌, ap, sym, ◌∙◌}
use Rattle.std.proofs.lemmas.List.{append-nil}
use Rattle.play_text.proofs.StripeLaws.{still_text, still_moved}
use Rattle.play_text.proofs.trace_stripes.push_stripe.Goals as goal

pub returns-then-not-x-clause-text : goal.returns-then-not-x-clause-text
returns-then-not-x-clause-text c =
    sym (ap (λ t. c.args.text.now.items ++ t) (still_text c.args.now.now c.args.x.now.lanes.items (c.requires c.if-not-x.true)) ∙ append-nil c.args.text.now.items)

pub returns-then-not-x-clause-lanes : goal.returns-then-not-x-clause-lanes
returns-then-not-x-clause-lanes c = sym (still_moved c.args.now.now c.args.x.now.lanes.items (c.requires c.if-not-x.true))
