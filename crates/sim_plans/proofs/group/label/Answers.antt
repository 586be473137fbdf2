use Rattle.std.proofs.Common.{◌∙◌, length}
use Rattle.sim_plans.proofs.Forests.{own_forest, own_long}
use Rattle.sim_plans.proofs.Grouping.{labelled}
use Rattle.sim_plans.proofs.group.label.Goals as goal

pub join_all-requires-clause-count : goal.join_all-requires-clause-count
join_all-requires-clause-count c = own_long (length c.args.drives.now) c.args.labels.now c.requires.own

pub join_all-requires-clause-forest : goal.join_all-requires-clause-forest
join_all-requires-clause-forest c = own_forest (length c.args.drives.now) c.args.labels.now c.requires.own

pub returns : goal.returns
returns c =
    labelled c.args.drives.now c.args.noted.now c.join_all.new.parents c.flatten.new.parents (c.flatten.ensures.count ∙ c.join_all.ensures.count) c.flatten.ensures.forest c.flatten.ensures.keeps c.flatten.ensures.flat c.join_all.ensures.joined
