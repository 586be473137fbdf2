use Rattle.std.proofs.Common.{◌≡◌, ◌∙◌, sym, ap, subst, arith, length}
use Rattle.sim_plans.specs.Groups.{AreLabels}
use Rattle.sim_plans.proofs.Forests.{own_long}
use Rattle.sim_plans.proofs.Grouping.{front_taken}
use Rattle.sim_plans.proofs.group.groups.Goals as goal

pub gather-requires : goal.gather-requires
gather-requires c =
    let drives = c.args.drives.now in
    let same : c.in_ok-labels.labels.len ≡ length c.label.new.labels = omega (arith, c.deref_mut.ensures.len, ap length c.deref_mut.ensures.value, own_long (length drives) c.in_ok-labels.labels.items c.in_ok-labels.ensures, c.label.ensures.count) in
    subst (AreLabels drives) (sym (c.as_slice.ensures.value ∙ front_taken c.in_ok-labels.labels.len c.label.new.labels _ same)) c.label.ensures
