use Rattle.std.proofs.Common.{◌≡◌, refl, ◌<◌, ◌∙◌, ◌++◌, ◌∷◌, [], ap, arith, length, get_or, length-set}
use Rattle.std.specs.List.{filter, range_with_len}
use Rattle.std.specs.Prelude.{◌==◌}
use Rattle.sim_plans.specs.Groups.{label_of}
use Rattle.sim_plans.proofs.Grouping.{gather_first, gather_turn}
use Rattle.sim_plans.proofs.Turns.{any_default}
use Rattle.sim_plans.proofs.group.gather.Goals as goal

pub loop-i-init : goal.loop-i-init
loop-i-init c =
    let first = gather_first c.args.labels.now c.in_ok-groups.groups.items (length c.args.labels.now) refl c.in_ok-groups.ensures in
    record { count = first.0; each = first.1 }

pub loop-i-preserved : goal.loop-i-preserved
loop-i-preserved c =
    let labels = c.args.labels.now in
    let i = c.loop-i.i in
    let groups = c.loop-i.groups.items in
    let g = get_or labels i 0 in
    let there : g < length groups = omega (arith, c.requires.below i c.loop-i-test.true, c.loop-i.invariant.count) in
    let one : c.push.new.self ≡ get_or groups g [] ++ i ∷ [] = c.in_ok-push.ensures.ok ∙ ap (λ l. l ++ i ∷ []) (c.index_mut.ensures.value ∙ any_default groups g _ [] there) in
    record {
      count = length-set groups g c.push.new.self ∙ c.loop-i.invariant.count;
      each = gather_turn labels i groups c.push.new.self there one c.loop-i.invariant.each;
    }

pub returns : goal.returns
returns c = record {
  labels = c.args.labels.now;
  are_labels = c.requires;
  are_members = record {
    count = c.loop-i.invariant.count;
    each = λ g h. c.loop-i.invariant.each g h ∙ ap (λ n. filter (λ j. label_of c.args.labels.now j == g) (range_with_len 0 n)) (omega (arith, c.loop-i-test.false, c.loop-i.auto.i-end));
  };
}
