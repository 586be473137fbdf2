use Rattle.std.proofs.Common.{◌≡◌, ◌+◌, ◌<◌, true, ◌∙◌, ◌∷◌, ◌++◌, [], refl, ap, sym, subst, arith, length, take, get_or, Vec, Global, ℕ}
use Rattle.design_ir.specs.Circuits.{is_among}
use Rattle.design_ir.specs.Guards.{block_exprs}
use Rattle.design_ir.specs.Trees.{statements}
use Rattle.sim_plans.specs.Groups.{AreGroups, AreOthers, IsApart}
use Rattle.sim_plans.specs.Reading.{AreBelow}
use Rattle.sim_plans.specs.Tables.{ArePartial, AreTables}
use Rattle.sim_plans.proofs.CompiledTasks.{expressions, drives_many, drives_are, drives_below}
use Rattle.sim_plans.proofs.Grouping.{front_taken, taken_all}
use Rattle.sim_plans.proofs.GroupTables.{joined, joined_next, group_apart, group_others, group_all}
use Rattle.sim_plans.proofs.PlanTables.{on_ok, if_ok, partial_first, partial_last}
use Rattle.sim_plans.proofs.Turns.{any_default}
use Rattle.sim_plans.proofs.tables.Tables.add_comb.Goals as goal

pub driven_each-requires : goal.driven_each-requires
driven_each-requires c =
    let there = expressions c.args.design.now c.count.ensures.rules c.processes.ensures.rules c.args.k c.args.p.now c.requires.there in
    subst (λ n. AreBelow n (block_exprs c.args.p.now.body)) (sym c.requires.targets.count) there

pub groups-requires : goal.groups-requires
groups-requires c =
    let d = c.args.design.now in
    let drives = c.as_slice.result.now in
    let are = c.as_slice.ensures.value ∙ c.in_ok-drives.ensures in
    record {
      below = drives_below d c.count.ensures.rules c.processes.ensures.rules c.args.k c.args.p.now c.requires.there c.args.targets.now c.requires.targets drives are (length c.deref_mut.result.now) (ap length c.deref_mut.ensures.value ∙ c.requires.room.long);
    }

pub loop-group-init : goal.loop-group-init
loop-group-init c =
    let t = c.args.self.now in
    let same : t.noted.len ≡ length c.groups.new.noted = omega (arith, c.deref_mut.ensures.len, c.in_ok-groups.ensures.count) in
    record {
      clocked = refl;
      noted = ap length (front_taken t.noted.len c.groups.new.noted _ same) ∙ c.in_ok-groups.ensures.count ∙ ap length c.deref_mut.ensures.value ∙ c.requires.room.long;
      marks = c.requires.room.unmarked;
      partial = partial_first c.args.design.now c.processes.ensures.rules c.args.k c.args.p.now c.requires.there t.clocked t.tasks t.readers.items t.processes.items c.requires.earlier;
    }

pub add_group-requires-clause-apart : goal.add_group-requires-clause-apart
add_group-requires-clause-apart c =
    let d = c.args.design.now in
    let p = c.args.p.now in
    let drives = c.as_slice.result.now in
    let are = c.as_slice.ensures.value ∙ c.in_ok-drives.ensures in
    let many = drives_many d c.count.ensures.rules c.processes.ensures.rules c.args.k p c.requires.there c.args.targets.now c.requires.targets drives are in
    let is = drives_are d c.count.ensures.rules c.processes.ensures.rules c.args.k p c.requires.there c.args.targets.now c.requires.targets drives are in
    let gs = c.as_slice-group-items.result.now in
    let of = subst (AreGroups drives) (sym c.as_slice-group-items.ensures.value) c.in_ok-groups.ensures.groups in
    let i = c.loop-group.group-index in
    let at : c.as_slice-in-loop-group.result.now ≡ get_or gs i [] = c.as_slice-in-loop-group.ensures ∙ c.group-item.is ∙ any_default gs i c.group-item.result [] c.loop-group-test.true in
    subst (IsApart d.pool p.body) (sym at) (group_apart d.pool p.body drives many is gs of i c.loop-group-test.true)

pub loop-group-preserved : goal.loop-group-preserved
loop-group-preserved c =
    let d = c.args.design.now in
    let p = c.args.p.now in
    let drives = c.as_slice.result.now in
    let are = c.as_slice.ensures.value ∙ c.in_ok-drives.ensures in
    let many = drives_many d c.count.ensures.rules c.processes.ensures.rules c.args.k p c.requires.there c.args.targets.now c.requires.targets drives are in
    let is = drives_are d c.count.ensures.rules c.processes.ensures.rules c.args.k p c.requires.there c.args.targets.now c.requires.targets drives are in
    let gs = c.as_slice-group-items.result.now in
    let of = subst (AreGroups drives) (sym c.as_slice-group-items.ensures.value) c.in_ok-groups.ensures.groups in
    let i = c.loop-group.group-index in
    let v = c.loop-group.invariant in
    let new = c.add_group.new.self in
    let group = c.as_slice-in-loop-group.result.now in
    let at : group ≡ get_or gs i [] = c.as_slice-in-loop-group.ensures ∙ c.group-item.is ∙ any_default gs i c.group-item.result [] c.loop-group-test.true in
    let own : group ≡ get_or gs i group = at ∙ any_default gs i [] group c.loop-group-test.true in
    let others = subst (AreOthers (joined (take i gs))) (sym at) (group_others d.pool p.body drives many is gs of i c.loop-group-test.true) in
    record {
      clocked = c.in_ok-add_group.ensures.clocked ∙ v.clocked;
      noted = ap (λ (x : Vec ℕ Global). length x.items) c.in_ok-add_group.ensures.noted ∙ v.noted;
      marks = c.in_ok-add_group.ensures.marks;
      partial = subst (λ gone. ArePartial d c.args.k p gone new.tasks new.readers.items new.processes.items) (sym (joined_next gs i group c.loop-group-test.true own)) (c.in_ok-add_group.ensures.tables (joined (take i gs)) v.partial others);
    }

pub returns-clause-tables : goal.returns-clause-tables
returns-clause-tables c =
    let d = c.args.design.now in
    let p = c.args.p.now in
    let drives = c.as_slice.result.now in
    let are = c.as_slice.ensures.value ∙ c.in_ok-drives.ensures in
    let many = drives_many d c.count.ensures.rules c.processes.ensures.rules c.args.k p c.requires.there c.args.targets.now c.requires.targets drives are in
    let is = drives_are d c.count.ensures.rules c.processes.ensures.rules c.args.k p c.requires.there c.args.targets.now c.requires.targets drives are in
    let gs = c.as_slice-group-items.result.now in
    let of = subst (AreGroups drives) (sym c.as_slice-group-items.ensures.value) c.in_ok-groups.ensures.groups in
    let i = c.loop-group.group-index in
    let v = c.loop-group.invariant in
    let t = c.args.self.now in
    let now = c.loop-group.self in
    let all : (j : ℕ) → j < length (statements p.body) → is_among (joined (take i gs)) j ≡ true = λ j lt. ap (λ xs. is_among (joined xs) j) (taken_all gs i c.loop-group-test.false) ∙ group_all d.pool p.body drives many is gs of j lt in
    let last = partial_last d c.processes.ensures.rules c.args.k p c.requires.there t.clocked t.tasks t.readers.items t.processes.items c.requires.earlier c.requires.comb c.no_task.result (joined (take i gs)) now.tasks now.readers.items now.processes.items all v.partial in
    on_ok c.push.result (λ e. subst (λ list. AreTables d (c.args.k + 1) list now.tasks now.readers.items now.processes.items) (sym (e ∙ ap (λ l. l ++ c.no_task.result ∷ []) v.clocked)) last) c.push.ensures.ok

pub returns-clause-room : goal.returns-clause-room
returns-clause-room c = if_ok c.push.result (record { unmarked = c.loop-group.invariant.marks; long = c.loop-group.invariant.noted })
