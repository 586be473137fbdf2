use Rattle.std.proofs.Common.{◌≡◌, ◌∙◌, sym, ap, subst, arith, length, length-set, refl, Some, slice_get}
use Rattle.std.specs.Vec.{vec_capacity}
use Rattle.design_ir.specs.Named.{named}
use Rattle.design_ir.proofs.Elements.{some_is}
use Rattle.delta_sim.specs.declared.evaluation.Visit.{Visit}
use Rattle.delta_sim.specs.Evaluations.{Evaluating, IsFinding, work}
use Rattle.sim_plans.specs.Marks.{AreMarked}
use Rattle.delta_sim.proofs.Finding.{evaluating, first_visit, popped, pushed, last, within, names_inside, more_few, entered, entered_less, settled, settled_less, marked_all}
use Rattle.delta_sim.proofs.evaluation.Evaluation.find.Goals as goal

pub at-x-requires : goal.at-x-requires
at-x-requires c =
    let p = c.args.design.now.pool in
    let i = c.self-in-loop-at.inside in
    let at = c.in-Some.at in
    let left = c.pop.new.self.items in
    let v = evaluating i.numbers.items i.found left (vec_capacity i.path) in
    let h = popped (IsFinding p c.args.env.now c.args.e.0) i.numbers.items i.found i.path.items left (vec_capacity i.path) at c.loop-at.self c.self-in-loop-at.view_is c.in-Some.ensures.items c.loop-at.invariant.finding in
    (last p c.args.env.now c.args.e.0 c.count.ensures.rules v at h).0.there

pub first_missing-names-requires-clause-below : goal.first_missing-names-requires-clause-below
first_missing-names-requires-clause-below c =
    let p = c.args.design.now.pool in
    let i = c.self-in-loop-at.inside in
    let at = c.in-Some.at in
    let left = c.pop.new.self.items in
    let v = evaluating i.numbers.items i.found left (vec_capacity i.path) in
    let h = popped (IsFinding p c.args.env.now c.args.e.0) i.numbers.items i.found i.path.items left (vec_capacity i.path) at c.loop-at.self c.self-in-loop-at.view_is c.in-Some.ensures.items c.loop-at.invariant.finding in
    names_inside p c.args.env.now c.args.e.0 c.count.ensures.rules v at h c.at-x.result.now c.at-x.ensures

pub first_missing-names-requires-clause-read : goal.first_missing-names-requires-clause-read
first_missing-names-requires-clause-read c =
    let p = c.args.design.now.pool in
    let i = c.self-in-loop-at.inside in
    let at = c.in-Some.at in
    let left = c.pop.new.self.items in
    let v = evaluating i.numbers.items i.found left (vec_capacity i.path) in
    let h = popped (IsFinding p c.args.env.now c.args.e.0) i.numbers.items i.found i.path.items left (vec_capacity i.path) at c.loop-at.self c.self-in-loop-at.view_is c.in-Some.ensures.items c.loop-at.invariant.finding in
    (last p c.args.env.now c.args.e.0 c.count.ensures.rules v at h).0.read c.at-x.result.now c.at-x.ensures

pub push_reserved-requires-in-Some-name_at-2 : goal.push_reserved-requires-in-Some-name_at-2
push_reserved-requires-in-Some-name_at-2 c =
    let p = c.args.design.now.pool in
    let env = c.args.env.now in
    let root = c.args.e.0 in
    let rules = c.count.ensures.rules in
    let i = c.self-in-loop-at.inside in
    let at = c.in-Some.at in
    let left = c.pop.new.self.items in
    let v = evaluating i.numbers.items i.found left (vec_capacity i.path) in
    let h = popped (IsFinding p env root) i.numbers.items i.found i.path.items left (vec_capacity i.path) at c.loop-at.self c.self-in-loop-at.view_is c.in-Some.ensures.items c.loop-at.invariant.finding in
    let x = c.at-x.result.now in
    let names = c.first_missing-names.result in
    let e = c.in-Some-name_at.name in
    let there : slice_get (named x) names ≡ Some e = sym c.name_at.ensures.name ∙ c.in-Some-name_at.is in
    let read = c.first_missing-names.ensures.read in
    let missing = c.first_missing-names.ensures.missing e there in
    let enough = more_few p env root rules v at h x c.at-x.ensures names read e there missing in
    omega (arith, enough, h.has_room.path, c.pop.new.self.ok.0, c.push_reserved-in-Some-name_at.ensures.len, c.push_reserved-in-Some-name_at.ensures.capacity, c.pop.ensures.capacity)

pub loop-at-smaller-in-Some-name_at : goal.loop-at-smaller-in-Some-name_at
loop-at-smaller-in-Some-name_at c =
    let p = c.args.design.now.pool in
    let env = c.args.env.now in
    let root = c.args.e.0 in
    let rules = c.count.ensures.rules in
    let i = c.self-in-loop-at.inside in
    let at = c.in-Some.at in
    let left = c.pop.new.self.items in
    let v = evaluating i.numbers.items i.found left (vec_capacity i.path) in
    let h = popped (IsFinding p env root) i.numbers.items i.found i.path.items left (vec_capacity i.path) at c.loop-at.self c.self-in-loop-at.view_is c.in-Some.ensures.items c.loop-at.invariant.finding in
    let x = c.at-x.result.now in
    let names = c.first_missing-names.result in
    let e = c.in-Some-name_at.name in
    let there : slice_get (named x) names ≡ Some e = sym c.name_at.ensures.name ∙ c.in-Some-name_at.is in
    let read = c.first_missing-names.ensures.read in
    let missing = c.first_missing-names.ensures.missing e there in
    let again : Visit = record { expr = at.expr; names = names } in
    let room = c.push_reserved-in-Some-name_at-2.ensures.capacity ∙ c.push_reserved-in-Some-name_at.ensures.capacity ∙ c.pop.ensures.capacity in
    let is = pushed i.numbers.items i.found left c.push_reserved-in-Some-name_at.new.self.items c.push_reserved-in-Some-name_at-2.new.self.items again (first_visit e) (vec_capacity i.path) (vec_capacity c.push_reserved-in-Some-name_at-2.new.self) c.push_reserved-in-Some-name_at.ensures.items c.push_reserved-in-Some-name_at-2.ensures.items room in
    let less = entered_less p env root rules v at h x c.at-x.ensures names read e there missing in
    let was = popped (λ (s : Evaluating). work s ≡ work c.loop-at.self) i.numbers.items i.found i.path.items left (vec_capacity i.path) at c.loop-at.self c.self-in-loop-at.view_is c.in-Some.ensures.items refl in
    omega (arith, less, was, ap work is)

pub loop-at-preserved-in-Some-name_at : goal.loop-at-preserved-in-Some-name_at
loop-at-preserved-in-Some-name_at c =
    let p = c.args.design.now.pool in
    let env = c.args.env.now in
    let root = c.args.e.0 in
    let rules = c.count.ensures.rules in
    let i = c.self-in-loop-at.inside in
    let at = c.in-Some.at in
    let left = c.pop.new.self.items in
    let v = evaluating i.numbers.items i.found left (vec_capacity i.path) in
    let h = popped (IsFinding p env root) i.numbers.items i.found i.path.items left (vec_capacity i.path) at c.loop-at.self c.self-in-loop-at.view_is c.in-Some.ensures.items c.loop-at.invariant.finding in
    let x = c.at-x.result.now in
    let names = c.first_missing-names.result in
    let e = c.in-Some-name_at.name in
    let there : slice_get (named x) names ≡ Some e = sym c.name_at.ensures.name ∙ c.in-Some-name_at.is in
    let read = c.first_missing-names.ensures.read in
    let missing = c.first_missing-names.ensures.missing e there in
    let again : Visit = record { expr = at.expr; names = names } in
    let room = c.push_reserved-in-Some-name_at-2.ensures.capacity ∙ c.push_reserved-in-Some-name_at.ensures.capacity ∙ c.pop.ensures.capacity in
    let is = pushed i.numbers.items i.found left c.push_reserved-in-Some-name_at.new.self.items c.push_reserved-in-Some-name_at-2.new.self.items again (first_visit e) (vec_capacity i.path) (vec_capacity c.push_reserved-in-Some-name_at-2.new.self) c.push_reserved-in-Some-name_at.ensures.items c.push_reserved-in-Some-name_at-2.ensures.items room in
    record {
      finding = subst (IsFinding p env root) (sym is) (entered p env root rules v at h x c.at-x.ensures names read e there missing);
      bound = ap (λ (s : Evaluating). length s.numbers) c.self-in-loop-at.view_is ∙ c.loop-at.invariant.bound;
    }

pub settle-requires-clause-room : goal.settle-requires-clause-room
settle-requires-clause-room c =
    let p = c.args.design.now.pool in
    let env = c.args.env.now in
    let root = c.args.e.0 in
    let rules = c.count.ensures.rules in
    let i = c.self-in-loop-at.inside in
    let at = c.in-Some.at in
    let left = c.pop.new.self.items in
    let v = evaluating i.numbers.items i.found left (vec_capacity i.path) in
    let h = popped (IsFinding p env root) i.numbers.items i.found i.path.items left (vec_capacity i.path) at c.loop-at.self c.self-in-loop-at.view_is c.in-Some.ensures.items c.loop-at.invariant.finding in
    within p env root rules v at h

pub settle-requires-clause-there : goal.settle-requires-clause-there
settle-requires-clause-there c =
    let p = c.args.design.now.pool in
    let env = c.args.env.now in
    let root = c.args.e.0 in
    let rules = c.count.ensures.rules in
    let i = c.self-in-loop-at.inside in
    let at = c.in-Some.at in
    let left = c.pop.new.self.items in
    let v = evaluating i.numbers.items i.found left (vec_capacity i.path) in
    let h = popped (IsFinding p env root) i.numbers.items i.found i.path.items left (vec_capacity i.path) at c.loop-at.self c.self-in-loop-at.view_is c.in-Some.ensures.items c.loop-at.invariant.finding in
    (last p env root rules v at h).0.there

pub settle-requires-clause-names : goal.settle-requires-clause-names
settle-requires-clause-names c = λ y at_y.
    let x = c.at-x.result.now in
    let names = c.first_missing-names.result in
    let past = sym c.name_at.ensures.name ∙ c.in_default-name_at.is in
    let marks = c.self-in-loop-at.inside.found.marks in
    subst (λ z. AreMarked marks (named z)) (some_is x y (sym c.at-x.ensures ∙ at_y)) (marked_all marks (named x) names past c.first_missing-names.ensures.read)

pub loop-at-smaller : goal.loop-at-smaller
loop-at-smaller c =
    let p = c.args.design.now.pool in
    let env = c.args.env.now in
    let root = c.args.e.0 in
    let rules = c.count.ensures.rules in
    let i = c.self-in-loop-at.inside in
    let at = c.in-Some.at in
    let left = c.pop.new.self.items in
    let v = evaluating i.numbers.items i.found left (vec_capacity i.path) in
    let h = popped (IsFinding p env root) i.numbers.items i.found i.path.items left (vec_capacity i.path) at c.loop-at.self c.self-in-loop-at.view_is c.in-Some.ensures.items c.loop-at.invariant.finding in
    let less = settled_less p env root rules v at h c.settle.new.self c.settle.ensures.numbers c.settle.ensures.marks c.settle.ensures.path (c.settle.ensures.room ∙ c.pop.ensures.capacity) in
    let was = popped (λ (s : Evaluating). work s ≡ work c.loop-at.self) i.numbers.items i.found i.path.items left (vec_capacity i.path) at c.loop-at.self c.self-in-loop-at.view_is c.in-Some.ensures.items refl in
    omega (arith, less, was)

pub loop-at-preserved : goal.loop-at-preserved
loop-at-preserved c =
    let p = c.args.design.now.pool in
    let env = c.args.env.now in
    let root = c.args.e.0 in
    let rules = c.count.ensures.rules in
    let i = c.self-in-loop-at.inside in
    let at = c.in-Some.at in
    let left = c.pop.new.self.items in
    let v = evaluating i.numbers.items i.found left (vec_capacity i.path) in
    let h = popped (IsFinding p env root) i.numbers.items i.found i.path.items left (vec_capacity i.path) at c.loop-at.self c.self-in-loop-at.view_is c.in-Some.ensures.items c.loop-at.invariant.finding in
    record {
      finding = settled p env root rules v at h c.settle.new.self c.settle.ensures.numbers c.settle.ensures.marks c.settle.ensures.path (c.settle.ensures.room ∙ c.pop.ensures.capacity);
      bound = ap length c.settle.ensures.numbers ∙ length-set i.numbers.items at.expr.0 _ ∙ ap (λ (s : Evaluating). length s.numbers) c.self-in-loop-at.view_is ∙ c.loop-at.invariant.bound;
    }
