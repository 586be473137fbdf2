use Rattle.std.proofs.Common.{◌≡◌, ◌∙◌, ◌+◌, ◌++◌, ◌∷◌, [], List, false, length, replicate, refl, sym, subst, arith}
use Rattle.std.specs.List.{Contains}
use Rattle.design_ir.specs.declared.ids.ExprId.{ExprId}
use Rattle.module_dsl.specs.Walks.{numbers, parts_of, IsReached, IsWalking}
use Rattle.module_dsl.proofs.Lists.{contains-first, contains-right, map-push, below_has, below_from}
use Rattle.module_dsl.proofs.TargetWalks.{walk_begins, walk_turn, walk_stops, walk_ends, waits_below, parts_there}
use Rattle.module_dsl.proofs.target.has_targets.Goals as goal

empty : (ws : List ExprId) → length ws ≡ 0 → ws ≡ []
empty [] h = refl
empty (w ∷ ws) h = absurd (omega (arith, h))

pub loop-e-init : goal.loop-e-init
loop-e-init c =
    let count = c.args.root.0 + 1 in
    let fresh : c.in_ok-vec.field-0.items ≡ replicate count false = c.in_ok-vec.ensures.items_if_clones_equal (λ y h. h) in
    let begun = subst (λ ms. IsReached (c.args.root.0 ∷ []) ms c.new.result.items c.reach.new.self.marks.items c.reach.new.self.waiting.items) fresh c.in_ok-reach.ensures in
    let begun' = subst (λ ws. IsReached (c.args.root.0 ∷ []) (replicate count false) ws c.reach.new.self.marks.items c.reach.new.self.waiting.items) c.new.ensures.items begun in
    walk_begins c.args.pool.now c.args.root c.reach.new.self.marks.items c.reach.new.self.waiting.items count (omega arith) begun'

-- what was taken waited
pub at-requires : goal.at-requires
at-requires c =
    let waiting = c.loop-e.walk.waiting.items in
    let split : waiting ≡ c.pop.new.self.items ++ c.in-Some.e ∷ [] = c.in-Some.ensures.items in
    let mine : Contains (numbers waiting) c.in-Some.e.0 = subst (λ ws. Contains (numbers ws) c.in-Some.e.0) (sym split) (subst (λ xs. Contains xs c.in-Some.e.0) (sym (map-push (λ (y : ExprId). y.0) c.pop.new.self.items c.in-Some.e)) (contains-right (numbers c.pop.new.self.items) (c.in-Some.e.0 ∷ []) c.in-Some.e.0 (contains-first c.in-Some.e.0 []))) in
    omega (arith, waits_below c.args.pool.now c.args.root.0 c.loop-e.walk.marks.items waiting c.in-Some.e.0 c.loop-e.invariant mine, c.requires)

pub look-requires : goal.look-requires
look-requires c =
    let waiting = c.loop-e.walk.waiting.items in
    let split : waiting ≡ c.pop.new.self.items ++ c.in-Some.e ∷ [] = c.in-Some.ensures.items in
    let mine : Contains (numbers waiting) c.in-Some.e.0 = subst (λ ws. Contains (numbers ws) c.in-Some.e.0) (sym split) (subst (λ xs. Contains xs c.in-Some.e.0) (sym (map-push (λ (y : ExprId). y.0) c.pop.new.self.items c.in-Some.e)) (contains-right (numbers c.pop.new.self.items) (c.in-Some.e.0 ∷ []) c.in-Some.e.0 (contains-first c.in-Some.e.0 []))) in
    let low = waits_below c.args.pool.now c.args.root.0 c.loop-e.walk.marks.items waiting c.in-Some.e.0 c.loop-e.invariant mine in
    below_from (length c.loop-e.walk.marks.items) (parts_of c.at.result.now) (λ k h. omega (arith, below_has c.in-Some.e.0 (parts_of c.at.result.now) k (parts_there c.args.pool.now c.in-Some.e.0 c.at.result.now c.count.ensures.rules c.at.ensures) h, low, c.loop-e.invariant.size))

pub returns-then-not-branch : goal.returns-then-not-branch
returns-then-not-branch c =
    let split : c.loop-e.walk.waiting.items ≡ c.pop.new.self.items ++ c.in-Some.e ∷ [] = c.in-Some.ensures.items in
    let walking = subst (λ ws. IsWalking c.args.pool.now c.args.root.0 c.loop-e.walk.marks.items ws) split c.loop-e.invariant in
    walk_stops c.args.pool.now c.args.root.0 c.loop-e.walk.marks.items c.pop.new.self.items c.in-Some.e c.at.result.now c.count.ensures.rules c.at.ensures (sym c.in_ok-look.ensures.may ∙ c.if-not-branch.true) walking

pub loop-e-preserved : goal.loop-e-preserved
loop-e-preserved c =
    let split : c.loop-e.walk.waiting.items ≡ c.pop.new.self.items ++ c.in-Some.e ∷ [] = c.in-Some.ensures.items in
    let walking = subst (λ ws. IsWalking c.args.pool.now c.args.root.0 c.loop-e.walk.marks.items ws) split c.loop-e.invariant in
    walk_turn c.args.pool.now c.args.root.0 c.loop-e.walk.marks.items c.look.new.self.marks.items c.pop.new.self.items c.look.new.self.waiting.items c.in-Some.e c.at.result.now c.count.ensures.rules c.at.ensures (sym c.in_ok-look.ensures.may ∙ c.if-not-branch.false) walking c.in_ok-look.ensures.parts

pub returns : goal.returns
returns c =
    let h = c.in_default.ensures.cases in
    let none : c.loop-e.walk.waiting.items ≡ [] = empty c.loop-e.walk.waiting.items (omega (arith, c.loop-e.walk.waiting.ok.0, h.0)) in
    walk_ends c.args.pool.now c.args.root.0 c.loop-e.walk.marks.items c.count.ensures.rules (subst (λ ws. IsWalking c.args.pool.now c.args.root.0 c.loop-e.walk.marks.items ws) none c.loop-e.invariant)
