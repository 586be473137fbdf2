use Rattle.std.proofs.Common.{refl}
use Rattle.elab_store.proofs.WalkLaws.{walk_begun, walk_on, walk_less}
use Rattle.elab_store.proofs.components.Components.leaves.Goals as goal

pub loop-rest-init : goal.loop-rest-init
loop-rest-init c =
    walk_begun c.args.self.now.signatures c.new-found.result c.put.new.walk.items c.new-walk.result.items _ c.args.prefix.now c.new-found.ensures c.new-walk.ensures.items refl c.in_ok-copied.ensures c.in_ok-put.ensures.found

pub loop-rest-smaller : goal.loop-rest-smaller
loop-rest-smaller c = walk_less c.args.self.now.signatures c.loop-rest.walk.items c.pop.new.self.items c.step.new.walk.items c.in-Some.rest c.in-Some.ensures.items c.in_ok-step.ensures.steps

pub loop-rest-preserved : goal.loop-rest-preserved
loop-rest-preserved c =
    walk_on c.args.self.now.signatures c.loop-rest.walk.items c.pop.new.self.items c.step.new.walk.items c.in-Some.rest c.loop-rest.found c.step.new.found _ c.in-Some.ensures.items c.in_ok-step.ensures.found c.loop-rest.invariant
