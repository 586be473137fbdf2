use Rattle.std.specs.Prelude.{Bool, [], is_some}
use Rattle.std.proofs.Common.{◌≡◌, subst}
use Rattle.design_ir.specs.Guards.{driven, guarded}
use Rattle.flat_design.specs.declared.processes.FlatBody.{FlatBody}
use Rattle.flat_design.specs.Assigned.{begins, AreAssigned}
use Rattle.flat_design.specs.Flat.{IsFlatBody}
use Rattle.flat_design.specs.Growing.{IsMore}
use Rattle.flat_design.specs.Shown.{SoFar, AreSlots, after}
use Rattle.flat_design.proofs.Answered.{ok_imp, ok_both}
use Rattle.flat_design.proofs.Growing.{more_trans}
use Rattle.flat_design.proofs.ShownBlocks.{slots_grown}
use Rattle.flat_design.proofs.SlottedBodies.{process_begun, slots_ready, slotted_is_flat}
use Rattle.flat_design.proofs.processes.slotted_body.Goals as goal

pub put_block-requires : goal.put_block-requires
put_block-requires c =
    let p = c.args.design.now.pool in
    let ss = driven p c.args.process.now.body in
    let latest = c.in_ok-latest.latest in
    (begins p c.is_some.result ss, [], process_begun c.args.design.now c.args.process.now c.is_some.result latest.pool latest.slots.items c.count.ensures.rules c.requires.process (c.in_ok-latest.ensures.started ss c.in_ok-signals.ensures.driven))

pub assigned-requires : goal.assigned-requires
assigned-requires c =
    let p = c.args.design.now.pool in
    let body = c.args.process.now.body in
    let ss = driven p body in
    let latest = c.in_ok-latest.latest in
    let new = c.put_block.new.latest in
    let t : SoFar = begins p c.is_some.result ss in
    let begun = process_begun c.args.design.now c.args.process.now c.is_some.result latest.pool latest.slots.items c.count.ensures.rules c.requires.process (c.in_ok-latest.ensures.started ss c.in_ok-signals.ensures.driven) in
    slots_ready (after t (guarded [] body)) new.pool new.slots.items c.in_ok-signals.signals c.count.ensures.rules c.in_ok-put_block.ensures.rules (c.in_ok-put_block.ensures.put t [] begun) c.in_ok-signals.ensures.driven c.in_ok-signals.ensures.there

pub returns-clause-more : goal.returns-clause-more
returns-clause-more c =
    let latest = c.in_ok-latest.latest in
    let q = c.put_block.new.latest.pool in
    ok_imp (λ (f : FlatBody). IsMore q f.pool) (λ (f : FlatBody). IsMore c.args.pool f.pool) c.assigned.result
    (λ f more. more_trans c.args.pool latest.pool f.pool c.in_ok-latest.ensures.more (more_trans latest.pool q f.pool c.in_ok-put_block.ensures.more more)) c.assigned.ensures.more

pub returns-clause-flat : goal.returns-clause-flat
returns-clause-flat c =
    let p = c.args.design.now.pool in
    let body = c.args.process.now.body in
    let ss = driven p body in
    let latest = c.in_ok-latest.latest in
    let new = c.put_block.new.latest in
    let slots = new.slots.items in
    let signals = c.in_ok-signals.signals in
    let clocked : Bool = c.is_some.result in
    let t : SoFar = begins p clocked ss in
    let begun = process_begun c.args.design.now c.args.process.now clocked latest.pool latest.slots.items c.count.ensures.rules c.requires.process (c.in_ok-latest.ensures.started ss c.in_ok-signals.ensures.driven) in
    let shown : AreSlots (after t (guarded [] body)) new.pool slots = c.in_ok-put_block.ensures.put t [] begun in
    let same : clocked ≡ is_some c.args.process.now.domain = c.is_some.ensures in
    ok_both (λ (f : FlatBody). IsMore new.pool f.pool) (λ (f : FlatBody). AreAssigned f.pool slots signals f.body) (λ (f : FlatBody). IsFlatBody p f.pool (is_some c.args.process.now.domain) body f.body) c.assigned.result
    (λ f more assigned.
    subst (λ b. IsFlatBody p f.pool b body f.body) same
    (slotted_is_flat p f.pool c.count.ensures.rules clocked body f.body signals slots (slots_grown (after t (guarded [] body)) new.pool f.pool slots c.in_ok-put_block.ensures.rules more shown) c.requires.process.targets c.in_ok-signals.ensures.driven c.in_ok-signals.ensures.there
    assigned))
    c.assigned.ensures.more c.assigned.ensures.assigned
