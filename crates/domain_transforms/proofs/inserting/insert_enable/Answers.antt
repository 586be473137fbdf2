use Rattle.std.proofs.Common.{◌∙◌, ap}
use Rattle.domain_transforms.specs.Enabling.{enabled}
use Rattle.domain_transforms.proofs.Outcomes.{given, limit, room}
use Rattle.domain_transforms.proofs.inserting.insert_enable.Goals as goal

pub returns-clause-made : goal.returns-clause-made
returns-clause-made c =
    let q = c.args.pool.now in
    let f = c.args.f in
    given c.within.result (enabled c.args.controls.now q f) c.in_ok-made.made c.changed.new.pool (c.in_ok-made.ensures.made ∙ ap (λ cs. enabled cs q f) c.in_ok-copied_controls.ensures) c.within.ensures.ok

pub returns-clause-room : goal.returns-clause-room
returns-clause-room c =
    let q = c.args.pool.now in
    let f = c.args.f in
    room c.within.result (enabled c.args.controls.now q f) c.in_ok-made.made c.changed.new.pool (c.in_ok-made.ensures.made ∙ ap (λ cs. enabled cs q f) c.in_ok-copied_controls.ensures) c.within.ensures.ok

pub returns-clause-limit : goal.returns-clause-limit
returns-clause-limit c =
    let q = c.args.pool.now in
    let f = c.args.f in
    limit c.within.result (enabled c.args.controls.now q f) c.in_ok-made.made c.changed.new.pool (c.in_ok-made.ensures.made ∙ ap (λ cs. enabled cs q f) c.in_ok-copied_controls.ensures) c.within.ensures.err
