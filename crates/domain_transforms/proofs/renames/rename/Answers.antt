use Rattle.std.proofs.Common.{◌≡◌, ◌∙◌, List, ap, length}
use Rattle.design_ir.specs.declared.ids.ExprId.{ExprId}
use Rattle.design_ir.specs.Pools.{Pooled}
use Rattle.domain_transforms.specs.declared.controls.NamePair.{NamePair}
use Rattle.domain_transforms.specs.Changes.{id_of}
use Rattle.domain_transforms.specs.Making.{fragment_in}
use Rattle.domain_transforms.specs.Placed.{fragment_exprs}
use Rattle.domain_transforms.specs.Renamed.{anew, remade, renamed, renamed_leaf}
use Rattle.domain_transforms.proofs.Outcomes.{given_ample, limit_ample, room_ample}
use Rattle.domain_transforms.proofs.renames.rename.Goals as goal

pub returns-clause-made : goal.returns-clause-made
returns-clause-made c =
    let q = c.args.pool.now in
    let f = c.args.f in
    let names = c.args.names.now in
    let n = length q.exprs in
    let ks = remade names q (fragment_exprs f) in
    let ids = c.in_ok-ids.ids.items in
    let q1 = c.anew_ids.new.pool in
    let is : (c.in_ok-made.made, c.changed.new.pool) ≡ renamed names q f =
    c.in_ok-made.ensures.made ∙ ap (λ (xs : List NamePair). fragment_in (λ p l. (renamed_leaf xs (id_of ids) l, p)) q1 f) c.in_ok-copied_pairs.ensures
    ∙ ap (λ (to : ExprId → ExprId). fragment_in (λ p l. (renamed_leaf names to l, p)) q1 f) c.in_ok-ids.ensures.ids ∙ ap (λ (x : Pooled). fragment_in (λ p l. (renamed_leaf names (anew n ks) l, p)) x f) c.in_ok-ids.ensures.pool in
    given_ample c.with_room.result (renamed names q f) c.in_ok-made.made c.changed.new.pool is c.with_room.ensures.ok

pub returns-clause-room : goal.returns-clause-room
returns-clause-room c =
    let q = c.args.pool.now in
    let f = c.args.f in
    let names = c.args.names.now in
    let n = length q.exprs in
    let ks = remade names q (fragment_exprs f) in
    let ids = c.in_ok-ids.ids.items in
    let q1 = c.anew_ids.new.pool in
    let is : (c.in_ok-made.made, c.changed.new.pool) ≡ renamed names q f =
    c.in_ok-made.ensures.made ∙ ap (λ (xs : List NamePair). fragment_in (λ p l. (renamed_leaf xs (id_of ids) l, p)) q1 f) c.in_ok-copied_pairs.ensures
    ∙ ap (λ (to : ExprId → ExprId). fragment_in (λ p l. (renamed_leaf names to l, p)) q1 f) c.in_ok-ids.ensures.ids ∙ ap (λ (x : Pooled). fragment_in (λ p l. (renamed_leaf names (anew n ks) l, p)) x f) c.in_ok-ids.ensures.pool in
    room_ample c.with_room.result (renamed names q f) c.in_ok-made.made c.changed.new.pool is c.with_room.ensures.ok

pub returns-clause-limit : goal.returns-clause-limit
returns-clause-limit c =
    let q = c.args.pool.now in
    let f = c.args.f in
    let names = c.args.names.now in
    let n = length q.exprs in
    let ks = remade names q (fragment_exprs f) in
    let ids = c.in_ok-ids.ids.items in
    let q1 = c.anew_ids.new.pool in
    let is : (c.in_ok-made.made, c.changed.new.pool) ≡ renamed names q f =
    c.in_ok-made.ensures.made ∙ ap (λ (xs : List NamePair). fragment_in (λ p l. (renamed_leaf xs (id_of ids) l, p)) q1 f) c.in_ok-copied_pairs.ensures
    ∙ ap (λ (to : ExprId → ExprId). fragment_in (λ p l. (renamed_leaf names to l, p)) q1 f) c.in_ok-ids.ensures.ids ∙ ap (λ (x : Pooled). fragment_in (λ p l. (renamed_leaf names (anew n ks) l, p)) x f) c.in_ok-ids.ensures.pool in
    limit_ample c.with_room.result (renamed names q f) c.in_ok-made.made c.changed.new.pool is c.with_room.ensures.err
