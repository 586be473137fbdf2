use Rattle.std.proofs.Common.{◌≡◌, ◌∙◌, ◌<◌, ℕ, length, sym, ap, subst}
use Rattle.fragment_walks.specs.Names.{with_name}
use Rattle.fragment_walks.proofs.ResetNames.{with_none, with_some, with_zero, with-length}
use Rattle.fragment_walks.proofs.names.add_resets.Goals as goal
use Rattle.fragment_walks.proofs.names.add_resets.Goals.{in-Some+in_ok-add_reset, in_default}

pub loop-k-init : goal.loop-k-init
loop-k-init c = sym (with_zero c.args.pool.now c.args.holders.now 0 c.args.names.now.items)

pub add_reset-requires : goal.add_reset-requires
add_reset-requires c =
    let number = c.in-Some.number in
    let size : length c.loop-k.names.items ≡ length c.args.names.now.items = ap length c.loop-k.invariant ∙ with-length c.args.pool.now c.args.holders.now c.loop-k.k 0 c.args.names.now.items in
    subst (λ (n : ℕ). number < n) (sym size) (c.requires.there c.loop-k.k number c.in-Some.is)

pub loop-k-preserved : goal.loop-k-preserved
loop-k-preserved c =
    let q = c.args.pool.now in
    let holders = c.args.holders.now in
    let k = c.loop-k.k in
    let names = c.args.names.now.items in
    elim c.match-holders-k.branch [
      | in-Some+in_ok-add_reset w ↦
          let n = w.in-Some.number in
          let e = w.at.result.now in
          let low : n < length names = c.requires.there k n w.in-Some.is in
          ap (λ x. x.items) w.names-is
          ∙ w.in_ok-add_reset.ensures
          ∙ ap (with_name n e) c.loop-k.invariant
          ∙ sym (with_some q holders k n e names w.at.ensures w.in-Some.is low)
      | in_default w ↦ ap (λ x. x.items) w.names-is ∙ c.loop-k.invariant ∙ sym (with_none q holders k 0 names w.in_default.is)
    ]
