use Rattle.std.proofs.Common.{◌≡◌, ◌-◌, min, length, arith, pos, slice_index_or, sym, ◌∙◌, unsigned_abs}
use Rattle.sim_plans.proofs.Items.{below_at, picked_is}
use Rattle.sim_plans.proofs.expressions.picked.Goals as goal

pub at-requires : goal.at-requires
at-requires c = below_at _ c.args.items.now _ _ c.requires.there c.get.ensures.lookup

pub returns : goal.returns
returns c =
    let place : c.min-place.result ≡ min (unsigned_abs c.args.index) (length c.args.items.now - 1) = omega (arith, c.len-last.ensures, c.size_of.ensures) in
    c.at.ensures ∙ sym (picked_is (λ k. slice_index_or c.args.nums.now k (pos 0)) (pos 0) c.args.items.now (unsigned_abs c.args.index) _ c.get.result.now place c.get.ensures.lookup)
