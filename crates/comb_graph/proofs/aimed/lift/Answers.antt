use Rattle.std.proofs.Common.{◌≡◌, ℕ, ◌+◌, ◌<◌, true, subst, arith}
use Rattle.design_ir.specs.Targets.{stands_at}
use Rattle.comb_graph.specs.Seen.{spot_of}
use Rattle.comb_graph.proofs.SeenLaws.{stands_fixed}
use Rattle.comb_graph.proofs.aimed.lift.Goals as goal

pub overflow_add-at : goal.overflow_add-at
overflow_add-at c =
    let room = subst (λ at. (k : ℕ) → stands_at (spot_of at) k ≡ true → c.args.by + k < 128) c.in-Fixed.is c.requires in
    let low : c.args.by + c.in-Fixed.k < 128 = room c.in-Fixed.k (stands_fixed c.in-Fixed.k) in
    omega arith

pub up-requires : goal.up-requires
up-requires c = subst (λ at. (k : ℕ) → stands_at (spot_of at) k ≡ true → c.args.by + k < 128) c.in-Chosen.is c.requires
