use Rattle.std.proofs.Common.{◌≡◌, length, Some, slice_get, refl, sym, subst}
use Rattle.std.proofs.lemmas.Option.{slice_get_read}
use Rattle.design_ir.specs.Named.{AllBelow}
use Rattle.design_ir.specs.Guards.{block_exprs}
use Rattle.fragment_walks.proofs.Lists.{all_at}
use Rattle.clock_domains.specs.Resolvable.{IsSideOf}
use Rattle.clock_domains.proofs.DriverLaws.{plain_below}
use Rattle.clock_domains.proofs.drivers.first_stop.Goals as goal

pub block_stop-requires-clause-inputs : goal.block_stop-requires-clause-inputs
block_stop-requires-clause-inputs c =
    let ps = c.args.processes.now in
    let i = c.loop-number.number in
    let p = c.index-processes-number.result in
    let at : slice_get ps i ≡ Some p = slice_get_read ps (length ps) i p refl c.loop-number-test.true c.index-processes-number.is in
    subst (λ n. AllBelow n (block_exprs p.body)) (sym c.requires.inputs) (plain_below c.args.pool.now (block_exprs p.body) (all_at (IsSideOf c.args.pool.now) ps i p c.requires.sides at).expressions)

pub block_stop-requires-clause-leasts : goal.block_stop-requires-clause-leasts
block_stop-requires-clause-leasts c =
    let ps = c.args.processes.now in
    let i = c.loop-number.number in
    let p = c.index-processes-number.result in
    let at : slice_get ps i ≡ Some p = slice_get_read ps (length ps) i p refl c.loop-number-test.true c.index-processes-number.is in
    subst (λ n. AllBelow n (block_exprs p.body)) (sym c.requires.leasts) (plain_below c.args.pool.now (block_exprs p.body) (all_at (IsSideOf c.args.pool.now) ps i p c.requires.sides at).expressions)
