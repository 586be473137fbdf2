use Rattle.std.specs.Prelude.{is_some}
use Rattle.std.specs.List.{AllByRecursion}
use Rattle.std.proofs.Common.{◌≡◌, sym, subst}
use Rattle.design_ir.specs.Guards.{block_exprs}
use Rattle.flat_design.specs.Flat.{IsFlatBody}
use Rattle.flat_design.specs.Growing.{IsReadable}
use Rattle.flat_design.proofs.PlainBodies.{plain_is_flat}
use Rattle.flat_design.proofs.SlottedBodies.{usable_readable}
use Rattle.flat_design.proofs.processes.flat_body.Goals as goal

pub returns-in-Some-clause-flat : goal.returns-in-Some-clause-flat
returns-in-Some-clause-flat c =
    let p = c.args.design.now.pool in
    let old = c.args.process.now.body in
    let body = c.in-Some.body in
    let clocked = is_some c.args.process.now.domain in
    let same : body ≡ old = rw c.in-Some.is at c.in_ok-body.ensures.copy in
    let readable : AllByRecursion (IsReadable p) (block_exprs body) = subst (λ b. AllByRecursion (IsReadable p) (block_exprs b)) (sym same) (usable_readable c.args.design.now (block_exprs old) c.requires.process.expressions) in
    subst (λ b. IsFlatBody p c.args.pool clocked b body) same (plain_is_flat p c.args.pool c.count.ensures.rules c.requires.more clocked body readable (rw c.in-Some.is at c.in_ok-body.ensures.plain))
