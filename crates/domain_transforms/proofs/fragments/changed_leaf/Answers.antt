use Rattle.std.proofs.Common.{length, sym, subst}
use Rattle.std.specs.Prelude.{OnOk}
use Rattle.domain_transforms.specs.declared.fragments.Change.{Change}
use Rattle.domain_transforms.specs.Changes.{IsReady}
use Rattle.domain_transforms.proofs.PlacedLaws.{controls_wider, on_ok}
use Rattle.domain_transforms.proofs.fragments.changed_leaf.Goals as goal

pub returns-in-Enable-clause-ready : goal.returns-in-Enable-clause-ready
returns-in-Enable-clause-ready c =
    let q = c.args.pool.now in
    let new = c.enabled_leaf.new.pool in
    let controls = c.in-Enable.controls in
    let before = subst (λ (x : Change). IsReady x q) c.in-Enable.is c.requires.ready in
    subst (λ (x : Change). OnOk c.enabled_leaf.result (IsReady x new)) (sym c.in-Enable.is) (on_ok c.enabled_leaf.result (λ more. controls_wider (length q.exprs) (length new.exprs) controls more before) c.enabled_leaf.ensures.more)
