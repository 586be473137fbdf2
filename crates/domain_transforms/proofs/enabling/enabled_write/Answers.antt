use Rattle.std.proofs.Common.{length, subst, sym}
use Rattle.domain_transforms.specs.Placed.{OptionBelow}
use Rattle.domain_transforms.proofs.PlacedLaws.{control_below}
use Rattle.domain_transforms.proofs.enabling.enabled_write.Goals as goal

pub gated_by-requires-clause-condition : goal.gated_by-requires-clause-condition
gated_by-requires-clause-condition c =
    let n = length c.args.pool.now.exprs in
    subst (OptionBelow n) (sym c.control_of-condition.ensures) (control_below n c.args.controls.now c.as_str.result.now c.requires.controls)
