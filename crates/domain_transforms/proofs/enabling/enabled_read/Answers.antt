use Rattle.std.proofs.Common.{length, subst, sym}
use Rattle.domain_transforms.specs.Placed.{OptionBelow}
use Rattle.domain_transforms.proofs.PlacedLaws.{option_control_below}
use Rattle.domain_transforms.proofs.enabling.enabled_read.Goals as goal

pub gated_option-requires-clause-condition : goal.gated_option-requires-clause-condition
gated_option-requires-clause-condition c =
    let n = length c.args.pool.now.exprs in
    subst (OptionBelow n) (sym c.read_control-condition.ensures) (option_control_below n c.args.controls.now c.args.read.now.domain c.requires.controls)
