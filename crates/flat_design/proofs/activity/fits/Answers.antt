use Rattle.std.proofs.Common.{◌^◌}
use Rattle.std.proofs.lemmas.Nat.{pow_pos}
use Rattle.flat_design.proofs.Activities.{below_is}
use Rattle.flat_design.proofs.activity.fits.Goals as goal

pub returns-else-width-eq128 : goal.returns-else-width-eq128
returns-else-width-eq128 c = below_is c.args.number (2 ^ c.args.width) (pow_pos c.args.width)
