use Rattle.data_layouts.proofs.Fits.{is_of_by}
use Rattle.data_layouts.proofs.enumeration.is_of.Goals as goal

pub returns : goal.returns
returns c = is_of_by c.is_own_wrap.result c.args.shape.signed c.args.shape.width c.args.number c.is_own_wrap.ensures
