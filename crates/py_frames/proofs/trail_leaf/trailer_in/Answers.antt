use Rattle.std.proofs.Common.{◌∙◌, ap, option_map}
use Rattle.py_tree.specs.Seen.{trailer_of}
use Rattle.py_frames.proofs.TrailLaws.{trailer_get}
use Rattle.py_frames.proofs.CallGoes.{got_is}
use Rattle.py_frames.proofs.trail_leaf.trailer_in.Goals as goal

pub returns : goal.returns
returns c = ap (option_map trailer_of) (got_is c.args.list.now c.args.at c.get.result c.get.ensures.lookup.3) ∙ trailer_get c.args.list.now c.args.at
