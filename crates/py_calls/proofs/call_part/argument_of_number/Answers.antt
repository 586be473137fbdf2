use Rattle.std.proofs.Common.{◌∙◌, ap, option_map}
use Rattle.py_tree.specs.Seen.{argument_of}
use Rattle.py_calls.proofs.ArgumentLaws.{argument_get}
use Rattle.py_frames.proofs.CallGoes.{got_is}
use Rattle.py_calls.proofs.call_part.argument_of_number.Goals as goal

pub returns : goal.returns
returns c = ap (option_map argument_of) (got_is c.args.list.now c.args.at c.get.result c.get.ensures.lookup.3) ∙ argument_get c.args.list.now c.args.at
