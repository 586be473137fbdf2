use Rattle.std.proofs.Common.{sym}
use Rattle.amh_things.proofs.PutLaws.{held_method_below}
use Rattle.amh_values.proofs.calls.thing_called.Goals as goal

pub method_called-requires-clause-there : goal.method_called-requires-clause-there
method_called-requires-clause-there g c = held_method_below _ c.args.values.now c.args.hw.0 _ c.requires.held (sym c.in-Some.ensures)
