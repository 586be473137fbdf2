use Rattle.std.proofs.Common.{sym}
use Rattle.amh_values.proofs.CallLaws.{view_below}
use Rattle.amh_values.proofs.indexing.any_indexed.Goals as goal

pub indexed-requires-clause-there : goal.indexed-requires-clause-there
indexed-requires-clause-there g c = view_below _ c.args.values.now _ _ c.requires.held (sym c.in-Some.ensures)
