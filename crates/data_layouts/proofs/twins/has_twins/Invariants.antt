use Rattle.std.proofs.Common.{◌≡◌, map, drop}
use Rattle.data_layouts.specs.Names.{has_twins}
use Rattle.data_layouts.proofs.TwinLaws.{has_seen}
use Rattle.data_layouts.proofs.twins.has_twins.Given as goal

abbrev pub invariant-loop-item : goal.invariant-loop-item
invariant-loop-item g l = has_twins (map g.T.Named.name_of l.items) ≡ has_seen l.seen (map g.T.Named.name_of (drop l.item-index l.items))
