use Rattle.std.proofs.Common.{map}
use Rattle.data_layouts.proofs.TwinLaws.{has_seen-none}
use Rattle.data_layouts.proofs.twins.has_twins.Goals as goal

pub loop-item-init : goal.loop-item-init
loop-item-init g c = rw c.new-seen.ensures (has_seen-none (map g.T.Named.name_of c.args.items.now))
