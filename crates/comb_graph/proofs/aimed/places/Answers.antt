use Rattle.std.proofs.Common.{subst}
use Rattle.comb_graph.specs.Seen.{StandsBelow, spot_of}
use Rattle.comb_graph.proofs.SeenLaws.{stands_fixed}
use Rattle.comb_graph.proofs.aimed.places.Goals as goal

pub only-requires : goal.only-requires
only-requires c = subst (λ at. StandsBelow 128 (spot_of at)) c.in-Fixed.is c.requires c.in-Fixed.k (stands_fixed c.in-Fixed.k)
