-- What is known of a design's bits once they are ranked.
use Rattle.std.specs.Prelude.{ℕ, List, map}
use Rattle.design_ir.specs.Targets.{Bit}
use Rattle.design_ir.specs.Circuits.{Circuit}
use Rattle.comb_graph.specs.declared.ranks.RankedBit.{RankedBit}
use Rattle.comb_graph.specs.Orders.{IsOrder, IsLongest}

-- an order of bits, and how many of them stand on the longest chain of needs
pub record Ranking : Type 0 where
  pub order : List RankedBit
  pub longest : ℕ

abbrev pub bit_of : RankedBit → Bit
bit_of b = record { sig = b.sig.0; index = b.bit }

-- the ranks of this design
pub record IsRanking (c : Circuit) (r : Ranking) : Type 0 where
  pub order : IsOrder c (map bit_of r.order)
  pub longest : IsLongest c r.longest
