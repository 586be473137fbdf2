-- The nodes of bits of combinational signals.
use Rattle.std.specs.Prelude.{◌≡◌, ℕ, ◌/◌, ◌%◌, ◌<◌, nat_lt, ◌&&◌, Bool, List, map, length}
use Rattle.std.specs.List.{filter}
use Rattle.design_ir.specs.Targets.{Bit}
use Rattle.design_ir.specs.Values.{signal_form}
use Rattle.design_ir.specs.Circuits.{Circuit}
use Rattle.comb_graph.specs.Orders.{is_comb}
use Rattle.comb_graph.specs.Places.{bit_nodes}
use Rattle.digraph.specs.Depths.{is_counted}

-- the bit whose node this is
abbrev pub bit_at : ℕ → Bit
bit_at n = record { sig = n / 128; index = n % 128 }

abbrev pub is_comb_bit : Circuit → Bit → Bool
is_comb_bit c b = is_comb c b.sig && nat_lt b.index (signal_form c.pool.signals b.sig).width

-- whether a node is that of a bit of a combinational signal
abbrev pub is_comb_node : Circuit → ℕ → Bool
is_comb_node c n = is_comb_bit c (bit_at n)

-- the bits of combinational signals whose nodes are among these, in order
abbrev pub comb_bits : Circuit → List ℕ → List Bit
comb_bits c order = map bit_at (filter (is_comb_node c) order)

-- for each node of a signal's bit whether that bit is of a combinational signal
pub record AreCombNodes (c : Circuit) (counted : List Bool) : Type 0 where
  pub size : length counted ≡ bit_nodes c.pool
  pub each : (n : ℕ) → n < length counted → is_counted counted n ≡ is_comb_node c n

-- for each signal whether it is combinational
pub record AreCombSignals (c : Circuit) (signals : List Bool) : Type 0 where
  pub size : length signals ≡ length c.pool.signals
  pub each : (s : ℕ) → s < length signals → is_counted signals s ≡ is_comb c s
