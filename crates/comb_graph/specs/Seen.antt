-- The aims of targets by what is kept of them.
use Rattle.std.specs.Prelude.{◌≡◌, ℕ, ◌<◌, ◌≤◌, true, List, [], map, length, slice_index_or}
use Rattle.std.specs.List.{All}
use Rattle.design_ir.specs.Pools.{Pooled}
use Rattle.design_ir.specs.Targets.{Spot, fixed, chosen, Aim, stands_at, aims}
use Rattle.comb_graph.specs.declared.aimed.At.{At}
use Rattle.comb_graph.specs.declared.aimed.At.TheVariants.{Fixed, Chosen}
use Rattle.comb_graph.specs.declared.aimed.Aimed.{Aimed}
use Rattle.comb_graph.specs.CombNodes.{bit_at}
use Rattle.comb_graph.specs.Places.{bit_nodes}
use Rattle.comb_graph.specs.Sets.{has}

abbrev pub spot_of : At → Spot
spot_of (Fixed k) = fixed k
spot_of (Chosen set) = chosen (has set)

-- the aim of which this is kept
abbrev pub seen : Aimed → Aim
seen a = record { bit = bit_at a.node; spot = spot_of a.at }

-- all places where the bit stands are below this
abbrev pub StandsBelow : ℕ → Spot → Type 0
StandsBelow width s = (k : ℕ) → stands_at s k ≡ true → k < width

abbrev pub AllStandBelow : ℕ → List Aimed → Type 0
AllStandBelow width row = All (λ (a : Aimed). StandsBelow width (spot_of a.at)) row

abbrev pub row_at : List (List Aimed) → ℕ → List Aimed
row_at table e = slice_index_or table e []

-- the aims of the first expressions
pub record HasRows (pool : Pooled) (table : List (List Aimed)) : Type 0 where
  pub few : length table ≤ length pool.exprs
  pub rows : (e : ℕ) → e < length table → map seen (row_at table e) ≡ aims pool e

-- the aims of each expression as a target
pub record HasAims (pool : Pooled) (table : List (List Aimed)) : Type 0 where
  pub count : length table ≡ length pool.exprs
  pub rows : (e : ℕ) → e < length pool.exprs → map seen (row_at table e) ≡ aims pool e
  pub inside : (e : ℕ) → e < length pool.exprs → All (λ a. a.node < bit_nodes pool) (row_at table e)
