-- Nodes that can be cut away from a graph one after the other, each when no node that is left leads to it.
use Rattle.std.specs.Prelude.{◌≡◌, ℕ, ◌<◌, Bool, true, false, List, length, slice_index_or}
use Rattle.digraph.specs.Graphs.{Digraph, Leads, Reaches}

-- the place of a node among those that were cut away, from 1 on, and 0 for the others
abbrev pub turn_of : List ℕ → ℕ → ℕ
turn_of turns n = slice_index_or turns n 0

-- the second was not cut away, or the first was before it
abbrev pub IsCutBefore : List ℕ → ℕ → ℕ → Type 0
IsCutBefore turns a b = 0 < turn_of turns b → (0 < turn_of turns a) × (turn_of turns a < turn_of turns b)

-- each node that leads to one that was cut away was cut away before it
pub record IsCut (g : Digraph) (turns : List ℕ) : Type 0 where
  pub size : length turns ≡ g.size
  pub before : (a b : ℕ) → Leads g a b → IsCutBefore turns a b

-- the same nodes, and each edge the other way round
pub record IsReversed (g h : Digraph) : Type 0 where
  pub size : h.size ≡ g.size
  pub leads : (a b : ℕ) → Leads g a b → Leads h b a

abbrev pub is_left : List Bool → ℕ → Bool
is_left left n = slice_index_or left n false

-- whether each node is left, as all are that reach themselves
pub record IsLeft (g : Digraph) (left : List Bool) : Type 0 where
  pub size : length left ≡ g.size
  pub loops : (n : ℕ) → n < g.size → Reaches g n n → is_left left n ≡ true
