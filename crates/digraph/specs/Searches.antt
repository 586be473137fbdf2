-- What a search for all nodes that a node reaches keeps to.
use Rattle.std.specs.Prelude.{Option, Some, None, ◌≡◌, ℕ, ◌+◌, ◌<◌, ◌≤◌, ◌⊎◌, Bool, true, false, not, List, length, Contains, count_by, slice_index_or}
use Rattle.digraph.specs.Graphs.{Digraph, Leads, Reaches, EdgeAt, IsRest}

-- the node at which the search began, whether each node was reached, and the nodes whose edges are to be looked at
pub record Searching : Type 0 where
  pub root : ℕ
  pub reached : List Bool
  pub todo : List ℕ

abbrev pub is_reached : List Bool → ℕ → Bool
is_reached reached n = slice_index_or reached n false

-- the root, or a node that it reaches
abbrev pub IsFrom : Digraph → ℕ → ℕ → Type 0
IsFrom g root n = (n ≡ root) ⊎ Reaches g root n

-- the root, or a node that was reached
abbrev pub WasMet : List Bool → ℕ → ℕ → Type 0
WasMet reached root n = (n ≡ root) ⊎ (is_reached reached n ≡ true)

-- all that the node leads to was reached
abbrev pub IsSpread : Digraph → List Bool → ℕ → Type 0
IsSpread g reached n = (x : ℕ) → Leads g n x → is_reached reached x ≡ true

-- a search from a root, where these nodes' edges are to be looked at
pub record IsSearch (g : Digraph) (root : ℕ) (reached : List Bool) (left : List ℕ) : Type 0 where
  pub size : length reached ≡ g.size
  pub sound : (n : ℕ) → is_reached reached n ≡ true → Reaches g root n
  pub from : (n : ℕ) → Contains left n → IsFrom g root n
  pub inside : (n : ℕ) → Contains left n → n < g.size
  pub spread : (n : ℕ) → WasMet reached root n → Contains left n ⊎ IsSpread g reached n

-- the edges of the node at places behind the rest lead to nodes that were reached
pub record IsSpreading (g : Digraph) (reached : List Bool) (n rest : ℕ) : Type 0 where
  pub is_rest : IsRest g n rest
  pub read : (k b : ℕ) → rest ≤ k → EdgeAt g k n b → is_reached reached b ≡ true

-- the turns that are left
abbrev pub turns : Searching → ℕ
turns s = count_by not s.reached + length s.todo

-- a node was reached, now or before
pub record Reached (old : Searching) (n : ℕ) (s : Searching) : Type 0 where
  pub root : s.root ≡ old.root
  pub now : is_reached s.reached n ≡ true
  pub size : length s.reached ≡ length old.reached
  pub kept : (k : ℕ) → is_reached old.reached k ≡ true → is_reached s.reached k ≡ true
  pub todo : (k : ℕ) → Contains old.todo k → Contains s.todo k
  pub only : (k : ℕ) → is_reached s.reached k ≡ true → (is_reached old.reached k ≡ true) ⊎ ((k ≡ n) × Contains s.todo n)
  pub added : (k : ℕ) → Contains s.todo k → Contains old.todo k ⊎ (k ≡ n)
  pub left : turns s ≡ turns old

-- all edges of a node were looked at
pub record HasSpread (g : Digraph) (old s : Searching) : Type 0 where
  pub root : s.root ≡ old.root
  pub search : IsSearch g s.root s.reached s.todo
  pub left : turns s ≤ turns old

-- the least of the first so many nodes that reaches itself, where one does
abbrev pub IsLeast : Digraph → ℕ → Option ℕ → Type 0
IsLeast g count None = (n : ℕ) → n < count → Reaches g n n → ⊥
IsLeast g count (Some n) = (n < count) × Reaches g n n × ((k : ℕ) → k < n → Reaches g k k → ⊥)
