-- Graphs: numbered nodes, and edges from one to another.
use Rattle.std.specs.Prelude.{◌≡◌, ℕ, ◌+◌, ◌-◌, ◌++◌, map, ◌<◌, ◌≤◌, nat_eq, List, [], ◌∷◌, length, Contains, Some, slice_get, take}
use Rattle.std.specs.List.{AllByRecursion, IsDistinct}
use Rattle.digraph.specs.declared.graph.Edge.{Edge}

-- so many nodes, numbered from 0, and edges
pub record Digraph : Type 0 where
  pub size : ℕ
  pub edges : List Edge

abbrev pub edge : ℕ → ℕ → Edge
edge from upto = record { from = from; upto = upto }

-- an edge leads from a to b
abbrev pub Leads : Digraph → ℕ → ℕ → Type 0
Leads g a b = Contains g.edges (edge a b)

-- the node leads to the first of these, each of them to the next, and the last to the end
abbrev pub Path : Digraph → ℕ → List ℕ → ℕ → Type 0
Path g a [] end = Leads g a end
Path g a (x ∷ xs) end = Leads g a x × Path g x xs end

-- edges, at least one, lead from a to b
abbrev pub Reaches : Digraph → ℕ → ℕ → Type 0
Reaches g a b = (between : List ℕ) × Path g a between b

-- edges go from nodes to nodes
pub record IsEdge (size : ℕ) (e : Edge) : Type 0 where
  pub from : e.from < size
  pub upto : e.upto < size

abbrev pub IsGraph : Digraph → Type 0
IsGraph g = AllByRecursion (IsEdge g.size) g.edges

-- each node stands behind all that it leads to
abbrev pub IsBehind : Digraph → List ℕ → Type 0
IsBehind g order = (k n x : ℕ) → slice_get order k ≡ Some n → Leads g n x → Contains (take k order) x

-- all nodes, each once, behind all that it leads to
pub record IsSorted (g : Digraph) (order : List ℕ) : Type 0 where
  pub all : (n : ℕ) → n < g.size → Contains order n
  pub only : AllByRecursion (λ n. n < g.size) order
  pub once : IsDistinct nat_eq order
  pub behind : IsBehind g order

-- ---- the edges of one node, the last first

-- the edge at this place
abbrev pub EdgeAt : Digraph → ℕ → ℕ → ℕ → Type 0
EdgeAt g k a b = slice_get g.edges k ≡ Some (edge a b)

-- no edge of the node stands at these places
abbrev pub NoneWithin : Digraph → ℕ → ℕ → ℕ → Type 0
NoneWithin g n low high = (k b : ℕ) → low ≤ k → k < high → EdgeAt g k n b → ⊥

-- the count of edges up to one of this node, or none
pub record IsRest (g : Digraph) (n rest : ℕ) : Type 0 where
  pub within : rest ≤ length g.edges
  pub node : 0 < rest → (b : ℕ) × EdgeAt g (rest - 1) n b

-- of the edges below a count the node's last, and the count below which its others are
pub record IsNext (g : Digraph) (n rest upto others : ℕ) : Type 0 where
  pub at : EdgeAt g (rest - 1) n upto
  pub less : others < rest
  pub is_rest : IsRest g n others
  pub none : NoneWithin g n others (rest - 1)

-- ---- growth

-- one more node, which leads to these
abbrev pub joined : Digraph → List ℕ → Digraph
joined g targets = record { size = g.size + 1; edges = g.edges ++ map (edge g.size) targets }

-- more edges of one node
abbrev pub leading : Digraph → ℕ → List ℕ → Digraph
leading g n targets = record { size = g.size; edges = g.edges ++ map (edge n) targets }
