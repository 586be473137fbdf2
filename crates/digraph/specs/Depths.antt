-- How many counted nodes stand on a path of a graph.
use Rattle.std.specs.Prelude.{◌≡◌, ℕ, ◌≤◌, ◌⊎◌, Bool, true, false, ⊤, List, [], ◌∷◌, length, Contains, slice_index_or}
use Rattle.std.specs.List.{AllByRecursion}
use Rattle.digraph.specs.Graphs.{Digraph, Leads, Reaches, EdgeAt, IsRest}

-- whether a node counts, which none does past the last of these
abbrev pub is_counted : List Bool → ℕ → Bool
is_counted counted n = slice_index_or counted n false

-- of these nodes each reaches the next
abbrev pub ReachesNext : Digraph → List ℕ → Type 0
ReachesNext g [] = ⊤
ReachesNext g (a ∷ []) = ⊤
ReachesNext g (a ∷ b ∷ rest) = Reaches g a b × ReachesNext g (b ∷ rest)

-- counted nodes, each of which reaches the next
pub record IsCountedChain (g : Digraph) (counted : List Bool) (chain : List ℕ) : Type 0 where
  pub nodes : AllByRecursion (λ n. is_counted counted n ≡ true) chain
  pub reaches : ReachesNext g chain

-- so many nodes stand on the longest such chain
pub record IsMost (g : Digraph) (counted : List Bool) (n : ℕ) : Type 0 where
  pub chain : List ℕ
  pub is_chain : IsCountedChain g counted chain
  pub long : length chain ≡ n
  pub most : (other : List ℕ) → IsCountedChain g counted other → length other ≤ n

-- ---- the chains from one node on

-- the first of these is the node, or reached from it
abbrev pub StartsFrom : Digraph → ℕ → List ℕ → Type 0
StartsFrom g n [] = ⊤
StartsFrom g n (a ∷ rest) = (n ≡ a) ⊎ Reaches g n a

-- so many nodes stand on the longest chain from the node on
pub record IsDepth (g : Digraph) (counted : List Bool) (n depth : ℕ) : Type 0 where
  pub chain : List ℕ
  pub is_chain : IsCountedChain g counted chain
  pub starts : StartsFrom g n chain
  pub long : length chain ≡ depth
  pub most : (other : List ℕ) → IsCountedChain g counted other → StartsFrom g n other → length other ≤ depth

abbrev pub depth_at : List ℕ → ℕ → ℕ
depth_at depths n = slice_index_or depths n 0

-- a number is that of a node to which the node leads, or 0
abbrev pub IsSome : Digraph → List ℕ → ℕ → ℕ → Type 0
IsSome g depths n best = (best ≡ 0) ⊎ ((x : ℕ) × Leads g n x × (depth_at depths x ≡ best))

-- the greatest of the numbers of the nodes to which the node leads, where 0 stands for none
pub record IsDeepest (g : Digraph) (depths : List ℕ) (n best : ℕ) : Type 0 where
  pub each : (x : ℕ) → Leads g n x → depth_at depths x ≤ best
  pub some : IsSome g depths n best

-- the same of the edges at places behind the rest
pub record IsDeepestOf (g : Digraph) (depths : List ℕ) (n rest best : ℕ) : Type 0 where
  pub is_rest : IsRest g n rest
  pub each : (k x : ℕ) → rest ≤ k → EdgeAt g k n x → depth_at depths x ≤ best
  pub some : IsSome g depths n best

-- a chain of so many nodes
pub record HasChain (g : Digraph) (counted : List Bool) (long : ℕ) : Type 0 where
  pub chain : List ℕ
  pub is_chain : IsCountedChain g counted chain
  pub is_long : length chain ≡ long

-- the depths of these nodes are known, and so many nodes stand on the longest chain from one of them on
pub record AreDepths (g : Digraph) (counted : List Bool) (nodes : List ℕ) (depths : List ℕ) (longest : ℕ) : Type 0 where
  pub size : length depths ≡ g.size
  pub each : (n : ℕ) → Contains nodes n → IsDepth g counted n (depth_at depths n)
  pub upto : (n : ℕ) → Contains nodes n → depth_at depths n ≤ longest
  pub some : HasChain g counted longest
