-- How a graph keeps the edges of each node at hand.
use Rattle.std.specs.Prelude.{◌≡◌, ℕ, ◌≤◌, List, length, map, Some, slice_get}
use Rattle.digraph.specs.declared.graph.Link.{Link}
use Rattle.digraph.specs.Graphs.{Digraph, IsGraph, IsRest, NoneWithin}

abbrev pub graph_of : List ℕ → List Link → Digraph
graph_of lasts links = record { size = length lasts; edges = map (λ (l : Link). l.edge) links }

-- the edges below this count lead on from the edge at that place
pub record IsLink (g : Digraph) (k : ℕ) (l : Link) : Type 0 where
  pub rest : IsRest g l.edge.from l.others
  pub less : l.others ≤ k
  pub none : NoneWithin g l.edge.from l.others k

-- the node's last edge
pub record IsLast (g : Digraph) (n last : ℕ) : Type 0 where
  pub rest : IsRest g n last
  pub none : NoneWithin g n last (length g.edges)

pub record IsLinked (lasts : List ℕ) (links : List Link) : Type 0 where
  pub graph : IsGraph (graph_of lasts links)
  pub each_last : (n last : ℕ) → slice_get lasts n ≡ Some last → IsLast (graph_of lasts links) n last
  pub each_link : (k : ℕ) (l : Link) → slice_get links k ≡ Some l → IsLink (graph_of lasts links) k l
