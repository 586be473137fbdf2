-- One more node, which has no edges: the chains of each node's edges stay as they were.
use Rattle.std.proofs.Common.{◌≡◌, inl, inr, ℕ, ◌+◌, ◌≤◌, List, [], ◌∷◌, ◌++◌, map, length, arith}
use Rattle.std.proofs.lemmas.List.{length-append}
use Rattle.digraph.specs.declared.graph.Edge.{Edge}
use Rattle.digraph.specs.declared.graph.Link.{Link}
use Rattle.digraph.specs.Graphs.{Digraph, IsGraph, IsRest, edge}
use Rattle.digraph.specs.Links.{IsLinked}
use Rattle.digraph.proofs.GraphLists.{get-push_cases}
use Rattle.digraph.proofs.GraphLinks.{edge_inside}

abbrev sized : ℕ → List Edge → Digraph
sized n es = record { size = n; edges = es }

rest_sized : (m n : ℕ) (es : List Edge) (a r : ℕ) → IsRest (sized m es) a r → IsRest (sized n es) a r
rest_sized m n es a r h = record { within = h.within; node = h.node }

pub edges_sized : (m n : ℕ) (es : List Edge) → m ≤ n → IsGraph (sized m es) → IsGraph (sized n es)
edges_sized m n [] le h = tt
edges_sized m n (e ∷ es) le h = (record { from = omega (arith, le, h.0.from); upto = omega (arith, le, h.0.upto) }, edges_sized m n es le h.1)

pub linked_node : (lasts : List ℕ) (links : List Link) → IsLinked lasts links → IsLinked (lasts ++ 0 ∷ []) links
linked_node lasts links h =
    let es = map (λ (l : Link). l.edge) links in
    let m = length lasts in
    let n = length (lasts ++ 0 ∷ []) in
    let more : n ≡ m + 1 = length-append lasts (0 ∷ []) in
    record {
      graph = edges_sized m n es (omega (arith, more)) h.graph;
      each_last = λ a last at. elim (get-push_cases lasts 0 last a at) [
        | inl old ↦ let was = h.each_last a last old in record { rest = rest_sized m n es a last was.rest; none = was.none }
        | inr new ↦ record {
          rest = record { within = omega (arith, new.1); node = λ some. absurd (omega (arith, new.1)) };
          none = λ k b low high found. let inside = edge_inside m es k (edge a b) h.graph found in omega (arith, new.0, inside.from);
        }
      ];
      each_link = λ k l at. let was = h.each_link k l at in record { rest = rest_sized m n es l.edge.from l.others was.rest; less = was.less; none = was.none };
    }
