-- One more edge: the chains of each node's edges stay as they were, and its own is longer by one.
use Rattle.std.proofs.Common.{◌≡◌, ◌≢◌, ◌∙◌, inl, inr, ℕ, zero, suc, ◌+◌, ◌-◌, ◌<◌, ◌≤◌, List, [], ◌∷◌, ◌++◌, map, length, sym, ap, subst, arith, Some, slice_get, slice_set}
use Rattle.std.proofs.lemmas.List.{length-set, length-append, length-map}
use Rattle.std.proofs.lemmas.List.{map-append}
use Rattle.std.proofs.lemmas.Option.{slice_get_within}
use Rattle.digraph.specs.declared.graph.Edge.{Edge}
use Rattle.digraph.specs.declared.graph.Link.{Link}
use Rattle.digraph.specs.Graphs.{Digraph, IsGraph, IsEdge, IsRest, NoneWithin, edge}
use Rattle.digraph.specs.Links.{graph_of, IsLinked, IsLink, IsLast}
use Rattle.digraph.proofs.GraphLists.{some-same, get-push_kept, get-push_last, get-push_cases, get-set_cases}

-- the graph with one edge more
abbrev more : Digraph → Edge → Digraph
more g e = record { size = g.size; edges = g.edges ++ e ∷ [] }

rest_kept : (g : Digraph) (e : Edge) (n r : ℕ) → IsRest g n r → IsRest (more g e) n r
rest_kept g e n r h = record {
  within = omega (arith, length-append g.edges (e ∷ []), h.within);
  node = λ some. ((h.node some).0, get-push_kept g.edges e (edge n (h.node some).0) (r - 1) (h.node some).1);
}

none_kept : (g : Digraph) (e : Edge) (n low high : ℕ) → high ≤ length g.edges → NoneWithin g n low high → NoneWithin (more g e) n low high
none_kept g e n low high within h k b above below at =
    elim (get-push_cases g.edges e (edge n b) k at) [ inl old ↦ h k b above below old | inr new ↦ omega (arith, new.0) ]

-- no edge but the new one is at the end
none_added : (g : Digraph) (e : Edge) (n low : ℕ) → (e.from ≢ n) → NoneWithin g n low (length g.edges) → NoneWithin (more g e) n low (length (more g e).edges)
none_added g e n low other h k b above below at =
    elim (get-push_cases g.edges e (edge n b) k at) [ inl old ↦ h k b above (slice_get_within g.edges k (edge n b) old) old | inr new ↦ other (ap (λ (x : Edge). x.from) new.1) ]

-- the last edge of each node, where from has one more
last_added : (g : Digraph) (from upto n last : ℕ) (lasts : List ℕ)
    → ((m l : ℕ) → slice_get lasts m ≡ Some l → IsLast g m l)
    → slice_get (slice_set lasts from (length g.edges + 1)) n ≡ Some last
    → IsLast (more g (edge from upto)) n last
last_added g from upto n last lasts each at =
    let e = edge from upto in
    let long : length (g.edges ++ e ∷ []) ≡ length g.edges + 1 = length-append g.edges (e ∷ []) in
    elim (get-set_cases lasts from (length g.edges + 1) last n at) [
      | inl here ↦ record {
        rest = record {
          within = omega (arith, here.1);
          node = λ some. (
            upto,
            let place : last - 1 ≡ length g.edges = omega (arith, here.1) in
                subst (λ k. slice_get (g.edges ++ e ∷ []) k ≡ Some (edge n upto)) (sym place)
                (subst (λ m. slice_get (g.edges ++ e ∷ []) (length g.edges) ≡ Some (edge m upto)) (sym here.0) (get-push_last g.edges e)),
          );
        };
        none = λ k b above below at'. omega (arith, here.1);
      }
      | inr there ↦ let old = each n last there.1 in record {
        rest = rest_kept g e n last old.rest;
        none = none_added g e n last (λ q. there.0 (sym q)) old.none;
      }
    ]

-- the chains of edges, where from has one more
link_added : (g : Digraph) (from upto : ℕ) (before : ℕ) (links : List Link)
    → IsLast g from before → length links ≡ length g.edges
    → ((k : ℕ) (l : Link) → slice_get links k ≡ Some l → IsLink g k l)
    → (k : ℕ) (l : Link) → slice_get (links ++ record { edge = edge from upto; others = before } ∷ []) k ≡ Some l → IsLink (more g (edge from upto)) k l
link_added g from upto before links was long each k l at =
    let e = edge from upto in
    let new : Link = record { edge = e; others = before } in
    elim (get-push_cases links new l k at) [
      | inl old ↦ let link = each k l old in record {
        rest = rest_kept g e l.edge.from l.others link.rest;
        less = link.less;
        none = none_kept g e l.edge.from l.others k (omega (arith, slice_get_within links k l old, long)) link.none;
      }
      | inr here ↦
          subst (λ (x : Link). IsLink (more g e) k x) (here.1)
          (record {
            rest = rest_kept g e from before was.rest;
            less = omega (arith, was.rest.within, long, here.0);
            none = subst (λ end. NoneWithin (more g e) from before end) (sym (here.0 ∙ long)) (none_kept g e from before (length g.edges) (omega arith) was.none);
          })
    ]

edges_inside : (size : ℕ) (es : List Edge) (e : Edge) → IsGraph (record { size = size; edges = es }) → IsEdge size e → IsGraph (record { size = size; edges = es ++ e ∷ [] })
edges_inside size [] e h i = (i, tt)
edges_inside size (x ∷ xs) e h i = (h.0, edges_inside size xs e h.1 i)

pub linked_more : (lasts : List ℕ) (links : List Link) (from upto before : ℕ)
    → IsLinked lasts links → from < length lasts → upto < length lasts → slice_get lasts from ≡ Some before
    → IsLinked (slice_set lasts from (length links + 1)) (links ++ record { edge = edge from upto; others = before } ∷ [])
linked_more lasts links from upto before h in' to at =
    let f : Link → Edge = λ l. l.edge in
    let e = edge from upto in
    let g = graph_of lasts links in
    let long : length links ≡ length g.edges = sym (length-map links f) in
    let same : more g e ≡ graph_of (slice_set lasts from (length links + 1)) (links ++ record { edge = e; others = before } ∷ []) =
    ap (λ (es : List Edge). record { size = length lasts; edges = es }) (sym (map-append f links (record { edge = e; others = before } ∷ [])))
    ∙ ap (λ n. record { size = n; edges = map f (links ++ record { edge = e; others = before } ∷ []) }) (sym (length-set lasts from (length links + 1))) in
    record {
      graph = subst IsGraph same (edges_inside (length lasts) g.edges e h.graph (record { from = in'; upto = to }));
      each_last = λ n last q. subst (λ x. IsLast x n last) same (last_added g from upto n last lasts h.each_last (subst (λ c. slice_get (slice_set lasts from (c + 1)) n ≡ Some last) long q));
      each_link = λ k l q. subst (λ x. IsLink x k l) same (link_added g from upto before links (h.each_last from before at) long h.each_link k l q);
    }

-- an edge of a graph leads to a node of it
pub edge_inside : (size : ℕ) (es : List Edge) (k : ℕ) (e : Edge) → IsGraph (record { size = size; edges = es }) → slice_get es k ≡ Some e → IsEdge size e
edge_inside size [] k e h at = absurd cc
edge_inside size (x ∷ xs) zero e h at = subst (IsEdge size) (some-same x e at) h.0
edge_inside size (x ∷ xs) (suc k) e h at = edge_inside size xs k e h.1 at
