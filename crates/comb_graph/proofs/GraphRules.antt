-- One rule more: the edges of the bit's node.
use Rattle.std.proofs.Common.{◌≡◌, ◌⊎◌, inl, inr, ℕ, ◌<◌, List, [], ◌∷◌, ◌++◌, map, sym, subst, arith}
use Rattle.std.specs.List.{Contains}
use Rattle.std.proofs.lemmas.List.Elements.{Contains-append_left, Contains-append_right, Contains-append_cases, Contains-push, Contains-push_cases}
use Rattle.digraph.specs.Graphs.{Digraph, IsGraph, Leads, edge, leading}
use Rattle.comb_graph.specs.Meanings.{node_of, MeanAll, Extends}
use Rattle.comb_graph.specs.Rules.{Rule, IsRuled, ObeysRules}
use Rattle.comb_graph.proofs.GraphMeanings.{leads_inside, comes_more, comes_old, map_edges, edges_map}

leading_cases : (g : Digraph) (n : ℕ) (ts : List ℕ) (a b : ℕ) → Leads (leading g n ts) a b → Leads g a b ⊎ ((n ≡ a) × Contains ts b)
leading_cases g n ts a b leads =
    elim (Contains-append_cases g.edges (map (edge n) ts) (edge a b) leads) [ inl old ↦ inl old | inr new ↦ inr (map_edges n a b ts new) ]

-- more edges of a signal's node
pub extends_leading : (g : Digraph) (count n : ℕ) (ts : List ℕ) → n < count → Extends g (leading g n ts) count
extends_leading g count n ts below = record {
  size = omega arith;
  kept = λ a b leads. Contains-append_left g.edges (map (edge n) ts) (edge a b) leads;
  old = λ a b past inside leads. elim (leading_cases g n ts a b leads) [ inl was ↦ was | inr new ↦ absurd (omega (arith, new.0, past, below)) ];
  down = λ lesser a b past leads. elim (leading_cases g n ts a b leads) [ inl was ↦ lesser a b past was | inr new ↦ absurd (omega (arith, new.0, past, below)) ];
}

ruled_more : (rules : List Rule) (r : Rule) (n x : ℕ) → IsRuled rules n x → IsRuled (rules ++ r ∷ []) n x
ruled_more rules r n x h = record { rule = h.rule; among = Contains-append_left rules (r ∷ []) h.rule h.among; bit = h.bit; read = h.read; reads = h.reads; low = h.low; at = h.at }

-- rules still hold where a graph grows and signals' nodes lead to what they led to
pub obeys_more : (g h : Digraph) (count : ℕ) (rules : List Rule) → IsGraph g → Extends g h count → ((a b : ℕ) → a < count → Leads h a b → Leads g a b) → ObeysRules g count rules → ObeysRules h count rules
obeys_more g h count rules graph e same o = record {
  into = λ r c among reads. let found = o.into r c among reads in (found.0, e.kept (node_of r.bit) found.0 found.1, comes_more g h count found.0 (node_of c) e found.2);
  only = λ n m x below leads inside comes. let was = same n m below leads in o.only n m x below was inside (comes_old g h count m x graph e (leads_inside g n m graph was).upto comes);
}

pub obeys_rule : (g : Digraph) (count : ℕ) (rules : List Rule) (r : Rule) (ts : List ℕ) → IsGraph g → node_of r.bit < count → MeanAll g count ts r.reads → ObeysRules g count rules
    → ObeysRules (leading g (node_of r.bit) ts) count (rules ++ r ∷ [])
obeys_rule g count rules r ts graph below m o =
    let n = node_of r.bit in
    let h = leading g n ts in
    let e = extends_leading g count n ts below in
    record {
      into = λ q c among reads. elim (Contains-push_cases rules r q among) [
        | inl old ↦ let found = o.into q c old reads in (found.0, e.kept (node_of q.bit) found.0 found.1, comes_more g h count found.0 (node_of c) e found.2)
        | inr same ↦
            let found = m.into c (subst (λ (x : Rule). Contains x.reads c) (sym same) reads) in
            let leads : Leads h n found.0 = Contains-append_right g.edges (map (edge n) ts) (edge n found.0) (edges_map n found.0 ts found.1) in
            (found.0, subst (λ (x : Rule). Leads h (node_of x.bit) found.0) same leads, comes_more g h count found.0 (node_of c) e found.2)
      ];
      only = λ a b x inside leads x-below comes. elim (leading_cases g n ts a b leads) [
        | inl old ↦ ruled_more rules r a x (o.only a b x inside old x-below (comes_old g h count b x graph e (leads_inside g a b graph old).upto comes))
        | inr new ↦
            let found = m.only b x new.1 x-below (comes_old g h count b x graph e (m.inside b new.1) comes) in
            record { rule = r; among = Contains-push rules r; bit = new.0; read = found.bit; reads = found.among; low = found.low; at = found.at }
      ];
    }
