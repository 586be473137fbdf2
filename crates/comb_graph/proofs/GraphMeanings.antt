-- What nodes of a graph stand for, as the graph grows.
use Rattle.std.proofs.Common.{◌≡◌, ◌⊎◌, inl, inr, ℕ, ◌<◌, ◌≤◌, List, [], ◌∷◌, ◌++◌, map, sym, ap, subst, arith}
use Rattle.std.specs.List.{Contains}
use Rattle.std.proofs.lemmas.List.Elements.{Contains-append_left, Contains-append_right, Contains-append_cases}
use Rattle.design_ir.specs.Targets.{Bit}
use Rattle.digraph.specs.declared.graph.Edge.{Edge}
use Rattle.digraph.specs.Graphs.{Digraph, IsGraph, IsEdge, Leads, edge, joined}
use Rattle.comb_graph.specs.Meanings.{node_of, Walks, Comes, IsBitAt, MeanAll, Means, Extends, KeepsSignals}
use Rattle.digraph.proofs.GraphLinks.{edge_inside}
use Rattle.digraph.proofs.WalkLaws.{at_leads}
use Rattle.digraph.proofs.WalkPaths.{contains-cons, contains-head, contains-cases}

-- an edge leads to a node
pub leads_inside : (g : Digraph) (a b : ℕ) → IsGraph g → Leads g a b → IsEdge g.size (edge a b)
leads_inside g a b h leads = let at = at_leads g a b leads in edge_inside g.size g.edges at.0 (edge a b) h at.1

-- ---- growth

walks_more : (g h : Digraph) (count n : ℕ) (ms : List ℕ) (x : ℕ) → Extends g h count → Walks g count n ms x → Walks h count n ms x
walks_more g h count n [] x e w = w
walks_more g h count n (m ∷ ms) x e w = (w.0, e.kept n m w.1, walks_more g h count m ms x e w.2)

walks_old : (g h : Digraph) (count n : ℕ) (ms : List ℕ) (x : ℕ) → IsGraph g → Extends g h count → n < g.size → Walks h count n ms x → Walks g count n ms x
walks_old g h count n [] x graph e inside w = w
walks_old g h count n (m ∷ ms) x graph e inside w =
    let leads = e.old n m w.0 inside w.1 in
    (w.0, leads, walks_old g h count m ms x graph e (leads_inside g n m graph leads).upto w.2)

pub comes_more : (g h : Digraph) (count n x : ℕ) → Extends g h count → Comes g count n x → Comes h count n x
comes_more g h count n x e (ms, w) = (ms, walks_more g h count n ms x e w)

pub comes_old : (g h : Digraph) (count n x : ℕ) → IsGraph g → Extends g h count → n < g.size → Comes h count n x → Comes g count n x
comes_old g h count n x graph e inside (ms, w) = (ms, walks_old g h count n ms x graph e inside w)

pub means_more : (g h : Digraph) (count n : ℕ) (bits : List Bit) → IsGraph g → Extends g h count → Means g count n bits → Means h count n bits
means_more g h count n bits graph e m = record {
  inside = omega (arith, e.size, m.inside);
  into = λ b in'. comes_more g h count n (node_of b) e (m.into b in');
  only = λ x below comes. m.only x below (comes_old g h count n x graph e m.inside comes);
}

pub extends_same : (g : Digraph) (count : ℕ) → Extends g g count
extends_same g count = record { size = omega arith; kept = λ a b leads. leads; old = λ a b past inside leads. leads; down = λ below. below }

pub extends_then : (f g h : Digraph) (count : ℕ) → Extends f g count → Extends g h count → Extends f h count
extends_then f g h count d e = record {
  size = omega (arith, d.size, e.size);
  kept = λ a b leads. e.kept a b (d.kept a b leads);
  old = λ a b past inside leads. d.old a b past inside (e.old a b past (omega (arith, inside, d.size)) leads);
  down = λ below. e.down (d.down below);
}

-- ---- several nodes

pub mean-none : (g : Digraph) (count : ℕ) → MeanAll g count [] []
mean-none g count = record {
  inside = λ n in'. omega (arith, in'.1);
  into = λ b in'. absurd (omega (arith, in'.1));
  only = λ n x in' below comes. absurd (omega (arith, in'.1));
}

pub mean-one : (g : Digraph) (count n : ℕ) (bits : List Bit) → Means g count n bits → MeanAll g count (n ∷ []) bits
mean-one g count n bits m = record {
  inside = λ k in'. elim (contains-cases n k [] in') [ inl same ↦ subst (λ j. j < g.size) same m.inside | inr none ↦ absurd (omega (arith, none.1)) ];
  into = λ b in'. (n, contains-head n [], m.into b in');
  only = λ k x in' below comes. elim (contains-cases n k [] in') [
    | inl same ↦ m.only x below (subst (λ j. Comes g count j x) (sym same) comes)
    | inr none ↦ absurd (omega (arith, none.1))
  ];
}

bit_left : (bs cs : List Bit) (x : ℕ) → IsBitAt bs x → IsBitAt (bs ++ cs) x
bit_left bs cs x h = record { bit = h.bit; among = Contains-append_left bs cs h.bit h.among; low = h.low; at = h.at }

bit_right : (bs cs : List Bit) (x : ℕ) → IsBitAt cs x → IsBitAt (bs ++ cs) x
bit_right bs cs x h = record { bit = h.bit; among = Contains-append_right bs cs h.bit h.among; low = h.low; at = h.at }

pub mean-append : (g : Digraph) (count : ℕ) (ns ms : List ℕ) (bs cs : List Bit) → MeanAll g count ns bs → MeanAll g count ms cs → MeanAll g count (ns ++ ms) (bs ++ cs)
mean-append g count ns ms bs cs m k = record {
  inside = λ n in'. elim (Contains-append_cases ns ms n in') [ inl left ↦ m.inside n left | inr right ↦ k.inside n right ];
  into = λ b in'. elim (Contains-append_cases bs cs b in') [
    | inl left ↦ let h = m.into b left in (h.0, Contains-append_left ns ms h.0 h.1, h.2)
    | inr right ↦ let h = k.into b right in (h.0, Contains-append_right ns ms h.0 h.1, h.2)
  ];
  only = λ n x in' below comes. elim (Contains-append_cases ns ms n in') [
    | inl left ↦ bit_left bs cs x (m.only n x left below comes)
    | inr right ↦ bit_right bs cs x (k.only n x right below comes)
  ];
}

pub mean-cons : (g : Digraph) (count n : ℕ) (ms : List ℕ) (bs cs : List Bit) → Means g count n bs → MeanAll g count ms cs → MeanAll g count (n ∷ ms) (bs ++ cs)
mean-cons g count n ms bs cs m k = mean-append g count (n ∷ []) ms bs cs (mean-one g count n bs m) k

-- one stays at the node of a signal's bit
stays : (g : Digraph) (count n : ℕ) (ms : List ℕ) (x : ℕ) → n < count → Walks g count n ms x → n ≡ x
stays g count n [] x below w = w
stays g count n (m ∷ ms) x below w = absurd (omega (arith, below, w.0))

-- the node of a signal's bit
pub mean-bit : (g : Digraph) (count : ℕ) (b : Bit) → count ≤ g.size → node_of b < count → b.index < 128 → Means g count (node_of b) (b ∷ [])
mean-bit g count b size below low = record {
  inside = omega (arith, size, below);
  into = λ c in'. ([], elim (contains-cases b c [] in') [ inl same ↦ ap node_of same | inr none ↦ absurd (omega (arith, none.1)) ]);
  only = λ x inside (ms, w). record { bit = b; among = contains-head b []; low = low; at = stays g count (node_of b) ms x below w };
}

-- ---- a node that leads to several

pub map_edges : (n a b : ℕ) (ts : List ℕ) → Contains (map (edge n) ts) (edge a b) → (n ≡ a) × Contains ts b
map_edges n a b [] in' = absurd (omega (arith, in'.1))
map_edges n a b (t ∷ ts) in' =
    elim (contains-cases (edge n t) (edge a b) (map (edge n) ts) in') [
      | inl same ↦ (ap (λ (e : Edge). e.from) same, subst (λ j. Contains (t ∷ ts) j) (ap (λ (e : Edge). e.upto) same) (contains-head t ts))
      | inr in'' ↦ let h = map_edges n a b ts in'' in (h.0, contains-cons t b ts h.1)
    ]

pub edges_map : (n b : ℕ) (ts : List ℕ) → Contains ts b → Contains (map (edge n) ts) (edge n b)
edges_map n b [] in' = absurd (omega (arith, in'.1))
edges_map n b (t ∷ ts) in' =
    elim (contains-cases t b ts in') [
      | inl same ↦ subst (λ j. Contains (edge n t ∷ map (edge n) ts) (edge n j)) same (contains-head (edge n t) (map (edge n) ts))
      | inr in'' ↦ contains-cons (edge n t) (edge n b) (map (edge n) ts) (edges_map n b ts in'')
    ]

pub joined_leads : (g : Digraph) (ts : List ℕ) (a b : ℕ) → Leads (joined g ts) a b → Leads g a b ⊎ ((g.size ≡ a) × Contains ts b)
joined_leads g ts a b leads =
    elim (Contains-append_cases g.edges (map (edge g.size) ts) (edge a b) leads) [
      | inl old ↦ inl old
      | inr new ↦ inr (map_edges g.size a b ts new)
    ]

pub extends_joined : (g : Digraph) (count : ℕ) (ts : List ℕ) → ((t : ℕ) → Contains ts t → t < g.size) → Extends g (joined g ts) count
extends_joined g count ts inside' = record {
  size = omega arith;
  kept = λ a b leads. Contains-append_left g.edges (map (edge g.size) ts) (edge a b) leads;
  old = λ a b past inside leads. elim (joined_leads g ts a b leads) [ inl old ↦ old | inr new ↦ absurd (omega (arith, new.0, inside)) ];
  down = λ below a b past leads. elim (joined_leads g ts a b leads) [ inl old ↦ below a b past old | inr new ↦ omega (arith, new.0, inside' b new.1) ];
}

only-walk : (g : Digraph) (count : ℕ) (ts : List ℕ) (bits : List Bit) → IsGraph g → count ≤ g.size → MeanAll g count ts bits → (ms : List ℕ) (x : ℕ) → x < count → Walks (joined g ts) count g.size ms x → IsBitAt bits x
only-walk g count ts bits graph size m [] x below w = absurd (omega (arith, w, below, size))
only-walk g count ts bits graph size m (y ∷ ys) x below w =
    elim (joined_leads g ts g.size y w.1) [
      | inl old ↦ absurd (omega (arith, (leads_inside g g.size y graph old).from))
      | inr new ↦ m.only y x new.1 below (comes_old g (joined g ts) count y x graph (extends_joined g count ts m.inside) (m.inside y new.1) (ys, w.2))
    ]

-- it stands for what they stand for
pub joined_means : (g : Digraph) (count : ℕ) (ts : List ℕ) (bits : List Bit) → IsGraph g → count ≤ g.size → MeanAll g count ts bits → Means (joined g ts) count g.size bits
joined_means g count ts bits graph size m =
    let h = joined g ts in
    let e = extends_joined g count ts m.inside in
    record {
      inside = omega arith;
      into = λ b in'.
          let found = m.into b in' in
          let more = comes_more g h count found.0 (node_of b) e found.2 in
          (found.0 ∷ more.0, (size, Contains-append_right g.edges (map (edge g.size) ts) (edge g.size found.0) (edges_map g.size found.0 ts found.1), more.1));
      only = λ x below (ms, w). only-walk g count ts bits graph size m ms x below w;
    }

-- two nodes to which it may lead
pub two_inside : (g : Digraph) (a b : ℕ) → a < g.size → b < g.size → (t : ℕ) → Contains (a ∷ b ∷ []) t → t < g.size
two_inside g a b p q t in' =
    elim (contains-cases a t (b ∷ []) in') [
      | inl same ↦ subst (λ n. n < g.size) same p
      | inr rest ↦ elim (contains-cases b t [] rest) [ inl same ↦ subst (λ n. n < g.size) same q | inr none ↦ absurd (omega (arith, none.1)) ]
    ]

-- a new node adds no edge to those of signals
pub signals_joined : (g : Digraph) (count : ℕ) (ts : List ℕ) → count ≤ g.size → KeepsSignals g (joined g ts) count
signals_joined g count ts size a b below leads = elim (joined_leads g ts a b leads) [ inl old ↦ old | inr new ↦ absurd (omega (arith, new.0, below, size)) ]
