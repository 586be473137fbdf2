-- The depth of a node, by those of the nodes that it leads to.
use Rattle.std.proofs.Common.{◌≡◌, ◌∙◌, ◌≢◌, ◌⊎◌, inl, inr, ℕ, zero, suc, ◌+◌, ◌-◌, ◌<◌, ◌≤◌, max, Bool, true, false, cond, List, [], ◌∷◌, length, refl, sym, ap, subst, arith, Some, slice_get, slice_set, take}
use Rattle.std.specs.List.{Contains}
use Rattle.std.proofs.lemmas.Bool.{cases_eq, cases_lt}
use Rattle.std.proofs.lemmas.List.{get_or-set_same, get_or-set_other, length-set}
use Rattle.std.proofs.lemmas.List.Elements.{Contains-push_cases}
use Rattle.digraph.specs.Graphs.{Digraph, Leads, Reaches, EdgeAt, IsNext, IsSorted}
use Rattle.digraph.specs.Depths.{is_counted, IsCountedChain, IsMost, StartsFrom, IsDepth, depth_at, IsSome, IsDeepest, IsDeepestOf, HasChain, AreDepths}
use Rattle.digraph.proofs.Members.{all_at}
use Rattle.digraph.proofs.Takes.{take-push}
use Rattle.digraph.proofs.WalkLaws.{leads_at, at_leads, same_edge}
use Rattle.digraph.proofs.WalkEnds.{reached_before}

-- ---- the edges of one node, one by one

some_more : (g : Digraph) (depths : List ℕ) (n upto best : ℕ) → Leads g n upto → IsSome g depths n best → IsSome g depths n (max best (depth_at depths upto))
some_more g depths n upto best leads h =
    elim (cases_lt best (depth_at depths upto)) [
      | inl less ↦ let is : depth_at depths upto ≡ max best (depth_at depths upto) = omega (arith, less) in inr (upto, leads, is)
      | inr more ↦ let is : best ≡ max best (depth_at depths upto) = omega (arith, more) in subst (IsSome g depths n) is h
    ]

pub deepest_more : (g : Digraph) (depths : List ℕ) (n rest upto others best : ℕ) → IsDeepestOf g depths n rest best → IsNext g n rest upto others → IsDeepestOf g depths n others (max best (depth_at depths upto))
deepest_more g depths n rest upto others best h next = record {
  is_rest = next.is_rest;
  each = λ k x above at. elim (cases_lt k (rest - 1)) [
    | inl below ↦ absurd (next.none k x above below at)
    | inr past ↦ elim (cases_lt k rest) [
      | inl here ↦
          let place : k ≡ rest - 1 = omega (arith, past, here) in
          let same : upto ≡ x = same_edge g (rest - 1) n upto x next.at (subst (λ j. EdgeAt g j n x) place at) in
          subst (λ y. depth_at depths y ≤ max best (depth_at depths upto)) same (omega arith)
      | inr old ↦ let le = h.each k x old at in omega (arith, le)
    ]
  ];
  some = some_more g depths n upto best (leads_at g (rest - 1) n upto next.at) h.some;
}

pub deepest_ends : (g : Digraph) (depths : List ℕ) (n best : ℕ) → IsDeepestOf g depths n 0 best → IsDeepest g depths n best
deepest_ends g depths n best h = record {
  each = λ x leads. let at = at_leads g n x leads in h.each at.0 x (omega arith) at.1;
  some = h.some;
}

-- ---- chains

-- the first edge of those that lead from a node to another
first_edge : (g : Digraph) (a b : ℕ) → Reaches g a b → (x : ℕ) × Leads g a x × ((x ≡ b) ⊎ Reaches g x b)
first_edge g a b ([], leads) = (b, leads, inl refl)
first_edge g a b (x ∷ xs, path) = (x, path.0, inr (xs, path.1))

-- edges lead from a node to all that a node to which it leads is or reaches
edge_then : (g : Digraph) (a x b : ℕ) → Leads g a x → (x ≡ b) ⊎ Reaches g x b → Reaches g a b
edge_then g a x b leads (inl same) = ([], subst (Leads g a) same leads)
edge_then g a x b leads (inr (between, path)) = (x ∷ between, (leads, path))

starts_then : (g : Digraph) (a x : ℕ) (chain : List ℕ) → Leads g a x → StartsFrom g x chain → StartsFrom g a chain
starts_then g a x [] leads h = tt
starts_then g a x (b ∷ rest) leads h = inr (edge_then g a x b leads h)

tail_chain : (g : Digraph) (counted : List Bool) (n : ℕ) (chain : List ℕ) → IsCountedChain g counted (n ∷ chain) → IsCountedChain g counted chain
tail_chain g counted n [] h = record { nodes = tt; reaches = tt }
tail_chain g counted n (x ∷ xs) h = record { nodes = h.nodes.1; reaches = h.reaches.1 }

-- a counted node before a chain from a node to which it leads
lengthened : (g : Digraph) (counted : List Bool) (n x : ℕ) (chain : List ℕ) → is_counted counted n ≡ true → Leads g n x → StartsFrom g x chain → IsCountedChain g counted chain → IsCountedChain g counted (n ∷ chain)
lengthened g counted n x [] is leads starts h = record { nodes = (is, tt); reaches = tt }
lengthened g counted n x (b ∷ rest) is leads starts h = record { nodes = (is, h.nodes); reaches = (edge_then g n x b leads starts, h.reaches) }

-- ---- the depth of a node

-- the depths of all nodes to which the node leads are known
abbrev AreBelow : Digraph → List Bool → List ℕ → ℕ → Type 0
AreBelow g counted depths n = (x : ℕ) → Leads g n x → IsDepth g counted x (depth_at depths x)

-- a chain from a node that the node reaches is no longer than the deepest
reached_most : (g : Digraph) (counted : List Bool) (depths : List ℕ) (n best y : ℕ) (ys : List ℕ) → AreBelow g counted depths n → IsDeepest g depths n best → Reaches g n y → IsCountedChain g counted (y ∷ ys)
    → length (y ∷ ys) ≤ best
reached_most g counted depths n best y ys below h reaches chain =
    let first = first_edge g n y reaches in
    let long = (below first.0 first.1).most (y ∷ ys) chain first.2 in
    let le = h.each first.0 first.1 in
    omega (arith, long, le)

tail_most : (g : Digraph) (counted : List Bool) (depths : List ℕ) (n best : ℕ) (ys : List ℕ) → AreBelow g counted depths n → IsDeepest g depths n best → IsCountedChain g counted (n ∷ ys) → length ys ≤ best
tail_most g counted depths n best [] below h chain = omega arith
tail_most g counted depths n best (z ∷ zs) below h chain = reached_most g counted depths n best z zs below h chain.reaches.0 (tail_chain g counted n (z ∷ zs) chain)

one_more : (counted : List Bool) (n : ℕ) (ys best : ℕ) → is_counted counted n ≡ true → ys ≤ best → suc ys ≤ best + cond (is_counted counted n) 1 0
one_more counted n ys best is le = let one : ◌≡◌ {A = ℕ} (cond (is_counted counted n) 1 0) 1 = ap (λ t. cond t 1 0) is in omega (arith, le, one)

step_most : (g : Digraph) (counted : List Bool) (depths : List ℕ) (n best : ℕ) → AreBelow g counted depths n → IsDeepest g depths n best
    → (other : List ℕ) → IsCountedChain g counted other → StartsFrom g n other → length other ≤ best + cond (is_counted counted n) 1 0
step_most g counted depths n best below h [] chain starts = omega arith
step_most g counted depths n best below h (y ∷ ys) chain (inl same) =
    let is : is_counted counted n ≡ true = subst (λ m. is_counted counted m ≡ true) (sym same) chain.nodes.0 in
    let le = tail_most g counted depths n best ys below h (subst (λ m. IsCountedChain g counted (m ∷ ys)) (sym same) chain) in
    one_more counted n (length ys) best is le
step_most g counted depths n best below h (y ∷ ys) chain (inr reaches) =
    let le = reached_most g counted depths n best y ys below h reaches chain in omega (arith, le)

-- a chain of counted nodes from the node on, of some length
record HasChainFrom (g : Digraph) (counted : List Bool) (n count : ℕ) : Type 0 where
  chain : List ℕ
  is_chain : IsCountedChain g counted chain
  starts : StartsFrom g n chain
  long : length chain ≡ count

no_chain : (g : Digraph) (counted : List Bool) (n long : ℕ) → long ≡ 0 → HasChainFrom g counted n long
no_chain g counted n long none = record { chain = []; is_chain = record { nodes = tt; reaches = tt }; starts = tt; long = sym none }

one_chain : (g : Digraph) (counted : List Bool) (n long : ℕ) → is_counted counted n ≡ true → long ≡ 0 → HasChainFrom g counted n (long + 1)
one_chain g counted n long is none = record { chain = n ∷ []; is_chain = record { nodes = (is, tt); reaches = tt }; starts = inl refl; long = omega (arith, none) }

-- the deepest chain below a node, with the node itself where it counts
step_chain : (g : Digraph) (counted : List Bool) (depths : List ℕ) (n best : ℕ) (t : Bool) → is_counted counted n ≡ t → AreBelow g counted depths n → IsSome g depths n best → HasChainFrom g counted n (best + cond t 1 0)
step_chain g counted depths n best true is below (inl none) = one_chain g counted n best is none
step_chain g counted depths n best false is below (inl none) = no_chain g counted n (best + 0) (omega (arith, none))
step_chain g counted depths n best true is below (inr (x, leads, same)) =
    let d = below x leads in
    record {
      chain = n ∷ d.chain;
      is_chain = lengthened g counted n x d.chain is leads d.starts d.is_chain;
      starts = inl refl;
      long = omega (arith, d.long, same);
    }
step_chain g counted depths n best false is below (inr (x, leads, same)) =
    let d = below x leads in
    record { chain = d.chain; is_chain = d.is_chain; starts = starts_then g n x d.chain leads d.starts; long = omega (arith, d.long, same) }

depth_step : (g : Digraph) (counted : List Bool) (depths : List ℕ) (n best : ℕ) → AreBelow g counted depths n → IsDeepest g depths n best → IsDepth g counted n (best + cond (is_counted counted n) 1 0)
depth_step g counted depths n best below h =
    let has = step_chain g counted depths n best (is_counted counted n) refl below h.some in
    record { chain = has.chain; is_chain = has.is_chain; starts = has.starts; long = has.long; most = step_most g counted depths n best below h }

-- ---- the nodes of a sorted graph, one by one

weight_small : (t : Bool) → cond t 1 0 ≤ 1
weight_small true = omega arith
weight_small false = omega arith

deepest_upto : (g : Digraph) (counted : List Bool) (order : List ℕ) (i n : ℕ) (depths : List ℕ) (longest best : ℕ) → IsSorted g order → slice_get order i ≡ Some n
    → AreDepths g counted (take i order) depths longest → IsDeepest g depths n best → best ≤ longest
deepest_upto g counted order i n depths longest best sorted at h deepest =
    elim deepest.some [
      | inl none ↦ omega (arith, none)
      | inr found ↦
          let before = reached_before g order i n found.0 sorted.behind at ([], found.1) in
          let le = h.upto found.0 before in
          omega (arith, le, found.2)
    ]

pub depth_upto : (g : Digraph) (counted : List Bool) (order : List ℕ) (i n : ℕ) (depths : List ℕ) (longest best : ℕ) → IsSorted g order → slice_get order i ≡ Some n
    → AreDepths g counted (take i order) depths longest → IsDeepest g depths n best → best + cond (is_counted counted n) 1 0 ≤ longest + 1
depth_upto g counted order i n depths longest best sorted at h deepest = omega (arith, deepest_upto g counted order i n depths longest best sorted at h deepest, weight_small (is_counted counted n))

-- the longer of two chains
longer : (g : Digraph) (counted : List Bool) (n a b : ℕ) → HasChain g counted a → IsDepth g counted n b → HasChain g counted (max a b)
longer g counted n a b h d =
    elim (cases_lt a b) [
      | inl less ↦ record { chain = d.chain; is_chain = d.is_chain; is_long = omega (arith, d.long, less) }
      | inr more ↦ record { chain = h.chain; is_chain = h.is_chain; is_long = omega (arith, h.is_long, more) }
    ]

-- nodes before a place of an order, and the node at it
taken_cases : (order : List ℕ) (i n x : ℕ) → slice_get order i ≡ Some n → Contains (take (i + 1) order) x → (n ≡ x) ⊎ ((x ≢ n) × Contains (take i order) x)
taken_cases order i n x at among =
    elim (cases_eq x n) [
      | inl same ↦ inl (sym same)
      | inr other ↦ elim (Contains-push_cases (take i order) n x (subst (λ xs. Contains xs x) (take-push order i n at) among)) [
        | inl before ↦ inr (other, before)
        | inr same ↦ inl same
      ]
    ]

pub depths_more : (g : Digraph) (counted : List Bool) (order : List ℕ) (i n : ℕ) (depths : List ℕ) (longest best : ℕ) → IsSorted g order → slice_get order i ≡ Some n
    → AreDepths g counted (take i order) depths longest → IsDeepest g depths n best
    → AreDepths g counted (take (i + 1) order) (slice_set depths n (best + cond (is_counted counted n) 1 0)) (max longest (best + cond (is_counted counted n) 1 0))
depths_more g counted order i n depths longest best sorted at h deepest =
    let depth = best + cond (is_counted counted n) 1 0 in
    let all = slice_set depths n depth in
    let inside = all_at (λ m. m < g.size) order i n sorted.only at in
    let there : n < length depths = omega (arith, inside, h.size) in
    let mine : depth_at all n ≡ depth = get_or-set_same depths n depth 0 there in
    let below : AreBelow g counted depths n = λ x leads. h.each x (reached_before g order i n x sorted.behind at ([], leads)) in
    let is = depth_step g counted depths n best below deepest in
    let P : ℕ → Type 0 = λ x. IsDepth g counted x (depth_at all x) in
    let Q : ℕ → Type 0 = λ x. depth_at all x ≤ max longest depth in
    record {
      size = length-set depths n depth ∙ h.size;
      each = λ x among. elim (taken_cases order i n x at among) [
        | inl same ↦ subst P same (subst (IsDepth g counted n) (sym mine) is)
        | inr old ↦ subst (IsDepth g counted x) (sym (get_or-set_other depths n x depth 0 (old.0))) (h.each x (old.1))
      ];
      upto = λ x among. elim (taken_cases order i n x at among) [
        | inl same ↦ subst Q same (omega (arith, mine))
        | inr old ↦ let was = get_or-set_other depths n x depth 0 (old.0) in let le = h.upto x (old.1) in omega (arith, was, le)
      ];
      some = longer g counted n longest depth h.some is;
    }

pub depths_none : (g : Digraph) (counted : List Bool) (depths : List ℕ) → length depths ≡ g.size → AreDepths g counted [] depths 0
depths_none g counted depths size = record {
  size = size;
  each = λ n among. absurd (omega (arith, among.1));
  upto = λ n among. absurd (omega (arith, among.1));
  some = record { chain = []; is_chain = record { nodes = tt; reaches = tt }; is_long = refl };
}

counted_inside : (counted : List Bool) (n : ℕ) → is_counted counted n ≡ true → n < length counted
counted_inside [] n is = absurd cc
counted_inside (b ∷ bs) zero is = omega arith
counted_inside (b ∷ bs) (suc n) is = omega (arith, counted_inside bs n is)

-- where the depths of all nodes are known, no chain is longer than the longest from one of them on
all_most : (g : Digraph) (counted : List Bool) (order : List ℕ) (depths : List ℕ) (longest : ℕ) → IsSorted g order → length counted ≤ g.size → AreDepths g counted order depths longest
    → (other : List ℕ) → IsCountedChain g counted other → length other ≤ longest
all_most g counted order depths longest sorted few h [] chain = omega arith
all_most g counted order depths longest sorted few h (y ∷ ys) chain =
    let inside = counted_inside counted y chain.nodes.0 in
    let among = sorted.all y (omega (arith, inside, few)) in
    let most = (h.each y among).most (y ∷ ys) chain (inl refl) in
    let le = h.upto y among in
    omega (arith, most, le)

pub most_of : (g : Digraph) (counted : List Bool) (order : List ℕ) (depths : List ℕ) (longest : ℕ) → IsSorted g order → length counted ≤ g.size → AreDepths g counted order depths longest → IsMost g counted longest
most_of g counted order depths longest sorted few h =
    record { chain = h.some.chain; is_chain = h.some.is_chain; long = h.some.is_long; most = all_most g counted order depths longest sorted few h }
