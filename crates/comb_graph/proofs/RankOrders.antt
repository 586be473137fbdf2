-- What the graph of a design's needs says of the order of its bits, of its loops and of its longest chain of needs.
use Rattle.std.proofs.Common.{◌≡◌, ◌∙◌, inl, inr, ℕ, ◌<◌, ◌≤◌, Bool, true, Some, None, List, [], ◌∷◌, ◌++◌, map, length, take, sym, ap, subst, arith, nat_eq, false}
use Rattle.std.specs.List.{Contains, AllByRecursion, IsDistinct}
use Rattle.std.proofs.lemmas.Bool.{cases_lt, ne_eqb}
use Rattle.std.proofs.lemmas.List.{length-map, length-append}
use Rattle.design_ir.specs.Targets.{Bit}
use Rattle.design_ir.specs.PoolRules.{IsPool}
use Rattle.design_ir.specs.Circuits.{Circuit}
use Rattle.design_ir.specs.Loops.{Needs, Chain, Loop}
use Rattle.digraph.specs.Graphs.{Digraph, Reaches, IsSorted}
use Rattle.comb_graph.specs.Meanings.{node_of}
use Rattle.comb_graph.specs.Places.{bit_nodes}
use Rattle.comb_graph.specs.Orders.{IsCombBit, IsOrder, IsCombChain, IsLongest}
use Rattle.comb_graph.specs.Refusals.{IsUpTo, IsLeastLoop}
use Rattle.digraph.specs.Searches.{IsLeast}
use Rattle.digraph.specs.Depths.{is_counted, ReachesNext, IsCountedChain, IsMost}
use Rattle.digraph.specs.Walks.{IsSeen}
use Rattle.digraph.specs.declared.walk.Mark.{Mark}
use Rattle.comb_graph.specs.CombNodes.{bit_at, is_comb_bit, is_comb_node, comb_bits}
use Rattle.digraph.proofs.Members.{all_from_contains}
use Rattle.digraph.proofs.WalkEnds.{reached_before}
use Rattle.comb_graph.proofs.Positions.{needs_comb, no_loop}
use Rattle.comb_graph.specs.Rules.{IsNeedsGraph, needs_rules}
use Rattle.comb_graph.proofs.GraphNeeds.{needs_are_asked, asked_are_needs}
use Rattle.digraph.proofs.WalkPaths.{contains-cases}
use Rattle.design_ir.proofs.Counts.{few_below}
use Rattle.comb_graph.proofs.RankPaths.{reaches_then, IsOfNeeds, bit_same, comb_node, need_reaches, chain_reaches, reaches_chained, loop_of, signal_loops}
use Rattle.comb_graph.proofs.RankNodes.{node_at, low_at, at_node, comb_of_test, test_of_comb, bits_have, bits_of, split_bits, bits_once}

module _ (c : Circuit) (g : Digraph) (pool : IsPool c.pool) (is : IsOfNeeds g c) where
  -- ---- the order

  -- what a bit needs stands before it
  bits_behind : (order : List ℕ) → IsSorted g order → (before after : List Bit) (b x : Bit) → comb_bits c order ≡ before ++ b ∷ after → IsCombBit c x → Needs c b x → Contains before x
  bits_behind order sorted before after b x same comb needs =
      let split = split_bits c order before after b same in
      let reached = reached_before g order split.place (node_of b) (node_of x) sorted.behind split.at (need_reaches c g pool is b x needs) in
      subst (λ xs. Contains xs x) split.bits (bits_have c (take split.place order) x pool comb reached)

  pub order_of : (order : List ℕ) → IsSorted g order → IsOrder c (comb_bits c order)
  order_of order sorted = record {
    all = λ b comb. bits_have c order b pool comb (sorted.all (node_of b) (omega (arith, is.size, (comb_node c b pool comb).0)));
    only = all_from_contains (IsCombBit c) (comb_bits c order) (λ b in'. (bits_of c order b in').1);
    once = bits_once c order sorted.once;
    behind = bits_behind order sorted;
  }

  -- ---- loops

  -- a bit that needs itself is that of a node that reaches itself
  loop_node : (b : Bit) → Loop c b → IsCombBit c b × Reaches g (node_of b) (node_of b)
  loop_node b ([], chain) = (needs_comb c b b chain, chain_reaches c g pool is b [] b chain)
  loop_node b (x ∷ xs, chain) = (needs_comb c b x chain.0, chain_reaches c g pool is b (x ∷ xs) b chain)

  up_to : (a b : Bit) → b.index < 128 → node_of a ≤ node_of b → a.index < 128 → IsUpTo a b
  up_to a b low le low' = elim (cases_lt a.sig b.sig) [ inl less ↦ inl less | inr more ↦ inr (omega (arith, low, le, low', more), omega (arith, low, le, low', more)) ]

  pub least_loop_of : (n : ℕ) → IsLeast g (bit_nodes c.pool) (Some n) → IsLeastLoop c (bit_at n)
  least_loop_of n least =
      let node : node_of (bit_at n) ≡ n = node_at n in
      record {
        loops = loop_of c g pool is (bit_at n) (low_at n) (omega (arith, node, least.0)) (subst (λ k. Reaches g k k) (sym node) least.1);
        least = λ x loops.
            let found = loop_node x loops in
            let low = (comb_node c x pool found.0).1 in
            elim (cases_lt (node_of x) n) [
              | inl less ↦ absurd (least.2 (node_of x) less found.1)
              | inr more ↦ up_to (bit_at n) x low (omega (arith, more, node)) (low_at n)
            ];
      }

  -- where a node reaches itself there is a least signal's node that does
  pub some_least : (marks : List Mark) → IsSeen g marks → IsLeast g (bit_nodes c.pool) None → ⊥
  some_least marks seen none =
      let found = signal_loops g (bit_nodes c.pool) seen.node is.down seen.loops in
      none found.0 found.1 found.2

  -- ---- the longest chain

  -- a chain that begins with the bit of a node, and is as long as the nodes are many
  record IsRefined (n : ℕ) (ns : List ℕ) : Type 0 where
    rest : List Bit
    is_chain : IsCombChain c (bit_at n ∷ rest)
    long : length ns ≤ length rest

  prepend : (b : Bit) (between : List Bit) (x : Bit) (rest : List Bit) → Chain c b between x → IsCombChain c (x ∷ rest) → IsCombChain c (b ∷ (between ++ x ∷ rest))
  prepend b [] x rest chain h = record { bits = (needs_comb c b x chain, h.bits); needs = (chain, h.needs) }
  prepend b (y ∷ ys) x rest chain h =
      let more = prepend y ys x rest chain.1 h in
      record { bits = (needs_comb c b y chain.0, more.bits); needs = (chain.0, more.needs) }

  module _ (counted : List Bool) (are : (n : ℕ) → is_counted counted n ≡ is_comb_node c n) where
    comb_at : (n : ℕ) → is_counted counted n ≡ true → IsCombBit c (bit_at n)
    comb_at n yes' = comb_of_test c (bit_at n) (sym (are n) ∙ yes')

    below_at : (n : ℕ) → is_counted counted n ≡ true → n < bit_nodes c.pool
    below_at n yes' = let h = comb_node c (bit_at n) pool (comb_at n yes') in omega (arith, h.0, node_at n)

    refine : (n : ℕ) (ns : List ℕ) → AllByRecursion (λ k. is_counted counted k ≡ true) (n ∷ ns) → ReachesNext g (n ∷ ns) → IsRefined n ns
    refine n [] all next = record { rest = []; is_chain = record { bits = (comb_at n all.0, tt); needs = tt }; long = omega arith }
    refine n (x ∷ ns) all next =
        let more = refine x ns all.1 next.1 in
        let h = reaches_chained c g pool is n x (below_at n all.0) (below_at x all.1.0) next.0 in
        let first : h.from ≡ bit_at n = bit_same h.from (bit_at n) h.from_low (low_at n) (h.from_at ∙ sym (node_at n)) in
        let last : h.upto ≡ bit_at x = bit_same h.upto (bit_at x) h.upto_low (low_at x) (h.upto_at ∙ sym (node_at x)) in
        let chain = subst (λ y. Chain c (bit_at n) h.between y) last (subst (λ y. Chain c y h.between h.upto) first h.chain) in
        record {
          rest = h.between ++ bit_at x ∷ more.rest;
          is_chain = prepend (bit_at n) h.between (bit_at x) more.rest chain more.is_chain;
          long = omega (arith, more.long, length-append h.between (bit_at x ∷ more.rest));
        }

    -- the nodes of a chain of bits
    counted_of : (b : Bit) → IsCombBit c b → is_counted counted (node_of b) ≡ true
    counted_of b comb = are (node_of b) ∙ ap (is_comb_bit c) (at_node b (comb_node c b pool comb).1) ∙ test_of_comb c b comb

    coarsen : (chain : List Bit) → IsCombChain c chain → IsCountedChain g counted (map node_of chain)
    coarsen [] h = record { nodes = tt; reaches = tt }
    coarsen (b ∷ []) h = record { nodes = (counted_of b h.bits.0, tt); reaches = tt }
    coarsen (b ∷ x ∷ xs) h =
        let more = coarsen (x ∷ xs) (record { bits = h.bits.1; needs = h.needs.1 }) in
        record { nodes = (counted_of b h.bits.0, more.nodes); reaches = (need_reaches c g pool is b x h.needs.0, more.reaches) }

    at_most : (n : ℕ) → ((other : List ℕ) → IsCountedChain g counted other → length other ≤ n) → (other : List Bit) → IsCombChain c other → length other ≤ n
    at_most n most other h = omega (arith, most (map node_of other) (coarsen other h), length-map other node_of)

    longest_from : (n : ℕ) (chain : List ℕ) → IsCountedChain g counted chain → length chain ≡ n → ((other : List ℕ) → IsCountedChain g counted other → length other ≤ n) → IsLongest c n
    longest_from n [] h long most = record { chain = []; is_chain = record { bits = tt; needs = tt }; long = long; most = at_most n most }
    longest_from n (x ∷ xs) h long most =
        let r = refine x xs h.nodes h.reaches in
        let few = at_most n most (bit_at x ∷ r.rest) r.is_chain in
        record { chain = bit_at x ∷ r.rest; is_chain = r.is_chain; long = omega (arith, r.long, few, long); most = at_most n most }

    pub longest_of : (n : ℕ) → IsMost g counted n → IsLongest c n
    longest_of n h = longest_from n h.chain h.is_chain h.long h.most

    -- no chain has more nodes than signals have
    reached_all : (n : ℕ) (ns : List ℕ) → ReachesNext g (n ∷ ns) → (x : ℕ) → Contains ns x → Reaches g n x
    reached_all n [] next x in' = absurd (omega (arith, in'.1))
    reached_all n (y ∷ ys) next x in' =
        elim (contains-cases y x ys in') [
          | inl same ↦ subst (λ k. Reaches g n k) same next.0
          | inr more ↦ reaches_then g n y x next.0 (reached_all y ys next.1 x more)
        ]

    chain_more : (n : ℕ) (ns : List ℕ) → ReachesNext g (n ∷ ns) → ReachesNext g ns
    chain_more n [] next = tt
    chain_more n (x ∷ xs) next = next.1

    module _ (order : List ℕ) (sorted : IsSorted g order) where
      no_return : (n : ℕ) → is_counted counted n ≡ true → Reaches g n n → ⊥
      no_return n yes' loops =
          let node = node_at n in
          let loop = loop_of c g pool is (bit_at n) (low_at n) (omega (arith, node, below_at n yes')) (subst (λ k. Reaches g k k) (sym node) loops) in
          no_loop c (comb_bits c order) (order_of order sorted) (bit_at n) loop.0 loop.1

      chain_distinct : (chain : List ℕ) → AllByRecursion (λ k. is_counted counted k ≡ true) chain → ReachesNext g chain → IsDistinct nat_eq chain
      unfolding IsDistinct
      chain_distinct [] all next = tt
      chain_distinct (n ∷ ns) all next = (
        all_from_contains (λ x. nat_eq n x ≡ false) ns (λ x in'. ne_eqb n x (λ same. no_return n all.0 (subst (λ k. Reaches g n k) (sym same) (reached_all n ns next x in')))),
        chain_distinct ns all.1 (chain_more n ns next),
      )

      chain_below : (chain : List ℕ) → AllByRecursion (λ k. is_counted counted k ≡ true) chain → AllByRecursion (λ k. k < bit_nodes c.pool) chain
      chain_below [] all = tt
      chain_below (n ∷ ns) all = (below_at n all.0, chain_below ns all.1)

      pub most_few : (n : ℕ) → IsMost g counted n → n ≤ bit_nodes c.pool
      most_few n h =
          let distinct = chain_distinct h.chain h.is_chain.nodes h.is_chain.reaches in
          omega (arith, h.long, few_below h.chain (bit_nodes c.pool) distinct (chain_below h.chain h.is_chain.nodes))

-- a design has the graph of its needs
pub of_needs : (g : Digraph) (c : Circuit) → IsNeedsGraph g c → IsOfNeeds g c
of_needs g c h = record {
  size = h.size;
  down = h.down;
  rules = needs_rules c;
  obeys = h.obeys;
  asked = needs_are_asked c;
  needs = asked_are_needs c;
}
