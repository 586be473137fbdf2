-- Paths through a graph from one signal's node to another are chains of needs.
use Rattle.std.proofs.Common.{◌≡◌, ◌∙◌, ◌⊎◌, inl, inr, ℕ, zero, suc, ◌<◌, ◌≤◌, List, [], ◌∷◌, ◌++◌, length, refl, sym, ap, subst, arith}
use Rattle.std.proofs.lemmas.Bool.{cases_lt}
use Rattle.design_ir.specs.Targets.{Bit}
use Rattle.design_ir.specs.Circuits.{Circuit}
use Rattle.design_ir.specs.Loops.{Needs, Chain}
use Rattle.digraph.specs.Graphs.{Digraph, Leads, Path, Reaches}
use Rattle.comb_graph.specs.Meanings.{node_of, Walks, Comes, IsDown}
use Rattle.design_ir.specs.declared.signal.Sig.{Sig}
use Rattle.design_ir.specs.Values.{signal_form}
use Rattle.design_ir.specs.PoolRules.{IsPool}
use Rattle.comb_graph.specs.Orders.{IsCombBit}
use Rattle.comb_graph.specs.Places.{bit_nodes}
use Rattle.comb_graph.proofs.Positions.{needs_comb}
use Rattle.comb_graph.proofs.GraphSteps.{signals_fit}
use Rattle.comb_graph.specs.Rules.{Rule, IsRuled, ObeysRules, IsAsked}

-- ---- the bit of a node

abbrev bit_with : ℕ → ℕ → Bit
bit_with s i = record { sig = s; index = i }

-- a node is one bit's alone
pub bit_same : (a b : Bit) → a.index < 128 → b.index < 128 → node_of a ≡ node_of b → a ≡ b
bit_same a b p q same =
    let sig : a.sig ≡ b.sig = omega (arith, p, q, same) in
    let index : a.index ≡ b.index = omega (arith, p, q, same) in
    ap (λ s. bit_with s a.index) sig ∙ ap (bit_with b.sig) index

-- ---- paths

pub path_then : (g : Digraph) (a b c : ℕ) (xs ys : List ℕ) → Path g a xs b → Path g b ys c → Path g a (xs ++ b ∷ ys) c
path_then g a b c [] ys p q = (p, q)
path_then g a b c (x ∷ xs) ys p q = (p.0, path_then g x b c xs ys p.1 q)

pub reaches_then : (g : Digraph) (a b c : ℕ) → Reaches g a b → Reaches g b c → Reaches g a c
reaches_then g a b c (xs, p) (ys, q) = (xs ++ b ∷ ys, path_then g a b c xs ys p q)

-- an edge, and then a walk past the signals' nodes
pub walk_path : (g : Digraph) (count a m : ℕ) (ms : List ℕ) (x : ℕ) → Leads g a m → Walks g count m ms x → Reaches g a x
walk_path g count a m [] x leads w = ([], subst (λ n. Leads g a n) w leads)
walk_path g count a m (n ∷ ns) x leads w = let more = walk_path g count m n ns x w.1 w.2 in (m ∷ more.0, (leads, more.1))

-- ---- chains of needs

-- a chain of needs from the bit of one node to that of another
pub record IsChained (c : Circuit) (n x : ℕ) : Type 0 where
  pub from : Bit
  pub from_low : from.index < 128
  pub from_at : node_of from ≡ n
  pub between : List Bit
  pub upto : Bit
  pub upto_low : upto.index < 128
  pub upto_at : node_of upto ≡ x
  pub chain : Chain c from between upto

-- the first of signals' nodes to which one comes on the way to x
record Entered (g : Digraph) (count : ℕ) (c : Circuit) (m x : ℕ) : Type 0 where
  node : ℕ
  below : node < count
  comes : Comes g count m node
  rest : (node ≡ x) ⊎ IsChained c node x

-- the edges of a graph are the needs of a circuit's bits
pub record IsOfNeeds (g : Digraph) (c : Circuit) : Type 0 where
  pub size : bit_nodes c.pool ≤ g.size
  pub down : IsDown g (bit_nodes c.pool)
  pub rules : List Rule
  pub obeys : ObeysRules g (bit_nodes c.pool) rules
  pub asked : (b x : Bit) → Needs c b x → IsAsked rules b x
  pub needs : (b x : Bit) → IsAsked rules b x → Needs c b x

-- ---- bits of combinational signals

sig_there : (sigs : List Sig) (s i : ℕ) → i < (signal_form sigs s).width → s < length sigs
sig_there [] s i h = absurd (omega (arith, h))
sig_there (x ∷ sigs) zero i h = omega arith
sig_there (x ∷ sigs) (suc s) i h = let more = sig_there sigs s i h in omega (arith, more)

-- such a bit has a node of its own
pub comb_node : (c : Circuit) (b : Bit) → IsPool c.pool → IsCombBit c b → (node_of b < bit_nodes c.pool) × (b.index < 128)
comb_node c b pool comb = signals_fit c.pool.signals pool.shapes b.sig b.index (sig_there c.pool.signals b.sig b.index comb.inside) comb.inside

module _ (c : Circuit) (g : Digraph) (pool : IsPool c.pool) (is : IsOfNeeds g c) where
  -- a bit's node reaches those of the bits that it needs
  pub need_reaches : (b x : Bit) → Needs c b x → Reaches g (node_of b) (node_of x)
  need_reaches b x h =
      let a = is.asked b x h in
      let found = is.obeys.into a.rule x a.among a.reads in
      let from = subst (λ (y : Bit). Leads g (node_of y) found.0) a.bit found.1 in
      walk_path g (bit_nodes c.pool) (node_of b) found.0 found.2.0 (node_of x) from found.2.1

  pub chain_reaches : (b : Bit) (between : List Bit) (x : Bit) → Chain c b between x → Reaches g (node_of b) (node_of x)
  chain_reaches b [] x h = need_reaches b x h
  chain_reaches b (y ∷ ys) x h = reaches_then g (node_of b) (node_of y) (node_of x) (need_reaches b y h.0) (chain_reaches y ys x h.1)

  ruled_needs : (n x : ℕ) (r : IsRuled is.rules n x) → Needs c r.rule.bit r.read
  ruled_needs n x r = is.needs r.rule.bit r.read (record { rule = r.rule; among = r.among; bit = refl; reads = r.reads })

  one_chained : (n x : ℕ) → IsRuled is.rules n x → IsChained c n x
  one_chained n x r = record {
    from = r.rule.bit;
    from_low = (comb_node c r.rule.bit pool (needs_comb c r.rule.bit r.read (ruled_needs n x r))).1;
    from_at = r.bit;
    between = [];
    upto = r.read;
    upto_low = r.low;
    upto_at = r.at;
    chain = ruled_needs n x r;
  }

  more_chained : (n y x : ℕ) → IsRuled is.rules n y → IsChained c y x → IsChained c n x
  more_chained n y x r h =
      let same : r.read ≡ h.from = bit_same r.read h.from r.low h.from_low (r.at ∙ sym h.from_at) in
      record {
        from = r.rule.bit;
        from_low = (comb_node c r.rule.bit pool (needs_comb c r.rule.bit r.read (ruled_needs n y r))).1;
        from_at = r.bit;
        between = h.from ∷ h.between;
        upto = h.upto;
        upto_low = h.upto_low;
        upto_at = h.upto_at;
        chain = (subst (λ b. Needs c r.rule.bit b) same (ruled_needs n y r), h.chain);
      }

  -- a step to a node that was entered
  step : (n m x : ℕ) → n < (bit_nodes c.pool) → Leads g n m → Entered g (bit_nodes c.pool) c m x → IsChained c n x
  step n m x below leads e =
      let r = is.obeys.only n m e.node below leads e.below e.comes in
      elim e.rest [ inl same ↦ one_chained n x (subst (λ k. IsRuled is.rules n k) same r) | inr more ↦ more_chained n e.node x r more ]

  -- the end, or a path to it
  here : (x : ℕ) → x < (bit_nodes c.pool) → Entered g (bit_nodes c.pool) c x x
  here x below = record { node = x; below = below; comes = ([], refl); rest = inl refl }

  -- from a node that leads to one that was entered
  enter : (m z x : ℕ) → Leads g m z → Entered g (bit_nodes c.pool) c z x → Entered g (bit_nodes c.pool) c m x
  enter m z x leads e =
      elim (cases_lt m (bit_nodes c.pool)) [
        | inl below ↦ record { node = m; below = below; comes = ([], refl); rest = inr (step m z x below leads e) }
        | inr past ↦ record { node = e.node; below = e.below; comes = (z ∷ e.comes.0, (omega (arith, past), leads, e.comes.1)); rest = e.rest }
      ]

  along : (ms : List ℕ) (m x : ℕ) → x < (bit_nodes c.pool) → Path g m ms x → Entered g (bit_nodes c.pool) c m x
  along [] m x below path = enter m x x path (here x below)
  along (z ∷ zs) m x below path = enter m z x path.0 (along zs z x below path.1)

  -- a path between nodes of signals is a chain of needs
  pub reaches_chained : (n x : ℕ) → n < (bit_nodes c.pool) → x < (bit_nodes c.pool) → Reaches g n x → IsChained c n x
  reaches_chained n x inside below ([], path) = step n x x inside path (here x below)
  reaches_chained n x inside below (z ∷ zs, path) = step n z x inside path.0 (along zs z x below path.1)

  -- ---- loops

  pub loop_of : (b : Bit) → b.index < 128 → node_of b < (bit_nodes c.pool) → Reaches g (node_of b) (node_of b) → (between : List Bit) × Chain c b between b
  loop_of b low' below loops =
      let h = reaches_chained (node_of b) (node_of b) below below loops in
      let first : h.from ≡ b = bit_same h.from b h.from_low low' h.from_at in
      let last : h.upto ≡ b = bit_same h.upto b h.upto_low low' h.upto_at in
      (h.between, subst (λ x. Chain c b h.between x) last (subst (λ x. Chain c x h.between h.upto) first h.chain))

-- ---- past the signals' nodes there is no loop

-- a signal's node on the way from one node to another
record IsPassed (g : Digraph) (count n x : ℕ) : Type 0 where
  node : ℕ
  below : node < count
  from : (n ≡ node) ⊎ Reaches g n node
  upto : (node ≡ x) ⊎ Reaches g node x

reach_more : (g : Digraph) (n z x : ℕ) → Leads g n z → (z ≡ x) ⊎ Reaches g z x → Reaches g n x
reach_more g n z x leads rest = elim rest [ inl same ↦ ([], subst (λ k. Leads g n k) same leads) | inr (ms, path) ↦ (z ∷ ms, (leads, path)) ]

-- every path falls, or passes a signal's node
falls : (g : Digraph) (count : ℕ) → IsDown g count → (ms : List ℕ) (n x : ℕ) → Path g n ms x → (x < n) ⊎ IsPassed g count n x
falls g count down [] n x path =
    elim (cases_lt n count) [
      | inl below ↦ inr (record { node = n; below = below; from = inl refl; upto = inr ([], path) })
      | inr past ↦ inl (down n x (omega (arith, past)) path)
    ]
falls g count down (z ∷ zs) n x path =
    elim (cases_lt n count) [
      | inl below ↦ inr (record { node = n; below = below; from = inl refl; upto = inr (z ∷ zs, path) })
      | inr past ↦ elim (falls g count down zs z x path.1) [
        | inl less ↦ inl (omega (arith, less, down n z (omega (arith, past)) path.0))
        | inr h ↦ inr (record { node = h.node; below = h.below; from = inr (reach_more g n z h.node path.0 h.from); upto = h.upto })
      ]
    ]

join_reaches : (g : Digraph) (a b c : ℕ) → (a ≡ b) ⊎ Reaches g a b → Reaches g b c → Reaches g a c
join_reaches g a b c first second = elim first [ inl same ↦ subst (λ k. Reaches g k c) (sym same) second | inr r ↦ reaches_then g a b c r second ]

-- where a node reaches itself, a signal's node does
pub signal_loops : (g : Digraph) (count n : ℕ) → IsDown g count → Reaches g n n → (k : ℕ) × (k < count) × Reaches g k k
signal_loops g count n down (ms, path) =
    elim (falls g count down ms n n path) [
      | inl less ↦ absurd (omega (arith, less))
      | inr h ↦ (
        h.node,
        h.below,
        elim h.upto [
          | inl same ↦ subst (λ k. Reaches g h.node k) (sym same) (join_reaches g h.node n n (inl same) (ms, path))
          | inr r ↦ join_reaches g h.node n h.node (inr r) (elim h.from [ inl same ↦ subst (λ k. Reaches g n k) same (ms, path) | inr q ↦ q ])
        ],
      )
    ]
