-- One node more of an expression.
use Rattle.std.proofs.Common.{◌≡◌, inl, inr, ℕ, ◌+◌, ◌*◌, ◌<◌, ◌≤◌, List, [], ◌∷◌, zero, suc, Bool, true, false, slice_index_or, length, refl, sym, subst, arith, Some, slice_get}
use Rattle.std.specs.List.{All, AllByRecursion, flat_map, range_with_len}
use Rattle.std.proofs.lemmas.Bool.{cases_eq}
use Rattle.std.proofs.lemmas.List.Elements.{Contains-get_or}
use Rattle.shape_rules.specs.Forms.{Form, IsForm}
use Rattle.design_ir.specs.declared.expr.Expr.{Expr}
use Rattle.design_ir.specs.declared.signal.Sig.{Sig}
use Rattle.design_ir.specs.Named.{named, AllBelow}
use Rattle.design_ir.specs.Pools.{Pooled}
use Rattle.design_ir.specs.PoolRules.{IsPool}
use Rattle.design_ir.specs.Targets.{Bit}
use Rattle.design_ir.specs.Values.{form}
use Rattle.design_ir.specs.Needed.{every, bits_step, needed, needed_indices}
use Rattle.design_ir.proofs.Equations.{standing, form_is}
use Rattle.digraph.specs.Graphs.{Digraph, IsGraph, joined}
use Rattle.comb_graph.specs.Meanings.{Means, MeanAll, Extends}
use Rattle.comb_graph.specs.Places.{IsPlaced, ArePlaced, FitSignals, HasPlaces, HasBits, HasNode, bit_nodes, first_of, bit_targets, index_targets}
use Rattle.comb_graph.proofs.GraphMeanings.{mean-none, mean-cons, means_more, extends_same, extends_then, extends_joined, joined_means, signals_joined}
use Rattle.comb_graph.proofs.GraphPlaces.{bit_means, index_means}
use Rattle.comb_graph.proofs.GraphNeeded.{needed_is, indices_is}

placed_more : (g h : Digraph) (count : ℕ) (pool : Pooled) (first : ℕ → ℕ) (e : ℕ) → IsGraph g → Extends g h count → IsPlaced g count pool first e → IsPlaced h count pool first e
placed_more g h count pool first e graph x p = record {
  bits = λ k in'. means_more g h count (first e + k) (needed pool e k) graph x (p.bits k in');
  whole = means_more g h count (first e + (form pool e).width) (every (form pool e) (needed pool e)) graph x p.whole;
  indices = means_more g h count (first e + (form pool e).width + 1) (needed_indices pool e) graph x p.indices;
}

pub all_placed_more : (g h : Digraph) (count : ℕ) (pool : Pooled) (first : ℕ → ℕ) (below : ℕ) → IsGraph g → Extends g h count → ArePlaced g count pool first below → ArePlaced h count pool first below
all_placed_more g h count pool first below graph x p = record {
  placed = λ e in'. placed_more g h count pool first e graph x (p.placed e in');
  shaped = p.shaped;
}

pub narrow : (w : ℕ) (s : Bool) → IsForm w s → w ≤ 128
narrow w false h = h
narrow w true h = h.1

-- the bits of signals have their nodes first
pub signals_fit : (sigs : List Sig) → AllByRecursion (λ (x : Sig). IsForm x.shape.width x.shape.signed) sigs → FitSignals (128 * length sigs) sigs
signals_fit [] h s k there inside = absurd (omega (arith, there))
signals_fit (x ∷ sigs) h zero k there inside = let low = narrow x.shape.width x.shape.signed h.0 in (omega (arith, inside, low), omega (arith, inside, low))
signals_fit (x ∷ sigs) h (suc s) k there inside = let more = signals_fit sigs h.1 s k (omega (arith, there)) inside in (omega (arith, more.0), more.1)

pub inside_all : (g : Digraph) (count : ℕ) (ns : List ℕ) (bits : List Bit) → MeanAll g count ns bits → All (λ n. n < g.size) ns
inside_all g count ns bits m = λ k d in'. m.inside (slice_index_or ns k d) (Contains-get_or ns k d in')

module _ (pool : Pooled) (rules : IsPool pool) (e : ℕ) (x : Expr) (is : slice_get pool.exprs e ≡ Some x) where
  -- where the node of a bit leads
  pub bit_leads : (g h : Digraph) (firsts : List ℕ) (k : ℕ) → HasPlaces g pool firsts → e ≡ length firsts → IsGraph g → HasBits g h pool e k → k < (form pool e).width
      → MeanAll h (bit_nodes pool) (bit_targets (form pool) (first_of firsts) x k) (bits_step (form pool) (needed pool) x k)
  bit_leads g h firsts k p next graph bits inside =
      let stands = standing pool e x rules is in
      let below : ArePlaced h (bit_nodes pool) pool (first_of firsts) (length firsts) = all_placed_more g h (bit_nodes pool) pool (first_of firsts) (length firsts) graph bits.extends p.placed in
      bit_means h (bit_nodes pool) pool (first_of firsts) (length firsts) below x k (omega (arith, p.size, bits.size))
      (subst (λ n. AllBelow n (named x)) next stands.names) stands.askable.parts (signals_fit pool.signals rules.shapes)
      (subst (λ (f : Form). k < f.width) (form_is pool e x rules is) inside)

  pub bits_begin : (g : Digraph) → HasBits g g pool e 0
  bits_begin g = record { size = omega arith; extends = extends_same g (bit_nodes pool); signals = λ a b below leads. leads; bits = λ k in'. absurd (omega (arith, in')) }

  pub bits_more : (g h : Digraph) (firsts : List ℕ) (k : ℕ) → HasPlaces g pool firsts → e ≡ length firsts → IsGraph g → IsGraph h → HasBits g h pool e k → k < (form pool e).width
      → HasBits g (joined h (bit_targets (form pool) (first_of firsts) x k)) pool e (k + 1)
  bits_more g h firsts k p next graph graph' bits inside =
      let ts = bit_targets (form pool) (first_of firsts) x k in
      let count = bit_nodes pool in
      let m = bit_leads g h firsts k p next graph bits inside in
      let more = extends_joined h count ts m.inside in
      let new : Means (joined h ts) count h.size (bits_step (form pool) (needed pool) x k) = joined_means h count ts (bits_step (form pool) (needed pool) x k) graph' (omega (arith, p.size, bits.size)) m in
      record {
        size = omega (arith, bits.size);
        extends = extends_then g h (joined h ts) count bits.extends more;
        signals = λ a b below leads. bits.signals a b below (signals_joined h count ts (omega (arith, p.size, bits.size)) a b below leads);
        bits = λ j in'. elim (cases_eq j k) [
          | inl same ↦
              let P : ℕ → List Bit → Type 0 = λ n bs. Means (joined h ts) count n bs in
              subst (λ i. P (g.size + i) (needed pool e i)) (sym same)
              (subst (λ n. P n (needed pool e k)) (bits.size) (subst (λ (f : ℕ → List Bit). P h.size (f k)) (sym (needed_is pool e x rules is)) new))
          | inr other ↦ means_more h (joined h ts) count (g.size + j) (needed pool e j) graph' more (bits.bits j (omega arith))
        ];
      }

  pub index_leads : (g : Digraph) (firsts : List ℕ) → HasPlaces g pool firsts → e ≡ length firsts → MeanAll g (bit_nodes pool) (index_targets (form pool) (first_of firsts) x) (needed_indices pool e)
  index_leads g firsts p next =
      let stands = standing pool e x rules is in
      subst (λ bs. MeanAll g (bit_nodes pool) (index_targets (form pool) (first_of firsts) x) bs) (sym (indices_is pool e x rules is))
      (index_means g (bit_nodes pool) pool (first_of firsts) (length firsts) p.placed x (subst (λ n. AllBelow n (named x)) next stands.names))

-- a node of several
pub node_more : (g : Digraph) (pool : Pooled) (ts : List ℕ) (bits : List Bit) → IsGraph g → bit_nodes pool ≤ g.size → MeanAll g (bit_nodes pool) ts bits → HasNode g (joined g ts) pool bits
node_more g pool ts bits graph size m = record {
  size = refl;
  extends = extends_joined g (bit_nodes pool) ts m.inside;
  signals = signals_joined g (bit_nodes pool) ts size;
  means = joined_means g (bit_nodes pool) ts bits graph size m;
}

-- the nodes of all bits of an expression
pub whole_leads : (g : Digraph) (count first from n : ℕ) (bits : ℕ → List Bit) → ((k : ℕ) → k < from + n → Means g count (first + k) (bits k)) → MeanAll g count (range_with_len (first + from) n) (flat_map bits (range_with_len from n))
whole_leads g count first from zero bits h = mean-none g count
whole_leads g count first from (suc n) bits h =
    let next : first + from + 1 ≡ first + (from + 1) = omega arith in
    mean-cons g count (first + from) (range_with_len (first + from + 1) n) (bits from) (flat_map bits (range_with_len (from + 1) n)) (h from (omega arith))
    (subst (λ a. MeanAll g count (range_with_len a n) (flat_map bits (range_with_len (from + 1) n))) (sym next) (whole_leads g count first (from + 1) n bits (λ k in'. h k (omega (arith, in')))))
