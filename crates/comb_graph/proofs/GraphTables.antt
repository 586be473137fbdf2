-- The nodes of one expression more.
use Rattle.std.proofs.Common.{◌≡◌, inl, inr, ℕ, ◌+◌, ◌^◌, ◌<◌, List, [], ◌∷◌, ◌++◌, zero, suc, map, length, sym, subst, arith}
use Rattle.std.specs.List.{AllByRecursion}
use Rattle.std.proofs.lemmas.Bool.{cases_eq}
use Rattle.std.proofs.lemmas.List.{length-append}
use Rattle.std.proofs.lemmas.List.Elements.{All-push}
use Rattle.std.proofs.Math.ListN.{get_or-append}
use Rattle.std.proofs.Math.Seq.{get_or-append_seam}
use Rattle.shape_rules.specs.Forms.{IsForm}
use Rattle.design_ir.specs.declared.signal.Sig.{Sig}
use Rattle.design_ir.specs.Pools.{Pooled}
use Rattle.design_ir.specs.PoolRules.{IsPool, HasInit}
use Rattle.design_ir.specs.Values.{form, signal_form}
use Rattle.design_ir.specs.Needed.{every, needed, needed_indices}
use Rattle.design_ir.specs.Circuits.{at}
use Rattle.amh_bits.specs.Patterns.{IsOf}
use Rattle.design_ir.proofs.NumbersFit.{has_shape}
use Rattle.digraph.specs.Graphs.{Digraph, IsGraph}
use Rattle.comb_graph.specs.Meanings.{Means, Extends}
use Rattle.comb_graph.specs.Places.{IsPlaced, HasPlaces, HasBits, HasNode, bit_nodes, first_of}
use Rattle.comb_graph.proofs.GraphMeanings.{means_more, extends_then}
use Rattle.comb_graph.proofs.GraphSteps.{all_placed_more}

-- ---- shapes

inits_fit : (sigs : List Sig) → AllByRecursion HasInit sigs → (s : ℕ) → s < length sigs → IsOf (signal_form sigs s).signed (signal_form sigs s).width (at (map (λ (x : Sig). x.init) sigs) s)
inits_fit [] h s there = absurd (omega (arith, there))
inits_fit (x ∷ sigs) h zero there = h.0
inits_fit (x ∷ sigs) h (suc s) there = inits_fit sigs h.1 s (omega (arith, there))

pub shape_of : (p : Pooled) (e : ℕ) → IsPool p → e < length p.exprs → IsForm (form p e).width (form p e).signed
shape_of p e rules there = has_shape p (map (λ (x : Sig). x.init) p.signals) rules (inits_fit p.signals rules.inits) (record { 0 = e }) there

-- ---- tables

pub places_more : (g h : Digraph) (pool : Pooled) (firsts : List ℕ) → IsGraph g → Extends g h (bit_nodes pool) → HasPlaces g pool firsts → HasPlaces h pool firsts
places_more g h pool firsts graph x p = record {
  size = omega (arith, p.size, x.size);
  table = p.table;
  placed = all_placed_more g h (bit_nodes pool) pool (first_of firsts) (length firsts) graph x p.placed;
}

-- the nodes of an expression, once all are there
placed : (g h1 h2 h3 : Digraph) (pool : Pooled) (e : ℕ) (first : ℕ → ℕ) → IsGraph h1 → IsGraph h2
    → HasBits g h1 pool e (form pool e).width → HasNode h1 h2 pool (every (form pool e) (needed pool e)) → HasNode h2 h3 pool (needed_indices pool e)
    → first e ≡ g.size → IsPlaced h3 (bit_nodes pool) pool first e
placed g h1 h2 h3 pool e first graph1 graph2 bits whole indices is =
    let count = bit_nodes pool in
    let w = (form pool e).width in
    let x = extends_then h1 h2 h3 count whole.extends indices.extends in
    let at1 : h1.size ≡ first e + w = omega (arith, bits.size, is) in
    let at2 : h2.size ≡ first e + w + 1 = omega (arith, whole.size, at1) in
    record {
      bits = λ k in'. subst (λ n. Means h3 count (n + k) (needed pool e k)) (sym is) (means_more h1 h3 count (g.size + k) (needed pool e k) graph1 x (bits.bits k in'));
      whole = subst (λ n. Means h3 count n (every (form pool e) (needed pool e))) at1 (means_more h2 h3 count h1.size (every (form pool e) (needed pool e)) graph2 indices.extends whole.means);
      indices = subst (λ n. Means h3 count n (needed_indices pool e)) at2 indices.means;
    }

placed_same : (g : Digraph) (count : ℕ) (pool : Pooled) (first other : ℕ → ℕ) (e : ℕ) → first e ≡ other e → IsPlaced g count pool first e → IsPlaced g count pool other e
placed_same g count pool first other e same p = record {
  bits = λ k in'. subst (λ n. Means g count (n + k) (needed pool e k)) same (p.bits k in');
  whole = subst (λ n. Means g count (n + (form pool e).width) (every (form pool e) (needed pool e))) same p.whole;
  indices = subst (λ n. Means g count (n + (form pool e).width + 1) (needed_indices pool e)) same p.indices;
}

pub places_push : (g h1 h2 h3 : Digraph) (pool : Pooled) (firsts : List ℕ) → IsPool pool → IsGraph g → IsGraph h1 → IsGraph h2 → HasPlaces g pool firsts → length firsts < length pool.exprs → g.size < 2 ^ 63
    → HasBits g h1 pool (length firsts) (form pool (length firsts)).width → HasNode h1 h2 pool (every (form pool (length firsts)) (needed pool (length firsts))) → HasNode h2 h3 pool (needed_indices pool (length firsts))
    → HasPlaces h3 pool (firsts ++ g.size ∷ [])
places_push g h1 h2 h3 pool firsts rules graph graph1 graph2 p there small bits whole indices =
    let count = bit_nodes pool in
    let e = length firsts in
    let firsts' = firsts ++ g.size ∷ [] in
    let long : length firsts' ≡ e + 1 = length-append firsts (g.size ∷ []) in
    let x = extends_then g h1 h3 count bits.extends (extends_then h1 h2 h3 count whole.extends indices.extends) in
    let old = places_more g h3 pool firsts graph x p in
    let new : first_of firsts' e ≡ g.size = get_or-append_seam firsts g.size [] 0 in
    record {
      size = old.size;
      table = record { few = omega (arith, long, there); room = All-push (λ n. n < 2 ^ 63) firsts g.size p.table.room small };
      placed = record {
        placed = λ a in'. elim (cases_eq a e) [
          | inl same ↦ subst (λ n. IsPlaced h3 count pool (first_of firsts') n) (sym same) (placed g h1 h2 h3 pool e (first_of firsts') graph1 graph2 bits whole indices new)
          | inr other ↦
              let below : a < e = omega (arith, in', long) in
              placed_same h3 count pool (first_of firsts) (first_of firsts') a (sym (get_or-append firsts (g.size ∷ []) 0 a below)) (old.placed.placed a below)
        ];
        shaped = λ a in'. shape_of pool a rules (omega (arith, in', long, there));
      };
    }
