-- The edges of one bit more that an assignment may write.
use Rattle.std.proofs.Common.{◌≡◌, ◌∙◌, inl, inr, ℕ, suc, ◌+◌, ◌<◌, ◌≤◌, List, [], ◌∷◌, ◌++◌, map, length, refl, sym, ap, subst, arith, append_assoc, take, Contains, Option, Some, None, slice_get, option_map}
use Rattle.std.proofs.lemmas.List.{append-nil, map-append, length-map}
use Rattle.std.proofs.lemmas.Option.{slice_get-map}
use Rattle.design_ir.specs.declared.ids.ExprId.{ExprId}
use Rattle.design_ir.specs.Pools.{Pooled}
use Rattle.design_ir.specs.Targets.{Bit, Aim, fixed_place, aims}
use Rattle.design_ir.specs.Values.{form}
use Rattle.design_ir.specs.Needed.{needed_whole, needed_indices}
use Rattle.design_ir.specs.Loops.{needed_value}
use Rattle.comb_graph.specs.declared.aimed.Aimed.{Aimed}
use Rattle.digraph.specs.Graphs.{Digraph, IsGraph, joined, leading}
use Rattle.comb_graph.specs.Meanings.{node_of, Means, MeanAll}
use Rattle.comb_graph.specs.Places.{HasPlaces, bit_nodes, first_of, whole_at, indices_at, extended_at}
use Rattle.comb_graph.specs.Rules.{Rule, ObeysRules, Adds, AddsAims, AddsAssignment, guard_reads, reading, value_targets}
use Rattle.comb_graph.specs.Seen.{seen, spot_of}
use Rattle.comb_graph.proofs.AimTables.{node_back}
use Rattle.comb_graph.proofs.GraphMeanings.{mean-one, mean-cons, means_more, extends_same, extends_then, extends_joined, joined_leads, joined_means}
use Rattle.comb_graph.proofs.GraphPlaces.{whole, extends}
use Rattle.digraph.proofs.Takes.{take_at, take_end}
use Rattle.comb_graph.proofs.GraphRules.{extends_leading, obeys_more, obeys_rule}

-- where a value's part needs to lead
pub value_means : (h : Digraph) (pool : Pooled) (firsts : List ℕ) (shared : ℕ) (v : ExprId) (reads : List Bit) (source : Option ℕ) → HasPlaces h pool firsts → v.0 < length firsts → Means h (bit_nodes pool) shared reads
    → MeanAll h (bit_nodes pool) (value_targets (form pool) (first_of firsts) shared v source) (reads ++ needed_value pool v source)
value_means h pool firsts shared v reads None p there m =
    let first = first_of firsts in
    mean-cons h (bit_nodes pool) shared (whole_at (form pool) first v ∷ []) reads (needed_whole pool v) m
    (mean-one h (bit_nodes pool) (whole_at (form pool) first v) (needed_whole pool v) (whole h (bit_nodes pool) pool first (length firsts) p.placed v there))
value_means h pool firsts shared v reads (Some k) p there m =
    let first = first_of firsts in
    mean-cons h (bit_nodes pool) shared (extended_at (form pool) first v k) reads (needed_value pool v (Some k)) m
    (extends h (bit_nodes pool) pool first (length firsts) p.placed v k there)

-- no aim yet
pub aims_begin : (g : Digraph) (pool : Pooled) (shared : ℕ) (v : ExprId) (nodes : List Aimed) → AddsAims g g pool shared v nodes 0
aims_begin g pool shared v nodes = λ reads m. record {
  extends = extends_same g (bit_nodes pool);
  rules = λ rules o. subst (ObeysRules g (bit_nodes pool)) (sym (append-nil rules)) o;
}

pub aims_more : (g h : Digraph) (pool : Pooled) (firsts : List ℕ) (shared : ℕ) (v : ExprId) (nodes : List Aimed) (i : ℕ) (a : Aimed) → IsGraph g → IsGraph h → HasPlaces h pool firsts → v.0 < length firsts
    → slice_get nodes i ≡ Some a → a.node < bit_nodes pool → AddsAims g h pool shared v nodes i
    → AddsAims g (leading h a.node (value_targets (form pool) (first_of firsts) shared v (fixed_place (spot_of a.at)))) pool shared v nodes (i + 1)
aims_more g h pool firsts shared v nodes i a graph graph' p there at below so-far reads m =
    let count = bit_nodes pool in
    let xs : List Aim = map seen nodes in
    let was = so-far reads m in
    let found : slice_get xs i ≡ Some (seen a) = slice_get-map seen nodes i ∙ ap (option_map seen) at in
    let source = fixed_place (spot_of a.at) in
    let r : Rule = reading pool v reads (seen a) in
    let node : node_of (seen a).bit ≡ a.node = node_back a.node in
    let ts : List ℕ = value_targets (form pool) (first_of firsts) shared v source in
    let mean : MeanAll h count ts r.reads = value_means h pool firsts shared v reads source p there (means_more g h count shared reads graph was.extends m) in
    let next : i + 1 ≡ suc i = omega arith in
    let step : take (i + 1) xs ≡ take i xs ++ seen a ∷ [] = ap (λ n. take n xs) next ∙ take_at xs i (seen a) found in
    let split : map (reading pool v reads) (take (i + 1) xs) ≡ map (reading pool v reads) (take i xs) ++ r ∷ [] = ap (map (reading pool v reads)) step ∙ map-append (reading pool v reads) (take i xs) (seen a ∷ []) in
    record {
      extends = extends_then g h (leading h a.node ts) count was.extends (extends_leading h count a.node ts below);
      rules = λ rules o.
          let new = obeys_rule h count (rules ++ map (reading pool v reads) (take i xs)) r ts graph' (subst (λ n. n < count) (sym node) below) mean (was.rules rules o) in
          let new' = subst (λ n. ObeysRules (leading h n ts) count ((rules ++ map (reading pool v reads) (take i xs)) ++ r ∷ [])) node new in
          subst (ObeysRules (leading h a.node ts) count) (append_assoc rules (map (reading pool v reads) (take i xs)) (r ∷ []) ∙ ap (λ rs. rules ++ rs) (sym split)) new';
    }

-- ---- a whole assignment

pub obeys_joined : (g : Digraph) (count : ℕ) (ts : List ℕ) (rules : List Rule) → IsGraph g → count ≤ g.size → ((t : ℕ) → Contains ts t → t < g.size) → ObeysRules g count rules → ObeysRules (joined g ts) count rules
obeys_joined g count ts rules graph size inside o =
    obeys_more g (joined g ts) count rules graph (extends_joined g count ts inside)
    (λ a b below leads. elim (joined_leads g ts a b leads) [ inl old ↦ old | inr new ↦ absurd (omega (arith, new.0, below, size)) ]) o

-- rules that hold after one more node
pub adds_joined : (g h : Digraph) (pool : Pooled) (ts : List ℕ) (new : List Rule) → IsGraph g → bit_nodes pool ≤ g.size → ((t : ℕ) → Contains ts t → t < g.size) → Adds (joined g ts) h pool new → Adds g h pool new
adds_joined g h pool ts new graph size inside a = record {
  extends = extends_then g (joined g ts) h (bit_nodes pool) (extends_joined g (bit_nodes pool) ts inside) a.extends;
  rules = λ rules o. a.rules rules (obeys_joined g (bit_nodes pool) ts rules graph size inside o);
}

pub assignment : (g h : Digraph) (pool : Pooled) (firsts : List ℕ) (guard : ℕ) (target value : ExprId) (row : List Aimed) → IsGraph g → HasPlaces g pool firsts → target.0 < length firsts → map seen row ≡ aims pool target.0
    → AddsAims (joined g (guard ∷ indices_at (form pool) (first_of firsts) target ∷ [])) h pool g.size value row (length row) → AddsAssignment g h pool guard target value
assignment g h pool firsts guard target value row graph p there is added x same-target same-value m =
    let count = bit_nodes pool in
    let first = first_of firsts in
    let ind = indices_at (form pool) first target in
    let xs = aims pool target.0 in
    let reads = guard_reads pool x.guards ++ needed_indices pool target.0 in
    let both = mean-cons g count guard (ind ∷ []) (guard_reads pool x.guards) (needed_indices pool target.0) m
    (mean-one g count ind (needed_indices pool target.0) (p.placed.placed target.0 there).indices) in
    let shared = joined_means g count (guard ∷ ind ∷ []) reads graph p.size both in
    let a = added reads shared in
    let all : take (length row) (map seen row) ≡ xs = take_end (map seen row) (length row) (sym (length-map row seen)) ∙ is in
    let a' = subst (λ ys. Adds (joined g (guard ∷ ind ∷ [])) h pool (map (reading pool value reads) ys)) all a in
    let P : ExprId → ExprId → Type 0 = λ t v. Adds g h pool (map (reading pool v (guard_reads pool x.guards ++ needed_indices pool t.0)) (aims pool t.0)) in
    subst (λ t. P t x.value) (sym same-target) (subst (λ v. P target v) (sym same-value) (adds_joined g h pool (guard ∷ ind ∷ []) (map (reading pool value reads) xs) graph p.size both.inside a'))
