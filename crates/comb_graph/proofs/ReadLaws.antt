-- One rule more of a read port, one port more, or one memory.
use Rattle.std.proofs.Common.{◌≡◌, ℕ, ◌+◌, ◌*◌, ◌<◌, List, [], ◌∷◌, ◌++◌, length, sym, subst, arith, take, Some, slice_get}
use Rattle.std.specs.List.{flat_map}
use Rattle.std.proofs.lemmas.List.FromFn.{map-range_with_len_more}
use Rattle.design_ir.specs.declared.ids.ExprId.{ExprId}
use Rattle.design_ir.specs.Needed.{needed_whole}
use Rattle.design_ir.specs.Pools.{Pooled}
use Rattle.design_ir.specs.Values.{form}
use Rattle.digraph.specs.Graphs.{Digraph, IsGraph, leading}
use Rattle.comb_graph.specs.Places.{HasPlaces, bit_nodes, first_of, whole_at}
use Rattle.comb_graph.specs.Rules.{Rule, ObeysRules, Adds, word_rule, word_rules}
use Rattle.comb_graph.proofs.GraphMeanings.{mean-one}
use Rattle.comb_graph.proofs.GraphPlaces.{whole}
use Rattle.comb_graph.proofs.GraphRules.{extends_leading, obeys_rule}
use Rattle.comb_graph.proofs.GraphBlocks.{adds_then}
use Rattle.comb_graph.proofs.GraphRows.{flat_more}

-- one rule more
adds_rule : (h : Digraph) (pool : Pooled) (r : Rule) (n : ℕ) (ts : List ℕ) → ((rules : List Rule) → ObeysRules h (bit_nodes pool) rules → ObeysRules (leading h n ts) (bit_nodes pool) (rules ++ r ∷ [])) → n < bit_nodes pool
    → Adds h (leading h n ts) pool (r ∷ [])
adds_rule h pool r n ts rules below = record { extends = extends_leading h (bit_nodes pool) n ts below; rules = rules }

pub word_more : (g h : Digraph) (pool : Pooled) (firsts : List ℕ) (sig : ℕ) (address : ExprId) (i : ℕ) → IsGraph h → HasPlaces h pool firsts → address.0 < length firsts → 128 * sig + i < bit_nodes pool
    → Adds g h pool (word_rules pool sig address i) → Adds g (leading h (128 * sig + i) (whole_at (form pool) (first_of firsts) address ∷ [])) pool (word_rules pool sig address (i + 1))
word_more g h pool firsts sig address i graph places there below added =
    let count = bit_nodes pool in
    let n = whole_at (form pool) (first_of firsts) address in
    let rule = word_rule pool sig address in
    let mean = mean-one h count n (needed_whole pool address) (whole h count pool (first_of firsts) (length firsts) places.placed address there) in
    let one = adds_rule h pool (rule i) (128 * sig + i) (n ∷ []) (λ rules o. obeys_rule h count rules (rule i) (n ∷ []) graph below mean o) below in
    let more : word_rules pool sig address (i + 1) ≡ word_rules pool sig address i ++ rule i ∷ [] = map-range_with_len_more rule 0 i i (omega arith) in
    subst (Adds g (leading h (128 * sig + i) (n ∷ [])) pool) (sym more) (adds_then g h (leading h (128 * sig + i) (n ∷ [])) pool (word_rules pool sig address i) (rule i ∷ []) added one)

-- the rules of one element more
pub list_turn : {X : Type 0} (g h j : Digraph) (pool : Pooled) (f : X → List Rule) (xs : List X) (i : ℕ) (x : X) → slice_get xs i ≡ Some x
    → Adds g h pool (flat_map f (take i xs)) → Adds h j pool (f x) → Adds g j pool (flat_map f (take (i + 1) xs))
list_turn g h j pool f xs i x at a b = subst (Adds g j pool) (sym (flat_more f xs i x at)) (adds_then g h j pool (flat_map f (take i xs)) (f x) a b)
