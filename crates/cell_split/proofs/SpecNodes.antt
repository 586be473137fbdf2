-- The nodes of the bits of a spec, part by part.
use Rattle.std.proofs.Common.{◌≡◌, ◌∙◌, ◌<◌, ◌≤◌, ◌+◌, ℕ, Bool, true, false, cond, List, [], ◌∷◌, ◌++◌, map, length, get_or, take, drop, slice_index_or, refl, sym, ap, arith, subst, All, append_assoc}
use Rattle.std.specs.Prelude.{Option, Some, None, nat_lt, slice_get}
use Rattle.std.specs.List.{range_with_len}
use Rattle.std.specs.BTreeMap.{get_by_text}
use Rattle.std.proofs.lemmas.List.{map-append, take_more}
use Rattle.std.proofs.lemmas.Simd.{map-map}
use Rattle.std.proofs.lemmas.List.Elements.{All-map}
use Rattle.std.proofs.lemmas.List.FromFn.{map-range_with_len_more}
use Rattle.std.proofs.lemmas.Bool.{ltb-true}
use Rattle.rtlil_text.specs.declared.sig.SigPart.{SigPart}
use Rattle.rtlil_text.specs.declared.sig.SigPart.TheVariants as parts
use Rattle.rtlil_text.specs.Sources.{Source, Constant, Net, part_bits, spec_bits}
use Rattle.cell_split.specs.declared.nodes.Nodes.{Nodes}
use Rattle.cell_split.specs.Needs.{node_behind, node_of}
use Rattle.cell_split.proofs.PieceCode.{drop-at}

-- ---- the bits of one part

pub bits_more : (f : ℕ → ℕ) (before now new : List ℕ) (low k x : ℕ) → now ≡ before ++ map f (range_with_len low k) → x ≡ f (low + k) → new ≡ now ++ x ∷ [] → new ≡ before ++ map f (range_with_len low (k + 1))
bits_more f before now new low k x was is pushed =
    pushed ∙ ap (λ (ns : List ℕ). ns ++ x ∷ []) was ∙ append_assoc before (map f (range_with_len low k)) (x ∷ [])
    ∙ ap (λ (y : ℕ). before ++ (map f (range_with_len low k) ++ y ∷ [])) is
    ∙ ap (λ (ns : List ℕ). before ++ ns) (sym (map-range_with_len_more f low k (low + k) refl))

constants_more-by : (f : Bool → ℕ) (spare : ℕ) (before now new : List ℕ) (bits : List Bool) (i : ℕ) → i < length bits → f (get_or bits i false) ≡ spare → now ≡ before ++ map f (take i bits) → new ≡ now ++ spare ∷ [] → new ≡ before ++ map f (take (i + 1) bits)
constants_more-by f spare before now new bits i lt is was pushed =
    pushed ∙ ap (λ (ns : List ℕ). ns ++ spare ∷ []) was ∙ append_assoc before (map f (take i bits)) (spare ∷ [])
    ∙ ap (λ (x : ℕ). before ++ (map f (take i bits) ++ x ∷ [])) (sym is)
    ∙ ap (λ (ns : List ℕ). before ++ ns) (sym (map-append f (take i bits) (get_or bits i false ∷ [])))
    ∙ ap (λ (bs : List Bool). before ++ map f bs) (sym (take_more bits i false lt))

pub constants_more : (spare : ℕ) (before now new : List ℕ) (bits : List Bool) (i : ℕ) → i < length bits → now ≡ before ++ map (λ (b : Bool). spare) (take i bits) → new ≡ now ++ spare ∷ [] → new ≡ before ++ map (λ (b : Bool). spare) (take (i + 1) bits)
constants_more spare before now new bits i lt was pushed = constants_more-by (λ (b : Bool). spare) spare before now new bits i lt refl was pushed

pub constants_are : (nodes : Nodes) (p : SigPart) (bits : List Bool) (before new : List ℕ) → p ≡ parts.Const bits → new ≡ before ++ map (λ (b : Bool). nodes.spare) bits → new ≡ before ++ map (node_of nodes) (part_bits p)
constants_are nodes p bits before new e is =
    is ∙ ap (λ (ns : List ℕ). before ++ ns) (sym (map-map (node_of nodes) Constant bits)) ∙ ap (λ (q : SigPart). before ++ map (node_of nodes) (part_bits q)) (sym e)

pub wire_is : (nodes : Nodes) (p : SigPart) (id : List ℕ) (low width : ℕ) (before new : List ℕ) → p ≡ parts.Wire id low width → new ≡ before ++ map (node_behind nodes (get_by_text nodes.firsts id)) (range_with_len low width)
    → new ≡ before ++ map (node_of nodes) (part_bits p)
wire_is nodes p id low width before new e is =
    is ∙ ap (λ (ns : List ℕ). before ++ ns) (sym (map-map (node_of nodes) (λ i. Net id i) (range_with_len low width))) ∙ ap (λ (q : SigPart). before ++ map (node_of nodes) (part_bits q)) (sym e)

-- ---- all parts

pub nodes_more : (nodes : Nodes) (spec : List SigPart) (above k : ℕ) (p : SigPart) (old new : List ℕ) → above ≡ k + 1 → above ≤ length spec → slice_get spec k ≡ Some p
    → old ≡ map (node_of nodes) (spec_bits (drop above spec)) → new ≡ old ++ map (node_of nodes) (part_bits p) → new ≡ map (node_of nodes) (spec_bits (drop k spec))
nodes_more nodes spec above k p old new next within at was pushed =
    pushed ∙ ap (λ (ns : List ℕ). ns ++ map (node_of nodes) (part_bits p)) (was ∙ ap (λ (j : ℕ). map (node_of nodes) (spec_bits (drop j spec))) next)
    ∙ sym (map-append (node_of nodes) (spec_bits (drop (k + 1) spec)) (part_bits p))
    ∙ ap (λ (rest : List SigPart). map (node_of nodes) (spec_bits rest)) (sym (drop-at spec k p (omega (arith, next, within)) at))

pub nodes_all : (nodes : Nodes) (spec : List SigPart) (above : ℕ) (now : List ℕ) → above ≡ 0 → now ≡ map (node_of nodes) (spec_bits (drop above spec)) → now ≡ map (node_of nodes) (spec_bits spec)
nodes_all nodes spec above now none was = was ∙ ap (λ (j : ℕ). map (node_of nodes) (spec_bits (drop j spec))) none

-- ---- each is a node of the graph

behind-within : (nodes : Nodes) (n : ℕ) (b : Bool) → nat_lt n nodes.count ≡ b → cond b n nodes.spare < nodes.count
behind-within nodes n true e = ltb-true n nodes.count e
behind-within nodes n false e = nodes.within

node_behind-within : (nodes : Nodes) (first : Option ℕ) (place : ℕ) → node_behind nodes first place < nodes.count
node_behind-within nodes None place = nodes.within
node_behind-within nodes (Some first) place = behind-within nodes (first + place) (nat_lt (first + place) nodes.count) refl

pub node_of-within : (nodes : Nodes) (s : Source) → node_of nodes s < nodes.count
node_of-within nodes (Constant b) = nodes.within
node_of-within nodes (Net wire i) = node_behind-within nodes (get_by_text nodes.firsts wire) i

pub nodes_within : (nodes : Nodes) (spec : List SigPart) (now : List ℕ) → now ≡ map (node_of nodes) (spec_bits spec) → All (λ n. n < nodes.count) now
nodes_within nodes spec now is =
    subst (λ (ns : List ℕ). All (λ n. n < nodes.count) ns) (sym is) (All-map (λ n. n < nodes.count) (node_of nodes) (spec_bits spec) (λ k d h. node_of-within nodes (slice_index_or (spec_bits spec) k d)))
