-- What trees keep to stays from node to node, so that the whole tree can be resolved.
use Rattle.std.proofs.Common.{◌≡◌, ℕ, zero, suc, refl, sym, subst, List, [], ◌∷◌, ◌++◌, length, Option, Some, Result, Ok, Err, append_assoc}
use Rattle.std.specs.Prelude.{slice_get, IfSome, IfOk}
use Rattle.std.specs.List.{AllByRecursion}
use Rattle.lists.specs.Names.{IsName}
use Rattle.design_ir.specs.declared.ids.ExprId.{ExprId}
use Rattle.design_ir.specs.declared.domain.DomainDef.{DomainDef}
use Rattle.design_ir.specs.declared.fragment.Fragment.{Fragment}
use Rattle.design_ir.specs.Forests.{Leaf, Forest, bare, grown}
use Rattle.design_ir.specs.Fragments.{leaf_of}
use Rattle.design_ir.specs.Named.{AllBelow}
use Rattle.design_ir.specs.Pools.{Pooled}
use Rattle.design_ir.specs.PoolRules.{IsPool}
use Rattle.module_dsl.specs.Builders.{Built, fragment_of}
use Rattle.flat_design.specs.Growing.{IsMore}
use Rattle.flat_design.proofs.Growing.{more_refl, more_trans}
use Rattle.fragment_walks.specs.Reads.{data_signals}
use Rattle.fragment_walks.specs.Walks.{definitions_of, all_memories}
use Rattle.clock_domains.specs.Resolvable.{IsMemoryOf, AreModules}
use Rattle.domain_transforms.specs.Making.{fragment_with}
use Rattle.domain_transforms.specs.Placed.{leaf_exprs, forest_exprs, fragment_exprs}
use Rattle.transform_laws.specs.Laws.{AreNamedResets}
use Rattle.elab_store.specs.declared.hierarchy.Node.{Node}
use Rattle.elab_store.specs.declared.hierarchy.NodeOf.{NodeOf}
use Rattle.elab_store.specs.declared.hierarchy.NodeOf.TheVariants as node
use Rattle.elab_store.specs.declared.memories.OwnMemory.{OwnMemory}
use Rattle.elab_store.specs.declared.wrappings.Wrapping.{Wrapping}
use Rattle.elab_store.specs.Sound.{IsBuilt, IsOwnMemory, IsSound, IsWrapping}
use Rattle.elab_store.specs.Stores.{Stored}
use Rattle.elab_eval.specs.declared.refusal.ElabStop.{ElabStop}
use Rattle.elab_eval.specs.Elaborates.{node_name, leaf_in, leaf_at, first_trees, other_trees, and_then, put_before, wrapped, first_wrapped, node_put, forest_of_nodes, root_module, root_domains, root_before, root_wrapped, tree_of}
use Rattle.elab_eval.specs.Trees as parts
use Rattle.elab_eval.specs.Standing.{IsFrom, IsFree, IsStanding, StandsFor}
use Rattle.elab_acts.proofs.EachLaws.{all_each}
use Rattle.elab_acts.proofs.GrownLaws.{all_and}
use Rattle.elab_eval.proofs.DefinitionLaws.{defined_from, root_from, root_definitions_stand}
use Rattle.elab_eval.proofs.GatheredLaws.{all_front, all_back, grown_gathered, leaf_data, forest_data, data_gathered, all_data}
use Rattle.elab_eval.proofs.Modules.{leaf_name, leaf_stands, root_stands, root_built}
use Rattle.elab_eval.proofs.TreeLaws.{top_before}
use Rattle.elab_eval.proofs.OwnMemories.{memory_stands, memory_free}
use Rattle.transform_laws.proofs.GrowthLaws.{grown_trees, standing_trees}
use Rattle.elab_eval.proofs.WrappedLaws.{IsWrapped, wrapped_stands, wrapped_more, wrapping_at, wrappings_more}

-- ---- what stands in statements and memory ports is of the pool

below_and : (n : ℕ) (xs ys : List ExprId) → AllBelow n xs → AllBelow n ys → AllBelow n (xs ++ ys)
below_and n [] ys h g = g
below_and n (x ∷ xs) ys h g = (h.0, below_and n xs ys h.1 g)

pub forest_there : (p : Pooled) (f : Forest) → AreModules p f → AllBelow (length p.exprs) (forest_exprs f)
forest_there p bare h = tt
forest_there p (grown l below rest) h =
    subst (AllBelow (length p.exprs)) (append_assoc (leaf_exprs l) (forest_exprs below) (forest_exprs rest))
    (below_and (length p.exprs) (leaf_exprs l ++ forest_exprs below) (forest_exprs rest) (standing_trees.there p (fragment_with l below) (record { own = h.1.0; below = h.1.1.0 })) (forest_there p rest h.1.1.1))

pub root_there : (s : Stored) (p : Pooled) (f : Fragment) → StandsFor s p f → AllBelow (length p.exprs) (fragment_exprs f)
root_there s p f h = standing_trees.there p f h.tree

below_front : (n : ℕ) (xs ys : List ExprId) → AllBelow n (xs ++ ys) → AllBelow n xs
below_front n [] ys h = tt
below_front n (x ∷ xs) ys h = (h.0, below_front n xs ys h.1)

below_back : (n : ℕ) (xs ys : List ExprId) → AllBelow n (xs ++ ys) → AllBelow n ys
below_back n [] ys h = h
below_back n (x ∷ xs) ys h = below_back n xs ys h.1

pub first_below : (n : ℕ) (behind rest : Forest) (f : Fragment) → behind ≡ grown (leaf_of f) f.submodules rest → AllBelow n (forest_exprs behind) → AllBelow n (fragment_exprs f)
first_below n behind rest f is h =
    let own = leaf_exprs (leaf_of f) in
    let below = forest_exprs f.submodules in
    let whole = subst (λ g. AllBelow n (forest_exprs g)) is h in
    below_and n own below (below_front n own (below ++ forest_exprs rest) whole) (below_front n below (forest_exprs rest) (below_back n own (below ++ forest_exprs rest) whole))

-- ---- the first tree of some, taken alone and put back

abbrev got_trees : Forest × Pooled → Result (Forest × Pooled) ElabStop
got_trees t = Ok t

some_trees : (t made : Forest × Pooled) → got_trees t ≡ got_trees made → t ≡ made
some_trees t made e = cc

module _ (s : Stored) (q : Pooled) where
  first_alone : (p : Pooled) (l : Leaf) (below rest : Forest) → IsStanding s q p (grown l below rest) → StandsFor s p (fragment_with l below)
  first_alone p l below rest h =
      let from = IsFrom s.clock_domains.made in
      let behind : List DomainDef = definitions_of below ++ definitions_of rest in
      let given = subst (AllByRecursion (IsFree s)) (data_gathered [] (grown l below rest)) h.free_data in
      record {
        resets = h.resets;
        tree = record { own = h.modules.1.0; below = h.modules.1.1.0 };
        definitions = all_and from l.domains (definitions_of below) (all_front from l.domains behind h.definitions) (all_front from (definitions_of below) (definitions_of rest) (all_back from l.domains behind h.definitions));
        free_data = subst (AllByRecursion (IsFree s)) (sym (all_data _ l.memories below))
            (all_and (IsFree s) (leaf_data l) (forest_data below) (all_front (IsFree s) (leaf_data l) (forest_data below ++ forest_data rest) given) (all_front (IsFree s) (forest_data below) (forest_data rest) (all_back (IsFree s) (leaf_data l) (forest_data below ++ forest_data rest) given)));
      }

  first_back : (p : Pooled) (l : Leaf) (below rest : Forest) (t : Fragment × Pooled) → IsPool p → IsStanding s q p (grown l below rest) → IsWrapped s (fragment_with l below, p) t → IsStanding s q t.1 (grown (leaf_of t.0) t.0.submodules rest)
  first_back p l below rest t rules h made =
      let from = IsFrom s.clock_domains.made in
      let first = leaf_of t.0 in
      let stands = made.stands in
      let behind : List DomainDef = definitions_of below ++ definitions_of rest in
      let old = subst (AllByRecursion (IsFree s)) (data_gathered [] (grown l below rest)) h.free_data in
      let given = subst (AllByRecursion (IsFree s)) (all_data _ first.memories t.0.submodules) stands.free_data in
      record {
        more = more_trans q p t.1 h.more made.more;
        resets = stands.resets;
        modules = (subst IsName (sym made.name) h.modules.0, (stands.tree.own, (stands.tree.below, grown_trees.forests p t.1 rest rules made.more h.modules.1.1.1)));
        definitions = all_and from first.domains (definitions_of t.0.submodules ++ definitions_of rest) (all_front from first.domains (definitions_of t.0.submodules) stands.definitions)
            (all_and from (definitions_of t.0.submodules) (definitions_of rest) (all_back from first.domains (definitions_of t.0.submodules) stands.definitions) (all_back from (definitions_of below) (definitions_of rest) (all_back from l.domains behind h.definitions)));
        free_data = subst (AllByRecursion (IsFree s)) (sym (data_gathered [] (grown first t.0.submodules rest)))
            (all_and (IsFree s) (leaf_data first) (forest_data t.0.submodules ++ forest_data rest) (all_front (IsFree s) (leaf_data first) (forest_data t.0.submodules) given)
            (all_and (IsFree s) (forest_data t.0.submodules) (forest_data rest) (all_back (IsFree s) (leaf_data first) (forest_data t.0.submodules) given) (all_back (IsFree s) (forest_data below) (forest_data rest) (all_back (IsFree s) (leaf_data l) (forest_data below ++ forest_data rest) old))));
      }

  first_stands : (o : Option Wrapping) (p : Pooled) (f : Forest) (made : Forest × Pooled) → IsPool p → IsPool made.1 → IfSome o (IsWrapping p) → IsStanding s q p f → first_wrapped o f p ≡ Ok made → IsStanding s q made.1 made.0
  first_stands o p bare made before after asks h e = subst (λ (m : Forest × Pooled). IsStanding s q m.1 m.0) (some_trees (bare, p) made e) h
  first_stands o p (grown l below rest) made before after asks h e = by_made (wrapped o (fragment_with l below, p)) refl e
    where
      by_made : (r : Result (Fragment × Pooled) ElabStop) → wrapped o (fragment_with l below, p) ≡ r → and_then r (put_before rest) ≡ Ok made → IsStanding s q made.1 made.0
      by_made (Err x) is e = cc
      by_made (Ok t) is e =
          let same = some_trees (grown (leaf_of t.0) t.0.submodules rest, t.1) made e in
          let there = wrapped_stands s o (fragment_with l below, p) t (first_alone p l below rest h) asks before (subst (λ (m : Forest × Pooled). IsPool m.1) (sym same) after) is in
          subst (λ (m : Forest × Pooled). IsStanding s q m.1 m.0) same (first_back p l below rest t before h there)

-- ---- modules and memories

first_modules : (p : Pooled) (n : ℕ) (f : Forest) → AreModules p f → AreModules p (first_trees n f)
first_modules p zero f h = tt
first_modules p (suc n) bare h = tt
first_modules p (suc n) (grown l below rest) h = (h.0, (h.1.0, (h.1.1.0, first_modules p n rest h.1.1.1)))

other_modules : (p : Pooled) (n : ℕ) (f : Forest) → AreModules p f → AreModules p (other_trees n f)
other_modules p zero f h = h
other_modules p (suc n) bare h = tt
other_modules p (suc n) (grown l below rest) h = other_modules p n rest h.1.1.1

module _ (s : Stored) (q : Pooled) (rules : IsPool q) (sound : IsSound (record { pool = q; store = s })) (named : AreNamedResets q) where
  leaf_definitions : (name : List ℕ) (o : NodeOf) → AllByRecursion (IsFrom s.clock_domains.made) (leaf_in s name o).domains
  leaf_definitions name (node.Module m) = defined_from s.clock_domains m
  leaf_definitions name (node.Memory k) = tt
  leaf_definitions name (node.Wrapper k) = tt

  leaf_free : (name : List ℕ) (o : NodeOf) → AllByRecursion (IsFree s) (leaf_data (leaf_in s name o))
  unfolding fragment_of
  leaf_free name (node.Module m) = tt
  leaf_free name (node.Memory k) = memory_free q s k sound.memories
  leaf_free name (node.Wrapper k) = tt

  own_memories : AllByRecursion (λ (x : OwnMemory). IsMemoryOf q x.spec) s.memories
  own_memories = all_each (IsOwnMemory q s.clock_domains.made s.components.objects) (λ (x : OwnMemory). IsMemoryOf q x.spec) s.memories (memory_stands q rules s.clock_domains.made s.components.objects) sound.memories

  -- it takes the trees below it
  leaf_put : (p : Pooled) (x : Node) (f : Forest) → IsStanding s q p f → IsStanding s q p (grown (leaf_at s x) (first_trees x.below f) (other_trees x.below f))
  leaf_put p x f h =
      let l = leaf_at s x in
      let own = grown_trees.modules q p l rules h.more (leaf_stands q named s (node_name s x) x.of sound.modules own_memories sound.clock_domains) in
      record {
        more = h.more;
        resets = h.resets;
        modules = (leaf_name s x sound.additions, (own, (first_modules p x.below f h.modules, other_modules p x.below f h.modules)));
        definitions = grown_gathered (IsFrom s.clock_domains.made) (λ (k : Leaf). k.domains) l x.below f (leaf_definitions (node_name s x) x.of) h.definitions;
        free_data = subst (AllByRecursion (IsFree s)) (sym (data_gathered [] (grown l (first_trees x.below f) (other_trees x.below f))))
            (grown_gathered (IsFree s) leaf_data l x.below f (leaf_free (node_name s x) x.of) (subst (AllByRecursion (IsFree s)) (data_gathered [] f) h.free_data));
      }

  -- ---- the nodes

  pub none_stand : IsStanding s q q bare
  none_stand = record { more = more_refl q; resets = named; modules = tt; definitions = tt; free_data = tt }

  asked : (p : Pooled) (k : ℕ) → IsMore q p → IfSome (slice_get s.wrappings k) (IsWrapping p)
  asked p k more = wrapping_at p s.wrappings k (wrappings_more q p s.wrappings more sound.wrappings)

  pub node_stands : (p : Pooled) (x : Node) (o : NodeOf) (f : Forest) (made : Forest × Pooled) → IsPool p → IsPool made.1 → IsStanding s q p f → node_put s x o (f, p) ≡ Ok made → IsStanding s q made.1 made.0
  node_stands p x (node.Module m) f made before after h e = subst (λ (t : Forest × Pooled). IsStanding s q t.1 t.0) (some_trees (grown (leaf_at s x) (first_trees x.below f) (other_trees x.below f), p) made e) (leaf_put p x f h)
  node_stands p x (node.Memory k) f made before after h e = subst (λ (t : Forest × Pooled). IsStanding s q t.1 t.0) (some_trees (grown (leaf_at s x) (first_trees x.below f) (other_trees x.below f), p) made e) (leaf_put p x f h)
  node_stands p x (node.Wrapper k) f made before after h e = first_stands s q (slice_get s.wrappings k) p f made before after (asked p k h.more) h e

  -- ---- the top

  pub top_stands : (p : Pooled) (b : Built) (below : Forest) → IsBuilt q b → IsStanding s q p below → StandsFor s p (root_before s b (below, p)).0
  unfolding fragment_of
  top_stands p b below built h =
      let own = grown_trees.modules q p _ rules h.more (root_stands q named b (root_domains s) built (root_definitions_stand q s sound.clock_domains)) in
      record {
        resets = h.resets;
        tree = record { own = own; below = h.modules };
        definitions = all_and (IsFrom s.clock_domains.made) (root_domains s) (definitions_of below) (root_from s) h.definitions;
        free_data = h.free_data;
      }

-- ---- the pool behind all of it

first_more : (o : Option Wrapping) (f : Forest) (p : Pooled) (made : Forest × Pooled) → first_wrapped o f p ≡ Ok made → IsMore p made.1
first_more o bare p made e = let same : (bare, p) ≡ made = cc in subst (λ (m : Forest × Pooled). IsMore p m.1) same (more_refl p)
first_more o (grown l below rest) p made e = by_made (wrapped o (fragment_with l below, p)) refl e
  where
    by_made : (r : Result (Fragment × Pooled) ElabStop) → wrapped o (fragment_with l below, p) ≡ r → and_then r (put_before rest) ≡ Ok made → IsMore p made.1
    by_made (Err x) is e = cc
    by_made (Ok t) is e = let same : (grown (leaf_of t.0) t.0.submodules rest, t.1) ≡ made = cc in subst (λ (m : Forest × Pooled). IsMore p m.1) same (wrapped_more o (fragment_with l below, p) t is)

node_grows : (s : Stored) (x : Node) (o : NodeOf) (t made : Forest × Pooled) → node_put s x o t ≡ Ok made → IsMore t.1 made.1
node_grows s x (node.Module m) t made e = let same : (grown (leaf_at s x) (first_trees x.below t.0) (other_trees x.below t.0), t.1) ≡ made = cc in subst (λ (m : Forest × Pooled). IsMore t.1 m.1) same (more_refl t.1)
node_grows s x (node.Memory k) t made e = let same : (grown (leaf_at s x) (first_trees x.below t.0) (other_trees x.below t.0), t.1) ≡ made = cc in subst (λ (m : Forest × Pooled). IsMore t.1 m.1) same (more_refl t.1)
node_grows s x (node.Wrapper k) t made e = first_more (slice_get s.wrappings k) t.0 t.1 made e

-- one act more
then_more : {A B : Type 0} (p : Pooled) (r : Result (A × Pooled) ElabStop) (act : A × Pooled → Result (B × Pooled) ElabStop) (made : B × Pooled) → ((t : A × Pooled) → r ≡ Ok t → IsMore p t.1) → ((t : A × Pooled) → act t ≡ Ok made → IsMore t.1 made.1) → and_then r act ≡ Ok made → IsMore p made.1
then_more p (Err x) act made f g e = cc
then_more p (Ok t) act made f g e = more_trans p t.1 made.1 (f t refl) (g t e)

nodes_more : (s : Stored) (xs : List Node) (q : Pooled) (made : Forest × Pooled) → forest_of_nodes s xs q ≡ Ok made → IsMore q made.1
nodes_more s [] q made e = let same : (bare, q) ≡ made = cc in subst (λ (m : Forest × Pooled). IsMore q m.1) same (more_refl q)
nodes_more s (x ∷ xs) q made e = then_more q (forest_of_nodes s xs q) (node_put s x x.of) made (nodes_more s xs q) (λ t h. node_grows s x x.of t made h) e

wraps_more : (ws : List Wrapping) (ks : List ℕ) (t made : Fragment × Pooled) → root_wrapped ws ks t ≡ Ok made → IsMore t.1 made.1
wraps_more ws [] t made e = let same : t ≡ made = cc in subst (λ (m : Fragment × Pooled). IsMore t.1 m.1) same (more_refl t.1)
wraps_more ws (k ∷ ks) t made e = then_more t.1 (root_wrapped ws ks t) (wrapped (slice_get ws k)) made (wraps_more ws ks t) (λ u h. wrapped_more (slice_get ws k) u made h) e

pub tree_more : (s : Stored) (b : Built) (q : Pooled) (made : Fragment × Pooled) → tree_of s b q ≡ Ok made → IsMore q made.1
tree_more s b q made e =
    then_more q (forest_of_nodes s s.hierarchy.nodes q) (λ t. root_wrapped s.wrappings s.hierarchy.root_wraps (root_before s b t)) made (nodes_more s s.hierarchy.nodes q) (λ t h. wraps_more s.wrappings s.hierarchy.root_wraps (root_before s b t) made h) e

-- ---- whatever modules a store has

pub with_modules : (s : Stored) (bs : List Built) (p : Pooled) (f : Fragment) → StandsFor s p f → StandsFor (record s { modules = bs }) p f
with_modules s bs p f h = record {
  resets = h.resets;
  tree = h.tree;
  definitions = h.definitions;
  free_data = all_each (IsFree s) (IsFree (record s { modules = bs })) (data_signals (all_memories f)) (λ k free. record { clocks = free.clocks; ports = free.ports }) h.free_data;
}

pub without_modules : (s : Stored) (bs : List Built) (p : Pooled) (f : Fragment) → StandsFor (record s { modules = bs }) p f → StandsFor s p f
without_modules s bs p f h = record {
  resets = h.resets;
  tree = h.tree;
  definitions = h.definitions;
  free_data = all_each (IsFree (record s { modules = bs })) (IsFree s) (data_signals (all_memories f)) (λ k free. record { clocks = free.clocks; ports = free.ports }) h.free_data;
}

pub all_with_modules : (s : Stored) (bs : List Built) (p : Pooled) (r : Result Fragment ElabStop) → IfOk r (λ f. StandsFor s p f) → IfOk r (λ f. StandsFor (record s { modules = bs }) p f)
all_with_modules s bs p (Err e) h = tt
all_with_modules s bs p (Ok f) h = with_modules s bs p f h

-- the top before the trees below it, whose store has lost its modules
pub top_there_stands : (s : Stored) (bs : List Built) (q p : Pooled) (b : Built) (below : Forest) (root : Fragment) → IsPool q → IsSound (record { pool = q; store = record s { modules = bs } }) → AreNamedResets q → root_module (record s { modules = bs }) ≡ Some b
    → root ≡ parts.fragment_with (fragment_of b).name (root_domains s) (fragment_of b).processes [] below → IsStanding (record s { modules = bs }) q p below → StandsFor s p root
top_there_stands s bs q p b below root rules sound named at is h =
    let whole : Stored = record s { modules = bs } in
    without_modules s bs p root (subst (StandsFor whole p) (top_before whole b below root is) (top_stands whole q rules sound named p b below (root_built q whole b sound.modules at) h))
