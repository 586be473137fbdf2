-- The definitions and the data of read ports of a tree that was made of another one; and that it can be resolved as that could.
use Rattle.std.proofs.Common.{◌≡◌, inl, inr, ℕ, ◌<◌, false, List, [], ◌∷◌, ◌++◌, map, length, refl, sym, ap, ◌∙◌, subst, codes}
use Rattle.std.specs.List.{AllByRecursion, flat_map}
use Rattle.std.proofs.lemmas.List.Concat.{flat_map-append}
use Rattle.lists.specs.Names.{IsName}
use Rattle.design_ir.specs.declared.signal.Sig.{Sig}
use Rattle.design_ir.specs.declared.domain.Domain.{Domain}
use Rattle.design_ir.specs.declared.domain.DomainDef.{DomainDef}
use Rattle.design_ir.specs.declared.memory.MemRead.{MemRead}
use Rattle.design_ir.specs.declared.memory.Memory.{Memory}
use Rattle.design_ir.specs.declared.port.Port.{Port}
use Rattle.design_ir.specs.declared.fragment.Fragment.{Fragment}
use Rattle.design_ir.specs.Forests.{Leaf, Forest, bare, grown}
use Rattle.design_ir.specs.Fragments.{leaf_of}
use Rattle.design_ir.specs.Pools.{Pooled}
use Rattle.design_ir.specs.Circuits.{is_among}
use Rattle.fragment_walks.specs.Reads.{data_signals}
use Rattle.fragment_walks.specs.Walks.{all_definitions, all_memories, definitions_of, memories_of, memory_named, named_memories, path_under}
use Rattle.fragment_walks.proofs.Lists.{all_imp, all_mapped, map-append}
use Rattle.clock_domains.specs.declared.top.TopPorts.{TopPorts}
use Rattle.clock_domains.specs.declared.top.TopPorts.TheVariants.{Members, Held, Loose}
use Rattle.clock_domains.specs.Resolvable.{AreApart, ArePorts, AreTopPorts, IsResolvable, IsTree, domain_numbers, outer_signals, top_inputs}
use Rattle.domain_transforms.specs.declared.controls.NamePair.{NamePair}
use Rattle.domain_transforms.specs.Controlled.{name_after}
use Rattle.domain_transforms.specs.Making.{forest_in, fragment_in}
use Rattle.domain_transforms.specs.Renamed.{renamed_definition}

-- ---- definitions that are apart

pub apart_first : (names : List NamePair) (d e : DomainDef) → AreApart d e → AreApart (renamed_definition names d) e
apart_first names d e (inl same) = inl same
apart_first names d e (inr apart) = inr apart

pub apart_second : (names : List NamePair) (d e : DomainDef) → AreApart d e → AreApart d (renamed_definition names e)
apart_second names d e (inl same) = inl (ap {A = Domain} (λ x. record x { name = name_after names e.domain.name }) same)
apart_second names d e (inr apart) = inr apart

-- ---- lists in three parts

abbrev together : {A : Type 0} → List A → List A → List A → List A
together xs ys zs = xs ++ (ys ++ zs)

map_together : {A B : Type 0} (g : A → B) (xs ys zs : List A) → map g (together xs ys zs) ≡ together (map g xs) (map g ys) (map g zs)
map_together g xs ys zs = map-append g xs (ys ++ zs) ∙ ap (λ vs. map g xs ++ vs) (map-append g ys zs)

same_together : {A : Type 0} (xs xs' ys ys' zs zs' : List A) → xs ≡ xs' → ys ≡ ys' → zs ≡ zs' → together xs ys zs ≡ together xs' ys' zs'
same_together xs xs' ys ys' zs zs' a b c = cc

-- ---- the definitions of a tree

module _ (make : Pooled → Leaf → Leaf × Pooled) (g : DomainDef → DomainDef) (each : (q : Pooled) (l : Leaf) → (make q l).0.domains ≡ map g l.domains) where
  forest_definitions : (q : Pooled) (f : Forest) → definitions_of (forest_in make q f).0 ≡ map g (definitions_of f)
  forest_definitions q bare = refl
  forest_definitions q (grown l below rest) =
      let one : Pooled = (make q l).1 in
      let inner : Forest × Pooled = forest_in make one below in
      same_together (make q l).0.domains (map g l.domains) (definitions_of inner.0) (map g (definitions_of below)) (definitions_of (forest_in make inner.1 rest).0) (map g (definitions_of rest))
      (each q l) (forest_definitions one below) (forest_definitions inner.1 rest)
      ∙ sym (map_together g l.domains (definitions_of below) (definitions_of rest))

  pub fragment_definitions : (q : Pooled) (f : Fragment) → all_definitions (fragment_in make q f).0 ≡ map g (all_definitions f)
  fragment_definitions q f =
      let one : Leaf × Pooled = make q (leaf_of f) in
      ap (λ ds. ds ++ definitions_of (forest_in make one.1 f.submodules).0) (each q (leaf_of f)) ∙ ap (λ ds. map g f.domains ++ ds) (forest_definitions one.1 f.submodules)
      ∙ sym (map-append g f.domains (definitions_of f.submodules))

-- ---- the data of its read ports

abbrev pub own_data : Memory → List ℕ
own_data m = map (λ (r : MemRead). r.word.0) m.reads

data_named : (name : List ℕ) (ms : List Memory) → data_signals (map (memory_named name) ms) ≡ data_signals ms
data_named name [] = refl
data_named name (m ∷ ms) = ap (λ xs. own_data m ++ xs) (data_named name ms)

data_together : (xs ys zs : List Memory) → data_signals (together xs ys zs) ≡ together (data_signals xs) (data_signals ys) (data_signals zs)
data_together xs ys zs = flat_map-append own_data xs (ys ++ zs) ∙ ap (λ vs. data_signals xs ++ vs) (flat_map-append own_data ys zs)

module _ (make : Pooled → Leaf → Leaf × Pooled) (each : (q : Pooled) (l : Leaf) → data_signals (make q l).0.memories ≡ data_signals l.memories) where
  -- under whatever paths
  forest_data : (q : Pooled) (path old : List ℕ) (f : Forest) → data_signals (memories_of path (forest_in make q f).0) ≡ data_signals (memories_of old f)
  forest_data q path old bare = refl
  forest_data q path old (grown l below rest) =
      let one : Leaf × Pooled = make q l in
      let inner : Forest × Pooled = forest_in make one.1 below in
      let others : Forest × Pooled = forest_in make inner.1 rest in
      data_together (named_memories path one.0) (memories_of (path_under path one.0.name) inner.0) (memories_of path others.0)
      ∙ same_together (data_signals (named_memories path one.0)) (data_signals (named_memories old l)) (data_signals (memories_of (path_under path one.0.name) inner.0)) (data_signals (memories_of (path_under old l.name) below)) (data_signals (memories_of path others.0)) (data_signals (memories_of old rest))
      (data_named (path ++ one.0.name) one.0.memories ∙ each q l ∙ sym (data_named (old ++ l.name) l.memories))
      (forest_data one.1 (path_under path one.0.name) (path_under old l.name) below) (forest_data inner.1 path old rest)
      ∙ sym (data_together (named_memories old l) (memories_of (path_under old l.name) below) (memories_of old rest))

  pub fragment_data : (q : Pooled) (f : Fragment) → data_signals (all_memories (fragment_in make q f).0) ≡ data_signals (all_memories f)
  fragment_data q f =
      let one : Leaf × Pooled = make q (leaf_of f) in
      let inner : Forest = (forest_in make one.1 f.submodules).0 in
      flat_map-append own_data (map (memory_named (codes "top")) one.0.memories) (memories_of [] inner)
      ∙ ap (λ xs. xs ++ data_signals (memories_of [] inner)) (data_named (codes "top") one.0.memories ∙ each q (leaf_of f) ∙ sym (data_named (codes "top") f.memories))
      ∙ ap (λ xs. data_signals (map (memory_named (codes "top")) f.memories) ++ xs) (forest_data one.1 [] [] f.submodules)
      ∙ sym (flat_map-append own_data (map (memory_named (codes "top")) f.memories) (memories_of [] f.submodules))

-- ---- what is asked beside the tree

module _ (q p : Pooled) (signals : p.signals ≡ q.signals) where
  ports_kept : (ps : List Port) → ArePorts q ps → ArePorts p ps
  ports_kept ps h = record { each = all_imp (λ (x : Port) k. record { there = subst (λ (xs : List Sig). x.sig.0 < length xs) (sym signals) k.there; name = k.name }) ps h.each; distinct = h.distinct }

  top_kept : (top : TopPorts) → AreTopPorts q top → AreTopPorts p top
  top_kept (Members ps) h = ports_kept ps h
  top_kept (Held ps) h = ports_kept ps h
  top_kept Loose h = tt

  module _ (g : DomainDef → DomainDef) (numbers : (d : DomainDef) → domain_numbers (g d).domain ≡ domain_numbers d.domain) (apart : (d e : DomainDef) → AreApart d e → AreApart (g d) (g e)) where
    outer_same : (ds : List DomainDef) → flat_map (λ (d : DomainDef). domain_numbers d.domain) (map g ds) ≡ flat_map (λ (d : DomainDef). domain_numbers d.domain) ds
    outer_same [] = refl
    outer_same (d ∷ ds) = let a = numbers d in let b = outer_same ds in cc

    pub resolvable_from : (f f' : Fragment) (top : TopPorts) → data_signals (all_memories f') ≡ data_signals (all_memories f) → all_definitions f' ≡ map g (all_definitions f) → IsTree p f' → IsResolvable q f top → IsResolvable p f' top
    resolvable_from f f' top reads same tree h =
        let definitions : List DomainDef = all_definitions f in
        let outer : outer_signals f' top ≡ outer_signals f top =
        ap (λ ds. flat_map (λ (d : DomainDef). domain_numbers d.domain) ds ++ top_inputs top) same ∙ ap (λ ss. ss ++ top_inputs top) (outer_same definitions) in
        record {
          tree = tree;
          free_data = subst (λ ss. AllByRecursion (λ s. is_among (outer_signals f' top) s ≡ false) ss) (sym reads) (subst (λ os. AllByRecursion (λ s. is_among os s ≡ false) (data_signals (all_memories f))) (sym outer) h.free_data);
          apart =
              subst (λ ds. AllByRecursion (λ (d : DomainDef). AllByRecursion (AreApart d) ds) ds) (sym same)
              (all_mapped (λ (d : DomainDef). AllByRecursion (AreApart d) (map g definitions)) g definitions (all_imp (λ d all. all_mapped (AreApart (g d)) g definitions (all_imp (λ e k. apart d e k) definitions all)) definitions h.apart));
          names = subst (λ (xs : List Sig). AllByRecursion (λ (x : Sig). IsName x.name) xs) (sym signals) h.names;
          ports = top_kept top h.ports;
        }
