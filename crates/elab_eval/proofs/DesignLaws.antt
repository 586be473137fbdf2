-- The design of what is held, by the tree of its modules.
use Rattle.std.proofs.Common.{◌≡◌, ◌<◌, refl, ap, sym, ◌∙◌, subst, List, Bool, true, false, length, Option, Some, None, Result, Ok, Err}
use Rattle.std.specs.Prelude.{if◌then◌else◌}
use Rattle.std.specs.List.{AllByRecursion, list_any}
use Rattle.lists.specs.Names.{IsName}
use Rattle.amh_host.specs.declared.place.Kind.TheVariants.{Raised}
use Rattle.py_heap.specs.Heaps.{Made, Seen, seen, nothing}
use Rattle.design_ir.specs.declared.signal.Sig.{Sig}
use Rattle.design_ir.specs.declared.port.Port.{Port}
use Rattle.design_ir.specs.declared.fragment.Fragment.{Fragment}
use Rattle.design_ir.specs.Pools.{Pooled}
use Rattle.design_ir.specs.PoolRules.{IsPool}
use Rattle.design_ir.specs.Circuits.{Circuit}
use Rattle.module_dsl.specs.Builders.{Built}
use Rattle.flat_design.specs.Growing.{IsMore}
use Rattle.fragment_walks.specs.Walks.{all_definitions}
use Rattle.clock_domains.specs.declared.top.TopPorts.{TopPorts}
use Rattle.clock_domains.specs.declared.top.TopPorts.TheVariants as ports
use Rattle.clock_domains.specs.declared.stop.ResolveStop.{ResolveStop}
use Rattle.clock_domains.specs.declared.stop.ResolveStop.TheVariants as unresolved
use Rattle.clock_domains.specs.Resolvable.{IsPortOf, ArePorts, AreTopPorts, IsResolvable}
use Rattle.clock_domains.specs.Resolved.{IsResolveRefusal, resolved, file_start}
use Rattle.elab_store.specs.Stores.{Stored, Held}
use Rattle.elab_store.specs.Sound.{IsSound}
use Rattle.elab_eval.specs.declared.refusal.ElabStop.{ElabStop}
use Rattle.elab_eval.specs.declared.refusal.ElabStop.TheVariants as stops
use Rattle.elab_eval.specs.Elaborates.{Found, IsFound, IsDesignOf, is_any_open, and_then, root_module, ports_of, top_ports, tree_of, found_by, found_with, module_found, design_of, unresolved_stop, is_nameless}
use Rattle.elab_eval.specs.Standing.{StandsFor}
use Rattle.elab_eval.specs.Trees.{tree_found, IsGot}
use Rattle.elab_acts.proofs.EachLaws.{all_each}
use Rattle.elab_eval.proofs.DefinitionLaws.{all_apart}
use Rattle.elab_eval.proofs.ObjectLaws.{top_stands}
use Rattle.elab_eval.proofs.OwnMemories.{data_free}
use Rattle.elab_eval.proofs.StandingLaws.{tree_more}

-- a tree is that of the top, and no block is open
pub record IsMade (s : Stored) (o : Option Built) (q p : Pooled) (f : Fragment) : Type 0 where
  pub built : Built
  pub is : o ≡ Some built
  pub closed : is_any_open s built ≡ false
  pub tree : tree_of s built q ≡ Ok (f, p)

pub tree_made : (s : Stored) (o : Option Built) (q p : Pooled) (f : Fragment) → tree_found s o q ≡ Ok (f, p) → IsMade s o q p f
tree_made s None q p f e = cc
tree_made s (Some b) q p f e = by_test (is_any_open s b) refl e
  where
    by_test : (opened : Bool) → is_any_open s b ≡ opened → (if opened then Err (stops.Refused Raised file_start) else tree_of s b q) ≡ Ok (f, p) → IsMade s (Some b) q p f
    by_test true t e = cc
    by_test false t e = record { built = b; is = refl; closed = t; tree = e }

-- where nothing is a reset, the modules tell
past_resets : (h : Held) (heap : Made) → list_any is_nameless h.pool.exprs ≡ false → design_of h heap ≡ module_found h heap (root_module h.store)
past_resets h heap none = ap (λ (b : Bool). if b then Err (stops.Refused Raised file_start) else module_found h heap (root_module h.store)) none

-- a refusal by tree and by design
abbrev no_tree : ElabStop → Result (Fragment × Pooled) ElabStop
no_tree x = Err x

abbrev no_design : ElabStop → Result Found ElabStop
no_design x = Err x

same_stop : (x y : ElabStop) → no_tree x ≡ no_tree y → no_design x ≡ no_design y
same_stop x y e = let same : x ≡ y = cc in ap no_design same

refused_as : (h : Held) (heap : Made) (x : ElabStop) (o : Option Built) → tree_found h.store o h.pool ≡ Err x → module_found h heap o ≡ Err x
refused_as h heap x None e = same_stop (stops.Refused Raised file_start) x e
refused_as h heap x (Some b) e = by_test (is_any_open h.store b) e
  where
    by_test : (opened : Bool) → (if opened then Err (stops.Refused Raised file_start) else tree_of h.store b h.pool) ≡ Err x
        → (if opened then Err (stops.Refused Raised file_start) else and_then (tree_of h.store b h.pool) (found_by h heap (top_ports (seen nothing heap) h))) ≡ Err x
    by_test true e = same_stop (stops.Refused Raised file_start) x e
    by_test false e = ap (λ r. and_then r (found_by h heap (top_ports (seen nothing heap) h))) e

-- where there is no tree
pub refused_design : (h : Held) (heap : Made) (p : Pooled) (stop : ElabStop) → list_any is_nameless h.pool.exprs ≡ false → IsGot {A = Fragment} (Err stop) p (tree_found h.store (root_module h.store) h.pool) → IsFound (Err stop) (design_of h heap)
refused_design h heap p stops.NoMemory none e = tt
refused_design h heap p (stops.Spent at) none e = past_resets h heap none ∙ refused_as h heap (stops.Spent at) (root_module h.store) e
refused_design h heap p (stops.Refused k at) none e = past_resets h heap none ∙ refused_as h heap (stops.Refused k at) (root_module h.store) e

-- a refusal of the design is one of what is found
pub design_refused : (h : Held) (heap : Made) (stop : ElabStop) (owed : Result Found ElabStop) → IsFound (Err stop) owed → IsDesignOf h heap (Err stop) owed
design_refused h heap stops.NoMemory owed e = tt
design_refused h heap (stops.Spent at) owed e = e
design_refused h heap (stops.Refused k at) owed e = e

-- what comes of a tree, by the ports of its top
abbrev pub design_by : Held → Made → Pooled → Fragment → Option TopPorts → Result Found ElabStop
design_by h heap p f None = Err (stops.Refused Raised file_start)
design_by h heap p f (Some ports) = found_with h heap (resolved p f ports)

pub made_design : (h : Held) (heap : Made) (p : Pooled) (f : Fragment) (ports : Option TopPorts) → list_any is_nameless h.pool.exprs ≡ false → tree_found h.store (root_module h.store) h.pool ≡ Ok (f, p) → ports ≡ top_ports (seen nothing heap) h
    → design_of h heap ≡ design_by h heap p f ports
made_design h heap p f ports none e same =
    let made = tree_made h.store (root_module h.store) h.pool p f e in
    past_resets h heap none
    ∙ ap (module_found h heap) made.is
    ∙ ap (λ opened. if opened then Err (stops.Refused Raised file_start) else and_then (tree_of h.store made.built h.pool) (found_by h heap (top_ports (seen nothing heap) h))) made.closed
    ∙ ap (λ r. and_then r (found_by h heap (top_ports (seen nothing heap) h))) made.tree
    ∙ ap (λ o. found_by h heap o (f, p)) (sym same)
    ∙ by_ports ports
  where
    by_ports : (o : Option TopPorts) → found_by h heap o (f, p) ≡ design_by h heap p f o
    by_ports None = refl
    by_ports (Some x) = refl

-- ---- the tree can be resolved

port_more : (q p : Pooled) (x : Port) → IsMore q p → IsPortOf q x → IsPortOf p x
port_more q p x more h = record { there = subst (λ (xs : List Sig). x.sig.0 < length xs) (sym more.signals) h.there; name = h.name }

ports_more : (q p : Pooled) (ps : List Port) → IsMore q p → ArePorts q ps → ArePorts p ps
ports_more q p ps more h = record { each = all_each (IsPortOf q) (IsPortOf p) ps (λ x there. port_more q p x more there) h.each; distinct = h.distinct }

top_more : (q p : Pooled) (found : TopPorts) → IsMore q p → AreTopPorts q found → AreTopPorts p found
top_more q p (ports.Members ps) more h = ports_more q p ps more h
top_more q p (ports.Held ps) more h = ports_more q p ps more h
top_more q p ports.Loose more h = tt

pub tree_resolvable : (s : Seen) (h : Held) (p : Pooled) (f : Fragment) (found : TopPorts) → IsSound h → IsPool h.pool → StandsFor h.store p f → tree_found h.store (root_module h.store) h.pool ≡ Ok (f, p) → ports_of s h h.store.top.object ≡ Some found
    → IsResolvable p f found
tree_resolvable s h p f found sound rules stands e asked =
    let made = tree_made h.store (root_module h.store) h.pool p f e in
    let more = tree_more h.store made.built h.pool (f, p) made.tree in
    record {
      tree = stands.tree;
      free_data = data_free s h h.store.top.object found f asked stands.definitions stands.free_data;
      apart = all_apart h.pool h.store.clock_domains.made (all_definitions f) sound.clock_domains stands.definitions;
      names = subst (AllByRecursion (λ (x : Sig). IsName x.name)) (sym more.signals) sound.names;
      ports = top_more h.pool p found more (top_stands s h h.store.top.object found sound rules asked);
    }

-- ---- what the tree is resolved to

pub unresolved_design : (h : Held) (heap : Made) (r : Result Circuit ResolveStop) (stop : ResolveStop) (told : ElabStop) → design_of h heap ≡ found_with h heap r → IsResolveRefusal r stop → told ≡ unresolved_stop stop → IsFound (Err told) (design_of h heap)
unresolved_design h heap r stop told owed refused is = subst (λ x. IsFound (Err x) (design_of h heap)) (sym is) (by_stop stop refused)
  where
    by_stop : (x : ResolveStop) → IsResolveRefusal r x → IsFound (Err (unresolved_stop x)) (design_of h heap)
    by_stop unresolved.NoMemory e = tt
    by_stop (unresolved.DomainClash p) e = owed ∙ ap (found_with h heap) e
    by_stop (unresolved.NoReset p) e = owed ∙ ap (found_with h heap) e
    by_stop (unresolved.TwoDrivers p) e = owed ∙ ap (found_with h heap) e
    by_stop (unresolved.DrivenInput p) e = owed ∙ ap (found_with h heap) e
    by_stop (unresolved.Limit p) e = owed ∙ ap (found_with h heap) e
