-- The design that `resolve` gives means what the module with those below it does.
use Rattle.std.specs.Prelude.{◌≡◌, refl, ℕ, true, is_some, IsSome, List, [], ◌∷◌, map, position, slice_get, Option, Some, None, option_map}
use Rattle.std.specs.List.{AllByRecursion, flat_map}
use Rattle.std.proofs.Common.{sym, subst}
use Rattle.std.proofs.lemmas.Bool.{false≢true}
use Rattle.lists.specs.Texts.{text_eq}
use Rattle.design_ir.specs.declared.ids.ExprId.{ExprId}
use Rattle.design_ir.specs.declared.ids.DomainId.{DomainId}
use Rattle.design_ir.specs.declared.domain.Domain.{Domain}
use Rattle.design_ir.specs.declared.memory.MemWrite.{MemWrite}
use Rattle.design_ir.specs.declared.memory.MemRead.{MemRead}
use Rattle.design_ir.specs.declared.memory.Memory.{Memory}
use Rattle.design_ir.specs.declared.process.Side.{Side}
use Rattle.design_ir.specs.declared.process.Side.TheVariants.{Comb, Clocked}
use Rattle.design_ir.specs.declared.process.Process.{Process}
use Rattle.design_ir.specs.declared.process.DesignProcess.{DesignProcess}
use Rattle.design_ir.specs.declared.fragment.Fragment.{Fragment}
use Rattle.design_ir.specs.Trees.{done}
use Rattle.design_ir.specs.Pools.{Pooled}
use Rattle.design_ir.specs.PoolRules.{IsPool}
use Rattle.design_ir.specs.Guards.{block_exprs}
use Rattle.design_ir.specs.Circuits.{Circuit}
use Rattle.fragment_walks.specs.Held.{fragment_exprs, read_exprs, write_exprs}
use Rattle.fragment_walks.specs.Walks.{Contents, all_contents}
use Rattle.fragment_walks.proofs.Lists.{all_left, all_right}
use Rattle.clock_domains.specs.declared.top.TopPorts.{TopPorts}
use Rattle.clock_domains.specs.Resolvable.{IsResolvable, IsSideOf, IsPlain}
use Rattle.clock_domains.specs.Resolved.{circuit_of, domain_number, domain_stop, driver_stop, is_clocked, made_domains, made_names, made_pool, ports_of, process_in, whole_pool}
use Rattle.clock_domains.specs.Ready.{IsPlainMemory, IsReady}
use Rattle.clock_domains.proofs.DesignMemories.{all_parted}
use Rattle.clock_domains.proofs.PlacedLaws.{placed_signals}
use Rattle.clock_domains.proofs.ReadyLaws.{ready_apart, resolved_whole, walked_ready}
use Rattle.fragment_laws.specs.Surroundings.{domain_of, pool_in}
use Rattle.fragment_laws.specs.SamePools.{AllSame, AreSameIn, IsSameMemory}
use Rattle.fragment_laws.specs.Roots.{IsSideNamed, IsRoot, MeansItsRoot, ResolvedMeansItsRoot}
use Rattle.fragment_laws.proofs.Twins.{all_imp}
use Rattle.fragment_laws.proofs.Naming.{find_placed, placed_below, none_past}
use Rattle.fragment_laws.proofs.PlainPools.{plain_same}
use Rattle.fragment_laws.proofs.WholePools.{placed_read, rules_with}
use Rattle.fragment_laws.proofs.NamedMemories.{unnamed_all}
use Rattle.fragment_laws.proofs.RootLaws.{means}

all_mapped : {A B : Type 0} (P : B → Type 0) (f : A → B) (xs : List A) → AllByRecursion (λ x. P (f x)) xs → AllByRecursion P (map f xs)
all_mapped P f [] h = tt
all_mapped P f (x ∷ xs) h = (h.0, all_mapped P f xs h.1)

module _ (q : Pooled) (f : Fragment) (top : TopPorts) (given : IsResolvable q f top) (rules : IsPool q) (whole : IsPool (whole_pool q f)) (placed : domain_stop q f ≡ None) where
  abbrev all : Contents
  all = all_contents f

  -- with the signals of the domains that are made, and then with resets as signals
  abbrev w : Pooled
  w = made_pool q f

  abbrev v : Pooled
  v = whole_pool q f

  abbrev ds : List Domain
  ds = made_domains q f

  abbrev made : Circuit
  made = circuit_of v ds all (ports_of v ds f.processes all top)

  signals_are : v.signals ≡ w.signals
  signals_are = placed_signals ds w (fragment_exprs f)

  ready : IsReady v ds f.processes all top
  ready = walked_ready q f top given rules (rules_with q (made_names q f) v rules whole signals_are) placed

  -- ---- each clocked side has a domain

  is_found : (n : List ℕ) (o : Option ℕ) → position (λ (d : Domain). text_eq d.name n) ds ≡ o → is_some (option_map (λ (k : ℕ). let y : DomainId = record { 0 = k } in y) o) ≡ true → IsSome (domain_of ds n)
  is_found n None e h = absurd (false≢true h)
  is_found n (Some k) e h = subst IsSome (sym (find_placed (λ (d : Domain). text_eq d.name n) ds k e)) (there (slice_get ds k) refl)
    where
      there : (o : Option Domain) → slice_get ds k ≡ o → IsSome o
      there (Some d) g = refl
      there None g = absurd (none_past ds k g (placed_below (λ (d : Domain). text_eq d.name n) ds k e))

  by_side : (s : Side) → is_some (domain_number ds s) ≡ is_clocked (record { side = s; body = done }) → IsSideNamed ds s
  by_side Comb h = tt
  by_side (Clocked n) h = is_found n (position (λ (d : Domain). text_eq d.name n) ds) refl h

  named : AllByRecursion (λ (p : Process). IsSideNamed ds p.side) all.processes
  named = all_imp (λ (p : Process) (h : is_some (domain_number ds p.side) ≡ is_clocked p). by_side p.side h) all.processes ready.known

  -- ---- its expressions: over the pool in which resets are signals none is plain, and the domains read both pools alike

  abbrev r : Pooled
  r = pool_in ds v

  plain : (es : List ExprId) → AllByRecursion (IsPlain v) es → AllSame r v es
  plain es h = all_imp (λ (e : ExprId) (k : IsPlain v e). plain_same ds v whole e.0 k.there k.resolved) es h

  body_same : (p : Process) → IsSideOf v p → AllSame r v (block_exprs p.body)
  body_same p h = plain (block_exprs p.body) h.expressions

  memory_same : (m : Memory) → IsPlainMemory v m → IsSameMemory r v m
  memory_same m h = record {
    writes =
        all_imp (λ (x : MemWrite) k. plain (write_exprs x) k) m.writes
        (all_parted (IsPlain v) write_exprs m.writes (all_left (IsPlain v) (flat_map write_exprs m.writes) (flat_map read_exprs m.reads) h.expressions));
    reads =
        all_imp (λ (x : MemRead) k. plain (read_exprs x) k) m.reads
        (all_parted (IsPlain v) read_exprs m.reads (all_right (IsPlain v) (flat_map write_exprs m.writes) (flat_map read_exprs m.reads) h.expressions));
  }

  same : AreSameIn r v made
  same = record {
    signals = refl;
    processes = all_mapped (λ (x : DesignProcess). AllSame r v (block_exprs x.body)) (process_in ds) all.processes (all_imp body_same all.processes ready.processes);
    memories = all_imp memory_same all.memories ready.memories;
  }

  is_root : IsRoot w f made
  is_root = record {
    pool = subst (λ (p : Pooled). AreSameIn p v made) (placed_read ds w (fragment_exprs f)) same;
    processes = refl;
    named = named;
    memories = unnamed_all f;
  }

  pub made_means : driver_stop v ds all top ≡ None → MeansItsRoot w f made
  made_means free = means w f made (ready_apart v ds f.processes all top ready whole free) is_root

pub resolved_means_its_root : ResolvedMeansItsRoot
resolved_means_its_root q f top c rules whole given e =
    let a = resolved_whole q f top c e in
    subst (MeansItsRoot (made_pool q f) f) a.whole (made_means q f top given rules (subst (λ (x : Circuit). IsPool x.pool) (sym a.whole) whole) a.placed a.free)
