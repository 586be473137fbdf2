-- Memories of a program are what is asked of memories before domains are known, and no one else gives their data.
use Rattle.std.proofs.Common.{◌≡◌, ◌≤◌, ℕ, zero, suc, ◌==◌, refl, ap, ◌∙◌, sym, subst, cond, Bool, true, false, List, [], ◌∷◌, ◌++◌, map, Option, Some, None, true≢false, is_some}
use Rattle.std.specs.Prelude.{◌||◌, slice_get, IfSome, option_map, unwrap_or}
use Rattle.std.specs.List.{AllByRecursion, filter, flat_map}
use Rattle.lists.specs.Names.{IsName}
use Rattle.shape_rules.specs.Forms.{Form, unsigned}
use Rattle.py_values.specs.declared.val.ObjId.{ObjId}
use Rattle.py_heap.specs.Heaps.{Seen, row_at}
use Rattle.py_heap.specs.Objects.{first_in}
use Rattle.design_ir.specs.declared.ids.ExprId.{ExprId}
use Rattle.design_ir.specs.declared.ids.SigId.{SigId}
use Rattle.design_ir.specs.declared.signal.Sig.{Sig}
use Rattle.design_ir.specs.declared.domain.DomainDef.{DomainDef}
use Rattle.design_ir.specs.declared.fragment.Fragment.{Fragment}
use Rattle.design_ir.specs.declared.port.Port.{Port}
use Rattle.design_ir.specs.declared.memory.MemWrite.{MemWrite}
use Rattle.design_ir.specs.declared.memory.MemRead.{MemRead}
use Rattle.design_ir.specs.declared.memory.Memory.{Memory}
use Rattle.design_ir.specs.Pools.{Pooled}
use Rattle.design_ir.specs.PoolRules.{IsPool}
use Rattle.design_ir.specs.Circuits.{is_among}
use Rattle.design_ir.specs.Designs.{IsTransparent}
use Rattle.design_ir.proofs.Equations.{place_below}
use Rattle.memory_ports.specs.Ports.{address_width}
use Rattle.memory_ports.specs.Memories.{is_granularity, IsData, IsFitting, HasFittingEnable, FitsWrite, FitsRead}
use Rattle.memory_ports.proofs.Widths.{address_width-least}
use Rattle.memory_ports.proofs.MemoryLaws.{granularity, ports_fit}
use Rattle.clock_domains.specs.declared.top.TopPorts.{TopPorts}
use Rattle.clock_domains.specs.declared.top.TopPorts.TheVariants as ports
use Rattle.fragment_walks.specs.Reads.{data_signals}
use Rattle.clock_domains.specs.Resolvable.{domain_numbers, IsShaped, IsAddressOf, IsWriteOf, IsClockingOf, IsDataOf, IsReadOf, IsMemoryOf, top_inputs, outer_signals}
use Rattle.fragment_walks.specs.Walks.{all_memories, all_definitions}
use Rattle.elab_store.specs.declared.domains.ClockDomain.{ClockDomain}
use Rattle.elab_store.specs.declared.faces.ComponentObject.{ComponentObject}
use Rattle.elab_store.specs.declared.memories.OwnMemory.{OwnMemory}
use Rattle.elab_store.specs.Components.{object_at, ports_at}
use Rattle.elab_store.specs.Sound.{HasNoClock, HasNoPort, IsOwnData, IsNamedRead, IsOwnMemory}
use Rattle.elab_store.specs.Stores.{Stored, Held}
use Rattle.elab_components.specs.Interfaces.{component_class}
use Rattle.elab_acts.proofs.EachLaws.{all_map, all_each}
use Rattle.elab_acts.proofs.GrownLaws.{all_and}
use Rattle.elab_acts.proofs.PortLaws.{all_found}
use Rattle.elab_eval.specs.ComponentTops.{made_ports, component_ports}
use Rattle.elab_eval.specs.ObjectTops.{held_ports, ports_as}
use Rattle.elab_eval.specs.Elaborates.{ports_of, spec_of}
use Rattle.elab_eval.specs.Standing.{IsFrom, IsFree}
use Rattle.elab_eval.proofs.DefinitionLaws.{made_at, from_numbers}

-- ---- shapes

module _ (q : Pooled) (rules : IsPool q) where
  shaped : (f : Form) (e : ExprId) → IsFitting q f e → IsShaped q f e
  shaped f e h = record { there = h.there; shape = h.shape }

  address : (m : Memory) (e : ExprId) → m.depth ≤ 65536 → IsFitting q (unsigned (address_width m.depth)) e → IsAddressOf q m e
  address m e few h = record {
    there = h.there;
    is_unsigned = ap (λ (f : Form). f.signed) h.shape;
    width = rw h.shape (address_width-least m.depth few);
  }

  data_of : (f : Form) (s : SigId) → IsData q f s → IsDataOf q f s
  data_of f s h = record {
    there = place_below q.signals s.0 h.signal h.there;
    shape = ap (λ o. unwrap_or (option_map (λ (x : Sig). x.shape) o) (unsigned 0)) h.there ∙ h.shape;
    begins = rw h.there h.begins;
  }

  clocking : (domain : Option (List ℕ)) (e : Option ExprId) → IfSome domain IsName → HasFittingEnable q domain e → IsClockingOf q domain e
  clocking None None named h = h
  clocking None (Some e) named h = absurd h
  clocking (Some d) None named h = absurd h
  clocking (Some d) (Some e) named h = (named, shaped (unsigned 1) e h)

  module _ (m : Memory) (few : m.depth ≤ 65536) where
    write_ports : (ws : List MemWrite) → AllByRecursion (λ (w : MemWrite). IsName w.domain) ws → AllByRecursion (λ (w : MemWrite). is_granularity m.shape.width w.granularity ≡ true) ws → AllByRecursion (FitsWrite q m.depth m.shape) ws → AllByRecursion (IsWriteOf q m) ws
    write_ports [] named fits has = tt
    write_ports (w ∷ ws) named fits has = (
      record {
        domain = named.0;
        addr = address m w.addr few has.0.addr;
        word = shaped m.shape w.word has.0.word;
        granularity = granularity m w.granularity fits.0;
        enable = shaped _ w.enable has.0.enable;
      },
      write_ports ws named.1 fits.1 has.1,
    )

    read_ports : (rs : List MemRead) → AllByRecursion IsNamedRead rs → AllByRecursion (λ (r : MemRead). AllByRecursion (IsTransparent m r.domain) r.transparent) rs → AllByRecursion (FitsRead q m.depth m.shape) rs → AllByRecursion (IsReadOf q m) rs
    read_ports [] named through has = tt
    read_ports (r ∷ rs) named through has = (
      record {
        addr = address m r.addr few has.0.addr;
        word = data_of m.shape r.word has.0.word;
        clocking = clocking r.domain r.enable named.0 has.0.enable;
        transparent = through.0;
      },
      read_ports rs named.1 through.1 has.1,
    )

  pub memory_stands : (made : List ClockDomain) (objects : List (ℕ × ComponentObject)) (x : OwnMemory) → IsOwnMemory q made objects x → IsMemoryOf q x.spec
  memory_stands made objects x h =
      let fits = ports_fit q x.spec rules h.ports in record {
        depth = h.spec.few_rows;
        rows = h.spec.rows;
        row_shapes = h.spec.row_shapes;
        few_ports = h.spec.few_ports;
        writes = write_ports x.spec h.spec.few_rows x.spec.writes h.write_names h.spec.granularities fits.writes;
        reads = read_ports x.spec h.spec.few_rows x.spec.reads h.read_names h.spec.transparent fits.reads;
        one_domain = h.spec.one_domain;
      }

-- that of a number, where there is one
pub spec_at : (P : Memory → Type 0) (ms : List OwnMemory) (k : ℕ) → AllByRecursion (λ (x : OwnMemory). P x.spec) ms → AllByRecursion P (spec_of (slice_get ms k))
spec_at P [] k h = tt
spec_at P (x ∷ ms) zero h = (h.0, tt)
spec_at P (x ∷ ms) (suc k) h = spec_at P ms k h.1

-- ---- signals that are none of these

not_in_both : (xs ys : List ℕ) (s : ℕ) → is_among xs s ≡ false → is_among ys s ≡ false → is_among (xs ++ ys) s ≡ false
not_in_both [] ys s e f = f
not_in_both (x ∷ xs) ys s e f = by_first _ _ e (λ g. not_in_both xs ys s g f)
  where
    by_first : (a b : Bool) → (a || b) ≡ false → (b ≡ false → is_among (xs ++ ys) s ≡ false) → (a || is_among (xs ++ ys) s) ≡ false
    by_first true b e rest = absurd (true≢false e)
    by_first false b e rest = rest e

not_in_any : {A : Type 0} (f : A → List ℕ) (xs : List A) (s : ℕ) → AllByRecursion (λ x. is_among (f x) s ≡ false) xs → is_among (flat_map f xs) s ≡ false
not_in_any f [] s h = refl
not_in_any f (x ∷ xs) s h = not_in_both (f x) (flat_map f xs) s h.0 (not_in_any f xs s h.1)

not_filtered : (test : Port → Bool) (ps : List Port) (s : ℕ) → is_among (map (λ (p : Port). p.sig.0) ps) s ≡ false → is_among (map (λ (p : Port). p.sig.0) (filter test ps)) s ≡ false
not_filtered test [] s e = refl
not_filtered test (p ∷ ps) s e = by_test (test p) (p.sig.0 == s) e (λ f. not_filtered test ps s f) refl
  where
    by_test : (t a : Bool) → (a || is_among (map (λ (p : Port). p.sig.0) ps) s) ≡ false → (is_among (map (λ (p : Port). p.sig.0) ps) s ≡ false → is_among (map (λ (p : Port). p.sig.0) (filter test ps)) s ≡ false)
        → (a ≡ (p.sig.0 == s)) → is_among (map (λ (p : Port). p.sig.0) (cond t (p ∷ filter test ps) (filter test ps))) s ≡ false
    by_test t true e rest is = absurd (true≢false e)
    by_test true false e rest is = ap (λ b. b || is_among (map (λ (p : Port). p.sig.0) (filter test ps)) s) (sym is) ∙ rest e
    by_test false false e rest is = rest e

-- ---- the inputs of the top

made_free : (o : Option (List Port)) (found : TopPorts) (s : ℕ) → ((ps : List Port) → o ≡ Some ps → is_among (map (λ (p : Port). p.sig.0) ps) s ≡ false) → made_ports o ≡ Some found → is_among (top_inputs found) s ≡ false
made_free None found s f e = absurd (true≢false (ap is_some (sym e)))
made_free (Some ps) found s f e =
    let same : ports.Members ps ≡ found = cc in
    subst (λ (t : TopPorts). is_among (top_inputs t) s ≡ false) same (not_filtered (λ (p : Port). p.is_input) ps s (f ps refl))

object_free : (o : Option ComponentObject) (ps : List Port) (s : ℕ) → ((x : ComponentObject) → o ≡ Some x → is_among (map (λ (p : Port). p.sig.0) x.ports) s ≡ false) → option_map (λ (x : ComponentObject). x.ports) o ≡ Some ps → is_among (map (λ (p : Port). p.sig.0) ps) s ≡ false
object_free None ps s f e = absurd (true≢false (ap is_some (sym e)))
object_free (Some x) ps s f e =
    let same : x.ports ≡ ps = cc in
    subst (λ (qs : List Port). is_among (map (λ (p : Port). p.sig.0) qs) s ≡ false) same (f x refl)

inputs_free : (seen : Seen) (h : Held) (o : Option ObjId) (found : TopPorts) (s : ℕ) → AllByRecursion (HasNoPort s) h.store.components.objects → ports_of seen h o ≡ Some found → is_among (top_inputs found) s ≡ false
inputs_free seen h None found s none e =
    let same : ports.Loose ≡ found = cc in
    subst (λ (t : TopPorts). is_among (top_inputs t) s ≡ false) same refl
inputs_free seen h (Some o) found s none e = by_class (component_class h.store (first_in (row_at seen o.0))) e
  where
    by_class : (class : Option ℕ) → ports_as class (component_ports h.store o) (held_ports seen h o) ≡ Some found → is_among (top_inputs found) s ≡ false
    by_class (Some class) e = made_free (ports_at h.store.components.objects o.0) found s (λ ps is. object_free (object_at h.store.components.objects o.0) ps s (λ x there. all_found (λ (y : ComponentObject). is_among (map (λ (p : Port). p.sig.0) y.ports) s ≡ false) _ h.store.components.objects x none there) is) e
    by_class None e =
        let same : ports.Held (held_ports seen h o) ≡ found = cc in
        subst (λ (t : TopPorts). is_among (top_inputs t) s ≡ false) same refl

-- ---- the signals of domains that are defined

clocks_free : (made : List ClockDomain) (ds : List DomainDef) (s : ℕ) → AllByRecursion (HasNoClock s) made → AllByRecursion (IsFrom made) ds → is_among (flat_map (λ (d : DomainDef). domain_numbers d.domain) ds) s ≡ false
clocks_free made ds s none from =
    not_in_any (λ (d : DomainDef). domain_numbers d.domain) ds s (all_each (IsFrom made) (λ (d : DomainDef). is_among (domain_numbers d.domain) s ≡ false) ds
    (λ d f. subst (λ ns. is_among ns s ≡ false) (sym (from_numbers made d f)) (made_at (HasNoClock s) made f.number f.x none f.at)) from)

-- ---- no one else gives the data of read ports

own_data : (s : Stored) (rs : List MemRead) → AllByRecursion (IsOwnData s.clock_domains.made s.components.objects) rs → AllByRecursion (IsFree s) (map (λ (r : MemRead). r.word.0) rs)
own_data s rs h =
    all_map (IsFree s) (λ (r : MemRead). r.word.0) rs (all_each (IsOwnData s.clock_domains.made s.components.objects) (λ (r : MemRead). IsFree s r.word.0) rs (λ r own. record { clocks = own.clocks; ports = own.ports }) h)

pub memory_free : (q : Pooled) (s : Stored) (k : ℕ) → AllByRecursion (IsOwnMemory q s.clock_domains.made s.components.objects) s.memories → AllByRecursion (IsFree s) (data_signals (spec_of (slice_get s.memories k)))
memory_free q s k h =
    by_number s.memories k (all_each (IsOwnMemory q s.clock_domains.made s.components.objects) (λ (x : OwnMemory). AllByRecursion (IsFree s) (map (λ (r : MemRead). r.word.0) x.spec.reads)) s.memories (λ x own. own_data s x.spec.reads own.own_data) h)
  where
    by_number : (xs : List OwnMemory) (k : ℕ) → AllByRecursion (λ (x : OwnMemory). AllByRecursion (IsFree s) (map (λ (r : MemRead). r.word.0) x.spec.reads)) xs → AllByRecursion (IsFree s) (data_signals (spec_of (slice_get xs k)))
    by_number [] k g = tt
    by_number (x ∷ xs) zero g = all_and (IsFree s) (map (λ (r : MemRead). r.word.0) x.spec.reads) [] g.0 tt
    by_number (x ∷ xs) (suc k) g = by_number xs k g.1

pub data_free : (seen : Seen) (h : Held) (o : Option ObjId) (found : TopPorts) (f : Fragment) → ports_of seen h o ≡ Some found → AllByRecursion (IsFrom h.store.clock_domains.made) (all_definitions f) → AllByRecursion (IsFree h.store) (data_signals (all_memories f))
    → AllByRecursion (λ k. is_among (outer_signals f found) k ≡ false) (data_signals (all_memories f))
data_free seen h o found f e from free =
    all_each (IsFree h.store) (λ k. is_among (outer_signals f found) k ≡ false) (data_signals (all_memories f))
    (λ k own. not_in_both (flat_map (λ (d : DomainDef). domain_numbers d.domain) (all_definitions f)) (top_inputs found) k (clocks_free h.store.clock_domains.made (all_definitions f) k own.clocks from) (inputs_free seen h o found k own.ports e)) free
