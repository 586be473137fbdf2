-- What is held stays sound where a memory gets a port.
use Rattle.std.proofs.Common.{◌≡◌, ◌≢◌, ℕ, zero, suc, ◌+◌, ◌<◌, ◌≤◌, ◌==◌, refl, ap, ◌∙◌, sym, subst, Bool, true, false, List, [], ◌∷◌, ◌++◌, length, Option, Some, None, arith, true≢false, is_some, append_assoc, append-nil}
use Rattle.std.specs.Prelude.{◌||◌, not, if◌then◌else◌, map, slice_get, slice_set, IfSome, codes}
use Rattle.std.specs.Fmt.{decimal}
use Rattle.std.specs.List.{AllByRecursion, list_any, list_all}
use Rattle.std.proofs.lemmas.Bool.Decides.{nat_tests}
use Rattle.std.proofs.lemmas.List.{length-append}
use Rattle.std.proofs.lemmas.List.Sums.{AllPass-from_list_all}
use Rattle.lists.specs.Names.{IsName, continues_name}
use Rattle.lists.specs.Texts.{text_eq}
use Rattle.identifiers.specs.Identifiers.{is_identifier}
use Rattle.identifiers.proofs.NameLaws.{identifier_is_name}
use Rattle.py_values.specs.declared.val.Val.{Val}
use Rattle.py_values.specs.declared.val.Val.TheVariants as val
use Rattle.py_heap.specs.Heaps.{Seen, text_at}
use Rattle.design_ir.specs.declared.ids.SigId.{SigId}
use Rattle.design_ir.specs.declared.signal.Sig.{Sig}
use Rattle.design_ir.specs.declared.expr.Expr.{Expr}
use Rattle.design_ir.specs.declared.expr.Expr.TheVariants as expr
use Rattle.design_ir.specs.declared.port.Port.{Port}
use Rattle.design_ir.specs.declared.memory.Memory.{Memory}
use Rattle.design_ir.specs.declared.memory.MemWrite.{MemWrite}
use Rattle.design_ir.specs.declared.memory.MemRead.{MemRead}
use Rattle.design_ir.specs.Circuits.{option_test}
use Rattle.design_ir.specs.Pools.{Pooled}
use Rattle.design_ir.specs.PoolRules.{IsPool}
use Rattle.design_ir.specs.Settling.{is_signal}
use Rattle.clock_domains.specs.Resolvable.{IsPortOf}
use Rattle.memory_ports.specs.declared.refusal.MemStop.{MemStop}
use Rattle.memory_ports.specs.declared.refusal.MemStop.TheVariants as stop
use Rattle.memory_ports.specs.Ports as ports
use Rattle.memory_ports.specs.Ports.{with_signal, with_signals, is_over, filled}
use Rattle.memory_ports.specs.Memories.{HasPorts}
use Rattle.memory_ports.specs.Laws.{IsOther, IsOtherWrite, IsOtherRead, IsApart}
use Rattle.memory_ports.specs.Calls.{stop_where, is_full, is_elsewhere, is_granule, is_transparent, left_behind, write_signals, write_refusal, read_signals, read_refusal, enable_signals, and_write, and_read}
use Rattle.memory_ports.proofs.Growing.{grown_not, grown_all}
use Rattle.memory_ports.proofs.SpecLaws.{spec_write, spec_read, or_none, not_false}
use Rattle.memory_ports.proofs.PortLaws.{write_has, read_has}
use Rattle.elab_store.specs.declared.memories.OwnMemory.{OwnMemory}
use Rattle.elab_store.specs.declared.own_machine.OwnMachine.{OwnMachine}
use Rattle.elab_store.specs.declared.domains.ClockDomain.{ClockDomain}
use Rattle.elab_store.specs.declared.faces.ComponentObject.{ComponentObject}
use Rattle.elab_store.specs.Stores.{Held}
use Rattle.elab_store.specs.declared.kept.Kept.TheVariants as kept_as
use Rattle.elab_store.specs.declared.kept.MemoryMethod.{MemoryMethod}
use Rattle.elab_store.specs.declared.kept.MemoryMethod.TheVariants.{WritePort, ReadPort}
use Rattle.elab_store.specs.Calls.{Called}
use Rattle.elab_store.specs.Sound.{HasNoClock, HasNoPort, IsNamedRead, IsOwnData, IsClockDomain, IsMachine, IsMemoryPort, IsObject, IsOwnMemory, HasOwnRegister, IsSound}
use Rattle.elab_store.proofs.Pools.{signal_there}
use Rattle.elab_store.proofs.MemoryLaws.{all_both, each_holds, none_among, memory_stays, apart_stays, domain_low}
use Rattle.elab_store.proofs.NumberNames.{decimal_continues}
use Rattle.elab_memories.specs.declared.ports.PortArguments.{PortArguments}
use Rattle.elab_memories.specs.Ports.{port_arguments, domain_formed, domain_given, granule_given, transparent_given, pool_where, ported, store_with_spec, ported_given, write_kept, write_made, write_put, write_from, read_domain, read_kept, read_made, read_put, read_from, port_called}
use Rattle.elab_acts.proofs.GrownLaws.{all_and, pool_grown, keeping_sound, name_more}

-- ---- a pool that gets signals with names

pub record IsNamedGrowth (q r : Pooled) : Type 0 where
  pub more_signals : List Sig
  pub more_exprs : List Expr
  pub signals : r.signals ≡ q.signals ++ more_signals
  pub exprs : r.exprs ≡ q.exprs ++ more_exprs
  pub names : AllByRecursion (λ (x : Sig). IsName x.name) more_signals

growth_of : (q r : Pooled) → IsNamedGrowth q r → ports.IsGrown q r
growth_of q r g = record { more_signals = g.more_signals; more_exprs = g.more_exprs; signals = g.signals; exprs = g.exprs }

pub pool_named : (h : Held) (q : Pooled) → IsSound h → IsNamedGrowth h.pool q → IsSound (record h { pool = q })
pool_named h q s g = pool_grown h q g.more_signals g.more_exprs s g.signals g.exprs g.names

nothing_named : (q : Pooled) → IsNamedGrowth q q
nothing_named q = record { more_signals = []; more_exprs = []; signals = sym (append-nil q.signals); exprs = sym (append-nil q.exprs); names = tt }

one_named : (q r : Pooled) (x : Sig) → IsName x.name → IsNamedGrowth (with_signal q x) r → IsNamedGrowth q r
one_named q r x named g =
    let e : Expr = expr.Sig (record { 0 = length q.signals }) in record {
      more_signals = x ∷ g.more_signals;
      more_exprs = e ∷ g.more_exprs;
      signals = g.signals ∙ append_assoc q.signals (x ∷ []) g.more_signals;
      exprs = g.exprs ∙ append_assoc q.exprs (e ∷ []) g.more_exprs;
      names = (named, g.names);
    }

-- with an expression for each
signals_length : (q : Pooled) (xs : List Sig) → length (with_signals q xs).exprs ≡ length q.exprs + length xs
signals_length q [] = omega arith
signals_length q (x ∷ xs) = omega (arith, signals_length (with_signal q x) xs, length-append q.exprs (expr.Sig (record { 0 = length q.signals }) ∷ []))

pub all_named : (q : Pooled) (xs : List Sig) → AllByRecursion (λ (x : Sig). IsName x.name) xs → IsNamedGrowth q (with_signals q xs)
all_named q [] named = nothing_named q
all_named q (x ∷ xs) named = one_named q (with_signals (with_signal q x) xs) x named.0 (all_named (with_signal q x) xs named.1)

filled_named : (q : Pooled) (xs : List Sig) → AllByRecursion (λ (x : Sig). IsName x.name) xs → IsNamedGrowth q (filled q xs)
filled_named q [] named = nothing_named q
filled_named q (x ∷ xs) named = by_test (is_over q (x ∷ [])) (filled_named (with_signal q x) xs named.1)
  where
    by_test : (b : Bool) → IsNamedGrowth (with_signal q x) (filled (with_signal q x) xs) → IsNamedGrowth q (if b then q else filled (with_signal q x) xs)
    by_test true rest = nothing_named q
    by_test false rest = one_named q (filled (with_signal q x) xs) x named.0 rest

pub left_named : (q : Pooled) (m : Memory) (xs : List Sig) → AllByRecursion (λ (x : Sig). IsName x.name) xs → IsNamedGrowth q (left_behind q m xs)
left_named q m xs named = by_test (is_full m)
  where
    by_test : (b : Bool) → IsNamedGrowth q (if b then q else filled q xs)
    by_test true = nothing_named q
    by_test false = filled_named q xs named

-- the signals of ports have names
w_named : IsName (codes "w")
w_named = record { first = 119; rest = []; whole = refl; starts = refl; continues = AllPass-from_list_all continues_name [] refl }

r_named : IsName (codes "r")
r_named = record { first = 114; rest = []; whole = refl; starts = refl; continues = AllPass-from_list_all continues_name [] refl }

port_named : (kind member : List ℕ) (n : ℕ) → IsName kind → list_all continues_name member ≡ true → IsName (kind ++ (decimal n ++ member))
port_named kind member n k m = subst IsName (append_assoc kind (decimal n) member) (name_more (kind ++ decimal n) member (name_more kind (decimal n) k (decimal_continues n)) m)

pub write_named : (m : Memory) (g : Option ℕ) → AllByRecursion (λ (x : Sig). IsName x.name) (write_signals m g)
write_named m g = (port_named (codes "w") (codes "_addr") (length m.writes) w_named refl, (port_named (codes "w") (codes "_data") (length m.writes) w_named refl, (port_named (codes "w") (codes "_en") (length m.writes) w_named refl, tt)))

pub read_named : (m : Memory) (domain : Option (List ℕ)) → AllByRecursion (λ (x : Sig). IsName x.name) (read_signals m domain)
read_named m domain = (port_named (codes "r") (codes "_addr") (length m.reads) r_named refl, (port_named (codes "r") (codes "_data") (length m.reads) r_named refl, by_clock domain))
  where
    by_clock : (o : Option (List ℕ)) → AllByRecursion (λ (x : Sig). IsName x.name) (enable_signals (length m.reads) o)
    by_clock None = tt
    by_clock (Some d) = (port_named (codes "r") (codes "_en") (length m.reads) r_named refl, tt)

-- ---- one memory of the list

all_set : {A : Type 0} (P : A → Type 0) (xs : List A) (k : ℕ) (x : A) → AllByRecursion P xs → P x → AllByRecursion P (slice_set xs k x)
all_set P [] k x h p = tt
all_set P (y ∷ xs) zero x h p = (p, h.1)
all_set P (y ∷ xs) (suc k) x h p = (h.0, all_set P xs k x h.1 p)

pub all_at : {A : Type 0} (P : A → Type 0) (xs : List A) (k : ℕ) (x : A) → AllByRecursion P xs → slice_get xs k ≡ Some x → P x
all_at P [] k x h e = cc
all_at P (y ∷ xs) zero x h e = let same : y ≡ x = cc in subst P same h.0
all_at P (y ∷ xs) (suc k) x h e = all_at P xs k x h.1 e

-- it has other ports, which are its own
pub with_spec_sound : (h : Held) (k : ℕ) (x : OwnMemory) (m : Memory) → IsSound h → IsOwnMemory h.pool h.store.clock_domains.made h.store.components.objects (record { spec = m; reading = x.reading }) → AllByRecursion (λ (c : OwnMachine). IsApart h.pool c.machine.signal.0 m) h.store.machines
    → IsSound (record h { store = store_with_spec k x m h.store })
with_spec_sound h k x m s own apart = record {
  names = s.names;
  things = s.things;
  kept = s.kept;
  modules = s.modules;
  machines = s.machines;
  domains = s.domains;
  additions = s.additions;
  clock_domains = s.clock_domains;
  components = s.components;
  wrappings = s.wrappings;
  waits = s.waits;
  memories = all_set (IsOwnMemory h.pool h.store.clock_domains.made h.store.components.objects) h.store.memories k (record { spec = m; reading = x.reading }) s.memories own;
  registers = all_both (HasOwnRegister h.pool h.store.clock_domains.made h.store.memories) (λ (c : OwnMachine). IsApart h.pool c.machine.signal.0 m) (HasOwnRegister h.pool h.store.clock_domains.made (slice_set h.store.memories k (record { spec = m; reading = x.reading }))) h.store.machines
      (λ c r a. record { clocks = r.clocks; ports = all_set (λ (y : OwnMemory). IsApart h.pool c.machine.signal.0 y.spec) h.store.memories k (record { spec = m; reading = x.reading }) r.ports a }) s.registers apart;
}

-- ---- signals that were there are none of a new port

object_low : (q : Pooled) (s : ℕ) → length q.signals ≤ s → (o : ℕ × ComponentObject) → AllByRecursion (IsPortOf q) o.1.ports → HasNoPort s o
object_low q s past o h = none_among (map (λ (p : Port). p.sig.0) o.1.ports) s (each_low o.1.ports h)
  where
    each_low : (ps : List Port) → AllByRecursion (IsPortOf q) ps → AllByRecursion (λ n. n < s) (map (λ (p : Port). p.sig.0) ps)
    each_low [] g = tt
    each_low (p ∷ ps) g = (omega (arith, past, g.0.there), each_low ps g.1)

-- ---- signals of a new port are none that were there

still_at : {A : Type 0} (xs ys : List A) (k : ℕ) (x : A) → slice_get xs k ≡ Some x → slice_get (xs ++ ys) k ≡ Some x
still_at [] ys k x e = absurd cc
still_at (z ∷ xs) ys zero x e = e
still_at (z ∷ xs) ys (suc k) x e = still_at xs ys k x e

last_at : {A : Type 0} (xs : List A) (x : A) (k : ℕ) → k ≡ length xs → slice_get (xs ++ x ∷ []) k ≡ Some x
last_at [] x zero e = refl
last_at [] x (suc k) e = absurd (omega (arith, e))
last_at (y ∷ xs) x zero e = absurd (omega (arith, e))
last_at (y ∷ xs) x (suc k) e = last_at xs x k (omega (arith, e))

number_other : (n t : ℕ) → t < n → (n == t) ≡ false
number_other n t lt = grind (arith, nat_tests)

new_other : (q r : Pooled) (x : Sig) (t k : ℕ) → t < length q.signals → k ≡ length q.exprs → ports.IsGrown (with_signal q x) r → IsOther r t (record { 0 = k })
new_other q r x t k low e g =
    let s : Expr = expr.Sig (record { 0 = length q.signals }) in
    let here : slice_get r.exprs k ≡ Some s = ap (λ es. slice_get es k) g.exprs ∙ still_at (q.exprs ++ s ∷ []) g.more_exprs k s (last_at q.exprs s k e) in
    ap (option_test (is_signal t)) here ∙ number_other (length q.signals) t low

module _ (q : Pooled) (m : Memory) (t : ℕ) (low : t < length q.signals) (has : HasPorts q m) (apart : IsApart q t m) where
  pub write_apart : (domain : List ℕ) (g : Option ℕ) → IsApart (with_signals q (write_signals m g)) t (and_write q m domain g)
  write_apart domain g =
      let a = ports.address_signal (codes "w") (length m.writes) m.depth in
      let w = ports.data_signal (codes "w") (length m.writes) m.shape in
      let e = ports.write_enable (length m.writes) (ports.enable_width m.shape.width (ports.granule m.shape.width g)) in
      let q1 = with_signal q a in
      let q2 = with_signal q1 w in
      let r = with_signals q (write_signals m g) in
      let kept = apart_stays q r (grown_all q (write_signals m g)) t m has apart in
      let s1 = length-append q.signals (a ∷ []) in
      let s2 = length-append q1.signals (w ∷ []) in
      let e1 = length-append q.exprs (expr.Sig (record { 0 = length q.signals }) ∷ []) in
      let e2 = length-append q1.exprs (expr.Sig (record { 0 = length q1.signals }) ∷ []) in
      record {
        writes = all_and (IsOtherWrite r t) m.writes _ kept.writes (
          (
            new_other q r a t (length q.exprs) low refl (grown_all q1 (w ∷ e ∷ [])),
            new_other q1 r w t (length q.exprs + 1) (omega (arith, low, s1)) (omega (arith, e1)) (grown_all q2 (e ∷ [])),
            new_other q2 r e t (length q.exprs + 2) (omega (arith, low, s1, s2)) (omega (arith, e1, e2)) (grown_not r),
          ),
          tt,
        );
        reads = kept.reads;
      }

  pub read_apart : (domain : Option (List ℕ)) (through : List ℕ) → IsApart (with_signals q (read_signals m domain)) t (and_read q m domain through)
  read_apart None through =
      let a = ports.address_signal (codes "r") (length m.reads) m.depth in
      let w = ports.data_signal (codes "r") (length m.reads) m.shape in
      let q1 = with_signal q a in
      let r = with_signals q (read_signals m None) in
      let kept = apart_stays q r (grown_all q (read_signals m None)) t m has apart in
      record {
        writes = kept.writes;
        reads = all_and (IsOtherRead r t) m.reads _ kept.reads ((new_other q r a t (length q.exprs) low refl (grown_all q1 (w ∷ [])), (λ e. omega (arith, e, low)), tt), tt);
      }
  read_apart (Some d) through =
      let a = ports.address_signal (codes "r") (length m.reads) m.depth in
      let w = ports.data_signal (codes "r") (length m.reads) m.shape in
      let e = ports.read_enable (length m.reads) in
      let q1 = with_signal q a in
      let q2 = with_signal q1 w in
      let r = with_signals q (read_signals m (Some d)) in
      let kept = apart_stays q r (grown_all q (read_signals m (Some d))) t m has apart in
      let s1 = length-append q.signals (a ∷ []) in
      let s2 = length-append q1.signals (w ∷ []) in
      let e1 = length-append q.exprs (expr.Sig (record { 0 = length q.signals }) ∷ []) in
      let e2 = length-append q1.exprs (expr.Sig (record { 0 = length q1.signals }) ∷ []) in
      record {
        writes = kept.writes;
        reads = all_and (IsOtherRead r t) m.reads _ kept.reads (
          (
            new_other q r a t (length q.exprs) low refl (grown_all q1 (w ∷ e ∷ [])),
            (λ same. omega (arith, same, low)),
            new_other q2 r e t (length q.exprs + 2) (omega (arith, low, s1, s2)) (omega (arith, e1, e2)) (grown_not r),
          ),
          tt,
        );
      }

-- ---- what a port that is made was asked

pub record IsWritable (q : Pooled) (m : Memory) (domain : List ℕ) (g : Option ℕ) : Type 0 where
  pub clocked : text_eq domain (codes "comb") ≡ false
  pub shared : is_elsewhere m.writes domain ≡ false
  pub fits : is_granule m.shape.width g ≡ true
  pub room : is_full m ≡ false

not_stopped : (b : Bool) (why : MemStop) (o : Option MemStop) → stop_where why b o ≡ None → (b ≡ false) × (o ≡ None)
not_stopped true why o e = cc
not_stopped false why o e = (refl, e)

pub writable : (q : Pooled) (m : Memory) (domain : List ℕ) (g : Option ℕ) → write_refusal q m domain g ≡ None → IsWritable q m domain g
writable q m domain g e =
    let one = not_stopped (text_eq domain (codes "comb") || is_elsewhere m.writes domain) stop.BadDomain _ e in
    let two = not_stopped (not (is_granule m.shape.width g)) stop.BadGranularity _ one.1 in
    let three = not_stopped (is_full m || is_over q (write_signals m g)) stop.Limit _ two.1 in
    let names = or_none (text_eq domain (codes "comb")) (is_elsewhere m.writes domain) one.0 in
    record { clocked = names.0; shared = names.1; fits = not_false (is_granule m.shape.width g) two.0; room = (or_none (is_full m) (is_over q (write_signals m g)) three.0).0 }

pub record IsReadable (q : Pooled) (m : Memory) (domain : Option (List ℕ)) (through : List ℕ) : Type 0 where
  pub through_clock : list_any (λ k. not (is_transparent m.writes domain k)) through ≡ false
  pub room : is_full m ≡ false

pub readable : (q : Pooled) (m : Memory) (domain : Option (List ℕ)) (through : List ℕ) → read_refusal q m domain through ≡ None → IsReadable q m domain through
readable q m domain through e =
    let one = not_stopped (list_any (λ k. not (is_transparent m.writes domain k)) through) stop.BadTransparent _ e in
    let two = not_stopped (is_full m || is_over q (read_signals m domain)) stop.Limit _ one.1 in
    record { through_clock = one.0; room = (or_none (is_full m) (is_over q (read_signals m domain)) two.0).0 }

-- ---- the memory with its port

module _ (h : Held) (k : ℕ) (x : OwnMemory) (s : IsSound h) (rules : IsPool h.pool) (at : slice_get h.store.memories k ≡ Some x) where
  own : IsOwnMemory h.pool h.store.clock_domains.made h.store.components.objects x
  own = all_at (IsOwnMemory h.pool h.store.clock_domains.made h.store.components.objects) h.store.memories k x s.memories at

  -- registers are signals that were there, and none of this memory's
  record IsLow (c : OwnMachine) : Type 0 where
    there : c.machine.signal.0 < length h.pool.signals
    apart : IsApart h.pool c.machine.signal.0 x.spec

  lows : AllByRecursion IsLow h.store.machines
  lows = all_both (IsMachine h.pool) (HasOwnRegister h.pool h.store.clock_domains.made h.store.memories) IsLow h.store.machines
      (λ c m r. record {
        there = signal_there h.pool.signals [] h.pool.exprs c.machine.register.0 c.machine.signal rules.exprs m.register;
        apart = all_at (λ (y : OwnMemory). IsApart h.pool c.machine.signal.0 y.spec) h.store.memories k x r.ports at;
      }) s.machines s.registers

  left_sound : (why : MemStop) (left : Pooled) → IsNamedGrowth h.pool left → IsSound (record { pool = pool_where why h.pool left; store = h.store })
  left_sound stop.BadDomain left g = s
  left_sound stop.BadGranularity left g = s
  left_sound stop.BadTransparent left g = s
  left_sound stop.TooManyRows left g = s
  left_sound stop.Limit left g = pool_named h left s g
  left_sound stop.NoMemory left g = s

  -- all of it in a pool that has grown
  grown_apart : (r : Pooled) → ports.IsGrown h.pool r → AllByRecursion (λ (c : OwnMachine). IsApart r c.machine.signal.0 x.spec) h.store.machines
  grown_apart r g = each_holds IsLow (λ (c : OwnMachine). IsApart r c.machine.signal.0 x.spec) h.store.machines (λ c l. apart_stays h.pool r g c.machine.signal.0 x.spec own.ports l.apart) lows

  unported_sound : (why : MemStop) (left : Pooled) → IsNamedGrowth h.pool left → IsSound (record { pool = pool_where why h.pool left; store = store_with_spec k x x.spec h.store })
  unported_sound why left g =
      let t : IsSound (record { pool = pool_where why h.pool left; store = h.store }) = left_sound why left g in
      let grown : ports.IsGrown h.pool (pool_where why h.pool left) = growth why in
      with_spec_sound (record { pool = pool_where why h.pool left; store = h.store }) k x x.spec t (memory_stays h.pool (pool_where why h.pool left) h.store.clock_domains.made h.store.components.objects grown x own) (grown_apart (pool_where why h.pool left) grown)
    where
      growth : (y : MemStop) → ports.IsGrown h.pool (pool_where y h.pool left)
      growth stop.BadDomain = grown_not h.pool
      growth stop.BadGranularity = grown_not h.pool
      growth stop.BadTransparent = grown_not h.pool
      growth stop.TooManyRows = grown_not h.pool
      growth stop.Limit = growth_of h.pool left g
      growth stop.NoMemory = grown_not h.pool

  write_sound : (domain : List ℕ) (g : Option ℕ) → IsName domain → (o : Option MemStop) → write_refusal h.pool x.spec domain g ≡ o
      → IsSound (ported_given k x (ported o (write_made k x.spec x.reading domain g h.pool) h.pool (left_behind h.pool x.spec (write_signals x.spec g)) x.spec) h.store).held
  write_sound domain g named (Some why) e = unported_sound why (left_behind h.pool x.spec (write_signals x.spec g)) (left_named h.pool x.spec (write_signals x.spec g) (write_named x.spec g))
  write_sound domain g named None e =
      let m : Memory = and_write h.pool x.spec domain g in
      let r : Pooled = with_signals h.pool (write_signals x.spec g) in
      let n = all_named h.pool (write_signals x.spec g) (write_named x.spec g) in
      let asked = writable h.pool x.spec domain g e in
      let t : IsSound (record h { pool = r }) = pool_named h r s n in
      let there : length h.pool.exprs + 2 < length r.exprs = omega (arith, signals_length h.pool (write_signals x.spec g)) in
      keeping_sound (record { pool = r; store = store_with_spec k x m h.store }) (kept_as.MemoryPort (write_kept k x.spec x.reading h.pool))
      (with_spec_sound (record h { pool = r }) k x m t
      (record {
        spec = spec_write h.pool x.spec domain g own.spec asked.clocked asked.shared asked.fits asked.room;
        ports = write_has h.pool x.spec domain g own.ports;
        write_names = all_and (λ (w : MemWrite). IsName w.domain) x.spec.writes _ own.write_names (named, tt);
        read_names = own.read_names;
        own_data = own.own_data;
      })
      (each_holds IsLow (λ (c : OwnMachine). IsApart r c.machine.signal.0 m) h.store.machines (λ c l. write_apart h.pool x.spec c.machine.signal.0 l.there own.ports l.apart domain g) lows))
      (record { addr = omega (arith, there); word = omega (arith, there); enable = there })

  -- the data of a read port that is made
  new_data : (s1 : ℕ) → length h.pool.signals ≤ s1 → (r : MemRead) → r.word.0 ≡ s1 → IsOwnData h.store.clock_domains.made h.store.components.objects r
  new_data s1 past r same = record {
    clocks = each_holds (IsClockDomain h.pool) (HasNoClock r.word.0) h.store.clock_domains.made (λ y c. domain_low h.pool r.word.0 (omega (arith, past, same)) y c) s.clock_domains.each;
    ports = each_holds (λ (o : ℕ × ComponentObject). IsObject h.pool h.store.components.signatures h.store.components.ends o.1) (HasNoPort r.word.0) h.store.components.objects (λ o is. object_low h.pool r.word.0 (omega (arith, past, same)) o is.ports.each) s.components.objects;
  }

  enable_there : (domain : Option (List ℕ)) (r : Pooled) → r ≡ with_signals h.pool (read_signals x.spec domain) → IsMemoryPort r (read_kept k x.spec x.reading domain h.pool)
  enable_there None r same =
      let n = ap (λ (p : Pooled). length p.exprs) same ∙ signals_length h.pool (read_signals x.spec None) in
      record { addr = omega (arith, n); word = omega (arith, n); enable = tt }
  enable_there (Some d) r same =
      let n = ap (λ (p : Pooled). length p.exprs) same ∙ signals_length h.pool (read_signals x.spec (Some d)) in
      record { addr = omega (arith, n); word = omega (arith, n); enable = omega (arith, n) }

  read_sound : (domain : Option (List ℕ)) (through : List ℕ) → IfSome domain IsName → domain ≢ Some (codes "comb") → (o : Option MemStop) → read_refusal h.pool x.spec domain through ≡ o
      → IsSound (ported_given k x (ported o (read_made k x.spec x.reading domain through h.pool) h.pool (left_behind h.pool x.spec (read_signals x.spec domain)) x.spec) h.store).held
  read_sound domain through named clocked (Some why) e = unported_sound why (left_behind h.pool x.spec (read_signals x.spec domain)) (left_named h.pool x.spec (read_signals x.spec domain) (read_named x.spec domain))
  read_sound domain through named clocked None e =
      let m : Memory = and_read h.pool x.spec domain through in
      let r : Pooled = with_signals h.pool (read_signals x.spec domain) in
      let n = all_named h.pool (read_signals x.spec domain) (read_named x.spec domain) in
      let asked = readable h.pool x.spec domain through e in
      let t : IsSound (record h { pool = r }) = pool_named h r s n in
      keeping_sound (record { pool = r; store = store_with_spec k x m h.store }) (kept_as.MemoryPort (read_kept k x.spec x.reading domain h.pool))
      (with_spec_sound (record h { pool = r }) k x m t
      (record {
        spec = spec_read h.pool x.spec domain through own.spec clocked asked.through_clock asked.room;
        ports = read_has h.pool x.spec domain through own.ports;
        write_names = own.write_names;
        read_names = all_and IsNamedRead x.spec.reads _ own.read_names (named, tt);
        own_data = all_and (IsOwnData h.store.clock_domains.made h.store.components.objects) x.spec.reads _ own.own_data (new_data (length h.pool.signals + 1) (omega arith) _ refl, tt);
      })
      (each_holds IsLow (λ (c : OwnMachine). IsApart r c.machine.signal.0 m) h.store.machines (λ c l. read_apart h.pool x.spec c.machine.signal.0 l.there own.ports l.apart domain through) lows))
      (enable_there domain r refl)

-- ---- the calls

domain_is_name : (name d : List ℕ) → domain_formed name ≡ Some d → IsName d
domain_is_name name d e = by_test (is_identifier name) refl e
  where
    by_test : (b : Bool) → is_identifier name ≡ b → (if b then Some name else None) ≡ Some d → IsName d
    by_test true i e = let same : name ≡ d = cc in subst IsName same (identifier_is_name name i)
    by_test false i e = absurd (true≢false (ap is_some (sym e)))

sync_named : IsName (codes "sync")
sync_named = record { first = 115; rest = codes "ync"; whole = refl; starts = refl; continues = AllPass-from_list_all continues_name (codes "ync") refl }

given_is_name : (s : Seen) (o : Option Val) (d : List ℕ) → domain_given s o ≡ Some d → IsName d
given_is_name s None d e = let same : codes "sync" ≡ d = cc in subst IsName same sync_named
given_is_name s (Some (val.Str x)) d e = domain_is_name (text_at s x.0) d e
given_is_name s (Some val.None) d e = absurd (true≢false (ap is_some (sym e)))
given_is_name s (Some (val.Bool b)) d e = absurd (true≢false (ap is_some (sym e)))
given_is_name s (Some (val.Int b)) d e = absurd (true≢false (ap is_some (sym e)))
given_is_name s (Some (val.Time b)) d e = absurd (true≢false (ap is_some (sym e)))
given_is_name s (Some (val.List b)) d e = absurd (true≢false (ap is_some (sym e)))
given_is_name s (Some (val.Tuple b)) d e = absurd (true≢false (ap is_some (sym e)))
given_is_name s (Some (val.Dict b)) d e = absurd (true≢false (ap is_some (sym e)))
given_is_name s (Some (val.Range b)) d e = absurd (true≢false (ap is_some (sym e)))
given_is_name s (Some (val.Func b)) d e = absurd (true≢false (ap is_some (sym e)))
given_is_name s (Some (val.Class b)) d e = absurd (true≢false (ap is_some (sym e)))
given_is_name s (Some (val.Object b)) d e = absurd (true≢false (ap is_some (sym e)))
given_is_name s (Some (val.Hw b)) d e = absurd (true≢false (ap is_some (sym e)))

write_put_sound : (k : ℕ) (h : Held) → IsSound h → IsPool h.pool → (o : Option OwnMemory) → slice_get h.store.memories k ≡ o → (d : Option (List ℕ)) → ((n : List ℕ) → d ≡ Some n → IsName n) → (g : Option (Option ℕ)) → IsSound (write_put k o d g h).held
write_put_sound k h s rules None at d named g = s
write_put_sound k h s rules (Some x) at None named g = s
write_put_sound k h s rules (Some x) at (Some d) named None = s
write_put_sound k h s rules (Some x) at (Some d) named (Some g) = write_sound h k x s rules at d g (named d refl) (write_refusal h.pool x.spec d g) refl

read_put_sound : (k : ℕ) (h : Held) → IsSound h → IsPool h.pool → (o : Option OwnMemory) → slice_get h.store.memories k ≡ o → (d : Option (List ℕ)) → ((n : List ℕ) → d ≡ Some n → IsName n) → (ks : Option (List ℕ)) → IsSound (read_put k o d ks h).held
read_put_sound k h s rules None at d named ks = s
read_put_sound k h s rules (Some x) at None named ks = s
read_put_sound k h s rules (Some x) at (Some d) named None = s
read_put_sound k h s rules (Some x) at (Some d) named (Some ks) = read_sound h k x s rules at (read_domain d) ks (by_name (text_eq d (codes "comb"))) (by_clock (text_eq d (codes "comb")) refl) (read_refusal h.pool x.spec (read_domain d) ks) refl
  where
    by_name : (b : Bool) → IfSome (if b then None else Some d) IsName
    by_name true = tt
    by_name false = named d refl

    by_clock : (b : Bool) → text_eq d (codes "comb") ≡ b → (if b then None else Some d) ≢ Some (codes "comb")
    by_clock true e same = absurd (true≢false (ap is_some (sym same)))
    by_clock false e same = let is : d ≡ codes "comb" = cc in absurd (true≢false (sym (ap (λ (n : List ℕ). text_eq n (codes "comb")) is) ∙ e))

write_from_sound : (s : Seen) (k : ℕ) (o : Option PortArguments) (h : Held) → IsSound h → IsPool h.pool → IsSound (write_from s k o h).held
write_from_sound s k None h t rules = t
write_from_sound s k (Some args) h t rules = write_put_sound k h t rules (slice_get h.store.memories k) refl (domain_given s args.domain) (given_is_name s args.domain) (granule_given args.other)

read_from_sound : (s : Seen) (k : ℕ) (o : Option PortArguments) (h : Held) → IsSound h → IsPool h.pool → IsSound (read_from s k o h).held
read_from_sound s k None h t rules = t
read_from_sound s k (Some args) h t rules = read_put_sound k h t rules (slice_get h.store.memories k) refl (domain_given s args.domain) (given_is_name s args.domain) (transparent_given s h.store k args.other)

pub port_call_sound : (s : Seen) (k : ℕ) (m : MemoryMethod) (c : Called) (h : Held) → IsSound h → IsPool h.pool → IsSound (port_called s k m c h).held
port_call_sound s k WritePort c h t rules = write_from_sound s k (port_arguments (codes "granularity") c) h t rules
port_call_sound s k ReadPort c h t rules = read_from_sound s k (port_arguments (codes "transparent_for") c) h t rules
