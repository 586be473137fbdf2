-- What is held is sound over the pool of the design: signals of domains stand behind the others, and resets that modules hold are signals.
use Rattle.std.proofs.Common.{◌≡◌, ℕ, zero, suc, ◌+◌, ◌<◌, ◌≤◌, ◌==◌, ◌||◌, refl, ap, ◌∙◌, sym, subst, cond, Bool, true, false, List, [], ◌∷◌, ◌++◌, length, Option, Some, None, Ok, arith, append-nil}
use Rattle.std.specs.Prelude.{slice_get, slice_index_or, get_or, option_and_then, is_some, not, ◌*◌}
use Rattle.std.specs.List.{AllByRecursion, find, flat_map}
use Rattle.std.specs.Option.{option_map_or}
use Rattle.std.proofs.lemmas.List.{length-append}
use Rattle.lists.specs.Names.{IsName}
use Rattle.lists.specs.Texts.{text_eq}
use Rattle.design_ir.specs.declared.ids.ExprId.{ExprId}
use Rattle.design_ir.specs.declared.ids.SigId.{SigId}
use Rattle.design_ir.specs.declared.signal.Sig.{Sig}
use Rattle.design_ir.specs.declared.domain.Domain.{Domain}
use Rattle.design_ir.specs.declared.domain.DomainDef.{DomainDef}
use Rattle.design_ir.specs.declared.memory.MemWrite.{MemWrite}
use Rattle.design_ir.specs.declared.memory.MemRead.{MemRead}
use Rattle.design_ir.specs.declared.memory.Memory.{Memory}
use Rattle.design_ir.specs.declared.fragment.Fragment.{Fragment}
use Rattle.design_ir.specs.declared.expr.Expr.{Expr}
use Rattle.design_ir.specs.declared.expr.Expr.TheVariants as expr
use Rattle.design_ir.specs.Pools.{Pooled, answers, answer}
use Rattle.design_ir.specs.PoolRules.{IsPool}
use Rattle.design_ir.specs.Circuits.{Circuit, is_among, option_test}
use Rattle.design_ir.specs.Settling.{is_signal}
use Rattle.design_ir.specs.Targets.{is_target, target_test, is_open_target, open_target_test}
use Rattle.design_ir.proofs.Equations.{answer_at}
use Rattle.shape_rules.specs.Forms.{Form}
use Rattle.module_dsl.specs.Builders.{Built}
use Rattle.flat_design.specs.Growing.{IsMore}
use Rattle.fragment_walks.specs.Held.{fragment_exprs, is_within}
use Rattle.fragment_walks.specs.Walks.{all_definitions}
use Rattle.fragment_walks.proofs.Lists.{all_filtered, or_none}
use Rattle.clock_domains.specs.declared.top.TopPorts.{TopPorts}
use Rattle.clock_domains.specs.Placed.{reset_of, or_signal, placed_expr, placed_from, placed_pool}
use Rattle.clock_domains.specs.Resolvable.{IsTree, domain_numbers}
use Rattle.clock_domains.specs.Resolved.{defined_domain, domain_at, domain_names, domain_signals, domains_from, made_domains, made_names, made_pool, resolved, undefined_names, whole_pool, with_domains}
use Rattle.clock_domains.proofs.DesignParts.{domain_signal_names}
use Rattle.clock_domains.proofs.GivenDomains.{domains_all}
use Rattle.clock_domains.proofs.PlacedLaws.{placed_at, placed_count, placed_signals}
use Rattle.clock_domains.proofs.ReadyLaws.{resolved_whole, tree_named}
use Rattle.memory_ports.specs.Memories.{IsSignal, IsData, HasEnable, HasWrite, HasRead, HasPorts}
use Rattle.memory_ports.specs.Laws.{IsOther, IsOtherEnable, IsOtherWrite, IsOtherRead, IsApart}
use Rattle.domain_transforms.specs.Placed.{AreControls}
use Rattle.amh_things.specs.Held.{AreHeld}
use Rattle.elab_store.specs.declared.kept.Begin.{Begin}
use Rattle.elab_store.specs.declared.kept.Begin.TheVariants as begin
use Rattle.elab_store.specs.declared.kept.Kept.{Kept}
use Rattle.elab_store.specs.declared.kept.Kept.TheVariants as kept_as
use Rattle.elab_store.specs.declared.domains.ClockDomain.{ClockDomain}
use Rattle.elab_store.specs.declared.faces.End.{End}
use Rattle.elab_store.specs.declared.faces.ComponentObject.{ComponentObject}
use Rattle.elab_store.specs.declared.memories.OwnMemory.{OwnMemory}
use Rattle.elab_store.specs.declared.own_machine.OwnMachine.{OwnMachine}
use Rattle.elab_store.specs.declared.wrappings.Wrapping.{Wrapping}
use Rattle.elab_store.specs.declared.wrappings.Wrapping.TheVariants as wrapping
use Rattle.elab_store.specs.declared.simulation.Sample.{Sample}
use Rattle.elab_store.specs.declared.simulation.Sample.TheVariants as sample
use Rattle.elab_store.specs.declared.simulation.TickEnd.{TickEnd}
use Rattle.elab_store.specs.declared.simulation.TickEnd.TheVariants as end
use Rattle.elab_store.specs.declared.simulation.Wait.{Wait}
use Rattle.elab_store.specs.declared.simulation.Wait.TheVariants as wait
use Rattle.elab_store.specs.Leaves.{Signatures}
use Rattle.elab_store.specs.Components.{Components}
use Rattle.elab_store.specs.Stores.{Stored, Held}
use Rattle.elab_store.specs.Sound.{IsBegin, IsKept, IsFront, IsMachine, HasNoClock, IsEnd, AreComponents, IsOwnMemory, HasOwnRegister, IsWrapping, IsSample, IsTickEnd, IsWait, IsBuilt, IsEnableThere, IsMemoryPort, IsSound}
use Rattle.elab_store.proofs.MemoryLaws.{all_both, each_holds, not_among, still_at}
use Rattle.elab_store.proofs.Pools.{signal_there}
use Rattle.elab_acts.proofs.DomainLaws.{bit_stays, domains_stay}
use Rattle.elab_acts.proofs.EachLaws.{all_each}
use Rattle.elab_acts.proofs.GrownLaws.{all_and, pool_grown}
use Rattle.elab_acts.proofs.PortLaws.{objects_stay}
use Rattle.elab_eval.specs.Elaborates.{held_of_modules}
use Rattle.elab_eval.specs.Standing.{IsFrom, StandsFor}
use Rattle.elab_eval.proofs.DefinitionLaws.{from_numbers, made_at}

-- ---- a pool that keeps what another one has

-- signals behind its own, as many expressions, each signal among them, and what is a target before domains are resolved
pub record IsKeeping (q w : Pooled) : Type 0 where
  pub more : List Sig
  pub signals : w.signals ≡ q.signals ++ more
  pub count : length w.exprs ≡ length q.exprs
  pub kept : (k : ℕ) (s : SigId) → slice_get q.exprs k ≡ Some (expr.Sig s) → slice_get w.exprs k ≡ Some (expr.Sig s)
  pub targets : (k : ℕ) → is_open_target w k ≡ is_open_target q k

-- a signal is a target
signal_target : (q : Pooled) (k : ℕ) (s : SigId) → slice_get q.exprs k ≡ Some (expr.Sig s) → is_target q k ≡ true
unfolding is_target
signal_target q k s at = answer_at false target_test q.exprs k (expr.Sig s) at (λ f g same. refl)

module _ (q w : Pooled) (keeps : IsKeeping q w) where
  there : (k : ℕ) → k < length q.exprs → k < length w.exprs
  there k low = omega (arith, low, keeps.count)

  -- ---- what is kept

  begin_kept : (b : Begin) → IsBegin q b → IsBegin w b
  begin_kept (begin.If e) h = there e.0 h
  begin_kept (begin.Elif e) h = there e.0 h
  begin_kept begin.Else h = tt
  begin_kept (begin.Switch e) h = there e.0 h
  begin_kept (begin.Case n) h = tt
  begin_kept begin.Default h = tt
  begin_kept begin.Misplaced h = tt

  enable_there : (e : Option ExprId) → IsEnableThere q e → IsEnableThere w e
  enable_there None h = tt
  enable_there (Some e) h = there e.0 h

  kept_kept : (sigs : Signatures) (ends : List End) (k : Kept) → IsKept q sigs ends k → IsKept w sigs ends k
  kept_kept sigs ends (kept_as.Statement x) h = record { target_there = there x.target.0 h.target_there; value_there = there x.value.0 h.value_there; is_target = keeps.targets x.target.0 ∙ h.is_target }
  kept_kept sigs ends (kept_as.Name n) h = tt
  kept_kept sigs ends (kept_as.Module m) h = tt
  kept_kept sigs ends (kept_as.Domains m) h = tt
  kept_kept sigs ends (kept_as.Domain m d) h = tt
  kept_kept sigs ends (kept_as.Submodules m) h = tt
  kept_kept sigs ends (kept_as.Definitions m) h = tt
  kept_kept sigs ends (kept_as.ClockDomain k) h = tt
  kept_kept sigs ends (kept_as.Memory k) h = tt
  kept_kept sigs ends (kept_as.OfMemory k y) h = tt
  kept_kept sigs ends (kept_as.MemoryPort x) h = record { addr = there x.addr.0 h.addr; word = there x.word.0 h.word; enable = enable_there x.enable h.enable }
  kept_kept sigs ends (kept_as.Wrapping k) h = tt
  kept_kept sigs ends (kept_as.Wrapped k) h = tt
  kept_kept sigs ends (kept_as.Port is_out shape init) h = tt
  kept_kept sigs ends (kept_as.Nested is_out m) h = tt
  kept_kept sigs ends (kept_as.Signature n) h = tt
  kept_kept sigs ends (kept_as.OfSignature n y) h = tt
  kept_kept sigs ends (kept_as.Interface f) h = h
  kept_kept sigs ends (kept_as.BlockName m n) h = tt
  kept_kept sigs ends (kept_as.Block m b) h = begin_kept b h
  kept_kept sigs ends (kept_as.OfMachine x) h = tt
  kept_kept sigs ends (kept_as.OfSimulator x) h = tt
  kept_kept sigs ends (kept_as.OfBench x) h = tt

  -- ---- machines, and ends of interfaces

  machine_kept : (x : OwnMachine) → IsMachine q x → IsFront w x.machine → IsMachine w x
  machine_kept x h front =
      let here = keeps.kept x.machine.register.0 x.machine.signal h.register in
      record { register = here; target = signal_target w x.machine.register.0 x.machine.signal here; side = h.side; front = front }

  longer : length q.signals ≤ length w.signals
  longer = omega (arith, ap length keeps.signals, length-append q.signals keeps.more)

  end_kept : (e : End) → IsEnd q e → IsEnd w e
  end_kept e h =
      let here = keeps.kept e.expr.0 e.sig h.signal in
      record { there = omega (arith, h.there, longer); expr_there = there e.expr.0 h.expr_there; signal = here; target = signal_target w e.expr.0 e.sig here }

  components_kept : (cs : Components) → AreComponents q cs → AreComponents w cs
  components_kept cs h = record {
    names = h.names;
    ends = all_each (IsEnd q) (IsEnd w) cs.ends end_kept h.ends;
    objects = objects_stay q w cs.signatures cs.ends cs.objects longer h.objects;
  }

  -- ---- memories

  signal_kept : (f : Form) (e : ExprId) → IsSignal q f e → IsSignal w f e
  signal_kept f e h = record {
    sig = h.sig;
    signal = h.signal;
    stands = keeps.kept e.0 h.sig h.stands;
    there = ap (λ xs. slice_get xs h.sig.0) keeps.signals ∙ still_at q.signals keeps.more h.sig.0 h.signal h.there;
    shape = h.shape;
  }

  data_kept : (f : Form) (s : SigId) → IsData q f s → IsData w f s
  data_kept f s h = record { signal = h.signal; there = ap (λ xs. slice_get xs s.0) keeps.signals ∙ still_at q.signals keeps.more s.0 h.signal h.there; shape = h.shape; begins = h.begins }

  enable_kept : (domain : Option (List ℕ)) (e : Option ExprId) → HasEnable q domain e → HasEnable w domain e
  enable_kept None None h = tt
  enable_kept None (Some e) h = absurd h
  enable_kept (Some d) None h = absurd h
  enable_kept (Some d) (Some e) h = signal_kept _ e h

  write_kept : (depth : ℕ) (shape : Form) (x : MemWrite) → HasWrite q depth shape x → HasWrite w depth shape x
  write_kept depth shape x h = record { addr = signal_kept _ x.addr h.addr; word = signal_kept _ x.word h.word; enable = signal_kept _ x.enable h.enable }

  read_kept : (depth : ℕ) (shape : Form) (r : MemRead) → HasRead q depth shape r → HasRead w depth shape r
  read_kept depth shape r h = record { addr = signal_kept _ r.addr h.addr; word = data_kept _ r.word h.word; enable = enable_kept r.domain r.enable h.enable }

  memory_kept : (made : List ClockDomain) (objects : List (ℕ × ComponentObject)) (x : OwnMemory) → IsOwnMemory q made objects x → IsOwnMemory w made objects x
  memory_kept made objects x h = record {
    spec = h.spec;
    ports = record {
      writes = each_holds (HasWrite q x.spec.depth x.spec.shape) (HasWrite w x.spec.depth x.spec.shape) x.spec.writes (write_kept x.spec.depth x.spec.shape) h.ports.writes;
      reads = each_holds (HasRead q x.spec.depth x.spec.shape) (HasRead w x.spec.depth x.spec.shape) x.spec.reads (read_kept x.spec.depth x.spec.shape) h.ports.reads;
    };
    write_names = h.write_names;
    read_names = h.read_names;
    own_data = h.own_data;
  }

  -- ---- registers are none of their signals

  module _ (t : ℕ) where
    other_kept : (f : Form) (e : ExprId) → IsSignal q f e → IsOther q t e → IsOther w t e
    other_kept f e h o = ap (option_test (is_signal t)) (keeps.kept e.0 h.sig h.stands ∙ sym h.stands) ∙ o

    other_enable : (domain : Option (List ℕ)) (e : Option ExprId) → HasEnable q domain e → IsOtherEnable q t e → IsOtherEnable w t e
    other_enable domain None h o = tt
    other_enable None (Some e) h o = absurd h
    other_enable (Some d) (Some e) h o = other_kept _ e h o

    other_write : (depth : ℕ) (shape : Form) (x : MemWrite) → HasWrite q depth shape x → IsOtherWrite q t x → IsOtherWrite w t x
    other_write depth shape x h o = (other_kept _ x.addr h.addr o.0, other_kept _ x.word h.word o.1, other_kept _ x.enable h.enable o.2)

    other_read : (depth : ℕ) (shape : Form) (r : MemRead) → HasRead q depth shape r → IsOtherRead q t r → IsOtherRead w t r
    other_read depth shape r h o = (other_kept _ r.addr h.addr o.0, o.1, other_enable r.domain r.enable h.enable o.2)

    apart_kept : (m : Memory) → HasPorts q m → IsApart q t m → IsApart w t m
    apart_kept m h a = record {
      writes = all_both (HasWrite q m.depth m.shape) (IsOtherWrite q t) (IsOtherWrite w t) m.writes (other_write m.depth m.shape) h.writes a.writes;
      reads = all_both (HasRead q m.depth m.shape) (IsOtherRead q t) (IsOtherRead w t) m.reads (other_read m.depth m.shape) h.reads a.reads;
    }

  register_kept : (made : List ClockDomain) (objects : List (ℕ × ComponentObject)) (xs : List OwnMemory) → AllByRecursion (IsOwnMemory q made objects) xs → (m : OwnMachine) → HasOwnRegister q made xs m → HasOwnRegister w made xs m
  register_kept made objects xs are m own = record {
    clocks = own.clocks;
    ports = all_both (IsOwnMemory q made objects) (λ (x : OwnMemory). IsApart q m.machine.signal.0 x.spec) (λ (x : OwnMemory). IsApart w m.machine.signal.0 x.spec) xs (λ x h a. apart_kept m.machine.signal.0 x.spec h.ports a) are own.ports;
  }

  -- ---- wrappers and waits

  wrapping_kept : (x : Wrapping) → IsWrapping q x → IsWrapping w x
  wrapping_kept (wrapping.Rename names) h = h
  wrapping_kept (wrapping.Reset controls) h = subst (λ n. AreControls n controls) (sym keeps.count) h
  wrapping_kept (wrapping.Enable controls) h = subst (λ n. AreControls n controls) (sym keeps.count) h

  sample_kept : (x : Sample) → IsSample q x → IsSample w x
  sample_kept (sample.Value e reading) h = there e.0 h
  sample_kept (sample.Number n) h = tt

  tick_end_kept : (x : TickEnd) → IsTickEnd q x → IsTickEnd w x
  tick_end_kept end.Once h = tt
  tick_end_kept (end.Times n) h = tt
  tick_end_kept (end.Until x) h = sample_kept x h

  wait_kept : (x : Wait) → IsWait q x → IsWait w x
  wait_kept (wait.Tick t) h = (all_each (IsSample q) (IsSample w) t.samples sample_kept h.0, tick_end_kept t.end h.1)
  wait_kept (wait.Delay n) h = tt

  -- ---- all that is held, but for its modules

  pub kept_sound : (s : Stored) (bs : List Built) → IsSound (held_of_modules q s bs) → s.modules ≡ [] → AllByRecursion (λ (x : Sig). IsName x.name) w.signals → AllByRecursion (λ (x : OwnMachine). IsFront w x.machine) s.machines → IsSound (record { pool = w; store = s })
  kept_sound s bs h none names fronts = record {
    names = names;
    things = subst (λ n. AreHeld n s.things) (sym keeps.count) h.things;
    kept = all_each (IsKept q s.components.signatures s.components.ends) (IsKept w s.components.signatures s.components.ends) s.kept (kept_kept s.components.signatures s.components.ends) h.kept;
    modules = subst (AllByRecursion (IsBuilt w)) (sym none) tt;
    machines = all_both (IsMachine q) (λ (x : OwnMachine). IsFront w x.machine) (IsMachine w) s.machines machine_kept h.machines fronts;
    domains = h.domains;
    additions = h.additions;
    clock_domains = domains_stay q w s.clock_domains.made (bit_stays q w keeps.more keeps.signals) h.clock_domains;
    components = components_kept s.components h.components;
    memories = all_each (IsOwnMemory q s.clock_domains.made s.components.objects) (IsOwnMemory w s.clock_domains.made s.components.objects) s.memories (memory_kept s.clock_domains.made s.components.objects) h.memories;
    registers = all_each (HasOwnRegister q s.clock_domains.made s.memories) (HasOwnRegister w s.clock_domains.made s.memories) s.machines (register_kept s.clock_domains.made s.components.objects s.memories h.memories) h.registers;
    wrappings = all_each (IsWrapping q) (IsWrapping w) s.wrappings wrapping_kept h.wrappings;
    waits = all_each (IsWait q) (IsWait w) s.simulation.waits wait_kept h.waits;
  }

-- ---- resets that become signals

-- what is a target before domains are resolved stays one: a reset is one, and so is its signal
open_placed : (ds : List Domain) (f : ℕ → Bool) (e : Expr) → open_target_test f (placed_expr ds e) ≡ open_target_test f e
open_placed ds f (expr.Reset name place) = by_signal (reset_of ds name)
  where
    by_signal : (o : Option SigId) → open_target_test f (or_signal (expr.Reset name place) o) ≡ true
    by_signal None = refl
    by_signal (Some s) = refl
open_placed ds f (expr.Const n s) = refl
open_placed ds f (expr.Sig s) = refl
open_placed ds f (expr.Unary op a) = refl
open_placed ds f (expr.Binary op a b) = refl
open_placed ds f (expr.Mux s a b) = refl
open_placed ds f (expr.Slice a low width) = refl
open_placed ds f (expr.Cat es) = refl
open_placed ds f (expr.Part a offset width stride) = refl
open_placed ds f (expr.Pick index es) = refl
open_placed ds f (expr.Cast a signed) = refl
open_placed ds f (expr.Matches a patterns) = refl

open_chosen : (ds : List Domain) (f : ℕ → Bool) (e : Expr) (b : Bool) → open_target_test f (cond b (placed_expr ds e) e) ≡ open_target_test f e
open_chosen ds f e true = open_placed ds f e
open_chosen ds f e false = refl

targets_placed : (ds : List Domain) (passes : ℕ → Bool) (n : ℕ) (known : List Bool) (es : List Expr) → answers false open_target_test known (placed_from ds passes n es) ≡ answers false open_target_test known es
targets_placed ds passes n known [] = refl
targets_placed ds passes n known (e ∷ es) =
    targets_placed ds passes (suc n) (known ++ open_target_test (λ k. slice_index_or known k false) (cond (passes n) (placed_expr ds e) e) ∷ []) es
    ∙ ap (λ (b : Bool). answers false open_target_test (known ++ b ∷ []) es) (open_chosen ds (λ k. slice_index_or known k false) e (passes n))

open_stays : (ds : List Domain) (q : Pooled) (roots : List ExprId) (k : ℕ) → is_open_target (placed_pool ds q roots) k ≡ is_open_target q k
unfolding is_open_target placed_pool
open_stays ds q roots k = ap (λ (bs : List Bool). get_or bs k false) (targets_placed ds (is_within q roots) 0 [] q.exprs)

either_signal : (ds : List Domain) (s : SigId) (b : Bool) → cond b (placed_expr ds (expr.Sig s)) (expr.Sig s) ≡ expr.Sig s
either_signal ds s true = refl
either_signal ds s false = refl

signal_stays : (ds : List Domain) (q : Pooled) (roots : List ExprId) (k : ℕ) (s : SigId) → slice_get q.exprs k ≡ Some (expr.Sig s) → slice_get (placed_pool ds q roots).exprs k ≡ Some (expr.Sig s)
unfolding placed_pool
signal_stays ds q roots k s at = placed_at ds (is_within q roots) 0 q.exprs k (expr.Sig s) at ∙ ap (λ e. Some e) (either_signal ds s (is_within q roots (0 + k)))

open_made : (q : Pooled) (names : List (List ℕ)) (k : ℕ) → is_open_target (with_domains q names) k ≡ is_open_target q k
unfolding is_open_target
open_made q names k = refl

whole_keeps : (p : Pooled) (root : Fragment) → IsKeeping p (whole_pool p root)
whole_keeps p root =
    let ds = made_domains p root in
    let roots = fragment_exprs root in
    record {
      more = flat_map domain_signals (made_names p root);
      signals = placed_signals ds (made_pool p root) roots;
      count = placed_count ds (made_pool p root) roots;
      kept = λ k s at. signal_stays ds (made_pool p root) roots k s at;
      targets = λ k. open_stays ds (made_pool p root) roots k ∙ open_made p (made_names p root) k;
    }

whole_names : (p : Pooled) (root : Fragment) → IsTree p root → AllByRecursion (λ (x : Sig). IsName x.name) p.signals → AllByRecursion (λ (x : Sig). IsName x.name) (whole_pool p root).signals
whole_names p root tree names =
    subst (AllByRecursion (λ (x : Sig). IsName x.name)) (sym (placed_signals (made_domains p root) (made_pool p root) (fragment_exprs root)))
    (all_and (λ (x : Sig). IsName x.name) p.signals (flat_map domain_signals (made_names p root)) names
    (domain_signal_names (made_names p root) (all_filtered IsName (λ n. not (is_some (defined_domain (all_definitions root) n))) (domain_names p root) (tree_named p root tree))))

-- ---- none of them is the register of a machine

-- no domain has the signal
abbrev IsFreeOf : ℕ → Domain → Type 0
IsFreeOf t d = is_among (domain_numbers d) t ≡ false

reset_other : (ds : List Domain) (name : List ℕ) (t : ℕ) (s : SigId) → AllByRecursion (IsFreeOf t) ds → reset_of ds name ≡ Some s → (s.0 == t) ≡ false
reset_other [] name t s h is = absurd cc
reset_other (d ∷ ds) name t s h is = split (reset_other ds name t s h.1) (text_eq d.name name) is
  where
    own : (o : Option SigId) → is_among (d.clk.0 ∷ option_map_or (λ (x : SigId). x.0 ∷ []) o []) t ≡ false → o ≡ Some s → (s.0 == t) ≡ false
    own None free e = absurd cc
    own (Some x) free e =
        let same : x ≡ s = cc in
        subst (λ (y : SigId). (y.0 == t) ≡ false) same (or_none (x.0 == t) false (or_none (d.clk.0 == t) ((x.0 == t) || false) free).1).0

    split : (reset_of ds name ≡ Some s → (s.0 == t) ≡ false) → (b : Bool) → option_and_then (λ (x : Domain). x.rst) (cond b (Some d) (find (λ (x : Domain). text_eq x.name name) ds)) ≡ Some s → (s.0 == t) ≡ false
    split rest true e = own d.rst h.0 e
    split rest false e = rest e

placed_other : (ds : List Domain) (t : ℕ) (e : Expr) → AllByRecursion (IsFreeOf t) ds → is_signal t e ≡ false → is_signal t (placed_expr ds e) ≡ false
placed_other ds t (expr.Reset name place) free h = by_signal (reset_of ds name) refl
  where
    by_signal : (o : Option SigId) → reset_of ds name ≡ o → is_signal t (or_signal (expr.Reset name place) o) ≡ false
    by_signal None is = refl
    by_signal (Some s) is = reset_other ds name t s free is
placed_other ds t (expr.Const n s) free h = h
placed_other ds t (expr.Sig s) free h = h
placed_other ds t (expr.Unary op a) free h = h
placed_other ds t (expr.Binary op a b) free h = h
placed_other ds t (expr.Mux s a b) free h = h
placed_other ds t (expr.Slice a low width) free h = h
placed_other ds t (expr.Cat es) free h = h
placed_other ds t (expr.Part a offset width stride) free h = h
placed_other ds t (expr.Pick index es) free h = h
placed_other ds t (expr.Cast a signed) free h = h
placed_other ds t (expr.Matches a patterns) free h = h

chosen_other : (ds : List Domain) (t : ℕ) (e : Expr) (b : Bool) → AllByRecursion (IsFreeOf t) ds → is_signal t e ≡ false → is_signal t (cond b (placed_expr ds e) e) ≡ false
chosen_other ds t e true free h = placed_other ds t e free h
chosen_other ds t e false free h = h

front_placed : (ds : List Domain) (passes : ℕ → Bool) (t n : ℕ) (P : ℕ → Type 0) (es : List Expr) → AllByRecursion (IsFreeOf t) ds → ((k : ℕ) (e : Expr) → P k → slice_get es k ≡ Some e → is_signal t e ≡ false)
    → (k : ℕ) (e : Expr) → P k → slice_get (placed_from ds passes n es) k ≡ Some e → is_signal t e ≡ false
front_placed ds passes t n P [] free h k e p at = absurd cc
front_placed ds passes t n P (x ∷ es) free h zero e p at =
    let same : cond (passes n) (placed_expr ds x) x ≡ e = cc in
    subst (λ y. is_signal t y ≡ false) same (chosen_other ds t x (passes n) free (h zero x p refl))
front_placed ds passes t n P (x ∷ es) free h (suc k) e p at = front_placed ds passes t (suc n) (λ j. P (suc j)) es free (λ j y low is. h (suc j) y low is) k e p at

-- defined domains are clock domains that were made, and the signals of those that are made are new
domains_free : (p : Pooled) (made : List ClockDomain) (root : Fragment) (t : ℕ) → IsTree p root → AllByRecursion (IsFrom made) (all_definitions root) → AllByRecursion (HasNoClock t) made → t < length p.signals → AllByRecursion (IsFreeOf t) (made_domains p root)
domains_free p made root t tree from free low =
    let n = length p.signals in
    let names = domain_names p root in
    domains_all (IsFreeOf t) IsName (all_definitions root) n (n + 2 * length (undefined_names (all_definitions root) names)) names
    (all_each (IsFrom made) (λ (d : DomainDef). IsFreeOf t d.domain) (all_definitions root) (λ d h. ap (λ ns. is_among ns t) (from_numbers made d h) ∙ made_at (HasNoClock t) made h.number h.x free h.at) from)
    (λ k name past high is. not_among (k ∷ suc k ∷ []) t (omega (arith, low, past), (omega (arith, low, past), tt)))
    (tree_named p root tree) (omega arith)

front_whole : (p : Pooled) (made : List ClockDomain) (root : Fragment) (memories : List OwnMemory) (x : OwnMachine) → IsTree p root → AllByRecursion (IsFrom made) (all_definitions root) → IsMachine p x → HasOwnRegister p made memories x → x.machine.signal.0 < length p.signals → IsFront (whole_pool p root) x.machine
unfolding placed_pool
front_whole p made root memories x tree from h own low k e before at =
    front_placed (made_domains p root) (is_within (made_pool p root) (fragment_exprs root)) x.machine.signal.0 0 (λ j. j < x.machine.register.0) p.exprs
    (domains_free p made root x.machine.signal.0 tree from own.clocks low) h.front k e before at

-- ---- what was resolved

-- over the pool behind wrappers, the register is a signal that was there before them
record IsRegistered (q p : Pooled) (s : Stored) (x : OwnMachine) : Type 0 where
  machine : IsMachine p x
  own : HasOwnRegister p s.clock_domains.made s.memories x
  there : x.machine.signal.0 < length q.signals

registered : (q p : Pooled) (s : Stored) → IsPool q → AllByRecursion (IsMachine q) s.machines → AllByRecursion (IsMachine p) s.machines → AllByRecursion (HasOwnRegister p s.clock_domains.made s.memories) s.machines → AllByRecursion (IsRegistered q p s) s.machines
registered q p s rules first machines owns =
    let Both : OwnMachine → Type 0 = λ x. IsMachine p x × HasOwnRegister p s.clock_domains.made s.memories x in
    all_both (IsMachine q) Both (IsRegistered q p s) s.machines (λ x m r. record { machine = r.0; own = r.1; there = signal_there q.signals [] q.exprs x.machine.register.0 x.machine.signal rules.exprs m.register }) first
    (all_both (IsMachine p) (HasOwnRegister p s.clock_domains.made s.memories) Both s.machines (λ x m r. (m, r)) machines owns)

pub resolved_sound : (q p : Pooled) (s : Stored) (bs : List Built) (root : Fragment) (top : TopPorts) (c : Circuit) → IsSound (held_of_modules q s bs) → IsPool q → s.modules ≡ [] → IsMore q p → StandsFor (record s { modules = bs }) p root → resolved p root top ≡ Ok c
    → IsSound (record { pool = c.pool; store = s })
resolved_sound q p s bs root top c h rules none more stands is =
    let t : IsSound (held_of_modules p s bs) = pool_grown (held_of_modules q s bs) p [] more.more h (more.signals ∙ sym (append-nil q.signals)) more.exprs tt in
    let made = s.clock_domains.made in
    let fronts =
    all_each (IsRegistered q p s) (λ (x : OwnMachine). IsFront (whole_pool p root) x.machine) s.machines
    (λ x r. front_whole p made root s.memories x stands.tree stands.definitions r.machine r.own (omega (arith, r.there, ap length more.signals)))
    (registered q p s rules h.machines t.machines t.registers) in
    let sound = kept_sound p (whole_pool p root) (whole_keeps p root) s bs t none (whole_names p root stands.tree t.names) fronts in
    subst (λ (r : Pooled). IsSound (record { pool = r; store = s })) (ap (λ (d : Circuit). d.pool) (resolved_whole p root top c is).whole) sound
