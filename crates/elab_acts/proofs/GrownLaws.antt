-- What is held stays sound when it grows.
use Rattle.std.proofs.Common.{◌≡◌, ℕ, zero, suc, ◌<◌, ◌≤◌, ap, ◌∙◌, sym, subst, true, List, [], ◌∷◌, ◌++◌, length, Option, Some, None, arith}
use Rattle.std.specs.Prelude.{slice_get, slice_set, IsTrue}
use Rattle.std.specs.List.{AllByRecursion, list_all}
use Rattle.std.proofs.lemmas.List.Elements.{All-append}
use Rattle.std.proofs.lemmas.List.Sums.{AllPass-from_list_all}
use Rattle.std.proofs.lemmas.List.{length-append}
use Rattle.lists.specs.Names.{IsName, continues_name}
use Rattle.design_ir.specs.declared.signal.Sig.{Sig}
use Rattle.design_ir.specs.declared.ids.ExprId.{ExprId}
use Rattle.design_ir.specs.declared.expr.Expr.{Expr}
use Rattle.design_ir.specs.Pools.{Pooled}
use Rattle.module_dsl.specs.declared.step.Step.{Step}
use Rattle.module_dsl.specs.declared.step.Step.TheVariants.{Assign, Enter, Leave}
use Rattle.module_dsl.specs.declared.step.Opening.{Opening}
use Rattle.module_dsl.specs.declared.step.Opening.TheVariants as opening
use Rattle.module_dsl.specs.Builders.{Built}
use Rattle.elab_store.specs.declared.kept.Begin.{Begin}
use Rattle.elab_store.specs.declared.kept.Begin.TheVariants as begin
use Rattle.amh_things.specs.declared.thing.Thing.{Thing}
use Rattle.amh_things.specs.declared.thing.Thing.TheVariants as thing
use Rattle.amh_things.specs.declared.thing.Reading.{Reading}
use Rattle.amh_things.specs.declared.thing.Reading.TheVariants as reading
use Rattle.amh_things.specs.Things.{read_as}
use Rattle.amh_things.specs.Held.{IsHeld, AreHeld}
use Rattle.elab_store.specs.declared.kept.Kept.{Kept}
use Rattle.elab_store.specs.declared.kept.Kept.TheVariants as kept_as
use Rattle.elab_store.specs.declared.kept.Top.{Top}
use Rattle.elab_store.specs.Stores.{Held, kept_given}
use Rattle.elab_store.specs.declared.faces.End.{End}
use Rattle.elab_store.specs.Leaves.{Signatures}
use Rattle.elab_store.specs.Components.{Components}
use Rattle.elab_store.specs.Sound.{IsEnd, AreComponents, IsAssigned, IsBegin, IsKept, IsOpening, IsTold, IsBuilt, IsMachine, IsEnableThere, IsMemoryPort, IsOwnMemory, HasOwnRegister, IsWrapping, IsSample, IsTickEnd, IsWait, IsSound}
use Rattle.elab_store.specs.declared.own_machine.OwnMachine.{OwnMachine}
use Rattle.elab_store.specs.declared.kept.MemoryPort.{MemoryPort}
use Rattle.elab_store.specs.declared.wrappings.Wrapping.{Wrapping}
use Rattle.elab_store.specs.declared.wrappings.Wrapping.TheVariants as wrapping
use Rattle.elab_store.specs.declared.simulation.Sample.{Sample}
use Rattle.elab_store.specs.declared.simulation.Sample.TheVariants as sample
use Rattle.elab_store.specs.declared.simulation.TickEnd.{TickEnd}
use Rattle.elab_store.specs.declared.simulation.TickEnd.TheVariants as end
use Rattle.elab_store.specs.declared.simulation.Wait.{Wait}
use Rattle.elab_store.specs.declared.simulation.Wait.TheVariants as wait
use Rattle.domain_transforms.specs.declared.controls.Control.{Control}
use Rattle.domain_transforms.specs.Placed.{AreControls}
use Rattle.memory_ports.specs.Ports as ports
use Rattle.elab_store.proofs.Pools.{IsGrown, target_stays, open_target_stays, there_stays}
use Rattle.elab_store.proofs.MemoryLaws.{memory_stays, register_stays}
use Rattle.elab_acts.proofs.EachLaws.{all_each}
use Rattle.elab_acts.proofs.DomainLaws.{bit_stays, domains_stay}
use Rattle.elab_acts.proofs.PortLaws.{objects_stay}

-- ---- lists

pub all_and : {A : Type 0} (P : A → Type 0) (xs ys : List A) → AllByRecursion P xs → AllByRecursion P ys → AllByRecursion P (xs ++ ys)
all_and P [] ys h g = g
all_and P (x ∷ xs) ys h g = (h.0, all_and P xs ys h.1 g)

-- ---- under a pool that grows

assigned_stays : (p q : Pooled) (t v : ExprId) → IsGrown p q → IsAssigned p t v → IsAssigned q t v
assigned_stays p q t v g h = record {
  target_there = there_stays p q t.0 g h.target_there;
  value_there = there_stays p q v.0 g h.value_there;
  is_target = open_target_stays p q t.0 g h.target_there ∙ h.is_target;
}

begin_stays : (p q : Pooled) → IsGrown p q → (b : Begin) → IsBegin p b → IsBegin q b
begin_stays p q g (begin.If e) h = there_stays p q e.0 g h
begin_stays p q g (begin.Elif e) h = there_stays p q e.0 g h
begin_stays p q g begin.Else h = tt
begin_stays p q g (begin.Switch e) h = there_stays p q e.0 g h
begin_stays p q g (begin.Case n) h = tt
begin_stays p q g begin.Default h = tt
begin_stays p q g begin.Misplaced h = tt

enable_there_stays : (p q : Pooled) (e : Option ExprId) → IsGrown p q → IsEnableThere p e → IsEnableThere q e
enable_there_stays p q None g h = tt
enable_there_stays p q (Some e) g h = there_stays p q e.0 g h

memory_port_stays : (p q : Pooled) (x : MemoryPort) → IsGrown p q → IsMemoryPort p x → IsMemoryPort q x
memory_port_stays p q x g h = record { addr = there_stays p q x.addr.0 g h.addr; word = there_stays p q x.word.0 g h.word; enable = enable_there_stays p q x.enable g h.enable }

-- what is kept of a held store keeps to it
abbrev pub IsKeptIn : Held → Kept → Type 0
IsKeptIn h k = IsKept h.pool h.store.components.signatures h.store.components.ends k

pub kept_stays : (p q : Pooled) (sigs : Signatures) (ends : List End) → IsGrown p q → (k : Kept) → IsKept p sigs ends k → IsKept q sigs ends k
kept_stays p q sigs ends g (kept_as.Statement x) h = assigned_stays p q x.target x.value g h
kept_stays p q sigs ends g (kept_as.Name n) h = tt
kept_stays p q sigs ends g (kept_as.Module m) h = tt
kept_stays p q sigs ends g (kept_as.Domains m) h = tt
kept_stays p q sigs ends g (kept_as.Domain m d) h = tt
kept_stays p q sigs ends g (kept_as.Submodules m) h = tt
kept_stays p q sigs ends g (kept_as.Definitions m) h = tt
kept_stays p q sigs ends g (kept_as.ClockDomain k) h = tt
kept_stays p q sigs ends g (kept_as.Memory k) h = tt
kept_stays p q sigs ends g (kept_as.OfMemory k y) h = tt
kept_stays p q sigs ends g (kept_as.MemoryPort x) h = memory_port_stays p q x g h
kept_stays p q sigs ends g (kept_as.Wrapping k) h = tt
kept_stays p q sigs ends g (kept_as.Wrapped k) h = tt
kept_stays p q sigs ends g (kept_as.Port is_out shape init) h = tt
kept_stays p q sigs ends g (kept_as.Nested is_out m) h = tt
kept_stays p q sigs ends g (kept_as.Signature n) h = tt
kept_stays p q sigs ends g (kept_as.OfSignature n y) h = tt
kept_stays p q sigs ends g (kept_as.Interface f) h = h
kept_stays p q sigs ends g (kept_as.BlockName m n) h = tt
kept_stays p q sigs ends g (kept_as.Block m b) h = begin_stays p q g b h
kept_stays p q sigs ends g (kept_as.OfMachine x) h = tt
kept_stays p q sigs ends g (kept_as.OfSimulator x) h = tt
kept_stays p q sigs ends g (kept_as.OfBench x) h = tt

opening_stays : (p q : Pooled) → IsGrown p q → (o : Opening) → IsOpening p o → IsOpening q o
opening_stays p q g (opening.If e) h = there_stays p q e.0 g h
opening_stays p q g (opening.Elif e) h = there_stays p q e.0 g h
opening_stays p q g (opening.Else e) h = there_stays p q e.0 g h
opening_stays p q g (opening.Switch e) h = there_stays p q e.0 g h
opening_stays p q g (opening.Case e) h = there_stays p q e.0 g h

told_stays : (p q : Pooled) → IsGrown p q → (x : Step) → IsTold p x → IsTold q x
told_stays p q g (Assign side target value place) h = (h.0, assigned_stays p q target value g h.1)
told_stays p q g (Enter o) h = opening_stays p q g o h
told_stays p q g Leave h = tt

pub built_stays : (p q : Pooled) → IsGrown p q → (b : Built) → IsBuilt p b → IsBuilt q b
built_stays p q g b h = record { steps = all_each (IsTold p) (IsTold q) b.steps (told_stays p q g) h.steps }

held_stays : (m n : ℕ) → m ≤ n → (t : Thing) → IsHeld m t → IsHeld n t
held_stays m n le (thing.Value e) h = omega (arith, h, le)
held_stays m n le (thing.Method x e y) h = omega (arith, h, le)
held_stays m n le (thing.Numbered x e) h = omega (arith, h, le)
held_stays m n le (thing.View x e) h = omega (arith, h, le)
held_stays m n le (thing.Layout x) h = tt
held_stays m n le (thing.Enumeration x) h = tt
held_stays m n le (thing.Member x) h = h
held_stays m n le (thing.Name x) h = tt
held_stays m n le (thing.Shape x) h = tt
held_stays m n le (thing.Array x) h = tt
held_stays m n le (thing.Kept x) h = tt

grown_length : (p q : Pooled) → IsGrown p q → length p.exprs ≤ length q.exprs
grown_length p q g = omega (arith, ap length g.exprs, length-append p.exprs g.more)

get_stays : (es more : List Expr) (k : ℕ) (e : Expr) → slice_get es k ≡ Some e → slice_get (es ++ more) k ≡ Some e
get_stays [] more k e h = absurd cc
get_stays (x ∷ es) more zero e h = h
get_stays (x ∷ es) more (suc k) e h = get_stays es more k e h

get_front : (es more : List Expr) (k : ℕ) (e : Expr) → k < length es → slice_get (es ++ more) k ≡ Some e → slice_get es k ≡ Some e
get_front [] more k e lt h = absurd (omega (arith, lt))
get_front (x ∷ es) more zero e lt h = h
get_front (x ∷ es) more (suc k) e lt h = get_front es more k e (omega (arith, lt)) h

placed_below : (es : List Expr) (k : ℕ) (e : Expr) → slice_get es k ≡ Some e → k < length es
placed_below [] k e h = absurd cc
placed_below (x ∷ es) zero e h = omega arith
placed_below (x ∷ es) (suc k) e h = omega (arith, placed_below es k e h)

pub machine_stays : (p q : Pooled) → IsGrown p q → (x : OwnMachine) → IsMachine p x → IsMachine q x
machine_stays p q g x h = record {
  register = ap (λ es. slice_get es x.machine.register.0) g.exprs ∙ get_stays p.exprs g.more x.machine.register.0 _ h.register;
  target = target_stays p q x.machine.register.0 g (placed_below p.exprs x.machine.register.0 _ h.register) ∙ h.target;
  side = h.side;
  front = λ k e lt at. h.front k e lt (get_front p.exprs g.more k e (let there = placed_below p.exprs x.machine.register.0 _ h.register in omega (arith, lt, there)) (subst (λ es. slice_get es k ≡ Some e) g.exprs at));
}

end_stays : (p q : Pooled) → IsGrown p q → length p.signals ≤ length q.signals → (e : End) → IsEnd p e → IsEnd q e
end_stays p q g le e h = record {
  there = omega (arith, le, h.there);
  expr_there = there_stays p q e.expr.0 g h.expr_there;
  signal = ap (λ es. slice_get es e.expr.0) g.exprs ∙ get_stays p.exprs g.more e.expr.0 _ h.signal;
  target = target_stays p q e.expr.0 g h.expr_there ∙ h.target;
}

-- what is kept of components
pub components_stay : (p q : Pooled) (cs : Components) → IsGrown p q → length p.signals ≤ length q.signals → AreComponents p cs → AreComponents q cs
components_stay p q cs g le are = record {
  names = are.names;
  ends = all_each (IsEnd p) (IsEnd q) cs.ends (end_stays p q g le) are.ends;
  objects = objects_stay p q cs.signatures cs.ends cs.objects le are.objects;
}

controls_stay : (m n : ℕ) → m ≤ n → (cs : List Control) → AreControls m cs → AreControls n cs
controls_stay m n le [] h = tt
controls_stay m n le (c ∷ cs) h = (omega (arith, h.0, le), controls_stay m n le cs h.1)

pub wrapping_stays : (p q : Pooled) → IsGrown p q → (w : Wrapping) → IsWrapping p w → IsWrapping q w
wrapping_stays p q g (wrapping.Rename names) h = h
wrapping_stays p q g (wrapping.Reset controls) h = controls_stay (length p.exprs) (length q.exprs) (grown_length p q g) controls h
wrapping_stays p q g (wrapping.Enable controls) h = controls_stay (length p.exprs) (length q.exprs) (grown_length p q g) controls h

sample_stays : (p q : Pooled) → IsGrown p q → (x : Sample) → IsSample p x → IsSample q x
sample_stays p q g (sample.Value e reading) h = there_stays p q e.0 g h
sample_stays p q g (sample.Number n) h = tt

tick_end_stays : (p q : Pooled) → IsGrown p q → (x : TickEnd) → IsTickEnd p x → IsTickEnd q x
tick_end_stays p q g end.Once h = tt
tick_end_stays p q g (end.Times n) h = tt
tick_end_stays p q g (end.Until x) h = sample_stays p q g x h

pub wait_stays : (p q : Pooled) → IsGrown p q → (w : Wait) → IsWait p w → IsWait q w
wait_stays p q g (wait.Tick t) h = (all_each (IsSample p) (IsSample q) t.samples (sample_stays p q g) h.0, tick_end_stays p q g t.end h.1)
wait_stays p q g (wait.Delay n) h = tt

-- what was held stands under a pool that grew by such signals and such expressions
pub pool_grown : (h : Held) (q : Pooled) (xs : List Sig) (es : List Expr) → IsSound h → q.signals ≡ h.pool.signals ++ xs → q.exprs ≡ h.pool.exprs ++ es
    → AllByRecursion (λ (x : Sig). IsName x.name) xs → IsSound (record h { pool = q })
pool_grown h q xs es s e1 e2 names =
    let g : IsGrown h.pool q = record { more = es; exprs = e2 } in
    let made = h.store.clock_domains.made in
    let objects = h.store.components.objects in
    let both : ports.IsGrown h.pool q = record { more_signals = xs; more_exprs = es; signals = e1; exprs = e2 } in record {
      names = subst (AllByRecursion (λ (x : Sig). IsName x.name)) (sym e1) (all_and (λ (x : Sig). IsName x.name) h.pool.signals xs s.names names);
      things = all_each (IsHeld (length h.pool.exprs)) (IsHeld (length q.exprs)) h.store.things (held_stays (length h.pool.exprs) (length q.exprs) (grown_length h.pool q g)) s.things;
      kept = all_each (IsKeptIn h) (IsKept q h.store.components.signatures h.store.components.ends) h.store.kept (kept_stays h.pool q h.store.components.signatures h.store.components.ends g) s.kept;
      modules = all_each (IsBuilt h.pool) (IsBuilt q) h.store.modules (built_stays h.pool q g) s.modules;
      components = components_stay h.pool q h.store.components g (omega (arith, ap length e1, length-append h.pool.signals xs)) s.components;
      machines = all_each (IsMachine h.pool) (IsMachine q) h.store.machines (machine_stays h.pool q g) s.machines;
      domains = s.domains;
      additions = s.additions;
      clock_domains = domains_stay h.pool q h.store.clock_domains.made (bit_stays h.pool q xs e1) s.clock_domains;
      memories = all_each (IsOwnMemory h.pool made objects) (IsOwnMemory q made objects) h.store.memories (memory_stays h.pool q made objects both) s.memories;
      registers = all_each (HasOwnRegister h.pool made h.store.memories) (HasOwnRegister q made h.store.memories) h.store.machines (register_stays h.pool q made objects h.store.memories both s.memories) s.registers;
      wrappings = all_each (IsWrapping h.pool) (IsWrapping q) h.store.wrappings (wrapping_stays h.pool q g) s.wrappings;
      waits = all_each (IsWait h.pool) (IsWait q) h.store.simulation.waits (wait_stays h.pool q g) s.waits;
    }

-- things that are sound are put behind the others
pub things_grown : (h : Held) (ts : List Thing) → IsSound h → AreHeld (length h.pool.exprs) ts → IsSound (record h { store = record h.store { things = h.store.things ++ ts } })
things_grown h ts s held = record {
  names = s.names;
  kept = s.kept;
  modules = s.modules;
  components = s.components;
  machines = s.machines;
  domains = s.domains;
  additions = s.additions;
  clock_domains = s.clock_domains;
  memories = s.memories;
  registers = s.registers;
  wrappings = s.wrappings;
  waits = s.waits;
  things = all_and (IsHeld (length h.pool.exprs)) h.store.things ts s.things held;
}

-- what stands for an expression by a reading
pub read_held : (n : ℕ) (r : Reading) (e : ExprId) → e.0 < n → IsHeld n (read_as r e)
read_held n reading.Plain e h = h
read_held n (reading.Numbered o) e h = h
read_held n (reading.Viewed o) e h = h

pub kept_grown : (h : Held) (k : Kept) → IsSound h → IsKeptIn h k → IsSound (record h { store = record h.store { kept = h.store.kept ++ k ∷ [] } })
kept_grown h k s held = record {
  names = s.names;
  things = s.things;
  modules = s.modules;
  components = s.components;
  machines = s.machines;
  domains = s.domains;
  additions = s.additions;
  clock_domains = s.clock_domains;
  memories = s.memories;
  registers = s.registers;
  wrappings = s.wrappings;
  waits = s.waits;
  kept = all_and (IsKeptIn h) h.store.kept (k ∷ []) s.kept (held, tt);
}

-- ---- statements that a module gets

-- a module that was told one thing more
pub told_module : (q : Pooled) (m : ℕ) (c : Built) (bs : List Built) → IsBuilt q c → AllByRecursion (IsBuilt q) bs → AllByRecursion (IsBuilt q) (slice_set bs m c)
told_module q m c [] h g = tt
told_module q zero c (b ∷ bs) h g = (h, g.1)
told_module q (suc m) c (b ∷ bs) h g = (g.0, told_module q m c bs h g.1)

pub module_built : (q : Pooled) (bs : List Built) (m : ℕ) (b : Built) → AllByRecursion (IsBuilt q) bs → slice_get bs m ≡ Some b → IsBuilt q b
module_built q [] m b h e = cc
module_built q (x ∷ bs) zero b h e = let same : x ≡ b = cc in subst (IsBuilt q) same h.0
module_built q (x ∷ bs) (suc m) b h e = module_built q bs m b h.1 e

pub with_top_sound : (h : Held) (t : Top) → IsSound h → IsSound (record h { store = record h.store { top = t } })
with_top_sound h t s = record { names = s.names; things = s.things; kept = s.kept; modules = s.modules; components = s.components; machines = s.machines; domains = s.domains; additions = s.additions; clock_domains = s.clock_domains; memories = s.memories; registers = s.registers; wrappings = s.wrappings; waits = s.waits }

-- ---- a new thing of this crate

pub keeping_sound : (h : Held) (k : Kept) → IsSound h → IsKeptIn h k → IsSound (kept_given k h).held
keeping_sound h k s held = record {
  names = s.names;
  modules = s.modules;
  components = s.components;
  machines = s.machines;
  domains = s.domains;
  additions = s.additions;
  clock_domains = s.clock_domains;
  memories = s.memories;
  registers = s.registers;
  wrappings = s.wrappings;
  waits = s.waits;
  things = all_and (IsHeld (length h.pool.exprs)) h.store.things (thing.Kept (length h.store.kept) ∷ []) s.things (tt, tt);
  kept = all_and (IsKeptIn h) h.store.kept (k ∷ []) s.kept (held, tt);
}

-- ---- names

-- a name with more letters behind it
pub name_more : (name more : List ℕ) → IsName name → list_all continues_name more ≡ true → IsName (name ++ more)
name_more name more n h = record {
  first = n.first;
  rest = n.rest ++ more;
  whole = ap (λ xs. xs ++ more) n.whole;
  starts = n.starts;
  continues = All-append (λ b. IsTrue (continues_name b)) n.rest more n.continues (AllPass-from_list_all continues_name more h);
}
