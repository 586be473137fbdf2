-- What is held keeps to: whatever is named stands there.
use Rattle.std.specs.Prelude.{◌≡◌, ℕ, ◌<◌, ⊤, List, [], ◌∷◌, map, length, slice_get, Option, Some, None, IfSome, true, false}
use Rattle.std.specs.Option.{option_map_or}
use Rattle.std.specs.List.{AllByRecursion}
use Rattle.lists.specs.Names.{IsName}
use Rattle.design_ir.specs.declared.signal.Sig.{Sig}
use Rattle.design_ir.specs.declared.ids.ExprId.{ExprId}
use Rattle.design_ir.specs.declared.ids.SigId.{SigId}
use Rattle.design_ir.specs.declared.domain.Domain.{Domain}
use Rattle.shape_rules.specs.Forms.{unsigned}
use Rattle.design_ir.specs.Values.{signal_form}
use Rattle.design_ir.specs.declared.expr.Expr.{Expr}
use Rattle.design_ir.specs.declared.expr.Expr.TheVariants as expr
use Rattle.design_ir.specs.Pools.{Pooled}
use Rattle.design_ir.specs.Targets.{is_target, is_open_target}
use Rattle.module_dsl.specs.declared.step.Opening.{Opening}
use Rattle.module_dsl.specs.declared.step.Opening.TheVariants as opening
use Rattle.module_dsl.specs.declared.step.Step.{Step}
use Rattle.module_dsl.specs.declared.step.Step.TheVariants.{Assign, Enter, Leave}
use Rattle.module_dsl.specs.Builders.{Built}
use Rattle.elab_store.specs.declared.kept.Begin.{Begin}
use Rattle.elab_store.specs.declared.kept.Begin.TheVariants as begin
use Rattle.design_ir.specs.declared.port.Port.{Port}
use Rattle.design_ir.specs.declared.memory.MemWrite.{MemWrite}
use Rattle.design_ir.specs.declared.memory.MemRead.{MemRead}
use Rattle.design_ir.specs.Circuits.{is_among}
use Rattle.clock_domains.specs.Resolvable.{IsNamedSide, ArePorts, domain_numbers}
use Rattle.memory_ports.specs.Memories.{IsSpec, HasPorts}
use Rattle.memory_ports.specs.Laws.{IsApart}
use Rattle.amh_things.specs.Held.{AreHeld}
use Rattle.elab_store.specs.declared.kept.Equation.{Equation}
use Rattle.elab_store.specs.declared.kept.Kept.{Kept}
use Rattle.elab_store.specs.declared.kept.MemoryPort.{MemoryPort}
use Rattle.elab_store.specs.declared.memories.OwnMemory.{OwnMemory}
use Rattle.elab_store.specs.declared.wrappings.Wrapping.{Wrapping}
use Rattle.elab_store.specs.declared.wrappings.Wrapping.TheVariants as wrapping
use Rattle.domain_transforms.specs.declared.controls.NamePair.{NamePair}
use Rattle.domain_transforms.specs.Placed.{AreControls}
use Rattle.elab_store.specs.declared.kept.Kept.TheVariants as kept
use Rattle.design_ir.specs.Settling.{is_signal}
use Rattle.fsm_lowering.specs.Machines.{Machine, HasRegister}
use Rattle.elab_store.specs.declared.own_machine.OwnMachine.{OwnMachine}
use Rattle.elab_store.specs.declared.hierarchy.Addition.{Addition}
use Rattle.elab_store.specs.declared.domains.ClockDomain.{ClockDomain}
use Rattle.elab_store.specs.declared.faces.End.{End}
use Rattle.elab_store.specs.declared.faces.ComponentObject.{ComponentObject}
use Rattle.elab_store.specs.declared.members.NamedMember.{NamedMember}
use Rattle.elab_store.specs.declared.simulation.Sample.{Sample}
use Rattle.elab_store.specs.declared.simulation.Sample.TheVariants as sample
use Rattle.elab_store.specs.declared.simulation.TickEnd.{TickEnd}
use Rattle.elab_store.specs.declared.simulation.TickEnd.TheVariants as end
use Rattle.elab_store.specs.declared.simulation.Wait.{Wait}
use Rattle.elab_store.specs.declared.simulation.Wait.TheVariants as wait
use Rattle.elab_store.specs.Leaves.{Signatures}
use Rattle.elab_store.specs.Faces.{IsFace}
use Rattle.elab_store.specs.Components.{Components}
use Rattle.elab_store.specs.Stores.{Held}

-- a target, which may stand for resets, and a value of the pool
pub record IsAssigned (q : Pooled) (target value : ExprId) : Type 0 where
  pub target_there : target.0 < length q.exprs
  pub value_there : value.0 < length q.exprs
  pub is_target : is_open_target q target.0 ≡ true

abbrev pub IsEquation : Pooled → Equation → Type 0
IsEquation q x = IsAssigned q x.target x.value

-- the condition or the subject of a block stands in the pool
abbrev pub IsBegin : Pooled → Begin → Type 0
IsBegin q (begin.If e) = e.0 < length q.exprs
IsBegin q (begin.Elif e) = e.0 < length q.exprs
IsBegin q begin.Else = ⊤
IsBegin q (begin.Switch e) = e.0 < length q.exprs
IsBegin q (begin.Case n) = ⊤
IsBegin q begin.Default = ⊤
IsBegin q begin.Misplaced = ⊤

abbrev pub IsEnableThere : Pooled → Option ExprId → Type 0
IsEnableThere q None = ⊤
IsEnableThere q (Some e) = e.0 < length q.exprs

-- the expressions of a port stand in the pool
pub record IsMemoryPort (q : Pooled) (x : MemoryPort) : Type 0 where
  pub addr : x.addr.0 < length q.exprs
  pub word : x.word.0 < length q.exprs
  pub enable : IsEnableThere q x.enable

-- an interface has its ends
abbrev pub IsKept : Pooled → Signatures → List End → Kept → Type 0
IsKept q sigs ends (kept.Statement x) = IsEquation q x
IsKept q sigs ends (kept.Name n) = ⊤
IsKept q sigs ends (kept.Module m) = ⊤
IsKept q sigs ends (kept.Domains m) = ⊤
IsKept q sigs ends (kept.Domain m d) = ⊤
IsKept q sigs ends (kept.Submodules m) = ⊤
IsKept q sigs ends (kept.Definitions m) = ⊤
IsKept q sigs ends (kept.ClockDomain k) = ⊤
IsKept q sigs ends (kept.Memory k) = ⊤
IsKept q sigs ends (kept.OfMemory k m) = ⊤
IsKept q sigs ends (kept.MemoryPort x) = IsMemoryPort q x
IsKept q sigs ends (kept.Wrapping k) = ⊤
IsKept q sigs ends (kept.Wrapped k) = ⊤
IsKept q sigs ends (kept.Port is_out shape init) = ⊤
IsKept q sigs ends (kept.Nested is_out n) = ⊤
IsKept q sigs ends (kept.Signature n) = ⊤
IsKept q sigs ends (kept.OfSignature n m) = ⊤
IsKept q sigs ends (kept.Interface f) = IsFace sigs ends f
IsKept q sigs ends (kept.BlockName m n) = ⊤
IsKept q sigs ends (kept.Block m b) = IsBegin q b
IsKept q sigs ends (kept.OfMachine x) = ⊤
IsKept q sigs ends (kept.OfSimulator x) = ⊤
IsKept q sigs ends (kept.OfBench x) = ⊤

abbrev pub IsOpening : Pooled → Opening → Type 0
IsOpening q (opening.If e) = e.0 < length q.exprs
IsOpening q (opening.Elif e) = e.0 < length q.exprs
IsOpening q (opening.Else e) = e.0 < length q.exprs
IsOpening q (opening.Switch e) = e.0 < length q.exprs
IsOpening q (opening.Case e) = e.0 < length q.exprs

-- what a module was told: statements of named sides, and blocks whose conditions stand in the pool
abbrev pub IsTold : Pooled → Step → Type 0
IsTold q (Assign side target value place) = IsNamedSide side × IsAssigned q target value
IsTold q (Enter o) = IsOpening q o
IsTold q Leave = ⊤

pub record IsBuilt (q : Pooled) (b : Built) : Type 0 where
  pub steps : AllByRecursion (IsTold q) b.steps

-- nothing before its register is the register
abbrev pub IsFront : Pooled → Machine → Type 0
IsFront q x = (k : ℕ) (e : Expr) → k < x.register.0 → slice_get q.exprs k ≡ Some e → is_signal x.signal.0 e ≡ false

-- the pool has the machine's register, which is a target, and its statements are of a named side
pub record IsMachine (q : Pooled) (x : OwnMachine) : Type 0 where
  pub register : HasRegister q x.machine
  pub target : is_target q x.machine.register.0 ≡ true
  pub side : IsNamedSide x.machine.side
  pub front : IsFront q x.machine

-- one bit of the pool
pub record IsBit (q : Pooled) (s : SigId) : Type 0 where
  pub there : s.0 < length q.signals
  pub form : signal_form q.signals s.0 ≡ unsigned 1

-- the reset of a clock domain is made behind its clock
abbrev pub IsResetBehind : Pooled → SigId → Option SigId → Type 0
IsResetBehind q clk None = ⊤
IsResetBehind q clk (Some rst) = IsBit q rst × (clk.0 < rst.0)

pub record IsClockDomain (q : Pooled) (x : ClockDomain) : Type 0 where
  pub name : IsName x.domain.name
  pub clock : IsBit q x.domain.clk
  pub reset : IsResetBehind q x.domain.clk x.domain.rst

-- the last of its signals
abbrev pub last_signal : Domain → ℕ
last_signal d = option_map_or (λ (s : SigId). s.0) d.rst d.clk.0

-- the signals of a clock domain were made before those of another one
abbrev pub IsMadeBefore : ClockDomain → ClockDomain → Type 0
IsMadeBefore x y = last_signal x.domain < y.domain.clk.0

abbrev pub AreInOrder : List ClockDomain → Type 0
AreInOrder [] = ⊤
AreInOrder (x ∷ xs) = AllByRecursion (IsMadeBefore x) xs × AreInOrder xs

pub record AreClockDomains (q : Pooled) (xs : List ClockDomain) : Type 0 where
  pub each : AllByRecursion (IsClockDomain q) xs
  pub order : AreInOrder xs

-- ---- interfaces

-- the expression is the signal, which may be written
pub record IsEnd (q : Pooled) (e : End) : Type 0 where
  pub there : e.sig.0 < length q.signals
  pub expr_there : e.expr.0 < length q.exprs
  pub signal : slice_get q.exprs e.expr.0 ≡ Some (expr.Sig e.sig)
  pub target : is_target q e.expr.0 ≡ true

pub record IsObject (q : Pooled) (sigs : Signatures) (ends : List End) (o : ComponentObject) : Type 0 where
  pub ports : ArePorts q o.ports
  pub face : IsFace sigs ends o.face

pub record AreComponents (q : Pooled) (cs : Components) : Type 0 where
  pub names : AllByRecursion (λ (ms : List NamedMember). AllByRecursion (λ (m : NamedMember). IsName m.name) ms) cs.signatures
  pub ends : AllByRecursion (IsEnd q) cs.ends
  pub objects : AllByRecursion (λ (o : ℕ × ComponentObject). IsObject q cs.signatures cs.ends o.1) cs.objects

-- ---- memories

-- the signals of a clock domain
abbrev pub HasNoClock : ℕ → ClockDomain → Type 0
HasNoClock s x = is_among (domain_numbers x.domain) s ≡ false

-- and those of a component's ports are other ones
abbrev pub HasNoPort : ℕ → ℕ × ComponentObject → Type 0
HasNoPort s o = is_among (map (λ (p : Port). p.sig.0) o.1.ports) s ≡ false

-- nothing outside of the memory gives its data
pub record IsOwnData (made : List ClockDomain) (objects : List (ℕ × ComponentObject)) (r : MemRead) : Type 0 where
  pub clocks : AllByRecursion (HasNoClock r.word.0) made
  pub ports : AllByRecursion (HasNoPort r.word.0) objects

-- the domain of a port has the name of one
abbrev pub IsNamedRead : MemRead → Type 0
IsNamedRead r = IfSome r.domain IsName

-- its ports have their signals in the pool, and no one else gives its data
pub record IsOwnMemory (q : Pooled) (made : List ClockDomain) (objects : List (ℕ × ComponentObject)) (x : OwnMemory) : Type 0 where
  pub spec : IsSpec x.spec
  pub ports : HasPorts q x.spec
  pub write_names : AllByRecursion (λ (w : MemWrite). IsName w.domain) x.spec.writes
  pub read_names : AllByRecursion IsNamedRead x.spec.reads
  pub own_data : AllByRecursion (IsOwnData made objects) x.spec.reads

-- the register of a machine is no signal of a clock domain, and no signal of a memory's port
pub record HasOwnRegister (q : Pooled) (made : List ClockDomain) (memories : List OwnMemory) (m : OwnMachine) : Type 0 where
  pub clocks : AllByRecursion (HasNoClock m.machine.signal.0) made
  pub ports : AllByRecursion (λ (x : OwnMemory). IsApart q m.machine.signal.0 x.spec) memories

-- ---- wrappers

-- new names are names of domains, and controls stand in the pool
abbrev pub IsWrapping : Pooled → Wrapping → Type 0
IsWrapping q (wrapping.Rename names) = AllByRecursion (λ (p : NamePair). IsName p.after) names
IsWrapping q (wrapping.Reset controls) = AreControls (length q.exprs) controls
IsWrapping q (wrapping.Enable controls) = AreControls (length q.exprs) controls

-- ---- waits

-- the expression of a sample is one of the pool
abbrev pub IsSample : Pooled → Sample → Type 0
IsSample q (sample.Value e reading) = e.0 < length q.exprs
IsSample q (sample.Number n) = ⊤

abbrev pub IsTickEnd : Pooled → TickEnd → Type 0
IsTickEnd q end.Once = ⊤
IsTickEnd q (end.Times n) = ⊤
IsTickEnd q (end.Until x) = IsSample q x

-- what is sampled at ticks, and what they are waited for until, are expressions of the pool
abbrev pub IsWait : Pooled → Wait → Type 0
IsWait q (wait.Tick t) = AllByRecursion (IsSample q) t.samples × IsTickEnd q t.end
IsWait q (wait.Delay n) = ⊤

pub record IsSound (h : Held) : Type 0 where
  pub names : AllByRecursion (λ (x : Sig). IsName x.name) h.pool.signals
  pub things : AreHeld (length h.pool.exprs) h.store.things
  pub kept : AllByRecursion (IsKept h.pool h.store.components.signatures h.store.components.ends) h.store.kept
  pub modules : AllByRecursion (IsBuilt h.pool) h.store.modules
  pub machines : AllByRecursion (IsMachine h.pool) h.store.machines
  pub domains : AllByRecursion IsName h.store.domains
  pub additions : AllByRecursion (λ (a : Addition). IsName a.name) h.store.hierarchy.additions
  pub clock_domains : AreClockDomains h.pool h.store.clock_domains.made
  pub components : AreComponents h.pool h.store.components
  pub memories : AllByRecursion (IsOwnMemory h.pool h.store.clock_domains.made h.store.components.objects) h.store.memories
  pub registers : AllByRecursion (HasOwnRegister h.pool h.store.clock_domains.made h.store.memories) h.store.machines
  pub wrappings : AllByRecursion (IsWrapping h.pool) h.store.wrappings
  pub waits : AllByRecursion (IsWait h.pool) h.store.simulation.waits
