-- What is held stays sound by what state machines do.
use Rattle.std.proofs.Common.{◌≡◌, ℕ, zero, suc, ◌<◌, ◌≤◌, refl, ap, ◌∙◌, sym, subst, Bool, true, false, List, [], ◌∷◌, ◌++◌, length, Option, Some, None, Result, Ok, Err, ℤ, arith, append-nil, true≢false}
use Rattle.std.specs.Prelude.{◌==◌, if◌then◌else◌, get_or, pos, slice_get, slice_set, codes, ◌&&◌, ◌||◌, not}
use Rattle.std.specs.List.{AllByRecursion}
use Rattle.std.proofs.lemmas.List.{length-append}
use Rattle.lists.specs.Names.{IsName}
use Rattle.lists.specs.Texts.{text_eq}
use Rattle.amh_host.specs.declared.place.Place.{Place}
use Rattle.shape_rules.specs.Forms.{Form, unsigned}
use Rattle.py_frames.specs.declared.request.Cause.TheVariants.{Raised}
use Rattle.py_values.specs.declared.val.StrId.{StrId}
use Rattle.py_values.specs.declared.val.Val.{Val}
use Rattle.py_heap.specs.Heaps.{Seen, text_at}
use Rattle.design_ir.specs.declared.signal.Sig.{Sig}
use Rattle.design_ir.specs.declared.ids.ExprId.{ExprId}
use Rattle.design_ir.specs.declared.ids.SigId.{SigId}
use Rattle.design_ir.specs.declared.expr.Expr.{Expr}
use Rattle.design_ir.specs.declared.expr.Expr.TheVariants as expr
use Rattle.design_ir.specs.Pools.{Pooled, answers}
use Rattle.design_ir.specs.Values.{signal_form}
use Rattle.design_ir.specs.Targets.{is_target, target_test}
use Rattle.design_ir.proofs.Answers.{answers_append, answers_begin}
use Rattle.design_ir.specs.PoolRules.{IsPool, expr_added, signal_added}
use Rattle.design_ir.specs.Settling as settling
use Rattle.module_dsl.specs.declared.step.Step.TheVariants.{Assign, Enter, Leave}
use Rattle.module_dsl.specs.declared.step.Opening.TheVariants as opening
use Rattle.module_dsl.specs.declared.step.Step.{Step}
use Rattle.module_dsl.specs.Builders.{Built, and_step}
use Rattle.fsm_lowering.specs.declared.refusal.FsmStop.{FsmStop}
use Rattle.fsm_lowering.specs.declared.refusal.FsmStop.TheVariants as stop
use Rattle.fsm_lowering.specs.States.{number_of, range_width}
use Rattle.fsm_lowering.specs.Machines.{Machine, in_state, state_number, no_bits}
use Rattle.fsm_lowering.specs.Calls.{new_refusal, with_register, machine_at, is_begun, state_refusal, with_choice, end_refusal, next_stop, with_next, ongoing_refusal, finish_refusal, and_asked, and_finished, with_end, settled_at, first_number}
use Rattle.amh_things.specs.declared.thing.Thing.TheVariants as thing
use Rattle.elab_store.specs.declared.kept.MachinePart.{MachinePart}
use Rattle.elab_store.specs.declared.kept.MachinePart.TheVariants as part
use Rattle.elab_store.specs.declared.kept.Kept.TheVariants as kept
use Rattle.elab_store.specs.declared.own_machine.OwnMachine.{OwnMachine}
use Rattle.elab_machines.specs.declared.state_machines.MachineArguments.{MachineArguments}
use Rattle.identifiers.specs.Identifiers.{is_identifier}
use Rattle.identifiers.proofs.NameLaws.{identifier_is_name}
use Rattle.elab_store.specs.Calls.{Called}
use Rattle.module_dsl.proofs.OpenTargets.{target_is_open}
use Rattle.elab_store.specs.Stores.{Held, Answered, refused}
use Rattle.elab_acts.specs.Sides.{part_given}
use Rattle.elab_store.specs.OpenMachines.{innermost}
use Rattle.elab_machines.specs.StateMachines.{part_attribute, machine_arguments, machine_said, machine_from, init_said, is_clocked, domain_said, name_said, state_argument, state_said, state_string, stop_told, unless_stopped, chain_ended, modules_begun, with_machine, machine_made, is_placed, machine_begun, register_name, domain_name, init_name, Moved, unless_refused, with_moved, move_answer, own_moved, number_moved, moved, in_place, is_at_choice, is_at_case, state_made, state_begins, state_ends, is_unsettled, machine_ends, next_refused, next_goes, next_said, next_stored, with_asked, asked_of, ongoing_said, part_called, part_entered, part_left}
use Rattle.elab_store.specs.Sound.{IsKept, IsTold, IsBuilt, IsMachine, IsBit, HasNoClock, IsOwnMemory, HasOwnRegister, IsWrapping, IsWait, IsSound}
use Rattle.memory_ports.specs.Laws.{IsApart}
use Rattle.elab_store.specs.declared.memories.OwnMemory.{OwnMemory}
use Rattle.elab_store.specs.declared.domains.ClockDomain.{ClockDomain}
use Rattle.elab_store.proofs.Pools.{IsGrown, signal_there}
use Rattle.elab_store.proofs.MemoryLaws.{register_stays, register_fresh, memories_settled, registers_settled}
use Rattle.std.proofs.lemmas.Bool.Decides.{nat_tests}
use Rattle.elab_acts.proofs.EachLaws.{all_each}
use Rattle.elab_acts.proofs.GrownLaws.{IsKeptIn, components_stay, all_and, pool_grown, things_grown, keeping_sound, built_stays, kept_stays, told_module, module_built, machine_stays, wrapping_stays, wait_stays, name_more}
use Rattle.elab_acts.proofs.PortLaws.{and_split}
use Rattle.elab_acts.proofs.DomainLaws.{domains_stay, settled_bit}
use Rattle.std.proofs.lemmas.Bool.{eqb-true}

if_sound : (b : Bool) (x y : Answered) → IsSound x.held → IsSound y.held → IsSound (if b then x else y).held
if_sound true x y h g = h
if_sound false x y h g = g

-- ---- refusals

told_sound : (p : Place) (h : Held) → IsSound h → IsSound (record h { store = record h.store { told = Some p } })
told_sound p h t = record { names = t.names; things = t.things; kept = t.kept; modules = t.modules; machines = t.machines; domains = t.domains; additions = t.additions; clock_domains = t.clock_domains; memories = t.memories; registers = t.registers; wrappings = t.wrappings; waits = t.waits; components = t.components }

stop_sound : (p : Place) (why : FsmStop) (h : Held) → IsSound h → IsSound (stop_told p why h).held
stop_sound p (stop.UndefinedState at) h t = told_sound at h t
stop_sound p stop.Repeated h t = told_sound p h t
stop_sound p stop.Order h t = t
stop_sound p stop.Limit h t = t
stop_sound p stop.NoMemory h t = t

unless_sound : (o : Option FsmStop) (p : Place) (a : Answered) (h : Held) → IsSound h → IsSound a.held → IsSound (unless_stopped o p a h).held
unless_sound None p a h t s = s
unless_sound (Some why) p a h t s = stop_sound p why h t

-- ---- names and calls

pub part_given_sound : (o : Option MachinePart) (a : Answered) (h : Held) → IsSound h → IsSound a.held → IsSound (part_given o a h).held
part_given_sound None a h t s = s
part_given_sound (Some x) a h t s = keeping_sound h (kept.OfMachine x) t tt

pub part_attribute_sound : (x : MachinePart) (n : List ℕ) (h : Held) → IsSound h → IsSound (part_attribute x n h).held
part_attribute_sound (part.Running k) n h t = if_sound (text_eq n (codes "ongoing")) _ _ (keeping_sound h (kept.OfMachine (part.Ongoing k)) t tt) t
part_attribute_sound (part.Fsm m) n h t = t
part_attribute_sound (part.State m) n h t = t
part_attribute_sound (part.Called m) n h t = t
part_attribute_sound (part.CalledState m) n h t = t
part_attribute_sound (part.Ongoing m) n h t = t

said_sound : (m : ℕ) (init domain : Option (Option StrId)) (name : Option (Option StrId)) (p : Place) (h : Held) → IsSound h → IsSound (machine_said m init domain name p h).held
said_sound m None domain name p h t = t
said_sound m (Some init) None name p h t = t
said_sound m (Some init) (Some domain) None p h t = t
said_sound m (Some init) (Some domain) (Some name) p h t = keeping_sound h (kept.OfMachine (part.Called (record { of = m; init = init; domain = domain; name = name; place = p }))) t tt

from_sound : (s : Seen) (m : ℕ) (o : Option MachineArguments) (p : Place) (h : Held) → IsSound h → IsSound (machine_from s m o p h).held
from_sound s m None p h t = t
from_sound s m (Some args) p h t = said_sound m (init_said args.init) (domain_said s args.domain) (name_said s args.name) p h t

state_said_sound : (m : ℕ) (o : Option StrId) (p : Place) (h : Held) → IsSound h → IsSound (state_said m o p h).held
state_said_sound m None p h t = t
state_said_sound m (Some name) p h t = keeping_sound h (kept.OfMachine (part.CalledState (record { of = m; name = name; place = p }))) t tt

-- ---- what grows by one expression

grown_one : (h : Held) (e : Expr) → IsSound h → IsSound (record h { pool = expr_added h.pool e })
grown_one h e t = pool_grown h (expr_added h.pool e) [] (e ∷ []) t (sym (append-nil h.pool.signals)) refl tt

more_by : (q : Pooled) (e : Expr) → IsGrown q (expr_added q e)
more_by q e = record { more = e ∷ []; exprs = refl }

-- ---- machines of the list

set_machine : (q : Pooled) (xs : List OwnMachine) (k : ℕ) (x : OwnMachine) → AllByRecursion (IsMachine q) xs → IsMachine q x → AllByRecursion (IsMachine q) (slice_set xs k x)
set_machine q [] k x h g = tt
set_machine q (y ∷ xs) zero x h g = (g, h.1)
set_machine q (y ∷ xs) (suc k) x h g = (h.0, set_machine q xs k x h.1 g)

pub get_machine : (q : Pooled) (xs : List OwnMachine) (k : ℕ) (x : OwnMachine) → AllByRecursion (IsMachine q) xs → slice_get xs k ≡ Some x → IsMachine q x
get_machine q [] k x h e = absurd cc
get_machine q (y ∷ xs) zero x h e = let same : y ≡ x = cc in subst (IsMachine q) same h.0
get_machine q (y ∷ xs) (suc k) x h e = get_machine q xs k x h.1 e

set_register : (q : Pooled) (made : List ClockDomain) (ms : List OwnMemory) (xs : List OwnMachine) (k : ℕ) (x : OwnMachine) → AllByRecursion (HasOwnRegister q made ms) xs → HasOwnRegister q made ms x → AllByRecursion (HasOwnRegister q made ms) (slice_set xs k x)
set_register q made ms [] k x h g = tt
set_register q made ms (y ∷ xs) zero x h g = (g, h.1)
set_register q made ms (y ∷ xs) (suc k) x h g = (h.0, set_register q made ms xs k x h.1 g)

get_register : (q : Pooled) (made : List ClockDomain) (ms : List OwnMemory) (xs : List OwnMachine) (k : ℕ) (x : OwnMachine) → AllByRecursion (HasOwnRegister q made ms) xs → slice_get xs k ≡ Some x → HasOwnRegister q made ms x
get_register q made ms [] k x h e = absurd cc
get_register q made ms (y ∷ xs) zero x h e = let same : y ≡ x = cc in subst (HasOwnRegister q made ms) same h.0
get_register q made ms (y ∷ xs) (suc k) x h e = get_register q made ms xs k x h.1 e

-- a machine with the same register
with_register_still : (q : Pooled) (made : List ClockDomain) (ms : List OwnMemory) (xs : List OwnMachine) (k : ℕ) (x : OwnMachine) (y : Machine) → AllByRecursion (HasOwnRegister q made ms) xs → slice_get xs k ≡ Some x → y.signal ≡ x.machine.signal → AllByRecursion (HasOwnRegister q made ms) (slice_set xs k (record x { machine = y }))
with_register_still q made ms xs k x y h e same =
    let own = get_register q made ms xs k x h e in
    set_register q made ms xs k (record x { machine = y }) h (record {
      clocks = subst (λ (s : SigId). AllByRecursion (HasNoClock s.0) made) (sym same) own.clocks;
      ports = subst (λ (s : SigId). AllByRecursion (λ (z : OwnMemory). IsApart q s.0 z.spec) ms) (sym same) own.ports;
    })

-- the pool, a machine and its module go on
moved_sound : (h : Held) (k m : ℕ) (x : OwnMachine) (y : Moved) → slice_get h.store.machines k ≡ Some x → IsSound (record h { pool = y.pool }) → IsMachine y.pool (record x { machine = y.machine }) → IsBuilt y.pool y.built → y.machine.signal ≡ x.machine.signal
    → IsSound (with_moved k x m y h)
moved_sound h k m x y at t own built same = record {
  names = t.names;
  things = t.things;
  kept = t.kept;
  components = t.components;
  machines = set_machine y.pool h.store.machines k (record x { machine = y.machine }) t.machines own;
  domains = t.domains;
  additions = t.additions;
  clock_domains = t.clock_domains;
  memories = t.memories;
  registers = with_register_still y.pool h.store.clock_domains.made h.store.memories h.store.machines k x y.machine t.registers at same;
  wrappings = t.wrappings;
  waits = t.waits;
  modules = told_module y.pool m y.built h.store.modules built t.modules;
}

-- ---- a register is a place of the pool, and a target

below : (es : List Expr) (k : ℕ) (e : Expr) → slice_get es k ≡ Some e → k < length es
below [] k e h = absurd cc
below (x ∷ es) zero e h = omega arith
below (x ∷ es) (suc k) e h = omega (arith, below es k e h)

-- ---- a machine begins

told_more : (q : Pooled) (b : Built) (x : Step) → IsBuilt q b → IsTold q x → IsBuilt q (and_step b x)
told_more q b x h t = record { steps = all_and (IsTold q) b.steps (x ∷ []) h.steps (t, tt) }

chain_sound : (q : Pooled) (m : ℕ) (r : ExprId) (o : Option Built) (bs : List Built) → r.0 < length q.exprs → ((b : Built) → o ≡ Some b → IsBuilt q b) → AllByRecursion (IsBuilt q) bs → AllByRecursion (IsBuilt q) (modules_begun m r o bs)
chain_sound q m r None bs there f h = h
chain_sound q m r (Some b) bs there f h =
    told_module q m (chain_ended r b) bs (told_more q (and_step b (Enter (opening.Switch r))) Leave (told_more q b (Enter (opening.Switch r)) (f b refl) there) tt) h

pub get_last : (es : List Expr) (e : Expr) → slice_get (es ++ e ∷ []) (length es) ≡ Some e
get_last [] e = refl
get_last (x ∷ es) e = get_last es e

last_of : (xs : List Bool) (b : Bool) (k : ℕ) → length xs ≡ k → get_or (xs ++ b ∷ []) k false ≡ b
last_of [] b zero h = refl
last_of [] b (suc k) h = absurd (omega (arith, h))
last_of (x ∷ xs) b zero h = absurd (omega (arith, h))
last_of (x ∷ xs) b (suc k) h = last_of xs b k (omega (arith, h))

pub target_last : (q : Pooled) (s : SigId) → is_target (expr_added q (expr.Sig s)) (length q.exprs) ≡ true
unfolding is_target
target_last q s =
    let known : List Bool = answers false target_test [] q.exprs in
    let same : length known ≡ length q.exprs = let r = answers_begin false target_test [] q.exprs in ap length r.1 ∙ r.2 in
    ap (λ xs. get_or xs (length q.exprs) false) (answers_append false target_test [] q.exprs (expr.Sig s ∷ [])) ∙ last_of known true (length q.exprs) same

-- no expression of a pool is a signal that is not there yet
fresh_signal : (q : Pooled) (k : ℕ) (e : Expr) → IsPool q → slice_get q.exprs k ≡ Some e → settling.is_signal (length q.signals) e ≡ false
fresh_signal q k (expr.Sig s) rules at = below-not s.0 (length q.signals) (signal_there q.signals [] q.exprs k s rules.exprs at)
  where
    below-not : (n m : ℕ) → n < m → (n == m) ≡ false
    below-not n m lt = grind (arith, nat_tests)
fresh_signal q k (expr.Const n f) rules at = refl
fresh_signal q k (expr.Unary o a) rules at = refl
fresh_signal q k (expr.Binary o a b) rules at = refl
fresh_signal q k (expr.Mux c a b) rules at = refl
fresh_signal q k (expr.Slice a low width) rules at = refl
fresh_signal q k (expr.Cat es) rules at = refl
fresh_signal q k (expr.Part a offset width stride) rules at = refl
fresh_signal q k (expr.Pick index es) rules at = refl
fresh_signal q k (expr.Cast a signed) rules at = refl
fresh_signal q k (expr.Matches a patterns) rules at = refl
fresh_signal q k (expr.Reset domain place) rules at = refl

put_before : (es : List Expr) (x : Expr) (k : ℕ) (e : Expr) → k < length es → slice_get (es ++ x ∷ []) k ≡ Some e → slice_get es k ≡ Some e
put_before [] x k e lt at = absurd (omega (arith, lt))
put_before (y ∷ es) x zero e lt at = at
put_before (y ∷ es) x (suc k) e lt at = put_before es x k e (omega (arith, lt)) at

begun_sound : (m : ℕ) (domain name : List ℕ) (init : Option (List ℕ)) (p : Place) (h : Held) → IsPool h.pool → IsSound h → IsName domain → is_identifier name ≡ true → IsSound (with_machine m domain name init p h)
begun_sound m domain name init p h rules t side named =
    let q : Pooled = with_register h.pool name in
    let new : OwnMachine = record { of = m; machine = machine_at h.pool domain init p } in
    let u : IsSound (record h { pool = q }) =
    pool_grown h q (no_bits (name ++ codes "_state") ∷ []) (expr.Sig (record { 0 = length h.pool.signals }) ∷ []) t refl refl (name_more name (codes "_state") (identifier_is_name name named) refl, tt) in record {
      names = u.names;
      things = u.things;
      kept = u.kept;
      modules = chain_sound q m (record { 0 = length h.pool.exprs }) (slice_get h.store.modules m) h.store.modules (omega (arith, length-append h.pool.exprs (expr.Sig (record { 0 = length h.pool.signals }) ∷ []))) (λ b e. module_built q h.store.modules m b u.modules e) u.modules;
      components = u.components;
      domains = u.domains;
      additions = u.additions;
      clock_domains = u.clock_domains;
      memories = u.memories;
      wrappings = u.wrappings;
      waits = u.waits;
      registers = all_and (HasOwnRegister q h.store.clock_domains.made h.store.memories) h.store.machines (new ∷ []) u.registers (
        register_stays h.pool q h.store.clock_domains.made h.store.components.objects h.store.memories record { more_signals = _; more_exprs = _; signals = refl; exprs = refl } t.memories new (register_fresh h.pool h.store.clock_domains.made h.store.components.objects h.store.memories new t.clock_domains.each t.memories (omega arith)),
        tt,
      );
      machines = all_and (IsMachine q) h.store.machines (record { of = m; machine = machine_at h.pool domain init p } ∷ []) u.machines (
        record {
          register = get_last h.pool.exprs (expr.Sig (record { 0 = length h.pool.signals }));
          target = target_last (signal_added h.pool (no_bits (name ++ codes "_state"))) (record { 0 = length h.pool.signals });
          side = side;
          front = λ k e lt at. fresh_signal h.pool k e rules (put_before h.pool.exprs (expr.Sig (record { 0 = length h.pool.signals })) k e lt at);
        },
        tt,
      );
    }

made_sound : (m : ℕ) (domain name : List ℕ) (init : Option (List ℕ)) (p : Place) (h : Held) → IsPool h.pool → IsSound h → IsName domain → is_identifier name ≡ true → IsSound (machine_made m domain name init p h).held
made_sound m domain name init p h rules t side named =
    unless_sound (new_refusal h.pool) p _ h t (keeping_sound (with_machine m domain name init p h) (kept.OfMachine (part.Running (length h.store.machines))) (begun_sound m domain name init p h rules t side named) tt)

-- a name of a domain with a clock is a name
clocked_name : (n : List ℕ) → is_clocked n ≡ true → IsName n
clocked_name n e = by_test (text_eq n (codes "comb")) (is_identifier n) refl e
  where
    by_test : (b c : Bool) → is_identifier n ≡ c → (not b && c) ≡ true → IsName n
    by_test true c i f = absurd (true≢false (sym f))
    by_test false c i f = identifier_is_name n (i ∙ f)

begins_sound : (m : ℕ) (domain name : List ℕ) (init : Option (List ℕ)) (p : Place) (h : Held) → IsPool h.pool → IsSound h → IsSound (machine_begun m domain name init p h).held
begins_sound m domain name init p h rules t = by_place (is_placed m (slice_get h.store.modules m) h.store.machines) (is_clocked domain) (is_identifier name) refl refl
  where
    by_place : (b c d : Bool) → is_clocked domain ≡ c → is_identifier name ≡ d → IsSound (if not b || (not c || not d) then refused Raised h else machine_made m domain name init p h).held
    by_place false c d e f = t
    by_place true false d e f = t
    by_place true true false e f = t
    by_place true true true e f = made_sound m domain name init p h rules t (clocked_name domain e) f

-- ---- what a machine does

abbrev IsSoundMove : Held → OwnMachine → Moved → Type 0
IsSoundMove h x y = IsSound (record h { pool = y.pool }) × (IsMachine y.pool (record x { machine = y.machine }) × (IsBuilt y.pool y.built × (y.machine.signal ≡ x.machine.signal)))

-- where it is not refused, all that it moves stays sound
SoundMove : Held → (Pooled → Machine → Built → Result Moved FsmStop) → Type 0
SoundMove h f = (x : OwnMachine) (b : Built) (y : Moved) → IsMachine h.pool x → HasOwnRegister h.pool h.store.clock_domains.made h.store.memories x → IsBuilt h.pool b → f h.pool x.machine b ≡ Ok y → IsSoundMove h x y

answer_sound : (h : Held) (k m : ℕ) (x : OwnMachine) (p : Place) (r : Result Moved FsmStop) → slice_get h.store.machines k ≡ Some x → IsSound h → ((y : Moved) → r ≡ Ok y → IsSoundMove h x y) → IsSound (move_answer k x m p r h).held
answer_sound h k m x p (Err why) at t f = stop_sound p why h t
answer_sound h k m x p (Ok y) at t f = let s = f y refl in moved_sound h k m x y at s.0 s.1.0 s.1.1.0 s.1.1.1

move_sound : (f : Pooled → Machine → Built → Result Moved FsmStop) (m : ℕ) (p : Place) (h : Held) → IsSound h → SoundMove h f → IsSound (moved f m p h).held
unfolding SoundMove
move_sound f m p h t sound = by_number (innermost m h.store.machines)
  where
    by_own : (k : ℕ) (o : Option OwnMachine) (c : Option Built) → slice_get h.store.machines k ≡ o → slice_get h.store.modules m ≡ c → IsSound (own_moved f k o m c p h).held
    by_own k None c e1 e2 = t
    by_own k (Some x) None e1 e2 = t
    by_own k (Some x) (Some b) e1 e2 =
        answer_sound h k m x p (f h.pool x.machine b) e1 t (λ y is. sound x b y (get_machine h.pool h.store.machines k x t.machines e1) (get_register h.pool h.store.clock_domains.made h.store.memories h.store.machines k x t.registers e1) (module_built h.pool h.store.modules m b t.modules e2) is)

    by_number : (o : Option ℕ) → IsSound (number_moved f o m p h).held
    by_number None = t
    by_number (Some k) = by_own k (slice_get h.store.machines k) (slice_get h.store.modules m) refl refl

-- what is neither refused nor out of place
made_if : (b : Bool) (o : Option FsmStop) (y z : Moved) → in_place b (unless_refused o y) ≡ Ok z → y ≡ z
made_if true None y z e = cc
made_if true (Some why) y z e = absurd cc
made_if false o y z e = absurd cc

end_state_sound : (h : Held) → IsSound h → SoundMove h state_ends
unfolding SoundMove
end_state_sound h t x b y own apart built e =
    let same = made_if (is_at_case x.machine b) (end_refusal x.machine) _ y e in
    let P : Moved → Type 0 = IsSoundMove h x in
    subst P same (t, (record { register = own.register; target = own.target; side = own.side; front = own.front }, (told_more h.pool b Leave built tt, refl)))

state_sound : (h : Held) (name : List ℕ) (p : Place) → IsSound h → SoundMove h (state_begins name p)
unfolding SoundMove
state_sound h name p t x b y own apart built e =
    let same = made_if (is_at_choice x.machine b) (state_refusal h.pool x.machine b name) (state_made name p h.pool x.machine b) y e in
    let P : Moved → Type 0 = IsSoundMove h x in
    let made : Expr = in_state x.machine (number_of x.machine.states name) in
    let q : Pooled = expr_added h.pool made in
    let g : IsGrown h.pool q = more_by h.pool made in
    let stays = machine_stays h.pool q g x own in
    let there : x.machine.register.0 < length h.pool.exprs = below h.pool.exprs x.machine.register.0 _ own.register in
    let choice : IsBuilt h.pool (with_choice h.pool x.machine b) = by_begun (is_begun x.machine) there in
    subst P same (grown_one h made t, (record { register = stays.register; target = stays.target; side = stays.side; front = stays.front }, (told_more q (with_choice h.pool x.machine b) (Enter (opening.Case (record { 0 = length h.pool.exprs }))) (built_stays h.pool q g (with_choice h.pool x.machine b) choice) (omega (arith, length-append h.pool.exprs (made ∷ []))), refl)))
  where
    by_begun : (c : Bool) → x.machine.register.0 < length h.pool.exprs → IsBuilt h.pool (if c then b else and_step b (Enter (opening.Switch x.machine.register)))
    by_begun true l = built
    by_begun false l = told_more h.pool b (Enter (opening.Switch x.machine.register)) built l

next_move_sound : (h : Held) (m : ℕ) (name : List ℕ) (p : Place) → IsSound h → SoundMove h (next_goes m h name p)
unfolding SoundMove
next_move_sound h m name p t x b y own apart built e =
    let same = made_if true (next_refused m h (next_stop h.pool x.machine b name) (with_next h.pool x.machine b p)) _ y e in
    let P : Moved → Type 0 = IsSoundMove h x in
    let made : Expr = state_number (number_of x.machine.states name) in
    let q : Pooled = expr_added h.pool made in
    let g : IsGrown h.pool q = more_by h.pool made in
    let stays = machine_stays h.pool q g x own in
    subst P same (
      grown_one h made t,
      (
        record { register = stays.register; target = stays.target; side = stays.side; front = stays.front },
        (
          told_more q b (Assign x.machine.side x.machine.register (record { 0 = length h.pool.exprs }) p) (built_stays h.pool q g b built) (
            own.side,
            record {
              target_there = below q.exprs x.machine.register.0 _ stays.register;
              value_there = omega (arith, length-append h.pool.exprs (made ∷ []));
              is_target = target_is_open q x.machine.register.0 stays.target;
            },
          ),
          refl,
        ),
      ),
    )

-- ---- the end of a machine

settled_names : (xs : List Sig) (s : ℕ) (f : Form) (n : ℤ) → AllByRecursion (λ (x : Sig). IsName x.name) xs → AllByRecursion (λ (x : Sig). IsName x.name) (settling.settled_at xs s f n)
settled_names [] s f n h = tt
settled_names (x ∷ xs) zero f n h = h
settled_names (x ∷ xs) (suc s) f n h = (h.0, settled_names xs s f n h.1)

settled_length : (xs : List Sig) (s : ℕ) (f : Form) (n : ℤ) → length xs ≤ length (settling.settled_at xs s f n)
settled_length [] s f n = omega arith
settled_length (x ∷ xs) zero f n = omega arith
settled_length (x ∷ xs) (suc s) f n = omega (arith, settled_length xs s f n)

-- what is not refused was in its place
placed_if : (b : Bool) (r : Result Moved FsmStop) (z : Moved) → in_place b r ≡ Ok z → b ≡ true
placed_if true r z e = refl
placed_if false r z e = absurd cc

-- a register that is not settled has no bits
no_width : (q : Pooled) (x : Machine) → is_unsettled q x ≡ true → (signal_form q.signals x.signal.0).width ≡ 0
no_width q x e = eqb-true (signal_form q.signals x.signal.0).width 0 (and_split ((signal_form q.signals x.signal.0).width == 0) _ e).0

-- a pool with as many signals and the same expressions
pool_sound : (h : Held) (sigs : List Sig) → IsSound h → AllByRecursion (λ (x : Sig). IsName x.name) sigs → length h.pool.signals ≤ length sigs → ((s : SigId) → IsBit h.pool s → IsBit (record h.pool { signals = sigs }) s)
    → AllByRecursion (IsOwnMemory (record h.pool { signals = sigs }) h.store.clock_domains.made h.store.components.objects) h.store.memories → AllByRecursion (HasOwnRegister (record h.pool { signals = sigs }) h.store.clock_domains.made h.store.memories) h.store.machines
    → IsSound (record h { pool = record h.pool { signals = sigs } })
pool_sound h sigs t names le bits memories registers =
    let q : Pooled = record h.pool { signals = sigs } in
    let g : IsGrown h.pool q = record { more = []; exprs = sym (append-nil h.pool.exprs) } in record {
      names = names;
      things = t.things;
      kept = all_each (IsKeptIn h) (IsKept q h.store.components.signatures h.store.components.ends) h.store.kept (kept_stays h.pool q h.store.components.signatures h.store.components.ends g) t.kept;
      modules = all_each (IsBuilt h.pool) (IsBuilt q) h.store.modules (built_stays h.pool q g) t.modules;
      machines = all_each (IsMachine h.pool) (IsMachine q) h.store.machines (machine_stays h.pool q g) t.machines;
      domains = t.domains;
      additions = t.additions;
      clock_domains = domains_stay h.pool q h.store.clock_domains.made bits t.clock_domains;
      components = components_stay h.pool q h.store.components g le t.components;
      memories = memories;
      registers = registers;
      wrappings = all_each (IsWrapping h.pool) (IsWrapping q) h.store.wrappings (wrapping_stays h.pool q g) t.wrappings;
      waits = all_each (IsWait h.pool) (IsWait q) h.store.simulation.waits (wait_stays h.pool q g) t.waits;
    }

end_sound : (h : Held) → IsSound h → SoundMove h machine_ends
unfolding SoundMove
end_sound h t x b y own apart built e =
    let same = made_if (is_at_choice x.machine b && is_unsettled h.pool x.machine) (finish_refusal h.pool x.machine) _ y e in
    let P : Moved → Type 0 = IsSoundMove h x in
    let at_end = placed_if (is_at_choice x.machine b && is_unsettled h.pool x.machine) _ y e in
    subst P same (by_first (no_width h.pool x.machine (and_split (is_at_choice x.machine b) (is_unsettled h.pool x.machine) at_end).1) (first_number x.machine))
  where
    ended : (q : Pooled) → IsBuilt q b → (c : Bool) → IsBuilt q (if c then and_step b Leave else b)
    ended q h true = told_more q b Leave h tt
    ended q h false = h

    by_first : (signal_form h.pool.signals x.machine.signal.0).width ≡ 0 → (o : Option ℕ) → IsSound (record h { pool = settled_at h.pool x.machine.signal (range_width (length x.machine.states)) o }) × (IsMachine (settled_at h.pool x.machine.signal (range_width (length x.machine.states)) o) (record x { machine = and_finished x.machine }) × (IsBuilt (settled_at h.pool x.machine.signal (range_width (length x.machine.states)) o) (with_end x.machine b) × ((and_finished x.machine).signal ≡ x.machine.signal)))
    by_first none None = (t, (record { register = own.register; target = own.target; side = own.side; front = own.front }, (ended h.pool built (is_begun x.machine), refl)))
    by_first none (Some n) =
        let f : Form = unsigned (range_width (length x.machine.states)) in
        let sigs : List Sig = settling.settled_at h.pool.signals x.machine.signal.0 f (pos n) in
        let q : Pooled = record h.pool { signals = sigs } in
        let g : IsGrown h.pool q = record { more = []; exprs = sym (append-nil h.pool.exprs) } in
        let stays = machine_stays h.pool q g x own in (
          pool_sound h sigs t (settled_names h.pool.signals x.machine.signal.0 f (pos n) t.names) (settled_length h.pool.signals x.machine.signal.0 f (pos n))
              (λ s bit. settled_bit h.pool x.machine.signal.0 f (pos n) none s bit (settled_length h.pool.signals x.machine.signal.0 f (pos n)))
              (memories_settled h.pool h.store.clock_domains.made h.store.components.objects h.store.memories x f (pos n) t.memories apart)
              (all_each (HasOwnRegister h.pool h.store.clock_domains.made h.store.memories) (HasOwnRegister q h.store.clock_domains.made h.store.memories) h.store.machines (registers_settled h.pool h.store.clock_domains.made h.store.memories x.machine.signal.0 f (pos n)) t.registers),
          (
            record { register = stays.register; target = stays.target; side = stays.side; front = stays.front },
            (ended q (built_stays h.pool q g b built) (is_begun x.machine), refl),
          ),
        )

-- ---- `ongoing`

asked_sound : (k : ℕ) (o : Option OwnMachine) (name : List ℕ) (p : Place) (h : Held) → IsSound h → slice_get h.store.machines k ≡ o → ((x : OwnMachine) → o ≡ Some x → IsMachine h.pool x) → IsSound (asked_of k o name p h).held
asked_sound k None name p h t at f = t
asked_sound k (Some x) name p h t at f =
    let made : Expr = in_state x.machine (number_of x.machine.states name) in
    let q : Pooled = expr_added h.pool made in
    let u : IsSound (record h { pool = q }) = grown_one h made t in
    let stays = machine_stays h.pool q (more_by h.pool made) x (f x refl) in
    let after : IsSound (with_asked k x name p h) = record {
      names = u.names;
      things = u.things;
      kept = u.kept;
      modules = u.modules;
      components = u.components;
      domains = u.domains;
      additions = u.additions;
      clock_domains = u.clock_domains;
      memories = u.memories;
      wrappings = u.wrappings;
      waits = u.waits;
      registers = with_register_still q h.store.clock_domains.made h.store.memories h.store.machines k x (and_asked x.machine name p (record { 0 = length h.pool.exprs })) u.registers at refl;
      machines = set_machine q h.store.machines k _ u.machines (record { register = stays.register; target = stays.target; side = stays.side; front = stays.front });
    } in
    unless_sound (ongoing_refusal h.pool x.machine name) p _ h t (things_grown (with_asked k x name p h) (thing.Value (record { 0 = length h.pool.exprs }) ∷ []) after (omega (arith, length-append h.pool.exprs (made ∷ [])), tt))

ongoing_sound : (s : Seen) (k : ℕ) (o : Option StrId) (p : Place) (h : Held) → IsSound h → IsSound (ongoing_said s k o p h).held
ongoing_sound s k None p h t = t
ongoing_sound s k (Some name) p h t = asked_sound k (slice_get h.store.machines k) (text_at s name.0) p h t refl (λ x e. get_machine h.pool h.store.machines k x t.machines e)

-- ---- all acts

pub part_call_sound : (s : Seen) (x : MachinePart) (c : Called) (p : Place) (h : Held) → IsSound h → IsSound (part_called s x c p h).held
part_call_sound s (part.Fsm m) c p h t = from_sound s m (machine_arguments c) p h t
part_call_sound s (part.State m) c p h t = state_said_sound m (state_argument c) p h t
part_call_sound s (part.Ongoing k) c p h t = ongoing_sound s k (state_argument c) p h t
part_call_sound s (part.Called x) c p h t = t
part_call_sound s (part.CalledState x) c p h t = t
part_call_sound s (part.Running k) c p h t = t

pub next_sound : (s : Seen) (m : ℕ) (n : List ℕ) (v : Val) (p : Place) (h : Held) → IsSound h → IsSound (next_stored s m n v p h).held
next_sound s m n v p h t = if_sound (text_eq n (codes "next")) _ _ (by_name (state_string v)) t
  where
    by_name : (o : Option StrId) → IsSound (next_said s m o p h).held
    by_name None = t
    by_name (Some x) = move_sound (next_goes m h (text_at s x.0) p) m p h t (next_move_sound h m (text_at s x.0) p t)

pub part_entered_sound : (s : Seen) (x : MachinePart) (h : Held) → IsPool h.pool → IsSound h → IsSound (part_entered s x h).held
part_entered_sound s (part.Called c) h rules t = begins_sound c.of (domain_name s c.domain) (register_name s c.name) (init_name s c.init) c.place h rules t
part_entered_sound s (part.CalledState c) h rules t = move_sound (state_begins (text_at s c.name.0) c.place) c.of c.place h t (state_sound h (text_at s c.name.0) c.place t)
part_entered_sound s (part.Fsm m) h rules t = t
part_entered_sound s (part.State m) h rules t = t
part_entered_sound s (part.Running k) h rules t = t
part_entered_sound s (part.Ongoing k) h rules t = t

pub part_left_sound : (x : MachinePart) (h : Held) → IsSound h → IsSound (part_left x h).held
part_left_sound (part.Called c) h t = move_sound machine_ends c.of c.place h t (end_sound h t)
part_left_sound (part.CalledState c) h t = move_sound state_ends c.of c.place h t (end_state_sound h t)
part_left_sound (part.Fsm m) h t = t
part_left_sound (part.State m) h t = t
part_left_sound (part.Running k) h t = t
part_left_sound (part.Ongoing k) h t = t
