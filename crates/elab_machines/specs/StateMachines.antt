-- State machines: `m.FSM(init=None, domain="sync", name="fsm")`, `m.State("S")`, `m.next = "S"` and `ongoing("S")` of what `with m.FSM() as f`
-- binds. (Amaranth language guide 0.5, "Finite state machines".)
use Rattle.std.specs.Prelude.{ℕ, nat_lt, ◌+◌, ◌==◌, ◌&&◌, ◌||◌, not, Bool, true, false, if◌then◌else◌, List, [], ◌∷◌, ◌++◌, length, drop, slice_get, slice_set, Option, Some, None, option_and_then, option_map, Result, Ok, Err, codes}
use Rattle.std.specs.List.{list_all}
use Rattle.lists.specs.Texts.{text_eq}
use Rattle.identifiers.specs.Identifiers.{is_identifier}
use Rattle.py_values.specs.declared.val.StrId.{StrId}
use Rattle.py_values.specs.declared.val.Val.{Val}
use Rattle.py_values.specs.declared.val.Val.TheVariants as val
use Rattle.py_heap.specs.Heaps.{Seen, text_at}
use Rattle.py_frames.specs.declared.request.Cause.TheVariants.{Raised, Limit}
use Rattle.amh_host.specs.declared.place.Place.{Place}
use Rattle.design_ir.specs.declared.ids.ExprId.{ExprId}
use Rattle.design_ir.specs.declared.expr.Expr.{Expr}
use Rattle.design_ir.specs.Pools.{Pooled}
use Rattle.design_ir.specs.PoolRules.{expr_added}
use Rattle.design_ir.specs.Values.{signal_form}
use Rattle.design_ir.specs.Settling.{is_signal, is_match, names_place}
use Rattle.module_dsl.specs.Blocks.{in_switch}
use Rattle.module_dsl.specs.declared.step.Opening.TheVariants as opening
use Rattle.module_dsl.specs.declared.step.Step.TheVariants.{Enter, Leave}
use Rattle.module_dsl.specs.Builders.{Built, built_blocks, subject_of, case_subject_of, and_left, and_step}
use Rattle.fsm_lowering.specs.declared.refusal.FsmStop.{FsmStop}
use Rattle.fsm_lowering.specs.declared.refusal.FsmStop.TheVariants as stop
use Rattle.fsm_lowering.specs.States.{number_of}
use Rattle.fsm_lowering.specs.Machines.{Machine, in_state, state_number}
use Rattle.fsm_lowering.specs.Calls.{new_refusal, with_register, machine_at, is_begun, state_refusal, and_state, with_case, end_refusal, and_ended, next_stop, and_mention, with_next, ongoing_refusal, and_asked, finish_refusal, and_finished, with_end, with_shape}
use Rattle.amh_things.specs.declared.thing.Thing.TheVariants as thing
use Rattle.elab_store.specs.declared.kept.MachinePart.{MachinePart}
use Rattle.elab_store.specs.declared.kept.MachinePart.TheVariants as part
use Rattle.elab_store.specs.declared.kept.MachineCall.{MachineCall}
use Rattle.elab_store.specs.declared.kept.StateCall.{StateCall}
use Rattle.elab_store.specs.declared.kept.Kept.TheVariants as kept
use Rattle.elab_store.specs.declared.own_machine.OwnMachine.{OwnMachine}
use Rattle.elab_machines.specs.declared.state_machines.MachineArguments.{MachineArguments}
use Rattle.elab_store.specs.Counts.{statement_count}
use Rattle.elab_store.specs.Calls.{Called}
use Rattle.elab_store.specs.Stores.{Stored, Held, Answered, refused, refused_at, given, thing_given, kept_given}
use Rattle.elab_store.specs.OpenMachines.{innermost, in_machine}

-- ---- names

-- `m.FSM` and `m.State`
abbrev pub part_named : ℕ → List ℕ → Option MachinePart
part_named m n =
    if text_eq n (codes "FSM") then Some (part.Fsm m) else (if text_eq n (codes "State") then Some (part.State m) else None)

-- `f.ongoing`
abbrev pub part_attribute : MachinePart → List ℕ → Held → Answered
part_attribute (part.Running k) n h = if text_eq n (codes "ongoing") then kept_given (kept.OfMachine (part.Ongoing k)) h else refused Raised h
part_attribute p n h = refused Raised h

-- ---- the call of `m.FSM`

abbrev pub no_machine_arguments : MachineArguments
no_machine_arguments = record { init = None; domain = None; name = None }

-- an argument is given once
abbrev pub machine_once : Option Val → MachineArguments → Option MachineArguments
machine_once None args = Some args
machine_once (Some v) args = None

abbrev pub machine_keyword : List ℕ → Val → MachineArguments → Option MachineArguments
machine_keyword n v args =
    if text_eq n (codes "init") then machine_once args.init (record args { init = Some v })
    else (if text_eq n (codes "domain") then machine_once args.domain (record args { domain = Some v })
    else (if text_eq n (codes "name") then machine_once args.name (record args { name = Some v }) else None))

abbrev pub machine_keywords : List (List ℕ) → List Val → MachineArguments → Option MachineArguments
machine_keywords [] vs args = Some args
machine_keywords (n ∷ ns) [] args = None
machine_keywords (n ∷ ns) (v ∷ vs) args = option_and_then (machine_keywords ns vs) (machine_keyword n v args)

abbrev pub machine_placed : List Val → Option MachineArguments
machine_placed [] = Some no_machine_arguments
machine_placed (i ∷ []) = Some (record no_machine_arguments { init = Some i })
machine_placed (i ∷ d ∷ []) = Some (record no_machine_arguments { init = Some i; domain = Some d })
machine_placed (i ∷ d ∷ n ∷ []) = Some (record { init = Some i; domain = Some d; name = Some n })
machine_placed (i ∷ d ∷ n ∷ v ∷ vs) = None

abbrev pub machine_arguments : Called → Option MachineArguments
machine_arguments c = option_and_then (machine_keywords c.keywords c.keyword_vals) (machine_placed c.placed)

-- the name of a state, which is any string
abbrev pub state_string : Val → Option StrId
state_string (val.Str x) = Some x
state_string v = None

-- none, where it is left out or `None`
abbrev pub init_said : Option Val → Option (Option StrId)
init_said None = Some None
init_said (Some val.None) = Some None
init_said (Some v) = option_map Some (state_string v)

-- the name of an `FSM`, which is a string that is an identifier
abbrev pub name_string : Seen → Val → Option StrId
name_string s (val.Str x) = if is_identifier (text_at s x.0) then Some x else None
name_string s v = None

abbrev pub name_said : Seen → Option Val → Option (Option StrId)
name_said s None = Some None
name_said s (Some v) = option_map Some (name_string s v)

-- an identifier names a domain with a clock, but for `comb`, which has no registers
abbrev pub is_clocked : List ℕ → Bool
is_clocked n = not (text_eq n (codes "comb")) && is_identifier n

abbrev pub domain_string : Seen → Val → Option StrId
domain_string s (val.Str x) = if is_clocked (text_at s x.0) then Some x else None
domain_string s v = None

abbrev pub domain_said : Seen → Option Val → Option (Option StrId)
domain_said s None = Some None
domain_said s (Some v) = option_map Some (domain_string s v)

abbrev pub machine_said : ℕ → Option (Option StrId) → Option (Option StrId) → Option (Option StrId) → Place → Held → Answered
machine_said m (Some init) (Some domain) (Some name) p h = kept_given (kept.OfMachine (part.Called (record { of = m; init = init; domain = domain; name = name; place = p }))) h
machine_said m None domain name p h = refused Raised h
machine_said m (Some init) None name p h = refused Raised h
machine_said m (Some init) (Some domain) None p h = refused Raised h

abbrev pub machine_from : Seen → ℕ → Option MachineArguments → Place → Held → Answered
machine_from s m None p h = refused Raised h
machine_from s m (Some args) p h = machine_said m (init_said args.init) (domain_said s args.domain) (name_said s args.name) p h

-- ---- the call of `m.State`, and of `f.ongoing`: one string

abbrev pub one_argument : List ℕ → List Val → List (List ℕ) → List Val → Option Val
one_argument n (v ∷ []) [] vs = Some v
one_argument n [] (k ∷ []) (v ∷ []) = if text_eq k n then Some v else None
one_argument n placed keywords vs = None

abbrev pub state_argument : Called → Option StrId
state_argument c = option_and_then state_string (one_argument (codes "name") c.placed c.keywords c.keyword_vals)

abbrev pub state_said : ℕ → Option StrId → Place → Held → Answered
state_said m (Some name) p h = kept_given (kept.OfMachine (part.CalledState (record { of = m; name = name; place = p }))) h
state_said m None p h = refused Raised h

-- ---- why a machine refuses: an undefined state is told where it was first mentioned, one that stands twice at its second call

abbrev pub stop_told : Place → FsmStop → Held → Answered
stop_told p (stop.UndefinedState at) h = refused_at at Raised h
stop_told p stop.Repeated h = refused_at p Raised h
stop_told p stop.Order h = refused Raised h
stop_told p stop.Limit h = refused Limit h
stop_told p stop.NoMemory h = refused Limit h

abbrev pub unless_stopped : Option FsmStop → Place → Answered → Held → Answered
unless_stopped (Some why) p others h = stop_told p why h
unless_stopped None p others h = others

-- ---- entering an `FSM`

abbrev pub register_name : Seen → Option StrId → List ℕ
register_name s None = codes "fsm"
register_name s (Some x) = text_at s x.0

abbrev pub domain_name : Seen → Option StrId → List ℕ
domain_name s None = codes "sync"
domain_name s (Some x) = text_at s x.0

abbrev pub init_name : Seen → Option StrId → Option (List ℕ)
init_name s None = None
init_name s (Some x) = Some (text_at s x.0)

-- Nothing goes on with an `If` that stands before a machine, even where no state is entered: its module is told a choice without cases, which is
-- nothing else than the end of such a chain.
abbrev pub chain_ended : ExprId → Built → Built
chain_ended r b = and_step (and_step b (Enter (opening.Switch r))) Leave

abbrev pub modules_begun : ℕ → ExprId → Option Built → List Built → List Built
modules_begun m r None bs = bs
modules_begun m r (Some b) bs = slice_set bs m (chain_ended r b)

abbrev pub store_begun : ℕ → Machine → Stored → Stored
store_begun m x s = record s {
  machines = s.machines ++ record { of = m; machine = x } ∷ [];
  modules = modules_begun m x.register (slice_get s.modules m) s.modules;
}

-- the register, and the machine without states
abbrev pub with_machine : ℕ → List ℕ → List ℕ → Option (List ℕ) → Place → Held → Held
with_machine m domain name init p h = record { pool = with_register h.pool name; store = store_begun m (machine_at h.pool domain init p) h.store }

-- `as` binds the machine
abbrev pub machine_made : ℕ → List ℕ → List ℕ → Option (List ℕ) → Place → Held → Answered
machine_made m domain name init p h =
    unless_stopped (new_refusal h.pool) p (kept_given (kept.OfMachine (part.Running (length h.store.machines))) (with_machine m domain name init p h)) h

-- directly in a `Switch` or in another `FSM` none stands
abbrev pub is_placed : ℕ → Option Built → List OwnMachine → Bool
is_placed m None machines = false
is_placed m (Some b) machines = not (in_switch (built_blocks b).around) && not (in_machine m machines)

-- the names have the form that the call asked for
abbrev pub machine_begun : ℕ → List ℕ → List ℕ → Option (List ℕ) → Place → Held → Answered
machine_begun m domain name init p h =
    if not (is_placed m (slice_get h.store.modules m) h.store.machines) || (not (is_clocked domain) || not (is_identifier name)) then refused Raised h
    else machine_made m domain name init p h

abbrev pub machine_entered : Seen → MachineCall → Held → Answered
machine_entered s c h = machine_begun c.of (domain_name s c.domain) (register_name s c.name) (init_name s c.init) c.place h

-- ---- the innermost machine of a module, with its builder

-- a pool, a machine and its module's builder, as they go on
pub record Moved : Type 0 where
  pub pool : Pooled
  pub machine : Machine
  pub built : Built

-- what is done with them, or why it is refused
abbrev pub Move : Type 0
Move = Pooled → Machine → Built → Result Moved FsmStop

abbrev pub unless_refused : Option FsmStop → Moved → Result Moved FsmStop
unless_refused (Some why) y = Err why
unless_refused None y = Ok y

abbrev pub store_moved : ℕ → OwnMachine → ℕ → Moved → Stored → Stored
store_moved k x m y s = record s { machines = slice_set s.machines k (record x { machine = y.machine }); modules = slice_set s.modules m y.built }

abbrev pub with_moved : ℕ → OwnMachine → ℕ → Moved → Held → Held
with_moved k x m y h = record { pool = y.pool; store = store_moved k x m y h.store }

abbrev pub move_answer : ℕ → OwnMachine → ℕ → Place → Result Moved FsmStop → Held → Answered
move_answer k x m p (Ok y) h = given val.None (with_moved k x m y h)
move_answer k x m p (Err why) h = stop_told p why h

abbrev pub own_moved : Move → ℕ → Option OwnMachine → ℕ → Option Built → Place → Held → Answered
own_moved f k None m b p h = refused Raised h
own_moved f k (Some x) m None p h = refused Raised h
own_moved f k (Some x) m (Some b) p h = move_answer k x m p (f h.pool x.machine b) h

abbrev pub number_moved : Move → Option ℕ → ℕ → Place → Held → Answered
number_moved f None m p h = refused Raised h
number_moved f (Some k) m p h = own_moved f k (slice_get h.store.machines k) m (slice_get h.store.modules m) p h

-- it raises where no machine of the module is open
abbrev pub moved : Move → ℕ → Place → Held → Answered
moved f m p h = number_moved f (innermost m h.store.machines) m p h

-- the register's choice is the innermost block: directly in the `FSM`, whose choice begins with its first state
abbrev pub is_at_choice : Machine → Built → Bool
is_at_choice x b = not (is_begun x) || (in_switch (built_blocks b).around && ((subject_of (built_blocks b).around).0 == x.register.0))

-- one of its cases is the innermost block: directly in a `State`
abbrev pub is_case_of : Option ExprId → ExprId → Bool
is_case_of None r = false
is_case_of (Some v) r = v.0 == r.0

abbrev pub is_at_case : Machine → Built → Bool
is_at_case x b = is_case_of (case_subject_of (built_blocks b).around) x.register

-- a move that has no place in the module is out of order
abbrev pub in_place : Bool → Result Moved FsmStop → Result Moved FsmStop
in_place true others = others
in_place false others = Err stop.Order

-- ---- a state

abbrev pub state_made : List ℕ → Place → Pooled → Machine → Built → Moved
state_made name p q x b = record {
  pool = expr_added q (in_state x (number_of x.states name));
  machine = and_state x name p (record { 0 = length q.exprs });
  built = with_case q x b name;
}

abbrev pub state_begins : List ℕ → Place → Pooled → Machine → Built → Result Moved FsmStop
state_begins name p q x b = in_place (is_at_choice x b) (unless_refused (state_refusal q x b name) (state_made name p q x b))

abbrev pub state_ends : Pooled → Machine → Built → Result Moved FsmStop
state_ends q x b = in_place (is_at_case x b) (unless_refused (end_refusal x) (record { pool = q; machine = and_ended x; built = and_left b }))

abbrev pub state_entered : Seen → StateCall → Held → Answered
state_entered s c h = moved (state_begins (text_at s c.name.0) c.place) c.of c.place h

abbrev pub state_left : StateCall → Held → Answered
state_left c h = moved state_ends c.of c.place h

-- ---- leaving an `FSM`

-- what may stand beside a register without a shape: it is not the register, and names it in a match alone
abbrev pub is_apart : Machine → Expr → Bool
is_apart x e = not (is_signal x.signal.0 e) && (is_match e || not (names_place e x.register.0))

-- The register may get its shape. No program is given it before its machine ends, so what was made since has no more to do with it.
abbrev pub is_unsettled : Pooled → Machine → Bool
is_unsettled q x = ((signal_form q.signals x.signal.0).width == 0) && list_all (is_apart x) (drop (x.register.0 + 1) q.exprs)

abbrev pub machine_ends : Pooled → Machine → Built → Result Moved FsmStop
machine_ends q x b =
    in_place (is_at_choice x b && is_unsettled q x)
    (unless_refused (finish_refusal q x) (record { pool = with_shape q x; machine = and_finished x; built = with_end x b }))

abbrev pub machine_left : MachineCall → Held → Answered
machine_left c h = moved machine_ends c.of c.place h

-- ---- `m.next`

-- the module's own refusals, and then one statement too many of the design
abbrev pub next_refused : ℕ → Held → Option FsmStop → Built → Option FsmStop
next_refused m h (Some why) b = Some why
next_refused m h None b = if nat_lt 65536 (statement_count (slice_set h.store.modules m b)) then Some stop.Limit else None

abbrev pub next_goes : ℕ → Held → List ℕ → Place → Pooled → Machine → Built → Result Moved FsmStop
next_goes m h name p q x b =
    unless_refused (next_refused m h (next_stop q x b name) (with_next q x b p))
    (record { pool = expr_added q (state_number (number_of x.states name)); machine = and_mention x name p; built = with_next q x b p })

abbrev pub next_said : Seen → ℕ → Option StrId → Place → Held → Answered
next_said s m None p h = refused Raised h
next_said s m (Some name) p h = moved (next_goes m h (text_at s name.0) p) m p h

abbrev pub next_stored : Seen → ℕ → List ℕ → Val → Place → Held → Answered
next_stored s m n v p h = if text_eq n (codes "next") then next_said s m (state_string v) p h else refused Raised h

-- ---- `ongoing`, also behind the machine's end

abbrev pub with_asked : ℕ → OwnMachine → List ℕ → Place → Held → Held
with_asked k x name p h = record {
  pool = expr_added h.pool (in_state x.machine (number_of x.machine.states name));
  store = record h.store { machines = slice_set h.store.machines k (record x { machine = and_asked x.machine name p (record { 0 = length h.pool.exprs }) }) };
}

abbrev pub asked_of : ℕ → Option OwnMachine → List ℕ → Place → Held → Answered
asked_of k None name p h = refused Raised h
asked_of k (Some x) name p h =
    unless_stopped (ongoing_refusal h.pool x.machine name) p (thing_given (thing.Value (record { 0 = length h.pool.exprs })) (with_asked k x name p h)) h

abbrev pub ongoing_said : Seen → ℕ → Option StrId → Place → Held → Answered
ongoing_said s k None p h = refused Raised h
ongoing_said s k (Some name) p h = asked_of k (slice_get h.store.machines k) (text_at s name.0) p h

-- ---- all acts on them

abbrev pub part_called : Seen → MachinePart → Called → Place → Held → Answered
part_called s (part.Fsm m) c p h = machine_from s m (machine_arguments c) p h
part_called s (part.State m) c p h = state_said m (state_argument c) p h
part_called s (part.Ongoing k) c p h = ongoing_said s k (state_argument c) p h
part_called s (part.Called x) c p h = refused Raised h
part_called s (part.CalledState x) c p h = refused Raised h
part_called s (part.Running k) c p h = refused Raised h

abbrev pub part_entered : Seen → MachinePart → Held → Answered
part_entered s (part.Called x) h = machine_entered s x h
part_entered s (part.CalledState x) h = state_entered s x h
part_entered s (part.Fsm m) h = refused Raised h
part_entered s (part.State m) h = refused Raised h
part_entered s (part.Running k) h = refused Raised h
part_entered s (part.Ongoing k) h = refused Raised h

abbrev pub part_left : MachinePart → Held → Answered
part_left (part.Called x) h = machine_left x h
part_left (part.CalledState x) h = state_left x h
part_left (part.Fsm m) h = refused Raised h
part_left (part.State m) h = refused Raised h
part_left (part.Running k) h = refused Raised h
part_left (part.Ongoing k) h = refused Raised h
