-- What the calls of a state machine refuse, and what they leave. (Amaranth guide, Finite state machines: the first state is
-- `init`, else the one that is defined first; `m.next` is assigned in the machine's domain. What is refused, and what is asked
-- after the end: docs/RULES.md.)
use Rattle.std.specs.Prelude.{◌≡◌, ℕ, ◌+◌, nat_le, nat_lt, Bool, true, false, not, ◌&&◌, ◌||◌, ⊤, if◌then◌else◌, List, [], ◌∷◌, ◌++◌, map, length, Option, Some, None, pos, ◌⊎◌, codes, unwrap_or}
use Rattle.amh_host.specs.declared.place.Place.{Place}
use Rattle.shape_rules.specs.Forms.{unsigned}
use Rattle.design_ir.specs.declared.ids.ExprId.{ExprId}
use Rattle.design_ir.specs.declared.ids.SigId.{SigId}
use Rattle.design_ir.specs.declared.expr.Expr.{Expr}
use Rattle.design_ir.specs.declared.expr.Expr.TheVariants as expr
use Rattle.design_ir.specs.declared.process.Side.TheVariants.{Clocked}
use Rattle.design_ir.specs.Pools.{Pooled}
use Rattle.design_ir.specs.PoolRules.{signal_bits, signal_added, expr_added}
use Rattle.design_ir.specs.Settling.{signal_settled}
use Rattle.module_dsl.specs.declared.step.Block.TheVariants as block
use Rattle.module_dsl.specs.declared.refusal.BuildStop.{BuildStop}
use Rattle.module_dsl.specs.declared.refusal.BuildStop.TheVariants as build
use Rattle.module_dsl.specs.Blocks.{in_switch}
use Rattle.module_dsl.specs.Builders.{Built, built_blocks, built_count, and_given, and_entered, and_left}
use Rattle.fsm_lowering.specs.declared.states.State.{State}
use Rattle.fsm_lowering.specs.declared.states.Stage.TheVariants.{Between, Within, Finished}
use Rattle.fsm_lowering.specs.declared.refusal.FsmStop.{FsmStop}
use Rattle.fsm_lowering.specs.declared.refusal.FsmStop.TheVariants.{UndefinedState, Repeated, Order, Limit, NoMemory}
use Rattle.fsm_lowering.specs.States.{is_entered, is_between, is_within, is_finished, number_of, mentioned, entered_as, held_as, first_unentered, range_width}
use Rattle.fsm_lowering.specs.Machines.{Machine, no_bits, number_pattern, open_switch, open_case}

-- ---- refusals

-- a refusal is the one that is owed; want of memory may come at any time
abbrev pub IsOwed : Option FsmStop → FsmStop → Type 0
IsOwed owed (UndefinedState place) = owed ≡ Some (UndefinedState place)
IsOwed owed Repeated = owed ≡ Some Repeated
IsOwed owed Order = owed ≡ Some Order
IsOwed owed Limit = owed ≡ Some Limit
IsOwed owed NoMemory = ⊤

-- this refusal where it applies, else what the others say
abbrev pub stop_where : FsmStop → Bool → Option FsmStop → Option FsmStop
stop_where stop applies others = if applies then Some stop else others

-- after a count was passed, or for want of memory, the builder and the machine are only dropped
abbrev pub Unless : FsmStop → Type 0 → Type 0
Unless (UndefinedState place) unchanged = unchanged
Unless Repeated unchanged = unchanged
Unless Order unchanged = unchanged
Unless Limit unchanged = ⊤
Unless NoMemory unchanged = ⊤

-- nothing has changed; for want of memory all is only dropped
abbrev pub UnlessMemory : FsmStop → Type 0 → Type 0
UnlessMemory (UndefinedState place) unchanged = unchanged
UnlessMemory Repeated unchanged = unchanged
UnlessMemory Order unchanged = unchanged
UnlessMemory Limit unchanged = unchanged
UnlessMemory NoMemory unchanged = ⊤

-- a pool is as it was, or has this expression more
abbrev pub IsAtMost : Pooled → Expr → Pooled → Type 0
IsAtMost q e q' = (q' ≡ q) ⊎ (q' ≡ expr_added q e)

-- one expression more would be too many
abbrev pub is_full : Pooled → Bool
is_full q = nat_le 262144 (length q.exprs)

-- this state would be one too many
abbrev pub is_too_many : Machine → List ℕ → Bool
is_too_many m name = nat_le 256 (number_of m.states name)

-- ---- the begin of a machine

abbrev pub new_refusal : Pooled → Option FsmStop
new_refusal q = stop_where Limit (nat_le 16384 (length q.signals) || is_full q) None

abbrev pub with_signal : Pooled → List ℕ → Pooled
with_signal q name = signal_added q (no_bits (name ++ codes "_state"))

abbrev pub with_register : Pooled → List ℕ → Pooled
with_register q name = expr_added (with_signal q name) (expr.Sig (record { 0 = length q.signals }))

abbrev pub machine_at : Pooled → List ℕ → Option (List ℕ) → Place → Machine
machine_at q domain init place =
    record { side = Clocked domain; init = init; place = place; signal = record { 0 = length q.signals }; register = record { 0 = length q.exprs }; states = []; first = None; stage = Between }

-- ---- a state begins

abbrev pub option_is : Option ℕ → Bool
option_is None = false
option_is (Some n) = true

abbrev pub is_begun : Machine → Bool
is_begun m = option_is m.first

-- between states the innermost block is the choice over the register, once it has begun
abbrev pub IsAtChoice : Machine → Built → Type 0
IsAtChoice m b = is_between m.stage ≡ true → is_begun m ≡ true → open_switch (built_blocks b).around ≡ Some m.register

-- within a state it is the state's case
abbrev pub IsAtCase : Machine → Built → Type 0
IsAtCase m b = is_within m.stage ≡ true → open_case (built_blocks b).around ≡ Some m.register

-- the choice over the register begins with the first state, which a `Switch` of the module's own does not take
abbrev pub has_no_place : Machine → Built → Bool
has_no_place m b = not (is_begun m) && in_switch (built_blocks b).around

abbrev pub state_refusal : Pooled → Machine → Built → List ℕ → Option FsmStop
state_refusal q m b name =
    stop_where Order (not (is_between m.stage) || has_no_place m b)
    (stop_where Repeated (is_entered m.states name)
    (stop_where Limit (is_too_many m name || is_full q) None))

abbrev pub and_state : Machine → List ℕ → Place → ExprId → Machine
and_state m name place condition =
    record m { states = map (entered_as name condition) (mentioned m.states name place); first = Some (unwrap_or m.first (number_of m.states name)); stage = Within }

-- a builder in the choice over the register
abbrev pub with_choice : Pooled → Machine → Built → Built
with_choice q m b = if is_begun m then b else and_entered q b (block.Switch m.register)

abbrev pub with_case : Pooled → Machine → Built → List ℕ → Built
with_case q m b name = and_entered q (with_choice q m b) (block.Case (number_pattern (number_of m.states name) ∷ []))

-- ---- a state ends

abbrev pub end_refusal : Machine → Option FsmStop
end_refusal m = stop_where Order (not (is_within m.stage)) None

abbrev pub and_ended : Machine → Machine
and_ended m = record m { stage = Between }

-- ---- the next state

abbrev pub and_mention : Machine → List ℕ → Place → Machine
and_mention m name place = record m { states = mentioned m.states name place }

-- the register takes the number of the next state, which the expression made next stands for
abbrev pub with_next : Pooled → Machine → Built → Place → Built
with_next q m b place = and_given b m.side m.register (record { 0 = length q.exprs }) place

abbrev pub next_refusal : Pooled → Machine → Built → List ℕ → Place → Option FsmStop
next_refusal q m b name place =
    stop_where Order (not (is_within m.stage) || in_switch (built_blocks b).around)
    (stop_where Limit (is_too_many m name || is_full q || nat_lt 65536 (built_count (with_next q m b place))) None)

-- the first two of these refusals
abbrev pub next_stop : Pooled → Machine → Built → List ℕ → Option FsmStop
next_stop q m b name =
    stop_where Order (not (is_within m.stage) || in_switch (built_blocks b).around)
    (stop_where Limit (is_too_many m name || is_full q) None)

-- ---- asking for a state

abbrev pub ongoing_refusal : Pooled → Machine → List ℕ → Option FsmStop
ongoing_refusal q m name =
    stop_where Order (is_finished m.stage && not (is_entered m.states name))
    (stop_where Limit (is_too_many m name || is_full q) None)

abbrev pub and_asked : Machine → List ℕ → Place → ExprId → Machine
and_asked m name place condition = record m { states = map (held_as name condition) (mentioned m.states name place) }

-- ---- the end of a machine

-- where a state was mentioned, or given as `init`, that was never entered
abbrev pub undefined_init : List State → Option (List ℕ) → Place → Option FsmStop → Option FsmStop
undefined_init states None place others = others
undefined_init states (Some name) place others = if is_entered states name then others else Some (UndefinedState place)

abbrev pub undefined_state : Option Place → Option FsmStop → Option FsmStop
undefined_state None others = others
undefined_state (Some mention) others = Some (UndefinedState mention)

abbrev pub first_among : List State → Option ℕ → Option (List ℕ) → Option ℕ
first_among states first None = first
first_among states first (Some name) = Some (number_of states name)

-- the number of the first state: `init`, else the state that was entered first
abbrev pub first_number : Machine → Option ℕ
first_number m = first_among m.states m.first m.init

abbrev pub has_no_bits : Pooled → ℕ → Option ℕ → Bool
has_no_bits q width None = false
has_no_bits q width (Some n) = nat_lt 262144 (signal_bits q.signals + width)

abbrev pub finish_refusal : Pooled → Machine → Option FsmStop
finish_refusal q m =
    stop_where Order (not (is_between m.stage))
    (undefined_state (first_unentered m.states)
    (undefined_init m.states m.init m.place
    (stop_where Limit (has_no_bits q (range_width (length m.states)) (first_number m)) None)))

abbrev pub and_finished : Machine → Machine
and_finished m = record m { stage = Finished }

-- the choice over the register ends, where it has begun
abbrev pub with_end : Machine → Built → Built
with_end m b = if is_begun m then and_left b else b

-- The register has the shape of its states' numbers, and begins with the first state; a machine without states is dropped.
abbrev pub settled_at : Pooled → SigId → ℕ → Option ℕ → Pooled
settled_at q s width None = q
settled_at q s width (Some n) = signal_settled q s.0 (unsigned width) (pos n)

abbrev pub with_shape : Pooled → Machine → Pooled
with_shape q m = settled_at q m.signal (range_width (length m.states)) (first_number m)

-- ---- what a builder's refusals are here

abbrev pub told : Option BuildStop → Option FsmStop
told None = None
told (Some build.Order) = Some Order
told (Some build.NotTarget) = None
told (Some build.Limit) = Some Limit
told (Some build.NoMemory) = None
