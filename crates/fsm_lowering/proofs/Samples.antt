-- Small machines, by computation.
use Rattle.std.specs.Prelude.{◌≡◌, refl, ℕ, ◌+◌, List, [], ◌∷◌, length, ℤ, pos, codes, Option, Some, None, false}
use Rattle.amh_host.specs.declared.place.Place.{Place}
use Rattle.shape_rules.specs.Forms.{unsigned}
use Rattle.design_ir.specs.declared.process.Side.TheVariants.{Clocked}
use Rattle.design_ir.specs.Pools.{Pooled}
use Rattle.design_ir.specs.PoolRules.{expr_added}
use Rattle.design_ir.specs.Values.{form, num}
use Rattle.design_ir.specs.Targets.{target_bits}
use Rattle.module_dsl.specs.Blocks.{blocks_of, entries_of}
use Rattle.module_dsl.specs.Builders.{Built, built_blocks, and_left}
use Rattle.module_dsl.specs.Sided.{carried_out}
use Rattle.fsm_lowering.specs.declared.refusal.FsmStop.TheVariants.{UndefinedState, Repeated, Order}
use Rattle.fsm_lowering.specs.States.{number_of, least_width, range_width, condition_in}
use Rattle.fsm_lowering.specs.Machines.{Machine, in_state, state_number}
use Rattle.fsm_lowering.specs.Calls.{machine_at, with_register, and_state, with_case, and_ended, and_mention, with_next, with_end, with_shape, and_finished, state_refusal, next_refusal, finish_refusal}

-- ---- a machine, its pool and its module, call by call

record Stand : Type 0 where
  pool : Pooled
  machine : Machine
  module_so_far : Built

abbrev at : ℕ → Place
at line = record { line = line; col = 1 }

abbrev begun_with : Option (List ℕ) → Stand
begun_with init =
    let q : Pooled = record { signals = []; exprs = [] } in
    record { pool = with_register q (codes "fsm"); machine = machine_at q (codes "sync") init (at 1); module_so_far = record { name = codes "top"; steps = [] } }

abbrev entered : List ℕ → ℕ → Stand → Stand
entered name line x = record {
  pool = expr_added x.pool (in_state x.machine (number_of x.machine.states name));
  machine = and_state x.machine name (at line) (record { 0 = length x.pool.exprs });
  module_so_far = with_case x.pool x.machine x.module_so_far name;
}

abbrev with_next_state : List ℕ → ℕ → Stand → Stand
with_next_state name line x = record {
  pool = expr_added x.pool (state_number (number_of x.machine.states name));
  machine = and_mention x.machine name (at line);
  module_so_far = with_next x.pool x.machine x.module_so_far (at line);
}

abbrev ended : Stand → Stand
ended x = record { pool = x.pool; machine = and_ended x.machine; module_so_far = and_left x.module_so_far }

abbrev finished : Stand → Stand
finished x = record { pool = with_shape x.pool x.machine; machine = and_finished x.machine; module_so_far = with_end x.machine x.module_so_far }

-- a state with one next state
abbrev leads : List ℕ → List ℕ → ℕ → Stand → Stand
leads name to line x = ended (with_next_state to (line + 1) (entered name line x))

-- ---- three states: IDLE leads to RUN, WAIT to IDLE, RUN to WAIT

abbrev round : Stand
round = finished (leads (codes "RUN") (codes "WAIT") 6 (leads (codes "WAIT") (codes "IDLE") 4 (leads (codes "IDLE") (codes "RUN") 2 (begun_with None))))

numbers : (number_of round.machine.states (codes "IDLE") ∷ number_of round.machine.states (codes "RUN") ∷ number_of round.machine.states (codes "WAIT") ∷ []) ≡ 0 ∷ 1 ∷ 2 ∷ []
unfolding blocks_of least_width
numbers = refl

register : round.pool.signals ≡ record { name = codes "fsm_state"; shape = unsigned 2; init = pos 0; reset_less = false } ∷ []
unfolding blocks_of least_width
register = refl

-- the register, and for each state its condition and the number of its next state
expressions : length round.pool.exprs ≡ 7
unfolding blocks_of least_width
expressions = refl

held : condition_in round.machine.states (codes "WAIT") ≡ Some (record { 0 = 3 })
unfolding blocks_of least_width
held = refl

-- what the register takes where it has this number
abbrev next_of : ℕ → List ℤ
next_of n = carried_out round.pool (pos n ∷ []) (Clocked (codes "sync")) (entries_of (built_blocks round.module_so_far)) (pos n ∷ [])

-- RUN from IDLE, WAIT from RUN, IDLE from WAIT, and with no such state it stays
goes_round : (next_of 0 ∷ next_of 1 ∷ next_of 2 ∷ next_of 3 ∷ []) ≡ (pos 1 ∷ []) ∷ (pos 2 ∷ []) ∷ (pos 0 ∷ []) ∷ (pos 3 ∷ []) ∷ []
unfolding blocks_of least_width form num target_bits
goes_round = refl

-- ---- refusals

-- C is mentioned in line 3 and never entered
abbrev half : Stand
half = leads (codes "A") (codes "C") 2 (begun_with None)

undefined : finish_refusal half.pool half.machine ≡ Some (UndefinedState (at 3))
unfolding blocks_of least_width
undefined = refl

-- the `init` was never mentioned
abbrev no_init : Stand
no_init = begun_with (Some (codes "A"))

undefined_init : finish_refusal no_init.pool no_init.machine ≡ Some (UndefinedState (at 1))
unfolding least_width
undefined_init = refl

-- nothing was mentioned: the machine is dropped
abbrev empty : Stand
empty = begun_with None

dropped : finish_refusal empty.pool empty.machine ≡ None
unfolding least_width
dropped = refl

nothing_settled : with_shape empty.pool empty.machine ≡ empty.pool
nothing_settled = refl

again : state_refusal half.pool half.machine half.module_so_far (codes "A") ≡ Some Repeated
unfolding blocks_of least_width
again = refl

-- no state is open
out_of_place : next_refusal half.pool half.machine half.module_so_far (codes "A") (at 9) ≡ Some Order
unfolding blocks_of least_width
out_of_place = refl

-- ---- widths: no bits for one state, and no more than eight

widths : (range_width 1 ∷ range_width 2 ∷ range_width 3 ∷ range_width 4 ∷ range_width 5 ∷ range_width 256 ∷ []) ≡ 0 ∷ 1 ∷ 2 ∷ 2 ∷ 3 ∷ 8 ∷ []
unfolding least_width
widths = refl
