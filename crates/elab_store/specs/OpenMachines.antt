-- The state machines of modules that are open.
use Rattle.std.specs.Prelude.{ℕ, ◌+◌, ◌==◌, ◌&&◌, not, Bool, false, if◌then◌else◌, List, [], ◌∷◌, slice_get, Option, Some, None, option_and_then}
use Rattle.fsm_lowering.specs.States.{is_between, is_finished}
use Rattle.elab_store.specs.declared.own_machine.OwnMachine.{OwnMachine}

abbrev pub is_open : ℕ → OwnMachine → Bool
is_open m x = (x.of == m) && not (is_finished x.machine.stage)

-- the number of the last machine of module m that is open, where the first of these has number k; the others say none
abbrev pub last_open : ℕ → ℕ → Option ℕ → List OwnMachine → Option ℕ
last_open m k others [] = others
last_open m k others (x ∷ xs) = last_open m (k + 1) (if is_open m x then Some k else others) xs

-- Blocks end in the order in which they stand in one another, so the innermost machine that is open is the one that began last.
abbrev pub innermost : ℕ → List OwnMachine → Option ℕ
innermost m xs = last_open m 0 None xs

abbrev pub is_without_state : Option OwnMachine → Bool
is_without_state None = false
is_without_state (Some x) = is_between x.machine.stage

-- The innermost block of the module is an `FSM`: a machine is open, and none of its states is.
abbrev pub in_machine : ℕ → List OwnMachine → Bool
in_machine m xs = is_without_state (option_and_then (slice_get xs) (innermost m xs))
