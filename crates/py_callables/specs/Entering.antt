-- Words for the begin of a function.
-- Internal: no rule of the language.
use Rattle.std.specs.Prelude.{ℕ, zero, suc}
use Rattle.py_tree.specs.Steps.{Steps, Body, Fun}
use Rattle.py_heap.specs.Heaps.{Made}
use Rattle.py_frames.specs.declared.state.Here.{Here}
use Rattle.py_frames.specs.Doing.{Doing, Known, after}
use Rattle.py_frames.specs.Statements.{Runs, no_room, body_run, known, run_all, call_ended}

-- how a call runs a body where so many calls may still stand in one another
abbrev pub runs_at : Steps → Made → ℕ → Runs
runs_at program frozen zero = no_room
runs_at program frozen (suc room) = record { run_body = body_run (known program frozen room) room }

abbrev pub body_steps : Body → Steps
body_steps (Fun q name is_async params result body) = body

-- statements run elsewhere, where so many names were bound, and then the call ends
abbrev pub runs_under : Known → Here → ℕ → Steps → Doing
runs_under k here bound ss = λ w s. after (run_all (known k.program k.frozen here.room) ss w (record s { here = here; bound = bound })) (λ got. call_ended s.here got w)
