-- What the code of this crate holds, as the definitions see it.
use Rattle.std.specs.Prelude.{◌≡◌, Result, Ok, Err, ⊤}
use Rattle.lists.specs.declared.items.NoMemory.{NoMemory}
use Rattle.py_frames.specs.declared.request.Answer.{Answer}
use Rattle.elab_store.specs.declared.store.Elaboration.{Elaboration}
use Rattle.elab_store.specs.Stores.{Held, Answered}

abbrev pub held_of : Elaboration → Held
held_of e = record { pool = e.pool; store = e.store }

-- an act gives what it owes; want of memory may come at any time
abbrev pub Gives : Result Answer NoMemory → Elaboration → Answered → Type 0
Gives (Ok a) behind owed = owed ≡ record { answer = a; held = held_of behind }
Gives (Err e) behind owed = ⊤
