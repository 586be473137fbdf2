-- What a delta leaves in the data of a combinational read port.
use Rattle.std.specs.Prelude.{◌≡◌, ℕ, ◌<◌, List, [], length, slice_get, slice_index_or, ℤ, Some, None}
use Rattle.design_ir.specs.declared.memory.MemRead.{MemRead}
use Rattle.design_ir.specs.declared.memory.Memory.{Memory}
use Rattle.design_ir.specs.Circuits.{Circuit, State, at}
use Rattle.design_ir.specs.Designs.{IsDesign}
use Rattle.design_ir.specs.Rows.{row_at}
use Rattle.design_ir.specs.Settled.{delta}

-- the row at its address
abbrev pub WordsAreRows : Type 0
WordsAreRows =
    (c : Circuit) → IsDesign c → (st : State) (env : List ℤ) (k i : ℕ) (m : Memory) (r : MemRead) → slice_get c.memories k ≡ Some m → slice_get m.reads i ≡ Some r → r.domain ≡ None → length st.rows ≡ length c.memories → r.word.0 < length c.pool.signals
    → at (delta c st env) r.word.0 ≡ row_at c.pool env (slice_index_or st.rows k []) r.addr
