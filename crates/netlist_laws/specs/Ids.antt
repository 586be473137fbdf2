-- Ids of the wires and cells that only the module names. The numbers of one kind of thing leave one remainder by 4.
use Rattle.std.specs.Prelude.{ℕ, ◌+◌, ◌*◌, List, ◌∷◌}
use Rattle.std.specs.Fmt.{decimal}

abbrev pub inner_id : ℕ → List ℕ
inner_id n = 36 ∷ decimal n

-- the wire of a signal that no column shows
abbrev pub signal_id : ℕ → List ℕ
signal_id s = inner_id (4 * s)

-- the wire of expression k
abbrev pub value_id : ℕ → List ℕ
value_id k = inner_id (4 * k + 1)

-- the other wires and the cells of expressions, numbered from 0
abbrev pub part_id : ℕ → List ℕ
part_id n = inner_id (4 * n + 2)

-- the wires and the cells of statements, registers and memories, numbered from 0
abbrev pub step_id : ℕ → List ℕ
step_id n = inner_id (4 * n + 3)
