-- A list of which some places are replaced.
use Rattle.std.specs.Prelude.{ℕ, ◌+◌, List, ◌++◌, length, take, drop}

-- from one place on these elements
abbrev pub replaced : {A : Type 0} → List A → ℕ → List A → List A
replaced xs low ys = take low xs ++ (ys ++ drop (low + length ys) xs)
