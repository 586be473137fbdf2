-- How many statements modules have.
use Rattle.std.specs.Prelude.{ℕ, ◌+◌, List, [], ◌∷◌}
use Rattle.module_dsl.specs.Builders.{Built, built_count}

-- all statements of the design
abbrev pub statement_count : List Built → ℕ
statement_count [] = 0
statement_count (b ∷ bs) = built_count b + statement_count bs
