-- How many expressions and things there are.
use Rattle.std.specs.Prelude.{ℕ, ◌+◌, ◌^◌, ◌<◌, ◌≤◌}

pub record Ends : Type 0 where
  pub exprs : ℕ
  pub things : ℕ

-- a pool has room for 2 ^ 30 expressions, and each act finds 128 numbers for things whose numbers it tells
abbrev pub AreEnds : ℕ → ℕ → Type 0
AreEnds exprs things = (exprs ≤ 2 ^ 30) × (things + 128 < 2 ^ 32)
