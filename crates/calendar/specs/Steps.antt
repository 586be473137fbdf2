-- How the next moment is found.
-- Internal: no rule of the language.
use Rattle.std.specs.Prelude.{◌≡◌, ℕ, ◌+◌, ◌*◌, ◌<◌, ◌≤◌, min, Option, Some, None}
use Rattle.calendar.specs.declared.clock.Clock.{Clock}

-- the least of a clock's turns behind a moment, whatever the limit
pub record IsPast (c : Clock) (after next : ℕ) : Type 0 where
  pub turn : ℕ
  pub is : next ≡ c.phase + turn * c.half
  pub behind : after < next
  pub least : (k : ℕ) → after < c.phase + k * c.half → next ≤ c.phase + k * c.half

abbrev pub earlier : Option ℕ → Option ℕ → Option ℕ
earlier None b = b
earlier (Some a) None = Some a
earlier (Some a) (Some b) = Some (min a b)
