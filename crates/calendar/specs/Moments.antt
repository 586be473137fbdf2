-- The moments at which clocks toggle.
-- Source: Amaranth user guide 0.5, "Simulator", `add_clock`: the clock of a domain toggles at its phase and every half of its period from
-- there. That moments are below 2^63 femtoseconds is this project's own rule (docs/RULES.md).
use Rattle.std.specs.Prelude.{◌≡◌, ℕ, ◌+◌, ◌*◌, ◌<◌, ◌^◌, ◌⊎◌, ⊤, List, [], ◌∷◌, Option, Some, None}
use Rattle.std.specs.List.{AllByRecursion}
use Rattle.calendar.specs.declared.clock.Clock.{Clock}

-- half a period is more than nothing and below 2^63
pub record IsClock (c : Clock) : Type 0 where
  pub some : 0 < c.half
  pub below : c.half < 2 ^ 63

abbrev pub AreClocks : List Clock → Type 0
AreClocks clocks = AllByRecursion IsClock clocks

-- a clock toggles at its phase and some halves behind it, below 2^63
pub record Toggles (c : Clock) (m : ℕ) : Type 0 where
  pub turn : ℕ
  pub is : m ≡ c.phase + turn * c.half
  pub below : m < 2 ^ 63

-- some clock toggles
abbrev pub IsMoment : List Clock → ℕ → Type 0
IsMoment [] m = ⊥
IsMoment (c ∷ cs) m = Toggles c m ⊎ IsMoment cs m

-- behind a moment, or anywhere
abbrev pub IsBehind : Option ℕ → ℕ → Type 0
IsBehind None m = ⊤
IsBehind (Some after) m = after < m

-- a moment behind `after` of some clock, with none between
pub record IsLeast (clocks : List Clock) (after : Option ℕ) (next : ℕ) : Type 0 where
  pub moment : IsMoment clocks next
  pub behind : IsBehind after next
  pub none : (m : ℕ) → IsBehind after m → m < next → IsMoment clocks m → ⊥

-- the next moment behind `after`, or that there is none
abbrev pub IsNext : List Clock → Option ℕ → Option ℕ → Type 0
IsNext clocks after (Some next) = IsLeast clocks after next
IsNext clocks after None = (m : ℕ) → IsBehind after m → IsMoment clocks m → ⊥
