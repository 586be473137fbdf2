-- What is proved of the moments at which clocks toggle.
-- Source: those of Moments and Due.
use Rattle.std.specs.Prelude.{◌≡◌, ◌≢◌, ℕ, ◌+◌, ◌*◌, ◌<◌, ◌≤◌, ◌^◌, ◌⊎◌, ◌↔◌, true, ⊤, List, [], ◌∷◌, slice_get, Contains, Option, Some, None}
use Rattle.design_ir.specs.declared.ids.DomainId.{DomainId}
use Rattle.calendar.specs.declared.clock.Clock.{Clock}
use Rattle.calendar.specs.Moments.{IsClock, Toggles, IsMoment, IsBehind, IsNext}
use Rattle.calendar.specs.Due.{toggles, is_due, clocks_of, due_domains, AreWithin, AreAnEvent}

-- ---- one clock

-- the test says where a clock toggles
abbrev pub TestsAreToggles : Type 0
TestsAreToggles = (c : Clock) (m : ℕ) → (toggles m c ≡ true) ↔ Toggles c m

-- it begins at its phase
abbrev pub PhasesAreFirst : Type 0
PhasesAreFirst = (c : Clock) → c.phase < 2 ^ 63 → IsNext (c ∷ []) None (Some c.phase)

-- behind each moment the next one is a half away, unless it would be past the limit: then there is none
abbrev pub NextIsAHalfAway : Type 0
NextIsAHalfAway = (c : Clock) (m : ℕ) → IsClock c → Toggles c m → m + c.half < 2 ^ 63 → IsNext (c ∷ []) (Some m) (Some (m + c.half))

abbrev pub LastIsLast : Type 0
LastIsLast = (c : Clock) (m : ℕ) → IsClock c → Toggles c m → 2 ^ 63 ≤ m + c.half → IsNext (c ∷ []) (Some m) None

-- ---- several clocks, from moment to moment

-- there is one next moment at most
abbrev pub NextIsOne : Type 0
NextIsOne = (clocks : List Clock) (after one other : Option ℕ) → IsNext clocks after one → IsNext clocks after other → one ≡ other

-- these moments, each the next behind the one before it
abbrev pub Follow : List Clock → Option ℕ → List ℕ → Type 0
Follow clocks after [] = ⊤
Follow clocks after (m ∷ ms) = IsNext clocks after (Some m) × Follow clocks (Some m) ms

-- the moment before which all of these are
abbrev pub last_of : Option ℕ → List ℕ → Option ℕ
last_of after [] = after
last_of after (m ∷ ms) = last_of (Some m) ms

-- of moments one after another none is passed over: what is due behind the first is one of them, or behind them all
abbrev pub NoneIsPassed : Type 0
NoneIsPassed = (clocks : List Clock) (after : Option ℕ) (ms : List ℕ) (m : ℕ) → Follow clocks after ms → IsBehind after m → IsMoment clocks m → Contains ms m ⊎ IsBehind (last_of after ms) m

-- the moments of one clock: the one at place k is k halves behind the phase
abbrev pub TurnsAreInOrder : Type 0
TurnsAreInOrder = (c : Clock) (ms : List ℕ) (k m : ℕ) → IsClock c → Follow (c ∷ []) None ms → slice_get ms k ≡ Some m → m ≡ c.phase + k * c.half

-- ---- what is due

-- something is due at the moments alone
abbrev pub DueIsMoment : Type 0
DueIsMoment = (clocks : List Clock) (m : ℕ) → (is_due clocks m ≡ true) ↔ IsMoment clocks m

-- the domains that are due are those with a clock that toggles
abbrev pub DueHaveClocks : Type 0
DueHaveClocks = (clocks : List Clock) (domains m : ℕ) (d : DomainId) → AreWithin domains clocks → Contains (due_domains clocks domains m) d ↔ IsMoment (clocks_of d clocks) m

-- there are some exactly at the moments
abbrev pub DueAreSome : Type 0
DueAreSome = (clocks : List Clock) (domains m : ℕ) → AreWithin domains clocks → (due_domains clocks domains m ≢ []) ↔ IsMoment clocks m

-- and then they are an event
abbrev pub DueAreAnEvent : Type 0
DueAreAnEvent = (clocks : List Clock) (domains m : ℕ) → due_domains clocks domains m ≢ [] → AreAnEvent domains (due_domains clocks domains m)
