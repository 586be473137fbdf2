-- The domains whose clocks toggle at a moment.
-- Source: this project's own rule (docs/RULES.md): clocks that toggle together do so in one event.
use Rattle.std.specs.Prelude.{◌≡◌, ℕ, ◌-◌, ◌%◌, ◌^◌, ◌<◌, nat_lt, nat_le, ◌==◌, ◌&&◌, Bool, List, length, map, filter}
use Rattle.std.specs.List.{AllByRecursion, list_any, range_with_len}
use Rattle.design_ir.specs.declared.ids.DomainId.{DomainId}
use Rattle.design_ir.specs.declared.event.Event.TheVariants.{Edge}
use Rattle.design_ir.specs.Circuits.{Circuit}
use Rattle.design_ir.specs.Legal.{IsLegal}
use Rattle.calendar.specs.declared.clock.Clock.{Clock}

-- below 2^63 and not before the phase, and half a period divides what is between
abbrev pub toggles : ℕ → Clock → Bool
toggles m c = nat_lt m (2 ^ 63) && (nat_le c.phase m && ((m - c.phase) % c.half == 0))

abbrev pub is_due : List Clock → ℕ → Bool
is_due clocks m = list_any (toggles m) clocks

abbrev pub domain : ℕ → DomainId
domain k = record { 0 = k }

abbrev pub clocks_of : DomainId → List Clock → List Clock
clocks_of d clocks = filter (λ (c : Clock). c.domain.0 == d.0) clocks

-- of so many domains, in their order, those with a clock that is due
abbrev pub due_domains : List Clock → ℕ → ℕ → List DomainId
due_domains clocks domains m = filter (λ (d : DomainId). is_due (clocks_of d clocks) m) (map domain (range_with_len 0 domains))

abbrev pub AreWithin : ℕ → List Clock → Type 0
AreWithin domains clocks = AllByRecursion (λ (c : Clock). c.domain.0 < domains) clocks

-- an event that each design with so many domains takes
abbrev pub AreAnEvent : ℕ → List DomainId → Type 0
AreAnEvent domains due = (c : Circuit) → length c.domains ≡ domains → IsLegal c (Edge due)
