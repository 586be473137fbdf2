-- The clocks of a simulator beside the design: which of them may not be. (That a clock is of a domain of the design, that a domain has one, and
-- that its period has two halves, is this project's own rule.)
use Rattle.std.specs.Prelude.{ℕ, nat_lt, ◌||◌, not, Bool, if◌then◌else◌, List, [], ◌∷◌, ◌++◌, Option, Some, None, is_some}
use Rattle.std.specs.List.{list_any}
use Rattle.lists.specs.Texts.{text_eq}
use Rattle.amh_host.specs.declared.place.Place.{Place}
use Rattle.design_ir.specs.Circuits.{Circuit, domain_named}
use Rattle.elab_store.specs.declared.simulation.ClockCall.{ClockCall}

abbrev pub is_clock_of : List ℕ → ClockCall → Bool
is_clock_of name c = text_eq c.domain name

-- no domain of the design has it, an earlier one is of this domain, or its period is below 2
abbrev pub is_no_clock : Circuit → List ClockCall → ClockCall → Bool
is_no_clock d before c = not (is_some (domain_named d c.domain)) || (list_any (is_clock_of c.domain) before || nat_lt c.period 2)

-- where the first of those is called that may not be, behind these
abbrev pub refused_clock : Circuit → List ClockCall → List ClockCall → Option Place
refused_clock d before [] = None
refused_clock d before (c ∷ cs) = if is_no_clock d before c then Some c.place else refused_clock d (before ++ c ∷ []) cs

abbrev pub clock_refused : Circuit → List ClockCall → Option Place
clock_refused d cs = refused_clock d [] cs
