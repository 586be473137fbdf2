-- The events that a design takes.
use Rattle.std.specs.Prelude.{◌≡◌, ◌≢◌, ◌<◌, ◌≤◌, ℕ, suc, false, IsTrue, ⊤, List, [], ◌∷◌, length}
use Rattle.std.specs.List.{AllByRecursion}
use Rattle.amh_bits.specs.Patterns.{IsOf}
use Rattle.design_ir.specs.declared.ids.DomainId.{DomainId}
use Rattle.design_ir.specs.declared.event.Event.{Event}
use Rattle.design_ir.specs.declared.event.Event.TheVariants.{Set, Edge}
use Rattle.design_ir.specs.Values.{signal_form}
use Rattle.design_ir.specs.Circuits.{Circuit, is_input, is_clock}

-- distinct and in domain order: each is past the one before it, and the first is at least `least`
abbrev pub Ascending : ℕ → List DomainId → Type 0
Ascending least [] = ⊤
Ascending least (d ∷ ds) = (least ≤ d.0) × Ascending (suc d.0) ds

-- an input that is no clock takes a number of its shape, or the clocks of at least one domain toggle
abbrev pub IsLegal : Circuit → Event → Type 0
IsLegal c (Set s n) =
    IsTrue (is_input c s.0) × (is_clock c s.0 ≡ false) × IsOf (signal_form c.pool.signals s.0).signed (signal_form c.pool.signals s.0).width n
IsLegal c (Edge ds) = (ds ≢ []) × AllByRecursion (λ (d : DomainId). d.0 < length c.domains) ds × Ascending 0 ds

abbrev pub AllLegal : Circuit → List Event → Type 0
AllLegal c es = AllByRecursion (IsLegal c) es
