-- The clock of a memory's port has its edge where the port's domain is active.
use Rattle.std.specs.Prelude.{◌≡◌, refl, ℕ, ◌<◌, nat_lt, Bool, true, false, cond, List, length, slice_get, ℤ, Option, Some, None, IsSome, option_map, unwrap_or, position}
use Rattle.std.specs.List.{position_or_len}
use Rattle.std.proofs.Common.{sym, ◌∙◌, ap, arith}
use Rattle.std.proofs.lemmas.Bool.{false≢true, ltb-true, or_left}
use Rattle.lists.specs.Texts.{text_eq}
use Rattle.design_ir.specs.declared.ids.DomainId.{DomainId}
use Rattle.design_ir.specs.declared.domain.Domain.{Domain}
use Rattle.design_ir.specs.declared.event.Event.TheVariants.{Edge}
use Rattle.design_ir.specs.Circuits.{Circuit, State, option_test, at, is_input, is_register, is_held, domain_named}
use Rattle.design_ir.specs.Designs.{IsClockDomain, IsDesign}
use Rattle.design_ir.specs.Legal.{Ascending}
use Rattle.design_ir.specs.Steps.{is_active, port_active, moved}
use Rattle.design_ir.proofs.NumbersFit.{element, FitsSignals}
use Rattle.rtlil_text.specs.Sources.{spec_bits}
use Rattle.rtlil_text.specs.Cells.{bit_at}
use Rattle.rtlil_text.specs.Meaning.{source_value}
use Rattle.rtlil_text.specs.History.{Wires, is_edge}
use Rattle.memory_cells.specs.declared.clock.Clock.{Clock}
use Rattle.memory_cells.specs.Clocks.{polarity}
use Rattle.netlist_laws.specs.Carried.{Carries}
use Rattle.netlist_laws.specs.Module.{signal_value, clock_of, no_clock}
use Rattle.netlist_laws.specs.MemoryDrawings.{port_clock}
use Rattle.netlist_laws.proofs.RegisterSteps.{all_at}
use Rattle.netlist_laws.proofs.ClockEdges.{active_edge}

pub position_there : {X : Type 0} (p : X → Bool) (xs : List X) (k : ℕ) → position p xs ≡ Some k → k < length xs
position_there p xs k e = by (nat_lt (position_or_len p xs) (length xs)) refl e
  where
    by : (t : Bool) → nat_lt (position_or_len p xs) (length xs) ≡ t → cond t (Some (position_or_len p xs)) None ≡ Some k → k < length xs
    by true h e = let same : position_or_len p xs ≡ k = cc in omega (arith, ltb-true (position_or_len p xs) (length xs) h, same)
    by false h e = cc

pub some_number : (o : Option ℕ) → IsSome o → (k : ℕ) × (o ≡ Some k)
some_number None h = absurd (false≢true h)
some_number (Some k) h = (k, refl)

-- the domain of a name, whose clock is that of the name
pub named_domain : (c : Circuit) (name : List ℕ) → IsSome (domain_named c name)
    → (d : DomainId) × (x : Domain) × (slice_get c.domains d.0 ≡ Some x) × (port_clock c name ≡ clock_of c d) × (domain_named c name ≡ Some d.0)
named_domain c name there =
    let number : (k : ℕ) × (domain_named c name ≡ Some k) = some_number (domain_named c name) there in
    let domain : (x : Domain) × (slice_get c.domains number.0 ≡ Some x) = element c.domains number.0 (position_there (λ (y : Domain). text_eq y.name name) c.domains number.0 number.1) in
    (record { 0 = number.0 }, domain.0, domain.1, ap (λ o. unwrap_or (option_map (λ k. clock_of c (record { 0 = k })) o) no_clock) number.1, number.1)

module _ (c : Circuit) (design : IsDesign c) (env : List ℤ) (fit : FitsSignals c.pool env) (st : State) (listed : List DomainId) (ordered : Ascending 0 listed) (count : length st.held ≡ length c.pool.signals)
    (same : (t : ℕ) → is_held c t ≡ true → at st.held t ≡ at env t) (name : List ℕ) (there : IsSome (domain_named c name)) where
  -- the clock's bit has its edge then
  pub port_edge : (old new : Wires) → ((t : ℕ) → Carries old (signal_value c t) (at env t)) → ((t : ℕ) → is_input c t ≡ true → Carries new (signal_value c t) (at (moved c st env (Edge listed)).held t))
      → is_edge (polarity (port_clock c name)) (bit_at (source_value old) (spec_bits (port_clock c name).bit) 0) (bit_at (source_value new) (spec_bits (port_clock c name).bit) 0) ≡ port_active c env listed (Some name)
  port_edge old new carried events =
      let named = named_domain c name there in
      let x : Domain = named.1 in
      let rule : IsClockDomain c x = all_at (IsClockDomain c) c.domains named.0.0 x design.domains named.2 in
      let held : is_held c x.clk.0 ≡ true = or_left (is_input c x.clk.0) (is_register c x.clk.0) rule.clock_input in
      ap (λ (w : Clock). is_edge (polarity w) (bit_at (source_value old) (spec_bits w.bit) 0) (bit_at (source_value new) (spec_bits w.bit) 0)) named.3
      ∙ active_edge c design env st listed ordered count named.0 x named.2 old new (same x.clk.0 held) (fit x.clk.0 rule.clock.there) (carried x.clk.0) (events x.clk.0 rule.clock_input)
      ∙ ap (option_test (is_active c env listed)) (sym named.4)
