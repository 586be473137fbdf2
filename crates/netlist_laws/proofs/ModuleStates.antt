-- A module in a state of its design: the wires of inputs, registers and clocked read ports have the numbers that the state holds.
use Rattle.std.specs.Prelude.{◌≡◌, ℕ, ◌<◌, ◌≤◌, ◌^◌, ◌==◌, ◌&&◌, ◌||◌, ◌⊎◌, Bool, true, false, List, length, slice_get, ℤ, pos, Option, Some, None, is_some, IsSomeAnd}
use Rattle.std.specs.List.{find, list_any}
use Rattle.std.proofs.Common.{refl, sym, ap, ◌∙◌, arith, subst, inl, inr, ⊎_elim}
use Rattle.std.proofs.lemmas.Bool.{false≢true}
use Rattle.amh_bits.specs.Patterns.{pattern}
use Rattle.shape_rules.specs.Forms.{Form}
use Rattle.design_ir.specs.declared.ids.DomainId.{DomainId}
use Rattle.design_ir.specs.declared.signal.Sig.{Sig}
use Rattle.design_ir.specs.declared.memory.MemRead.{MemRead}
use Rattle.design_ir.specs.declared.memory.Memory.{Memory}
use Rattle.design_ir.specs.declared.process.DesignProcess.{DesignProcess}
use Rattle.design_ir.specs.PoolRules.{IsPool}
use Rattle.design_ir.specs.Values.{signal_form}
use Rattle.design_ir.specs.Circuits.{Circuit, State, at, is_input, is_register, is_held}
use Rattle.design_ir.specs.Designs.{IsDesign, IsReadPort}
use Rattle.design_ir.proofs.NumbersFit.{element}
use Rattle.rtlil_text.specs.Rules.{IsModule}
use Rattle.rtlil_text.specs.Cells.{number_bits}
use Rattle.rtlil_text.specs.Meaning.{Inputs, source_value, driven_bit, State as Kept}
use Rattle.rtlil_text.specs.History.{Wires, wire_bit}
use Rattle.rtlil_text.proofs.Enough.{wire_bit-driven}
use Rattle.netlist_laws.specs.Carried.{Carries}
use Rattle.netlist_laws.specs.Histories.{signal_bits, inputs_at}
use Rattle.netlist_laws.specs.PortLaws.{WordsAreShown}
use Rattle.netlist_laws.specs.Module.{wire_id, signal_value, drives, driving, ByClock, ByNothing, is_there, module_of}
use Rattle.netlist_laws.specs.MemoryDrawings.{Placed, all_parts, memories_of}
use Rattle.netlist_laws.proofs.Reading.{HasBits, bit_of, carries_bits}
use Rattle.netlist_laws.proofs.BitWrites.{some_signal}
use Rattle.netlist_laws.proofs.OneDriver.{IsOnly, clocks_it, find_only, find_none, none_clock}
use Rattle.netlist_laws.proofs.Driven.{driven_by, distinct_processes, is_register-only, driving-clock}
use Rattle.netlist_laws.proofs.SignalWires.{input_driver}
use Rattle.netlist_laws.proofs.InputWires.{input_bits_are}
use Rattle.netlist_laws.proofs.RegisterWires.{kept_bit}
use Rattle.netlist_laws.proofs.CombSignals.{nothing_bits}
use Rattle.netlist_laws.proofs.ModuleObeys.{obeys_signal}
use Rattle.netlist_laws.proofs.KeptReads.{read_shown}
use Rattle.netlist_laws.proofs.KeptMemories.{IsReadAt, KeepsMemories, port_rules, read_among, read_wide}
use Rattle.netlist_laws.proofs.PortSignals.{HasPort, is_clocked_port, no_rows, port_of, drawn_at, driving-away}

-- two lists have the same numbers for the inputs
pub record AgreeOnInputs (c : Circuit) (xs ys : List ℤ) : Type 0 where
  pub long : length xs ≡ length ys
  pub same : (s : ℕ) → is_input c s ≡ true → at xs s ≡ at ys s

-- the registers of the module keep the bits of these numbers
abbrev pub Keeps : Circuit → Kept → List ℤ → Type 0
Keeps c kept held =
    (s : ℕ) (p : DesignProcess) (d : DomainId) → driving c s ≡ ByClock p d → (i : ℕ) → i < (signal_form c.pool.signals s).width → kept.registers (wire_id c s) i ≡ Some (bit_of (at held s) i)

-- ---- what clocks a register

pub record IsClockedBy (c : Circuit) (s : ℕ) : Type 0 where
  pub process : DesignProcess
  pub domain : DomainId
  pub clock : driving c s ≡ ByClock process domain

-- a process of a domain, or a clocked port
register_source : (c : Circuit) → IsDesign c → (s : ℕ) → is_input c s ≡ false → is_register c s ≡ true → IsClockedBy c s ⊎ HasPort c s is_clocked_port
register_source c design s none register = by (find (drives c s) c.processes) refl
  where
    by_domain : (p : DesignProcess) (d : Option DomainId) → p.domain ≡ d → find (drives c s) c.processes ≡ Some p → IsClockedBy c s ⊎ HasPort c s is_clocked_port
    by_domain p None h e =
        let o : IsOnly (driven_by c) s c.processes p = find_only (driven_by c) s c.processes p (distinct_processes c design) e in
        absurd (false≢true (ap is_some (sym h) ∙ sym (is_register-only c design s p o) ∙ register))
    by_domain p (Some d) h e = inl (record { process = p; domain = d; clock = driving-clock c s none p d e h })

    by : (o : Option DesignProcess) → find (drives c s) c.processes ≡ o → IsClockedBy c s ⊎ HasPort c s is_clocked_port
    by None e =
        let reads : Bool = list_any (λ (m : Memory). list_any (λ (r : MemRead). is_some r.domain && (r.word.0 == s)) m.reads) c.memories in
        let unclocked : list_any (clocks_it (driven_by c) s) c.processes ≡ false = none_clock (driven_by c) s c.processes (find_none (driven_by c) s c.processes e) in
        inr (port_of c s is_clocked_port (ap (λ t. t || reads) (sym unclocked) ∙ register))
    by (Some p) e = by_domain p p.domain refl e

-- ---- the wires of inputs

module _ (c : Circuit) (design : IsDesign c) (rules : IsModule (module_of c)) (kept : Kept) (ins : List ℤ) where
  pub input_wire_bit : (s i : ℕ) → is_input c s ≡ true → i < (signal_form c.pool.signals s).width → wire_bit (module_of c) kept (inputs_at c ins) (wire_id c s) i ≡ slice_get (signal_bits c ins s) i
  input_wire_bit s i input inside =
      let some : 1 ≤ (signal_form c.pool.signals s).width = omega (arith, inside) in
      wire_bit-driven (module_of c) kept (inputs_at c ins) (wire_id c s) i
      ∙ ap (driven_bit (module_of c) kept (inputs_at c ins) (source_value (wire_bit (module_of c) kept (inputs_at c ins))) (wire_id c s) i) (input_driver c design rules s (some_signal c.pool.signals s some) some input i)
      ∙ input_bits_are c design ins s input i

  pub input_carries : (held : List ℤ) → AgreeOnInputs c ins held → (s : ℕ) → is_input c s ≡ true → Carries (wire_bit (module_of c) kept (inputs_at c ins)) (signal_value c s) (at held s)
  input_carries held agree s input i inside =
      let w : ℕ = (signal_form c.pool.signals s).width in
      input_wire_bit s i input inside ∙ ap (λ z. slice_get (number_bits w (pattern w z)) i) (agree.same s input)

-- ---- a signal that nothing drives

module _ (c : Circuit) (rules : IsModule (module_of c)) (kept : Kept) (inputs : Inputs) (s : ℕ) (some : 1 ≤ (signal_form c.pool.signals s).width) where
  -- the number of a port's signal is 0 there
  pub undriven_bits : driving c s ≡ ByNothing → IsSomeAnd (slice_get c.pool.signals s) (λ (x : Sig). x.init ≡ pos 0) → HasBits (wire_bit (module_of c) kept inputs) (wire_id c s) (signal_form c.pool.signals s).width (pos 0)
  undriven_bits none zero =
      let there : s < length c.pool.signals = some_signal c.pool.signals s some in
      let x : (y : Sig) × (slice_get c.pool.signals s ≡ Some y) = element c.pool.signals s there in
      subst (λ z. HasBits (wire_bit (module_of c) kept inputs) (wire_id c s) (signal_form c.pool.signals s).width z) (subst (λ o. IsSomeAnd o (λ (y : Sig). y.init ≡ pos 0)) x.1 zero)
      (nothing_bits c s (wire_bit (module_of c) kept inputs) some (obeys_signal c rules kept inputs s there) x.0 x.1 none)

-- ---- the wires of all that a state holds

module _ (c : Circuit) (pool : IsPool c.pool) (design : IsDesign c) (few : length (all_parts (memories_of c)) < 10 ^ 18) (rules : IsModule (module_of c)) (shown : WordsAreShown) (st : State) (kept : Kept) (ins : List ℤ)
    (memories : KeepsMemories c kept st) (agree : AgreeOnInputs c ins st.held) (keeps : Keeps c kept st.held) where
  abbrev wires : Wires
  wires = wire_bit (module_of c) kept (inputs_at c ins)

  -- the wire of the signal has the bits of its number
  abbrev Has : ℕ → Type 0
  Has s = HasBits wires (wire_id c s) (signal_form c.pool.signals s).width (at st.held s)

  register_has : (s : ℕ) → IsClockedBy c s → Has s
  register_has s k = record { at = λ i l. kept_bit c design rules s k.process k.domain k.clock i l kept (inputs_at c ins) ∙ keeps s k.process k.domain k.clock i l }

  -- of a port whose memory is one of the module
  drawn_has : (n : ℕ) (x : Placed) (r : MemRead) (o : Option (List ℕ)) → r.domain ≡ o → is_some o ≡ true → IsReadAt c n x r → Has r.word.0
  drawn_has n x r None e some here = absurd (false≢true some)
  drawn_has n x r (Some d) e some here =
      let wide : (signal_form c.pool.signals r.word.0).width ≡ x.memory.shape.width = read_wide c pool design few rules n x r here in
      record {
        at = λ i l.
            read_shown c rules x.plan x.memory n r d e (read_among c pool design few rules n x r here) kept (inputs_at c ins) shown wide st.held (memories.reads n x r d here e) i (omega (arith, l, wide));
      }

  -- of a port whose memory has no rows
  dry_has : (s : ℕ) (h : HasPort c s is_clocked_port) → is_there h.memory ≡ false → driving c s ≡ ByNothing → Has s
  dry_has s h away none = record {
    at = λ i l.
        let rule : IsReadPort c h.memory h.port = port_rules c design h.memory h.port h.stored h.among in
        let wide : (signal_form c.pool.signals h.port.word.0).width ≡ h.memory.shape.width = ap (λ (f : Form). f.width) rule.word.shape in
        let own : (signal_form c.pool.signals s).width ≡ h.memory.shape.width = ap (λ k. (signal_form c.pool.signals k).width) (sym h.word) ∙ wide in
        let number : at st.held s ≡ pos 0 = ap (at st.held) (sym h.word) ∙ memories.dry h.memory h.port h.stored (no_rows h.memory away (omega (arith, own, l))) h.among in
        (undriven_bits c rules kept (inputs_at c ins) s (omega (arith, l)) none (subst (λ k. IsSomeAnd (slice_get c.pool.signals k) (λ (y : Sig). y.init ≡ pos 0)) h.word rule.word_init)).at i l
        ∙ ap (λ z. Some (bit_of z i)) (sym number);
  }

  port_has : (s : ℕ) → HasPort c s is_clocked_port → Has s
  port_has s h = by (is_there h.memory) refl
    where
      by : (b : Bool) → is_there h.memory ≡ b → Has s
      by true there =
          let d = drawn_at c h.memory h.port h.stored there h.among in
          subst Has h.word (drawn_has d.number d.placed h.port h.port.domain refl h.is d.here)
      by false away = dry_has s h away (driving-away c design s is_clocked_port h away)

  pub held_carries : (s : ℕ) → is_held c s ≡ true → Carries wires (signal_value c s) (at st.held s)
  held_carries s e = by (is_input c s) refl
    where
      by : (t : Bool) → is_input c s ≡ t → Carries wires (signal_value c s) (at st.held s)
      by true input = input_carries c design rules kept ins st.held agree s input
      by false none =
          carries_bits wires (signal_value c s) (at st.held s)
          (⊎_elim (λ (p : IsClockedBy c s). register_has s p) (λ (r : HasPort c s is_clocked_port). port_has s r) (register_source c design s none (sym (ap (λ t. t || is_register c s) none) ∙ e)))
