-- A module in a state of its design is, after an event, in the state after it.
use Rattle.std.specs.Prelude.{◌≡◌, ◌≢◌, ℕ, zero, suc, ◌*◌, ◌<◌, ◌≤◌, ◌==◌, ◌&&◌, Bool, true, false, not, cond, List, [], ◌∷◌, map, length, slice_get, slice_set, ℤ, pos, ◌-ℤ◌, Option, Some, None, fold, option_map, unwrap_or}
use Rattle.std.proofs.Common.{refl, sym, ap, ◌∙◌, arith, subst, inl, inr, ⊎_elim}
use Rattle.std.proofs.lemmas.Bool.{false≢true, cases_eq, cases_lt, or_left, eq-eqb}
use Rattle.std.proofs.lemmas.List.{length-set, get_or-set_same, get_or-set_other, get_or_past}
use Rattle.amh_bits.specs.Patterns.{pattern}
use Rattle.shape_rules.specs.Forms.{Form}
use Rattle.shape_rules.specs.Operators.{is_zero}
use Rattle.design_ir.specs.declared.ids.DomainId.{DomainId}
use Rattle.design_ir.specs.declared.ids.SigId.{SigId}
use Rattle.design_ir.specs.declared.signal.Sig.{Sig}
use Rattle.design_ir.specs.declared.domain.Domain.{Domain}
use Rattle.design_ir.specs.declared.process.DesignProcess.{DesignProcess}
use Rattle.design_ir.specs.declared.event.Event.{Event}
use Rattle.design_ir.specs.declared.event.Event.TheVariants.{Set, Edge}
use Rattle.design_ir.specs.PoolRules.{IsPool}
use Rattle.design_ir.specs.Values.{signal_form}
use Rattle.design_ir.specs.Circuits.{Circuit, State, at, is_input, is_register, is_held}
use Rattle.design_ir.specs.Designs.{IsClockDomain, IsDesign}
use Rattle.design_ir.specs.Legal.{IsLegal}
use Rattle.design_ir.specs.Steps.{clocked, clocked_reads, toggle_at, toggle, clock_low, moved, step, first_state}
use Rattle.design_ir.specs.Settled.{Settled}
use Rattle.design_ir.proofs.NumbersFit.{element, FitsSignals}
use Rattle.design_ir.proofs.Events.{settable_there}
use Rattle.rtlil_text.proofs.Among.{Among, AllByRecursion-among}
use Rattle.rtlil_text.specs.Rules.{IsModule}
use Rattle.rtlil_text.specs.Sources.{spec_bits}
use Rattle.rtlil_text.specs.Cells.{number_bits, bit_at}
use Rattle.rtlil_text.specs.Meaning.{source_value, State as Kept}
use Rattle.rtlil_text.specs.History as rtl
use Rattle.rtlil_text.specs.History.{wire_bit, is_edge, is_level, next_bit}
use Rattle.memory_cells.specs.Clocks.{polarity}
use Rattle.netlist_laws.specs.Ids.{step_id}
use Rattle.netlist_laws.specs.Carried.{IsIn, Carries}
use Rattle.netlist_laws.specs.Operators.{whole}
use Rattle.netlist_laws.specs.Plain.{ArePlain}
use Rattle.netlist_laws.specs.Histories.{inputs_at, inputs_after}
use Rattle.netlist_laws.specs.Module.{wire_id, signal_value, driving, ByClock, reset_of, clock_of, module_of, clock_at, no_clock, init_bits, is_async, Heeding, NoReset, AtEdges, AtOnce, heeding}
use Rattle.netlist_laws.proofs.Reading.{bit_of, slice_get-pattern}
use Rattle.netlist_laws.proofs.BitWrites.{some_signal}
use Rattle.netlist_laws.proofs.SignalBits.{bit_at-signal}
use Rattle.netlist_laws.proofs.SourcedSpecs.{init_bits_are}
use Rattle.netlist_laws.proofs.Heedings.{at_once}
use Rattle.netlist_laws.proofs.ResetLaws.{IsResetOf, is_reset-of, reset_of-some}
use Rattle.netlist_laws.proofs.Linked.{bit_at-whole}
use Rattle.netlist_laws.proofs.OneDriver.{fold_none, length-fold}
use Rattle.netlist_laws.proofs.Driven.{driven_by, input_none, input_unread}
use Rattle.netlist_laws.proofs.ReadOnce.{clocked_reads-other, length-clocked_reads}
use Rattle.netlist_laws.proofs.RegisterSteps.{is_clocked, all_at, clocked_at-other, length-clocked_at, next_spec, IsCalm}
use Rattle.netlist_laws.proofs.RegisterClears.{any_at, length-clears, none_cleared, reset_there, reset_shape, reset_input, reset_still, is_clear, cleared_register}
use Rattle.netlist_laws.proofs.ClockEdges.{length-toggle_at}
use Rattle.netlist_laws.proofs.RegisterCells.{register_at, its_domain, taken, is_clear_now, next_bit-by, taken-register}
use Rattle.netlist_laws.proofs.HeldFits.{length-moved}
use Rattle.netlist_laws.proofs.SettledNumbers.{length-settled, settled_held}
use Rattle.netlist_laws.proofs.ModuleObeys.{obeys_signal}
use Rattle.netlist_laws.proofs.SettledWires.{Shows}
use Rattle.netlist_laws.proofs.RegisterWires.{next_register_is, first_register_is}
use Rattle.netlist_laws.proofs.ModuleStates.{AgreeOnInputs, Keeps, input_wire_bit, input_carries}

-- ---- the numbers of inputs

module _ (c : Circuit) (design : IsDesign c) where
  set_agrees : (xs ys : List ℤ) (s : ℕ) (n : ℤ) → s < length xs → AgreeOnInputs c xs ys → AgreeOnInputs c (slice_set xs s n) (slice_set ys s n)
  set_agrees xs ys s n there h = record {
    long = length-set xs s n ∙ h.long ∙ sym (length-set ys s n);
    same = λ t e. ⊎_elim
        (λ (q : t ≡ s).
        ap (at (slice_set xs s n)) q ∙ get_or-set_same xs s n (pos 0) there ∙ sym (ap (at (slice_set ys s n)) q ∙ get_or-set_same ys s n (pos 0) (let l : s < length ys = omega (arith, there, h.long) in l)))
        (λ (q : t ≢ s). get_or-set_other xs s t n (pos 0) q ∙ h.same t e ∙ sym (get_or-set_other ys s t n (pos 0) q))
        (cases_eq t s);
  }

  toggle_at_agrees : (d : ℕ) (xs ys : List ℤ) (o : Option Domain) → slice_get c.domains d ≡ o → length xs ≡ length c.pool.signals → AgreeOnInputs c xs ys → AgreeOnInputs c (toggle_at xs o) (toggle_at ys o)
  toggle_at_agrees d xs ys None e long h = h
  toggle_at_agrees d xs ys (Some x) e long h =
      let rule : IsClockDomain c x = all_at (IsClockDomain c) c.domains d x design.domains e in
      let same : at xs x.clk.0 ≡ at ys x.clk.0 = h.same x.clk.0 rule.clock_input in
      subst (λ z. AgreeOnInputs c (slice_set xs x.clk.0 (pos 1 -ℤ at xs x.clk.0)) (slice_set ys x.clk.0 (pos 1 -ℤ z))) same
      (set_agrees xs ys x.clk.0 (pos 1 -ℤ at xs x.clk.0) (omega (arith, rule.clock.there, long)) h)

  toggles_agree : (ds : List DomainId) (xs ys : List ℤ) → length xs ≡ length c.pool.signals → AgreeOnInputs c xs ys → AgreeOnInputs c (fold (toggle c.domains) xs ds) (fold (toggle c.domains) ys ds)
  toggles_agree [] xs ys long h = h
  toggles_agree (d ∷ ds) xs ys long h =
      toggles_agree ds (toggle c.domains xs d) (toggle c.domains ys d) (length-toggle_at xs (slice_get c.domains d.0) ∙ long) (toggle_at_agrees d.0 xs ys (slice_get c.domains d.0) refl long h)

  -- inputs are after an event what the design holds of them
  pub inputs_agree : (st : State) (env : List ℤ) (ins : List ℤ) (e : Event) → IsLegal c e → length st.held ≡ length c.pool.signals → AgreeOnInputs c ins st.held
      → AgreeOnInputs c (inputs_after c ins e) (moved c st env e).held
  inputs_agree st env ins (Set s n) legal long h =
      let there : s.0 < length c.pool.signals = settable_there c s.0 design (λ i. legal.0 i && not (legal.1 i)) in
      set_agrees ins st.held s.0 n (omega (arith, there, long, h.long)) h
  inputs_agree st env ins (Edge ds) legal long h =
      let after : List ℤ = fold (clocked c env ds) st.held c.processes in
      let read : List ℤ = clocked_reads c env ds c.memories st.rows after in
      let count : length after ≡ length st.held =
      length-fold (driven_by c) 0 (clocked c env ds) (λ cur q. length-clocked_at c env ds 0 q cur q.domain) (λ cur q k. clocked_at-other c env ds 0 q cur q.domain k) c.processes st.held in
      let still : AgreeOnInputs c ins read = record {
        long = h.long ∙ sym (length-clocked_reads c env ds c.memories st.rows after ∙ count);
        same = λ s e.
            h.same s e
            ∙ sym (clocked_reads-other c env ds s c.memories st.rows after (input_unread c s design e) ∙ fold_none (driven_by c) s (clocked c env ds) (λ cur q. length-clocked_at c env ds s q cur q.domain) (λ cur q k. clocked_at-other c env ds s q cur q.domain k) c.processes st.held (input_none c s design e));
      } in
      toggles_agree ds ins read (h.long ∙ long) still

  -- which no reset touches
  pub inputs_step : (st : State) (env : List ℤ) (ins : List ℤ) (e : Event) → IsLegal c e → length st.held ≡ length c.pool.signals → AgreeOnInputs c ins st.held
      → AgreeOnInputs c (inputs_after c ins e) (step c st env e).held
  inputs_step st env ins e legal long h =
      let after : State = moved c st env e in
      let agree = inputs_agree st env ins e legal long h in
      record { long = agree.long ∙ sym (length-clears c after.held c.processes after.held); same = λ s input. agree.same s input ∙ sym (none_cleared c after s (input_none c s design input)) }

-- ---- registers at first

init_of : (sigs : List Sig) (s : ℕ) (x : Sig) → slice_get sigs s ≡ Some x → at (map (λ (y : Sig). y.init) sigs) s ≡ x.init
init_of [] s x e = cc
init_of (y ∷ sigs) zero x e = let same : y ≡ x = cc in ap (λ (z : Sig). z.init) same
init_of (y ∷ sigs) (suc s) x e = init_of sigs s x e

low_other : (ds : List Domain) (xs : List ℤ) (s : ℕ) → ((d : Domain) → Among ds d → s ≢ d.clk.0) → at (fold clock_low xs ds) s ≡ at xs s
low_other [] xs s apart = refl
low_other (d ∷ ds) xs s apart = low_other ds (clock_low xs d) s (λ x a. apart x (inr a)) ∙ get_or-set_other xs d.clk.0 s (pos 0) (pos 0) (apart d (inl refl))

module _ (c : Circuit) (design : IsDesign c) (module_rules : IsModule (module_of c)) where
  pub first_keeps : Keeps c (rtl.first_state (module_of c)) (first_state c).held
  first_keeps s p d clock i l =
      let there : s < length c.pool.signals = some_signal c.pool.signals s (omega (arith, l)) in
      let x : (y : Sig) × (slice_get c.pool.signals s ≡ Some y) = element c.pool.signals s there in
      let none : is_input c s ≡ false = (is_clocked c p d s clock).no_input in
      let apart : (y : Domain) → Among c.domains y → s ≢ y.clk.0 = λ y a q. false≢true (sym none ∙ ap (is_input c) q ∙ (AllByRecursion-among (IsClockDomain c) c.domains y design.domains a).clock_input) in
      first_register_is c design module_rules s p d clock i l x.0 x.1
      ∙ ap (λ z. Some (bit_of z i)) (sym (low_other c.domains (map (λ (y : Sig). y.init) c.pool.signals) s apart ∙ init_of c.pool.signals s x.0 x.1))

-- ---- what a state holds, the settled environment has

module _ (c : Circuit) (design : IsDesign c) (st : State) (env : List ℤ) (settled : Settled c st env) (count : length st.held ≡ length c.pool.signals) where
  pub held_same : (t : ℕ) → is_held c t ≡ true → at st.held t ≡ at env t
  held_same t e = ⊎_elim
      (λ (there : t < length c.pool.signals). sym (settled_held c env design st settled t there e))
      (λ (past : length c.pool.signals ≤ t).
      get_or_past st.held t (pos 0) (omega (arith, past, count)) ∙ sym (get_or_past env t (pos 0) (omega (arith, past, length-settled c env design st settled t))))
      (cases_lt t (length c.pool.signals))

-- ---- registers after an event

pub unmoved : (falling : Bool) (v : Option Bool) → is_edge (cond falling 0 1) v v ≡ false
unmoved falling None = refl
unmoved true (Some true) = refl
unmoved true (Some false) = refl
unmoved false (Some true) = refl
unmoved false (Some false) = refl

-- the bit of a clock stays where an input takes a number
module _ (c : Circuit) (design : IsDesign c) (module_rules : IsModule (module_of c)) (kept : Kept) (ins : List ℤ) (d : DomainId) (x : Domain) (is : slice_get c.domains d.0 ≡ Some x) (t : SigId) (n : ℤ) (legal : IsLegal c (Set t n)) where
  pub clock_still : bit_at (source_value (wire_bit (module_of c) kept (inputs_at c (slice_set ins t.0 n)))) (spec_bits (clock_of c d).bit) 0 ≡ bit_at (source_value (wire_bit (module_of c) kept (inputs_at c ins))) (spec_bits (clock_of c d).bit) 0
  clock_still =
      let rule : IsClockDomain c x = all_at (IsClockDomain c) c.domains d.0 x design.domains is in
      let clk : ℕ = x.clk.0 in
      let w : ℕ = (signal_form c.pool.signals clk).width in
      let wide : w ≡ 1 = ap (λ (f : Form). f.width) rule.clock.shape in
      let apart : clk ≢ t.0 = λ q. false≢true (sym legal.1 ∙ any_at (λ (y : Domain). y.clk.0 == t.0) c.domains d.0 x is (eq-eqb clk t.0 q)) in
      let spec : (clock_of c d).bit ≡ whole (signal_value c clk) = ap (λ o. (unwrap_or (option_map (clock_at c) o) no_clock).bit) is in
      let bit = λ (xs : List ℤ). bit_at-whole (wire_bit (module_of c) kept (inputs_at c xs)) (signal_value c clk) 0 (omega (arith, wide)) ∙ input_wire_bit c design module_rules kept xs clk 0 rule.clock_input (omega (arith, wide)) in
      ap (λ v. bit_at (source_value (wire_bit (module_of c) kept (inputs_at c (slice_set ins t.0 n)))) (spec_bits v) 0) spec
      ∙ bit (slice_set ins t.0 n)
      ∙ ap (λ z. slice_get (number_bits w (pattern w z)) 0) (get_or-set_other ins t.0 clk n (pos 0) apart)
      ∙ sym (bit ins)
      ∙ ap (λ v. bit_at (source_value (wire_bit (module_of c) kept (inputs_at c ins))) (spec_bits v) 0) (sym spec)

module _ (c : Circuit) (rules : IsPool c.pool) (design : IsDesign c) (plain : ArePlain c) (module_rules : IsModule (module_of c))
    (st : State) (env : List ℤ) (settled : Settled c st env) (fit : FitsSignals c.pool env) (kept : Kept) (ins : List ℤ) (count : length st.held ≡ length c.pool.signals) (agree : AgreeOnInputs c ins st.held) (keeps : Keeps c kept st.held)
    (signals : (s : ℕ) → Carries (wire_bit (module_of c) kept (inputs_at c ins)) (signal_value c s) (at env s)) (shows : Shows (wire_bit (module_of c) kept (inputs_at c ins)) c env) where
  -- the wires of inputs after an event
  inputs_carry : (e : Event) → IsLegal c e → (t : ℕ) → is_input c t ≡ true → Carries (wire_bit (module_of c) kept (inputs_at c (inputs_after c ins e))) (signal_value c t) (at (moved c st env e).held t)
  inputs_carry e legal t input = input_carries c design module_rules kept (inputs_after c ins e) (moved c st env e).held (inputs_agree c design st env ins e legal count agree) t input

  module _ (s : ℕ) (p : DesignProcess) (d : DomainId) (clock : driving c s ≡ ByClock p d) (i : ℕ) (l : i < (signal_form c.pool.signals s).width) where
    abbrev id : List ℕ
    id = step_id (3 * s)

    there : s < length c.pool.signals
    there = some_signal c.pool.signals s (omega (arith, l))

    sig : (x : Sig) × (slice_get c.pool.signals s ≡ Some x)
    sig = element c.pool.signals s there

    abbrev took : (e : Event) → Option Bool
    took e = taken c s p d id (module_of c) kept (inputs_at c ins) (inputs_at c (inputs_after c ins e)) (heeding c s d) i (kept.registers (wire_id c s) i)

    -- ---- an input takes a number

    set_takes : (t : SigId) (n : ℤ) → IsLegal c (Set t n) → took (Set t n) ≡ Some (bit_of (at (slice_set st.held t.0 n) s) i)
    set_takes t n legal =
        let D = bit_at (source_value (wire_bit (module_of c) kept (inputs_at c ins))) (spec_bits (next_spec c s p (heeding c s d))) i in
        let old = bit_at (source_value (wire_bit (module_of c) kept (inputs_at c ins))) (spec_bits (clock_of c d).bit) 0 in
        let apart : s ≢ t.0 = λ q. false≢true (sym (is_clocked c p d s clock).no_input ∙ ap (is_input c) q ∙ legal.0) in
        let x : (y : Domain) × (slice_get c.domains d.0 ≡ Some y) = its_domain c design rules plain s p d clock in
        ap (λ v. cond (is_edge (polarity (clock_of c d)) old v) D (kept.registers (wire_id c s) i)) (clock_still c design module_rules kept ins d x.0 x.1 t n legal)
        ∙ ap (λ b. cond b D (kept.registers (wire_id c s) i)) (unmoved (clock_of c d).falling old)
        ∙ keeps s p d clock i l
        ∙ ap (λ z. Some (bit_of z i)) (sym (get_or-set_other st.held t.0 s n (pos 0) apart))

    -- ---- clocks toggle

    reset_held : (r : ℕ) → IsResetOf c d r → is_async c d ≡ true → is_held c r ≡ true
    reset_held r own async = or_left (is_input c r) (is_register c r) (reset_input c design d r own async)

    -- where no reset is 1 at once after the edge, none was before it
    calm : (ds : List DomainId) (h : Heeding) → heeding c s d ≡ h → is_clear h (moved c st env (Edge ds)).held ≡ false → IsCalm c d env h
    calm ds NoReset e off = tt
    calm ds (AtEdges r) e off = tt
    calm ds (AtOnce r) e off =
        let heeds = at_once (is_async c d) (reset_of c s d) r e in
        let own : IsResetOf c d r = (reset_of-some c d env s sig.0 sig.1 r heeds.0).1 in
        let still : at env r ≡ at (moved c st env (Edge ds)).held r = sym (reset_still c design d r own heeds.1 env st ds ∙ held_same c design st env settled count r (reset_held r own heeds.1)) in
        is_reset-of c d env r own ∙ ap (λ z. not (is_zero z)) still ∙ off

    edge_takes : (ds : List DomainId) → IsLegal c (Edge ds) → is_clear (heeding c s d) (moved c st env (Edge ds)).held ≡ false → took (Edge ds) ≡ Some (bit_of (at (moved c st env (Edge ds)).held s) i)
    edge_takes ds legal off =
        let old = inputs_at c ins in
        let new = inputs_at c (inputs_after c ins (Edge ds)) in
        ap (taken c s p d id (module_of c) kept old new (heeding c s d) i) (keeps s p d clock i l)
        ∙ taken-register c design rules plain s p d clock (omega (arith, l)) env fit st count (held_same c design st env settled count) ds legal.2 (module_of c) kept old new shows signals (obeys_signal c module_rules kept old s there)
        (inputs_carry (Edge ds) legal) id (calm ds (heeding c s d) refl off) i l

    takes : (e : Event) → IsLegal c e → is_clear (heeding c s d) (moved c st env e).held ≡ false → took e ≡ Some (bit_of (at (moved c st env e).held s) i)
    takes (Set t n) legal off = set_takes t n legal
    takes (Edge ds) legal off = edge_takes ds legal off

    -- ---- resets that act at once

    -- the number of such a reset is one bit
    reset_fits : (e : Event) → IsLegal c e → (r : ℕ) → IsResetOf c d r → is_async c d ≡ true → IsIn (signal_form c.pool.signals r) (at (moved c st env e).held r)
    reset_fits (Set t n) legal r own async = ⊎_elim
        (λ (same : r ≡ t.0).
        let inside : t.0 < length st.held = omega (arith, count, same, reset_there c design d r own) in
        let is : at (slice_set st.held t.0 n) r ≡ n = ap (at (slice_set st.held t.0 n)) same ∙ get_or-set_same st.held t.0 n (pos 0) inside in
        subst (IsIn (signal_form c.pool.signals r)) (sym is) (subst (λ k. IsIn (signal_form c.pool.signals k) n) (sym same) legal.2))
        (λ (apart : r ≢ t.0).
        let is : at (slice_set st.held t.0 n) r ≡ at env r = get_or-set_other st.held t.0 r n (pos 0) apart ∙ held_same c design st env settled count r (reset_held r own async) in
        subst (IsIn (signal_form c.pool.signals r)) (sym is) (fit r (reset_there c design d r own)))
        (cases_eq r t.0)
    reset_fits (Edge ds) legal r own async =
        subst (IsIn (signal_form c.pool.signals r)) (sym (reset_still c design d r own async env st ds ∙ held_same c design st env settled count r (reset_held r own async))) (fit r (reset_there c design d r own))

    clear_is : (e : Event) → IsLegal c e → (h : Heeding) → heeding c s d ≡ h → is_clear_now c s p d id (module_of c) kept (inputs_at c ins) (inputs_at c (inputs_after c ins e)) h ≡ is_clear h (moved c st env e).held
    clear_is e legal NoReset g = refl
    clear_is e legal (AtEdges r) g = refl
    clear_is e legal (AtOnce r) g =
        let heeds = at_once (is_async c d) (reset_of c s d) r g in
        let own : IsResetOf c d r = (reset_of-some c d env s sig.0 sig.1 r heeds.0).1 in
        let input : is_input c r ≡ true = reset_input c design d r own heeds.1 in
        let after : ℤ = at (moved c st env e).held r in
        ap (is_level 1) (bit_at-signal (wire_bit (module_of c) kept (inputs_at c (inputs_after c ins e))) c r after (reset_shape c design d r own) (reset_fits e legal r own heeds.1) (inputs_carry e legal r input))

    init_bit_is : slice_get (init_bits c s) i ≡ Some (bit_of sig.0.init i)
    init_bit_is = ap (λ bits. slice_get bits i) (init_bits_are c s sig.0 sig.1) ∙ slice_get-pattern (signal_form c.pool.signals s).width sig.0.init i l

    kept_after : (e : Event) → IsLegal c e
        → next_bit (module_of c) kept (inputs_at c ins) (inputs_at c (inputs_after c ins e)) (register_at c s p d id) i (kept.registers (wire_id c s) i) (register_at c s p d id).kind ≡ Some (bit_of (at (step c st env e).held s) i)
    kept_after e legal =
        let after : State = moved c st env e in
        let long : s < length after.held = omega (arith, there, length-moved c st env e, count) in
        next_bit-by c s p d id (module_of c) kept (inputs_at c ins) (inputs_at c (inputs_after c ins e)) (heeding c s d) i (kept.registers (wire_id c s) i)
        ∙ ap (λ t. cond t (slice_get (init_bits c s) i) (took e)) (clear_is e legal (heeding c s d) refl)
        ∙ by (is_clear (heeding c s d) after.held) refl
        ∙ ap (λ z. Some (bit_of z i)) (sym (cleared_register c design s p d clock sig.0 sig.1 after long))
      where
        by : (b : Bool) → is_clear (heeding c s d) (moved c st env e).held ≡ b → cond b (slice_get (init_bits c s) i) (took e) ≡ Some (bit_of (cond b sig.0.init (at (moved c st env e).held s)) i)
        by true on = init_bit_is
        by false off = takes e legal off

  -- the registers keep what the design holds after the event
  pub step_keeps : (e : Event) → IsLegal c e → Keeps c (rtl.step (module_of c) (inputs_at c ins) (inputs_at c (inputs_after c ins e)) kept) (step c st env e).held
  step_keeps e legal s p d clock i l =
      next_register_is c design module_rules s p d clock i l kept (inputs_at c ins) (inputs_at c (inputs_after c ins e)) (kept.registers (wire_id c s) i) ∙ kept_after s p d clock i l e legal
