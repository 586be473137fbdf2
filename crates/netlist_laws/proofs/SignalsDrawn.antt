-- What drives each signal: its own ids and wires, and one driver for each bit that no event gives.
use Rattle.std.specs.Prelude.{◌≡◌, ◌≤◌, ◌+◌, ◌*◌, nat_lt, ℕ, zero, suc, Bool, true, false, if◌then◌else◌, List, [], ◌∷◌, ◌++◌, map, Option, Some, None}
use Rattle.std.specs.List.{flat_map, range_with_len, find}
use Rattle.std.proofs.Common.{refl, sym, ap, arith, subst, append-nil}
use Rattle.std.proofs.lemmas.Bool.{cond_both, ltb-true, ltb-false}
use Rattle.design_ir.specs.declared.ids.DomainId.{DomainId}
use Rattle.design_ir.specs.declared.process.DesignProcess.{DesignProcess}
use Rattle.design_ir.specs.Values.{signal_form}
use Rattle.design_ir.specs.Circuits.{Circuit, is_input}
use Rattle.rtlil_text.specs.declared.sig.SigPart.{SigPart}
use Rattle.rtlil_text.specs.Sources.{Source, Constant}
use Rattle.netlist_laws.specs.Ids.{step_id}
use Rattle.netlist_laws.specs.Cells.{mux_cell}
use Rattle.netlist_laws.specs.Operands.{wire_part}
use Rattle.netlist_laws.specs.Operators.{Drawing, nothing, inner_wire, whole}
use Rattle.netlist_laws.specs.Spelled.{spec_of}
use Rattle.netlist_laws.specs.Module.{signal_value, Driving, ByEvents, ByComb, ByClock, ByNothing, is_read, ByRead, drives, driving_at, undriven, driving_by, driving, init_bits, bits_at_last, clock_of, register_cell, register_drawing, driving_drawing, signal_drawing, Heeding, NoReset, AtEdges, AtOnce, heeding, clear_cell}
use Rattle.netlist_laws.proofs.Places.{spec_bits-wire_part}
use Rattle.netlist_laws.proofs.Drives.{block, value_bits, IsBare-inner_wire, IsDrawn, IsDrawn-wider, IsDrawn-linked, IsDrawn-nothing, fresh_places, zero_more, output_bits-mux}
use Rattle.netlist_laws.proofs.DrawnCells.{fresh_from, IsDrawn-cells, IsDrawn-one_cell}
use Rattle.netlist_laws.proofs.ManyDrawn.{AreDrawn, AreDrawn-none, AreDrawn-cons}

module _ (c : Circuit) (s : ℕ) where
  abbrev pub IsSignal : List Source → Drawing → Type 0
  IsSignal made d = IsDrawn step_id (3 * s) (3 * s + 3) [] made d

  register_drawn : (p : DesignProcess) (d : DomainId) (x : Heeding) → 1 ≤ (signal_form c.pool.signals s).width → IsSignal (value_bits (signal_value c s)) (register_drawing c s p d x)
  register_drawn p d NoReset h =
      let w : ℕ = (signal_form c.pool.signals s).width in
      let cell = register_cell (step_id (3 * s)) w (clock_of c d) (bits_at_last c true p s) (whole (signal_value c s)) in
      IsDrawn-wider step_id (3 * s) (3 * s + 1) (3 * s + 3) [] (value_bits (signal_value c s)) (record { wires = []; cells = cell ∷ []; links = [] }) (omega arith)
      (IsDrawn-one_cell step_id (3 * s) cell (value_bits (signal_value c s)) refl (spec_bits-wire_part (signal_value c s).id 0 w))
  register_drawn p d (AtOnce r) h =
      let w : ℕ = (signal_form c.pool.signals s).width in
      let cell = clear_cell (step_id (3 * s)) w (clock_of c d) (whole (signal_value c r)) (init_bits c s) (bits_at_last c true p s) (whole (signal_value c s)) in
      IsDrawn-wider step_id (3 * s) (3 * s + 1) (3 * s + 3) [] (value_bits (signal_value c s)) (record { wires = []; cells = cell ∷ []; links = [] }) (omega arith)
      (IsDrawn-one_cell step_id (3 * s) cell (value_bits (signal_value c s)) refl (spec_bits-wire_part (signal_value c s).id 0 w))
  register_drawn p d (AtEdges r) h =
      let n : ℕ = 3 * s in
      let w : ℕ = (signal_form c.pool.signals s).width in
      let begin : List SigPart = spec_of (map Constant (init_bits c s)) in
      let next : List ℕ = step_id (n + 1) in
      IsDrawn-cells step_id n (n + 3) (inner_wire next w ∷ [])
      (mux_cell (step_id (n + 2)) w (bits_at_last c true p s) begin (whole (signal_value c r)) (wire_part next 0 w)
      ∷ register_cell (step_id n) w (clock_of c d) (wire_part next 0 w) (whole (signal_value c s)) ∷ [])
      (block next w ∷ []) (value_bits (signal_value c s))
      (fresh_from step_id n 3 (step_id (n + 1) ∷ step_id (n + 2) ∷ step_id n ∷ [])
      (fresh_places step_id n 0 3 (1 ∷ 2 ∷ 0 ∷ []) (step_id (n + 1) ∷ step_id (n + 2) ∷ step_id n ∷ []) (λ i. step_id (n + 1) ∷ step_id (n + 2) ∷ step_id (zero_more n i) ∷ []) refl refl))
      (IsBare-inner_wire next w h, tt)
      (λ i. output_bits-mux (step_id (n + 2)) w (bits_at_last c true p s) begin (whole (signal_value c r)) next w i ++ (spec_bits-wire_part (signal_value c s).id 0 w i ++ []))
      refl

  -- the bits that a driving gives
  abbrev pub given_bits : Driving → List Source
  given_bits ByEvents = []
  given_bits (ByComb p) = value_bits (signal_value c s)
  given_bits (ByClock p d) = value_bits (signal_value c s)
  given_bits ByRead = []
  given_bits ByNothing = value_bits (signal_value c s)

  -- and those that a port gives in its place
  abbrev pub read_bits : Driving → List Source
  read_bits ByEvents = []
  read_bits (ByComb p) = []
  read_bits (ByClock p d) = []
  read_bits ByRead = value_bits (signal_value c s)
  read_bits ByNothing = []

  driving_drawn : (x : Driving) → 1 ≤ (signal_form c.pool.signals s).width → IsSignal (given_bits x) (driving_drawing c s x)
  driving_drawn ByEvents h = IsDrawn-nothing step_id (3 * s) (3 * s + 3)
  driving_drawn (ByComb p) h = IsDrawn-linked step_id (3 * s) (3 * s + 3) (signal_value c s) (bits_at_last c false p s)
  driving_drawn (ByClock p d) h = register_drawn p d (heeding c s d) h
  driving_drawn ByRead h = IsDrawn-nothing step_id (3 * s) (3 * s + 3)
  driving_drawn ByNothing h = IsDrawn-linked step_id (3 * s) (3 * s + 3) (signal_value c s) (spec_of (map Constant (init_bits c s)))

  -- both together, where events give none
  abbrev AreAll : Driving → Type 0
  AreAll x = value_bits (signal_value c s) ≡ given_bits x ++ read_bits x

  all-at : (p : DesignProcess) (d : Option DomainId) → AreAll (driving_at p d)
  all-at p None = sym (append-nil (value_bits (signal_value c s)))
  all-at p (Some d) = sym (append-nil (value_bits (signal_value c s)))

  all-by : (p : Option DesignProcess) → AreAll (driving_by (undriven c s) p)
  all-by None = cond_both (is_read c s) ByRead ByNothing AreAll (λ _. refl) (λ _. sym (append-nil (value_bits (signal_value c s))))
  all-by (Some p) = all-at p p.domain

  -- the bits of a signal that no event gives
  abbrev pub signal_bits : List Source
  signal_bits = if is_input c s then [] else value_bits (signal_value c s)

  pub signal_bits-parts : signal_bits ≡ given_bits (driving c s) ++ read_bits (driving c s)
  signal_bits-parts = by (is_input c s) (driving_by (undriven c s) (find (drives c s) c.processes)) (all-by (find (drives c s) c.processes))
    where
      by : (b : Bool) (x : Driving) → AreAll x → (if b then [] else value_bits (signal_value c s)) ≡ given_bits (if b then ByEvents else x) ++ read_bits (if b then ByEvents else x)
      by true x e = refl
      by false x e = e

  given_bits-none : (x : Driving) → (signal_form c.pool.signals s).width ≡ 0 → given_bits x ≡ []
  given_bits-none ByEvents e = refl
  given_bits-none (ByComb p) e = ap (block (signal_value c s).id) e
  given_bits-none (ByClock p d) e = ap (block (signal_value c s).id) e
  given_bits-none ByRead e = refl
  given_bits-none ByNothing e = ap (block (signal_value c s).id) e

  abbrev pub drawn_signal : List Source
  drawn_signal = given_bits (driving c s)

  pub signal_drawn : IsSignal drawn_signal (signal_drawing c s)
  signal_drawn =
      let w : ℕ = (signal_form c.pool.signals s).width in
      cond_both (nat_lt 0 w) (driving_drawing c s (driving c s)) nothing (IsSignal drawn_signal)
      (λ t. driving_drawn (driving c s) (omega (arith, ltb-true 0 w t)))
      (λ t. subst (λ u. IsSignal u nothing) (sym (given_bits-none (driving c s) (omega (arith, ltb-false 0 w t)))) (IsDrawn-nothing step_id (3 * s) (3 * s + 3)))

pub signals_drawn : (c : Circuit) (k n : ℕ) → AreDrawn step_id (3 * k) (3 * (k + n)) (flat_map (drawn_signal c) (range_with_len k n)) (map (signal_drawing c) (range_with_len k n))
signals_drawn c k zero = AreDrawn-none step_id (3 * k) (3 * (k + 0))
signals_drawn c k (suc n) =
    let a : 3 * k + 3 ≡ 3 * (k + 1) = omega arith in
    let b : 3 * ((k + 1) + n) ≡ 3 * (k + suc n) = omega arith in
    AreDrawn-cons step_id (3 * k) (3 * (k + 1)) (3 * (k + suc n)) (drawn_signal c k) (flat_map (drawn_signal c) (range_with_len (k + 1) n)) (signal_drawing c k) (map (signal_drawing c) (range_with_len (k + 1) n)) (omega arith) (omega arith)
    (subst (λ h. IsDrawn step_id (3 * k) h [] (drawn_signal c k) (signal_drawing c k)) a (signal_drawn c k))
    (subst (λ h. AreDrawn step_id (3 * (k + 1)) h (flat_map (drawn_signal c) (range_with_len (k + 1) n)) (map (signal_drawing c) (range_with_len (k + 1) n))) b (signals_drawn c (k + 1) n))
