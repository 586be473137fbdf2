-- What a register takes at an edge, on its wires and in the design.
use Rattle.std.specs.Prelude.{◌≡◌, ◌⊎◌, ◌≢◌, refl, ℕ, zero, suc, ◌+◌, ◌*◌, ◌<◌, ◌≤◌, Bool, true, false, not, cond, List, [], ◌∷◌, map, length, slice_get, ℤ, pos, Option, Some, None, fold, ◌-ℤ◌}
use Rattle.std.specs.List.{AllByRecursion, find}
use Rattle.std.proofs.Common.{sym, ◌∙◌, ap, arith, subst, ⊎_elim, inr}
use Rattle.std.proofs.lemmas.Bool.{false≢true, cond_both, cond-true, cond-false}
use Rattle.std.proofs.lemmas.List.{get_or-set_other}
use Rattle.std.proofs.lemmas.List.Elements.{All-head}
use Rattle.shape_rules.specs.Forms.{unsigned}
use Rattle.shape_rules.specs.Operators.{is_zero}
use Rattle.design_ir.specs.declared.ids.DomainId.{DomainId}
use Rattle.design_ir.specs.declared.signal.Sig.{Sig}
use Rattle.design_ir.specs.declared.domain.Domain.{Domain}
use Rattle.design_ir.specs.declared.process.DesignProcess.{DesignProcess}
use Rattle.design_ir.specs.declared.event.Event.TheVariants.{Edge}
use Rattle.design_ir.specs.PoolRules.{IsPool}
use Rattle.design_ir.specs.Guards.{driven}
use Rattle.design_ir.specs.Values.{signal_form}
use Rattle.design_ir.specs.Put.{put}
use Rattle.design_ir.specs.Circuits.{Circuit, State, at, is_among, is_input}
use Rattle.design_ir.specs.Designs.{IsClockDomain, IsDesign, IsReset, IsSignalOf}
use Rattle.design_ir.specs.Steps.{is_active, is_reset, reset_all, clocked_at, clocked, clocked_reads, toggle_at, toggle, moved}
use Rattle.design_ir.proofs.NumbersFit.{element, FitsSignals}
use Rattle.design_ir.proofs.PutLaws.{put_length, put_other}
use Rattle.rtlil_text.specs.declared.sig.SigPart.{SigPart}
use Rattle.rtlil_text.specs.declared.cell.RtlCell.{RtlCell}
use Rattle.rtlil_text.specs.Sources.{Constant, spec_bits}
use Rattle.rtlil_text.specs.Cells.{bit_at}
use Rattle.rtlil_text.specs.Meaning.{source_value}
use Rattle.rtlil_text.specs.History.{Wires}
use Rattle.netlist_laws.specs.Ids.{step_id}
use Rattle.netlist_laws.specs.Cells.{mux_cell}
use Rattle.netlist_laws.specs.Operands.{wire_part}
use Rattle.netlist_laws.specs.Operators.{whole}
use Rattle.netlist_laws.specs.Carried.{Carries}
use Rattle.netlist_laws.specs.CombDrawings.{ObeysUnkept, ObeysComb}
use Rattle.netlist_laws.specs.Spelled.{spec_of}
use Rattle.netlist_laws.specs.Module.{signal_value, is_read, drives, undriven, driving_by, driving, Driving, ByEvents, ByComb, ByClock, ByRead, ByNothing, init_bits, bits_at_last, reset_of, clock_of, register_cell, register_drawing, signal_drawing, Heeding, NoReset, AtEdges, AtOnce, heeding, is_async}
use Rattle.netlist_laws.proofs.Reading.{HasBits, Reads, reads_low}
use Rattle.netlist_laws.proofs.Widths.{has_equal}
use Rattle.netlist_laws.proofs.Bitwise.{mux_cell_bits}
use Rattle.netlist_laws.proofs.BitWrites.{some_signal}
use Rattle.netlist_laws.proofs.SignalBits.{bit_at-signal}
use Rattle.netlist_laws.proofs.Heedings.{not_heeded, at_edges}
use Rattle.netlist_laws.proofs.OneDriver.{IsOnly, IsFolded, find_only, fold_only}
use Rattle.netlist_laws.proofs.Driven.{driven_by, distinct_processes, process_unread, by_comb, by_clock}
use Rattle.netlist_laws.proofs.ReadOnce.{clocked_reads-other}
use Rattle.netlist_laws.proofs.ResetLaws.{length-reset_all, reset_all-other, reset_all-less, reset_all-full, IsResetOf, is_reset-of, reset_of-some, reset_of-none}
use Rattle.netlist_laws.proofs.SettledWires.{Shows, reads_next, signal_drawing-some}
use Rattle.netlist_laws.specs.Plain.{ArePlain}
use Rattle.netlist_laws.proofs.SourcedSpecs.{init_bits_are, reads_constants}

-- the bits at D of a register's cell: what the statements leave, or what the `$mux` of a reset at edges makes of it
abbrev pub next_spec : Circuit → ℕ → DesignProcess → Heeding → List SigPart
next_spec c s p NoReset = bits_at_last c true p s
next_spec c s p (AtOnce r) = bits_at_last c true p s
next_spec c s p (AtEdges r) = wire_part (step_id (3 * s + 1)) 0 (signal_form c.pool.signals s).width

-- a reset that acts at once is not 1
abbrev pub IsCalm : Circuit → DomainId → List ℤ → Heeding → Type 0
IsCalm c d env NoReset = Unit {0}
IsCalm c d env (AtEdges r) = Unit {0}
IsCalm c d env (AtOnce r) = is_reset c env d.0 ≡ false

-- ---- a register's process and domain

module _ (c : Circuit) (p : DesignProcess) (d : DomainId) where
  found_domain : (u : Driving) (q : DesignProcess) (x : Option DomainId) → q.domain ≡ x → driving_by u (Some q) ≡ ByClock p d → (q ≡ p) × (p.domain ≡ Some d)
  found_domain u q None e h = let other : ByComb q ≡ ByClock p d = sym (by_comb u q e) ∙ h in cc
  found_domain u q (Some y) e h =
      let both : ByClock q y ≡ ByClock p d = sym (by_clock u q y e) ∙ h in
      let same : q ≡ p = cc in
      let number : y ≡ d = cc in
      (same, ap (λ (z : DesignProcess). z.domain) (sym same) ∙ e ∙ ap (λ z. Some z) number)

  pub record IsClocked (s : ℕ) : Type 0 where
    pub no_input : is_input c s ≡ false
    pub found : find (drives c s) c.processes ≡ Some p
    pub domain : p.domain ≡ Some d

  unclocked : (b : Bool) → cond b ByRead ByNothing ≡ ByClock p d → ⊥
  unclocked true e = let other : ByRead ≡ ByClock p d = e in cc
  unclocked false e = let other : ByNothing ≡ ByClock p d = e in cc

  by_parts : (s : ℕ) (t : Bool) (o : Option DesignProcess) → is_input c s ≡ t → find (drives c s) c.processes ≡ o → cond t ByEvents (driving_by (undriven c s) o) ≡ ByClock p d → IsClocked s
  by_parts s true o i f h = let other : ByEvents ≡ ByClock p d = h in cc
  by_parts s false None i f h = absurd (unclocked (is_read c s) h)
  by_parts s false (Some q) i f h =
      let r = found_domain (undriven c s) q q.domain refl h in
      record { no_input = i; found = f ∙ ap (λ x. Some x) r.0; domain = r.1 }

  pub is_clocked : (s : ℕ) → driving c s ≡ ByClock p d → IsClocked s
  is_clocked s h = by_parts s (is_input c s) (find (drives c s) c.processes) refl refl h

-- ---- what an edge does to other numbers

module _ (c : Circuit) (env : List ℤ) (listed : List DomainId) (s : ℕ) where
  pub clocked_at-other : (p : DesignProcess) (cur : List ℤ) (o : Option DomainId) → is_among (driven_by c p) s ≡ false → at (clocked_at c env listed p cur o) s ≡ at cur s
  clocked_at-other p cur None h = refl
  clocked_at-other p cur (Some d) h =
      let left : List ℤ = put c.pool env p.body cur in
      let put_same : at left s ≡ at cur s = put_other c.pool env p.body cur s h in
      cond_both (is_active c env listed d.0) (cond (is_reset c env d.0) (reset_all c.pool.signals left (driven c.pool p.body)) left) cur (λ xs. at xs s ≡ at cur s)
      (λ e. cond_both (is_reset c env d.0) (reset_all c.pool.signals left (driven c.pool p.body)) left (λ xs. at xs s ≡ at cur s) (λ f. reset_all-other c.pool.signals s (driven c.pool p.body) left h ∙ put_same) (λ f. put_same))
      (λ e. refl)

  pub length-clocked_at : (p : DesignProcess) (cur : List ℤ) (o : Option DomainId) → length (clocked_at c env listed p cur o) ≡ length cur
  length-clocked_at p cur None = refl
  length-clocked_at p cur (Some d) =
      let left : List ℤ = put c.pool env p.body cur in
      let put_same : length left ≡ length cur = put_length c.pool env p.body cur in
      cond_both (is_active c env listed d.0) (cond (is_reset c env d.0) (reset_all c.pool.signals left (driven c.pool p.body)) left) cur (λ xs. length xs ≡ length cur)
      (λ e. cond_both (is_reset c env d.0) (reset_all c.pool.signals left (driven c.pool p.body)) left (λ xs. length xs ≡ length cur) (λ f. length-reset_all c.pool.signals s (driven c.pool p.body) left ∙ put_same) (λ f. put_same))
      (λ e. refl)

  toggle_at-other : (cur : List ℤ) (o : Option Domain) → ((x : Domain) → o ≡ Some x → s ≢ x.clk.0) → at (toggle_at cur o) s ≡ at cur s
  toggle_at-other cur None h = refl
  toggle_at-other cur (Some x) h = get_or-set_other cur x.clk.0 s (pos 1 -ℤ at cur x.clk.0) (pos 0) (h x refl)

  pub toggles-other : (ds : List DomainId) (cur : List ℤ) → ((d : DomainId) (x : Domain) → slice_get c.domains d.0 ≡ Some x → s ≢ x.clk.0) → at (fold (toggle c.domains) cur ds) s ≡ at cur s
  toggles-other [] cur h = refl
  toggles-other (d ∷ ds) cur h = toggles-other ds (toggle c.domains cur d) h ∙ toggle_at-other cur (slice_get c.domains d.0) (λ x e. h d x e)

pub all_at : {A : Type 0} (P : A → Type 0) (xs : List A) (k : ℕ) (x : A) → AllByRecursion P xs → slice_get xs k ≡ Some x → P x
all_at P [] k x h e = cc
all_at P (y ∷ xs) zero x h e = let same : y ≡ x = cc in subst P same h.0
all_at P (y ∷ xs) (suc k) x h e = all_at P xs k x h.1 e

-- a signal that is no input is no clock
pub no_clock : (c : Circuit) (s : ℕ) → AllByRecursion (IsClockDomain c) c.domains → is_input c s ≡ false → (d : DomainId) (x : Domain) → slice_get c.domains d.0 ≡ Some x → s ≢ x.clk.0
no_clock c s h none d x e same =
    let input : is_input c x.clk.0 ≡ true = (all_at (IsClockDomain c) c.domains d.0 x h e).clock_input in
    false≢true (sym none ∙ ap (is_input c) same ∙ input)

-- ---- a register at an edge

module _ (c : Circuit) (design : IsDesign c) (s : ℕ) (p : DesignProcess) (d : DomainId) (clock : driving c s ≡ ByClock p d) where
  only : IsOnly (driven_by c) s c.processes p
  only = find_only (driven_by c) s c.processes p (distinct_processes c design) (is_clocked c p d s clock).found

  -- ---- the choice that a reset makes

  module _ (env : List ℤ) (wires : Wires) (rules : IsPool c.pool) (plain : ArePlain c) (fit : FitsSignals c.pool env) (shows : Shows wires c env) (carried : (t : ℕ) → Carries wires (signal_value c t) (at env t))
      (x : Sig) (is : slice_get c.pool.signals s ≡ Some x) where
    -- the wire of a reset has one bit
    reset_bit : (r : ℕ) → IsResetOf c d r → bit_at (source_value wires) (spec_bits (whole (signal_value c r))) 0 ≡ Some (not (is_zero (at env r)))
    reset_bit r h =
        let rules_of : IsClockDomain c h.domain = all_at (IsClockDomain c) c.domains d.0 h.domain design.domains h.listed in
        let reset : IsSignalOf c (unsigned 1) h.signal = subst (IsReset c) h.has rules_of.reset in
        let shape : signal_form c.pool.signals r ≡ unsigned 1 = ap (signal_form c.pool.signals) (sym h.number) ∙ reset.shape in
        bit_at-signal wires c r (at env r) shape (fit r (subst (λ n. n < length c.pool.signals) h.number reset.there)) (carried r)

    reads_init : Reads wires (spec_of (map Constant (init_bits c s))) (signal_form c.pool.signals s).width x.init
    reads_init = subst (λ bits. Reads wires (spec_of (map Constant bits)) (signal_form c.pool.signals s).width x.init) (sym (init_bits_are c s x is)) (reads_constants wires (signal_form c.pool.signals s).width x.init)

    -- the init where the reset is not 0, else what the statements leave
    pub choice_bits : (r : ℕ) (left : ℤ) → reset_of c s d ≡ Some r → Reads wires (bits_at_last c true p s) (signal_form c.pool.signals s).width left → ObeysComb wires (register_drawing c s p d (AtEdges r))
        → HasBits wires (step_id (3 * s + 1)) (signal_form c.pool.signals s).width (cond (not (is_zero (at env r))) x.init left)
    choice_bits r left e reads obeys =
        let n : ℕ = (signal_form c.pool.signals s).width in
        let out : List ℕ = step_id (3 * s + 1) in
        let choice : RtlCell = mux_cell (step_id (3 * s + 2)) n (bits_at_last c true p s) (spec_of (map Constant (init_bits c s))) (whole (signal_value c r)) (wire_part out 0 n) in
        let keeps : RtlCell = register_cell (step_id (3 * s)) n (clock_of c d) (wire_part out 0 n) (whole (signal_value c s)) in
        mux_cell_bits wires (step_id (3 * s + 2)) n (bits_at_last c true p s) (spec_of (map Constant (init_bits c s))) (whole (signal_value c r)) out n (not (is_zero (at env r))) left x.init
        (reset_bit r (reset_of-some c d env s x is r e).1) reads reads_init (All-head (ObeysUnkept wires) choice (keeps ∷ []) obeys.cells refl)

    -- so each bit of it has a value
    pub choice_some : (r : ℕ) (cur : List ℤ) → at cur s ≡ at env s → length cur ≡ length c.pool.signals → reset_of c s d ≡ Some r → ObeysComb wires (register_drawing c s p d (AtEdges r))
        → (i : ℕ) → i < (signal_form c.pool.signals s).width → (b : Bool) × (wires (step_id (3 * s + 1)) i ≡ Some b)
    choice_some r cur same count e obeys i l =
        (_, (choice_bits r (at (put c.pool env p.body cur) s) e (reads_next wires c env design rules plain fit shows s p (at env s) cur only (carried s) same count) obeys).at i l)

  module _ (env : List ℤ) (listed : List DomainId) (st : State) where
    folded : IsFolded (driven_by c) s (clocked c env listed) (λ cur q. length-clocked_at c env listed s q cur q.domain) (λ cur q h. clocked_at-other c env listed s q cur q.domain h) c.processes p st.held
    folded = fold_only (driven_by c) s (clocked c env listed) (λ cur q. length-clocked_at c env listed s q cur q.domain) (λ cur q h. clocked_at-other c env listed s q cur q.domain h) c.processes p st.held only

    -- its number is left by its process alone
    by_process : at (moved c st env (Edge listed)).held s ≡ at (clocked_at c env listed p folded.then (Some d)) s
    by_process =
        toggles-other c env listed s listed (clocked_reads c env listed c.memories st.rows (fold (clocked c env listed) st.held c.processes)) (no_clock c s design.domains (is_clocked c p d s clock).no_input)
        ∙ clocked_reads-other c env listed s c.memories st.rows (fold (clocked c env listed) st.held c.processes) (process_unread c design s p only)
        ∙ folded.result
        ∙ ap (λ o. at (clocked_at c env listed p folded.then o) s) (is_clocked c p d s clock).domain

    -- where its domain is not active, it keeps its number
    pub held_register : is_active c env listed d.0 ≡ false → at (moved c st env (Edge listed)).held s ≡ at st.held s
    held_register e =
        by_process
        ∙ ap (λ t. at (cond t (cond (is_reset c env d.0) (reset_all c.pool.signals (put c.pool env p.body folded.then) (driven c.pool p.body)) (put c.pool env p.body folded.then)) folded.then) s) e
        ∙ folded.same

    risen : is_active c env listed d.0 ≡ true
        → at (moved c st env (Edge listed)).held s ≡ at (cond (is_reset c env d.0) (reset_all c.pool.signals (put c.pool env p.body folded.then) (driven c.pool p.body)) (put c.pool env p.body folded.then)) s
    risen e =
        by_process
        ∙ ap (λ t. at (cond t (cond (is_reset c env d.0) (reset_all c.pool.signals (put c.pool env p.body folded.then) (driven c.pool p.body)) (put c.pool env p.body folded.then)) folded.then) s) e

    module _ (wires : Wires) (rules : IsPool c.pool) (plain : ArePlain c) (fit : FitsSignals c.pool env) (shows : Shows wires c env)
        (count : length st.held ≡ length c.pool.signals) (same : at st.held s ≡ at env s) (carried : (t : ℕ) → Carries wires (signal_value c t) (at env t)) (up : is_active c env listed d.0 ≡ true) where
      left : ℤ
      left = at (put c.pool env p.body folded.then) s

      reads_left : Reads wires (bits_at_last c true p s) (signal_form c.pool.signals s).width left
      unfolding left
      reads_left = reads_next wires c env design rules plain fit shows s p (at env s) folded.then only (carried s) (folded.same ∙ same) (folded.long ∙ count)

      module _ (some : 1 ≤ (signal_form c.pool.signals s).width) where
        sig : (x : Sig) × (slice_get c.pool.signals s ≡ Some x)
        sig = element c.pool.signals s (some_signal c.pool.signals s some)

        there : s < length (put c.pool env p.body folded.then)
        there = omega (arith, put_length c.pool env p.body folded.then, folded.long, count, some_signal c.pool.signals s some)

        -- with no reset that it heeds, or none that is 1, it takes what the statements leave
        unreset : (sig.0.reset_less ≡ true) ⊎ (is_reset c env d.0 ≡ false) → at (moved c st env (Edge listed)).held s ≡ left
        unfolding left
        unreset none =
            let after : List ℤ = put c.pool env p.body folded.then in
            risen up ∙ cond_both (is_reset c env d.0) (reset_all c.pool.signals after (driven c.pool p.body)) after (λ xs. at xs s ≡ at after s)
            (λ on. ⊎_elim
            (λ (less : sig.0.reset_less ≡ true). reset_all-less c.pool.signals s sig.0 sig.1 less (driven c.pool p.body) after)
            (λ (off : is_reset c env d.0 ≡ false). absurd (false≢true (sym off ∙ on)))
            none)
            (λ off. refl)

        -- with one, it takes its init where that is not 0
        reset_is : (r : ℕ) → reset_of c s d ≡ Some r → at (moved c st env (Edge listed)).held s ≡ cond (not (is_zero (at env r))) sig.0.init left
        unfolding left
        reset_is r e =
            let after : List ℤ = put c.pool env p.body folded.then in
            let h = reset_of-some c d env s sig.0 sig.1 r e in
            risen up
            ∙ ap (λ t. at (cond t (reset_all c.pool.signals after (driven c.pool p.body)) after) s) (is_reset-of c d env r h.1)
            ∙ cond_both (not (is_zero (at env r))) (reset_all c.pool.signals after (driven c.pool p.body)) after (λ xs. at xs s ≡ cond (not (is_zero (at env r))) sig.0.init (at after s))
            (λ on. reset_all-full c.pool.signals s sig.0 sig.1 h.0 (driven c.pool p.body) after there only.here ∙ sym (cond-true (not (is_zero (at env r))) sig.0.init (at after s) on))
            (λ off. sym (cond-false (not (is_zero (at env r))) sig.0.init (at after s) off))

        by_reset : (h : Heeding) → heeding c s d ≡ h → IsCalm c d env h → ObeysComb wires (register_drawing c s p d h) → Reads wires (next_spec c s p h) (signal_form c.pool.signals s).width (at (moved c st env (Edge listed)).held s)
        by_reset NoReset e calm obeys =
            let none : reset_of c s d ≡ None = not_heeded (is_async c d) (reset_of c s d) e in
            subst (Reads wires (bits_at_last c true p s) (signal_form c.pool.signals s).width) (sym (unreset (reset_of-none c d env s sig.0 sig.1 none))) reads_left
        by_reset (AtOnce r) e calm obeys = subst (Reads wires (bits_at_last c true p s) (signal_form c.pool.signals s).width) (sym (unreset (inr calm))) reads_left
        by_reset (AtEdges r) e calm obeys =
            let heeds : reset_of c s d ≡ Some r = (at_edges (is_async c d) (reset_of c s d) r e).0 in
            let n : ℕ = (signal_form c.pool.signals s).width in
            let out : List ℕ = step_id (3 * s + 1) in
            let chosen : HasBits wires out n (cond (not (is_zero (at env r))) sig.0.init left) = choice_bits env wires rules plain fit shows carried sig.0 sig.1 r left heeds reads_left obeys in
            reads_low wires out n n (at (moved c st env (Edge listed)).held s) (omega arith)
            (has_equal wires out n (cond (not (is_zero (at env r))) sig.0.init left) (at (moved c st env (Edge listed)).held s) (sym (reset_is r heeds)) chosen)

        -- the bits at D are those of its number after the edge
        pub reads_register : IsCalm c d env (heeding c s d) → ObeysComb wires (signal_drawing c s) → Reads wires (next_spec c s p (heeding c s d)) (signal_form c.pool.signals s).width (at (moved c st env (Edge listed)).held s)
        reads_register calm obeys = by_reset (heeding c s d) refl calm (subst (ObeysComb wires) (signal_drawing-some c s (ByClock p d) some clock) obeys)
