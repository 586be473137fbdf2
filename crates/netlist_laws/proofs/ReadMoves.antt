-- The data of a clocked read port after an event of the design: what the port takes where it reads, and else what it had.
use Rattle.std.specs.Prelude.{◌≡◌, ◌≢◌, ◌<◌, ℕ, Bool, true, false, if◌then◌else◌, List, map, length, slice_set, ℤ, pos, Option, Some, None, fold}
use Rattle.std.specs.List.{find, list_any}
use Rattle.std.proofs.Common.{refl, sym, ap, ◌∙◌, arith}
use Rattle.std.proofs.lemmas.Bool.{false≢true}
use Rattle.std.proofs.lemmas.List.{get_or-set_other}
use Rattle.design_ir.specs.declared.ids.DomainId.{DomainId}
use Rattle.design_ir.specs.declared.memory.MemRead.{MemRead}
use Rattle.design_ir.specs.declared.memory.Memory.{Memory}
use Rattle.design_ir.specs.declared.process.DesignProcess.{DesignProcess}
use Rattle.design_ir.specs.declared.event.Event.TheVariants.{Edge}
use Rattle.design_ir.specs.Circuits.{Circuit, State, at, is_input}
use Rattle.design_ir.specs.Designs.{IsDesign}
use Rattle.design_ir.specs.Steps.{clocked, clocked_reads, reads_now, read_word, all_cleared, moved}
use Rattle.netlist_laws.specs.Module.{drives}
use Rattle.netlist_laws.proofs.OneDriver.{AreNone, find_only, find_none, fold_none, length-fold}
use Rattle.netlist_laws.proofs.Driven.{driven_by, distinct_processes, process_unread, input_unread}
use Rattle.netlist_laws.proofs.ReadOnce.{words_of, has_it, distinct_right}
use Rattle.netlist_laws.proofs.ReadData.{Located, located_has, clocked_reads-at}
use Rattle.netlist_laws.proofs.RegisterSteps.{clocked_at-other, length-clocked_at, toggles-other, no_clock}
use Rattle.netlist_laws.proofs.RegisterClears.{none_cleared}

module _ (c : Circuit) (design : IsDesign c) (st : State) (m : Memory) (rows : List ℤ) (r : MemRead) (located : Located c.memories st.rows m rows r) where
  abbrev s : ℕ
  s = r.word.0

  given : list_any (has_it s) (words_of c.memories) ≡ true
  given = located_has c.memories st.rows m rows r located

  -- neither events nor statements give it
  pub word_no_input : is_input c s ≡ false
  word_no_input = by (is_input c s) refl
    where
      by : (b : Bool) → is_input c s ≡ b → b ≡ false
      by false e = refl
      by true e = absurd (false≢true (sym (input_unread c s design e) ∙ given))

  word_undriven : AreNone (driven_by c) s c.processes
  word_undriven = by (find (drives c s) c.processes) refl
    where
      by : (o : Option DesignProcess) → find (drives c s) c.processes ≡ o → AreNone (driven_by c) s c.processes
      by None e = find_none (driven_by c) s c.processes e
      by (Some p) e = absurd (false≢true (sym (process_unread c design s p (find_only (driven_by c) s c.processes p (distinct_processes c design) e)) ∙ given))

  -- no reset touches it
  pub word_cleared : (after : State) → at (all_cleared c after).held s ≡ at after.held s
  word_cleared after = none_cleared c after s word_undriven

  -- a number that an input takes
  pub word_set : (t : ℕ) (n : ℤ) → is_input c t ≡ true → at (slice_set st.held t n) s ≡ at st.held s
  word_set t n input =
      let apart : s ≢ t = λ q. false≢true (sym word_no_input ∙ ap (is_input c) q ∙ input) in
      get_or-set_other st.held t s n (pos 0) apart

  -- edges
  pub word_moved : (env : List ℤ) (listed : List DomainId) → s < length st.held
      → at (moved c st env (Edge listed)).held s ≡ (if reads_now c env listed r then read_word c env listed m rows r else at st.held s)
  word_moved env listed there =
      let after : List ℤ = fold (clocked c env listed) st.held c.processes in
      let long : length after ≡ length st.held = length-fold (driven_by c) s (clocked c env listed) (λ cur q. length-clocked_at c env listed s q cur q.domain) (λ cur q k. clocked_at-other c env listed s q cur q.domain k) c.processes st.held in
      let still : at after s ≡ at st.held s = fold_none (driven_by c) s (clocked c env listed) (λ cur q. length-clocked_at c env listed s q cur q.domain) (λ cur q k. clocked_at-other c env listed s q cur q.domain k) c.processes st.held word_undriven in
      toggles-other c env listed s listed (clocked_reads c env listed c.memories st.rows after) (no_clock c s design.domains word_no_input)
      ∙ clocked_reads-at c env listed c.memories st.rows m rows r after (distinct_right (map (driven_by c) c.processes) (words_of c.memories) design.one_driver) located (omega (arith, long, there))
      ∙ ap (λ z. if reads_now c env listed r then read_word c env listed m rows r else z) still
