-- Signals of a design: held by a state, combinational, or driven by nothing.
use Rattle.std.specs.Prelude.{◌≡◌, refl, ℕ, ◌<◌, ◌≤◌, ◌==◌, ◌&&◌, ◌||◌, ◌⊎◌, Bool, true, false, cond, List, map, slice_get, ℤ, Option, Some, None, is_some, is_none}
use Rattle.std.specs.List.{list_any, find}
use Rattle.std.proofs.Common.{sym, ◌∙◌, ap, subst, arith, inl, inr}
use Rattle.std.proofs.lemmas.Bool.{false≢true, or_parts}
use Rattle.std.proofs.lemmas.List.Elements.{All-nil}
use Rattle.design_ir.specs.declared.ids.DomainId.{DomainId}
use Rattle.design_ir.specs.declared.signal.Sig.{Sig}
use Rattle.design_ir.specs.declared.memory.MemRead.{MemRead}
use Rattle.design_ir.specs.declared.memory.Memory.{Memory}
use Rattle.design_ir.specs.declared.process.DesignProcess.{DesignProcess}
use Rattle.design_ir.specs.Values.{signal_form}
use Rattle.design_ir.specs.Circuits.{Circuit, State, at, is_input, is_register, is_held}
use Rattle.design_ir.specs.Designs.{IsDesign}
use Rattle.design_ir.specs.Settled.{Settled}
use Rattle.design_ir.proofs.NumbersFit.{element}
use Rattle.comb_graph.specs.Orders.{is_comb}
use Rattle.rtlil_text.specs.declared.sig.SigPart.{SigPart}
use Rattle.rtlil_text.specs.Sources.{Constant}
use Rattle.rtlil_text.specs.Meaning.{source_value}
use Rattle.rtlil_text.specs.History.{Wires}
use Rattle.netlist_laws.specs.Carried.{ObeysCell}
use Rattle.netlist_laws.specs.CombDrawings.{ObeysComb}
use Rattle.netlist_laws.specs.Spelled.{spec_of}
use Rattle.netlist_laws.specs.Module.{wire_id, signal_value, drives, driving, ByRead, ByNothing, init_bits, at_last, bits_at_last, link_to, signal_drawing}
use Rattle.netlist_laws.proofs.Reading.{HasBits, Reads}
use Rattle.netlist_laws.proofs.Widths.{linked_bits, has_equal}
use Rattle.netlist_laws.proofs.BitWrites.{some_signal}
use Rattle.netlist_laws.proofs.Linked.{linked_bit}
use Rattle.netlist_laws.proofs.OneDriver.{AreNone, IsOnly, find_only, find_none, none_test}
use Rattle.netlist_laws.proofs.Driven.{driven_by, distinct_processes, no_input, comb_unheld, is_register-only, is_comb-only, free_unread, driving-found, driving-comb}
use Rattle.netlist_laws.proofs.SourcedSpecs.{init_bits_are, reads_constants, bit_at-sources}
use Rattle.netlist_laws.proofs.SettledNumbers.{settled_none}
use Rattle.netlist_laws.proofs.SettledWires.{signal_drawing-some}

module _ (c : Circuit) (design : IsDesign c) (s : ℕ) where
  only_of : (p : DesignProcess) → find (drives c s) c.processes ≡ Some p → IsOnly (driven_by c) s c.processes p
  only_of p e = find_only (driven_by c) s c.processes p (distinct_processes c design) e

  -- ---- the process or the port of a combinational signal

  pub record HasProcess : Type 0 where
    pub process : DesignProcess
    pub found : find (drives c s) c.processes ≡ Some process
    pub only : IsOnly (driven_by c) s c.processes process
    pub domain : process.domain ≡ None
    pub no_input : is_input c s ≡ false
    pub unheld : is_held c s ≡ false

  -- no process drives it, and a port without a clock gives it
  pub record IsReadAtOnce : Type 0 where
    pub none : find (drives c s) c.processes ≡ None
    pub read : list_any (λ (m : Memory). list_any (λ (r : MemRead). is_none r.domain && (r.word.0 == s)) m.reads) c.memories ≡ true

  pub comb_source : is_comb c s ≡ true → HasProcess ⊎ IsReadAtOnce
  comb_source comb = by (find (drives c s) c.processes) refl
    where
      by_domain : (p : DesignProcess) (d : Option DomainId) → p.domain ≡ d → find (drives c s) c.processes ≡ Some p → HasProcess ⊎ IsReadAtOnce
      by_domain p (Some d) h e = absurd (false≢true (sym (is_comb-only c design s p (only_of p e) ∙ ap is_none h) ∙ comb))
      by_domain p None h e =
          let o : IsOnly (driven_by c) s c.processes p = only_of p e in
          inl (record { process = p; found = e; only = o; domain = h; no_input = no_input c design s p o; unheld = comb_unheld c design s comb })

      by : (o : Option DesignProcess) → find (drives c s) c.processes ≡ o → HasProcess ⊎ IsReadAtOnce
      by None e =
          let reads : Bool = list_any (λ (m : Memory). list_any (λ (r : MemRead). is_none r.domain && (r.word.0 == s)) m.reads) c.memories in
          let none : AreNone (driven_by c) s c.processes = find_none (driven_by c) s c.processes e in
          inr (record { none = e; read = ap (λ t. t || reads) (sym (none_test (driven_by c) s (λ (q : DesignProcess). is_none q.domain) c.processes none)) ∙ comb })
      by (Some p) e = by_domain p p.domain refl e

  -- what is neither held nor combinational, no process drives
  pub free_none : is_held c s ≡ false → is_comb c s ≡ false → find (drives c s) c.processes ≡ None
  free_none unheld free = by (find (drives c s) c.processes) refl
    where
      by_domain : (p : DesignProcess) (d : Option DomainId) → p.domain ≡ d → IsOnly (driven_by c) s c.processes p → ⊥
      by_domain p None h o = false≢true (sym free ∙ is_comb-only c design s p o ∙ ap is_none h)
      by_domain p (Some d) h o = false≢true (sym (or_parts (is_input c s) (is_register c s) unheld).1 ∙ is_register-only c design s p o ∙ ap is_some h)

      by : (o : Option DesignProcess) → find (drives c s) c.processes ≡ o → o ≡ None
      by None e = refl
      by (Some p) e = absurd (by_domain p p.domain refl (only_of p e))

-- ---- on wires

module _ (c : Circuit) (s : ℕ) (wires : Wires) (some : 1 ≤ (signal_form c.pool.signals s).width) (obeys : ObeysComb wires (signal_drawing c s)) where
  -- a combinational signal's bit is its source behind all statements
  pub comb_bit : (design : IsDesign c) (h : HasProcess c design s) (i : ℕ) → i < (signal_form c.pool.signals s).width → wires (wire_id c s) i ≡ source_value wires (at_last c false h.process s i)
  comb_bit design h i l =
      let drawn : ObeysComb wires (link_to c s (bits_at_last c false h.process s)) = subst (ObeysComb wires) (signal_drawing-some c s _ some (driving-comb c s h.no_input h.process h.found h.domain)) obeys in
      linked_bit wires (signal_value c s) (bits_at_last c false h.process s) i (record { cells = All-nil (ObeysCell wires); links = drawn.links }) l
      ∙ bit_at-sources wires (at_last c false h.process s) (signal_form c.pool.signals s).width i l

  -- a signal that nothing drives has its first number
  pub nothing_bits : (x : Sig) → slice_get c.pool.signals s ≡ Some x → driving c s ≡ ByNothing → HasBits wires (wire_id c s) (signal_form c.pool.signals s).width x.init
  nothing_bits x is nothing =
      let w : ℕ = (signal_form c.pool.signals s).width in
      let right : List SigPart = spec_of (map Constant (init_bits c s)) in
      let drawn : ObeysComb wires (link_to c s right) = subst (ObeysComb wires) (signal_drawing-some c s ByNothing some nothing) obeys in
      let reads : Reads wires right w x.init = subst (λ bits. Reads wires (spec_of (map Constant bits)) w x.init) (sym (init_bits_are c s x is)) (reads_constants wires w x.init) in
      linked_bits wires (signal_value c s) right w x.init reads (omega arith) (record { cells = All-nil (ObeysCell wires); links = drawn.links })

  -- so has what is neither held nor combinational
  pub free_bits : IsDesign c → (env : List ℤ) (st : State) → Settled c st env → is_held c s ≡ false → is_comb c s ≡ false → HasBits wires (wire_id c s) (signal_form c.pool.signals s).width (at env s)
  free_bits design env st settled unheld free =
      let x : (y : Sig) × (slice_get c.pool.signals s ≡ Some y) = element c.pool.signals s (some_signal c.pool.signals s some) in
      has_equal wires (wire_id c s) (signal_form c.pool.signals s).width x.0.init (at env s) (sym (settled_none c env design st settled s x.0 x.1 unheld free))
      (nothing_bits x.0 x.1 (driving-found c s (or_parts (is_input c s) (is_register c s) unheld).0 None (free_none c design s unheld free) ∙ ap (λ b. cond b ByRead ByNothing) (free_unread c design s unheld free)))
