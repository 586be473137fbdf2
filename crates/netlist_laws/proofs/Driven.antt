-- What drives each signal of a design, and whether a state holds it.
use Rattle.std.specs.Prelude.{◌≡◌, refl, ℕ, ◌==◌, ◌&&◌, ◌||◌, Bool, true, false, not, IsTrue, cond, List, [], ◌∷◌, map, Option, Some, None, is_some, is_none}
use Rattle.std.specs.List.{AllByRecursion, IsDistinct, list_any, find}
use Rattle.std.proofs.Common.{sym, ◌∙◌, ap, subst, ⊎_elim}
use Rattle.std.proofs.lemmas.Bool.{false≢true, and_parts, and_right, or_parts, or_from, or_cases, eqb-true}
use Rattle.std.proofs.lemmas.List.Folds.{list_any-append}
use Rattle.design_ir.specs.declared.ids.DomainId.{DomainId}
use Rattle.design_ir.specs.declared.process.DesignProcess.{DesignProcess}
use Rattle.design_ir.specs.declared.memory.MemRead.{MemRead}
use Rattle.design_ir.specs.declared.memory.Memory.{Memory}
use Rattle.design_ir.specs.declared.port.Port.{Port}
use Rattle.design_ir.specs.Guards.{driven}
use Rattle.design_ir.specs.Circuits.{Circuit, is_among, is_input, is_register, is_held}
use Rattle.design_ir.specs.Designs.{share, drivers, IsDesign}
use Rattle.netlist_laws.specs.Module.{Driving, ByEvents, ByComb, ByClock, ByRead, ByNothing, is_there, is_read, drives, undriven, driving_by, driving}
use Rattle.comb_graph.specs.Orders.{is_comb}
use Rattle.flat_design.proofs.DrivenOnce.{processes_distinct}
use Rattle.netlist_laws.proofs.OneDriver.{AreNone, IsOnly, clocks_it, find_only, find_none, only_holds, none_clock, only_clock, none_test, only_test}
use Rattle.netlist_laws.proofs.ReadOnce.{has_it, words_of, AreUnread, kind_none, only_unread, distinct_right, one_kind}

-- the signals that a process drives
abbrev pub driven_by : Circuit → DesignProcess → List ℕ
driven_by c p = driven c.pool p.body

or_false : (b t : Bool) → b ≡ t → (b || false) ≡ t
or_false true t e = e
or_false false t e = e

module _ (c : Circuit) (design : IsDesign c) where
  pub distinct_processes : IsDistinct share (map (driven_by c) c.processes)
  distinct_processes = processes_distinct c design

  -- no read port gives what a process drives
  pub process_unread : (s : ℕ) (p : DesignProcess) → IsOnly (driven_by c) s c.processes p → AreUnread s c.memories
  process_unread s p o = only_unread (driven_by c) s c.processes p (words_of c.memories) design.one_driver o

  pub is_register-only : (s : ℕ) (p : DesignProcess) → IsOnly (driven_by c) s c.processes p → is_register c s ≡ is_some p.domain
  is_register-only s p o =
      ap (λ t. list_any (clocks_it (driven_by c) s) c.processes || t) (kind_none s (λ (r : MemRead). is_some r.domain) c.memories (process_unread s p o))
      ∙ or_false (list_any (clocks_it (driven_by c) s) c.processes) (is_some p.domain) (only_clock (driven_by c) s c.processes p o)

  pub is_comb-only : (s : ℕ) (p : DesignProcess) → IsOnly (driven_by c) s c.processes p → is_comb c s ≡ is_none p.domain
  is_comb-only s p o =
      let any : Bool = list_any (λ (q : DesignProcess). is_none q.domain && is_among (driven_by c q) s) c.processes in
      ap (λ t. any || t) (kind_none s (λ (r : MemRead). is_none r.domain) c.memories (process_unread s p o)) ∙ or_false any (is_none p.domain) (only_test (driven_by c) s (λ q. is_none q.domain) c.processes p o)

-- ---- inputs

input_undriven : (c : Circuit) (s : ℕ) (ports : List Port) → AllByRecursion (λ (p : Port). IsTrue p.is_input → list_any (λ ss. is_among ss p.sig.0) (drivers c) ≡ false) ports
    → list_any (λ (p : Port). p.is_input && (p.sig.0 == s)) ports ≡ true → list_any (λ ss. is_among ss s) (drivers c) ≡ false
input_undriven c s [] h e = absurd (false≢true e)
input_undriven c s (p ∷ ports) h e = ⊎_elim
    (λ (here : (p.is_input && (p.sig.0 == s)) ≡ true).
    let parts = and_parts p.is_input (p.sig.0 == s) here in
    subst (λ n. list_any (λ ss. is_among ss n) (drivers c) ≡ false) (eqb-true p.sig.0 s parts.1) (h.0 parts.0))
    (λ (more : list_any (λ (q : Port). q.is_input && (q.sig.0 == s)) ports ≡ true). input_undriven c s ports h.1 more)
    (or_cases (p.is_input && (p.sig.0 == s)) (list_any (λ (q : Port). q.is_input && (q.sig.0 == s)) ports) e)

none_listed : (f : DesignProcess → List ℕ) (s : ℕ) (ps : List DesignProcess) → list_any (λ ss. is_among ss s) (map f ps) ≡ false → AreNone f s ps
none_listed f s [] e = tt
none_listed f s (p ∷ ps) e = let parts = or_parts (is_among (f p) s) (list_any (λ ss. is_among ss s) (map f ps)) e in (parts.0, none_listed f s ps parts.1)

-- neither a process nor a read port gives an input
module _ (c : Circuit) (s : ℕ) (design : IsDesign c) (input : is_input c s ≡ true) where
  none_gives : (list_any (has_it s) (map (driven_by c) c.processes) ≡ false) × AreUnread s c.memories
  none_gives =
      or_parts (list_any (has_it s) (map (driven_by c) c.processes)) (list_any (has_it s) (words_of c.memories))
      (sym (list_any-append (has_it s) (map (driven_by c) c.processes) (words_of c.memories)) ∙ input_undriven c s c.ports design.no_driven_input input)

  pub input_none : AreNone (driven_by c) s c.processes
  input_none = none_listed (driven_by c) s c.processes none_gives.0

  pub input_unread : AreUnread s c.memories
  input_unread = none_gives.1

-- ---- what drives it

pub by_comb : (other : Driving) (p : DesignProcess) → p.domain ≡ None → driving_by other (Some p) ≡ ByComb p
by_comb other p e = rw e refl

pub by_clock : (other : Driving) (p : DesignProcess) (d : DomainId) → p.domain ≡ Some d → driving_by other (Some p) ≡ ByClock p d
by_clock other p d e = rw e refl

module _ (c : Circuit) (s : ℕ) (no_input : is_input c s ≡ false) where
  pub driving-found : (o : Option DesignProcess) → find (drives c s) c.processes ≡ o → driving c s ≡ driving_by (undriven c s) o
  driving-found o e = ap (λ t. cond t ByEvents (driving_by (undriven c s) (find (drives c s) c.processes))) no_input ∙ ap (driving_by (undriven c s)) e

  pub driving-comb : (p : DesignProcess) → find (drives c s) c.processes ≡ Some p → p.domain ≡ None → driving c s ≡ ByComb p
  driving-comb p e d = driving-found (Some p) e ∙ by_comb (undriven c s) p d

  pub driving-clock : (p : DesignProcess) (d : DomainId) → find (drives c s) c.processes ≡ Some p → p.domain ≡ Some d → driving c s ≡ ByClock p d
  driving-clock p d e h = driving-found (Some p) e ∙ by_clock (undriven c s) p d h

-- ---- what a state holds no round computes

is_no_some : {A : Type 0} (o : Option A) → is_none o ≡ true → is_some o ≡ false
is_no_some None e = refl
is_no_some (Some x) e = absurd (false≢true e)

module _ (c : Circuit) (design : IsDesign c) (s : ℕ) where
  abbrev reads_of : (MemRead → Bool) → Bool
  reads_of kind = list_any (λ (m : Memory). list_any (λ (r : MemRead). kind r && (r.word.0 == s)) m.reads) c.memories

  -- of a signal that a comb port gives, where no process drives it
  read_unheld : AreNone (driven_by c) s c.processes → reads_of (λ r. is_none r.domain) ≡ true → is_held c s ≡ false
  read_unheld none e =
      let clocked : reads_of (λ r. is_some r.domain) ≡ false =
      one_kind s (λ r. is_none r.domain) (λ r. is_some r.domain) (λ r h. is_no_some r.domain h) c.memories (distinct_right (map (driven_by c) c.processes) (words_of c.memories) design.one_driver) e in
      or_from (is_input c s) (is_register c s) (no_input (is_input c s) refl) (or_from (list_any (clocks_it (driven_by c) s) c.processes) (reads_of (λ r. is_some r.domain)) (none_clock (driven_by c) s c.processes none) clocked)
    where
      no_input : (t : Bool) → is_input c s ≡ t → t ≡ false
      no_input false i = refl
      no_input true i = absurd (false≢true (sym (kind_none s (λ r. is_none r.domain) c.memories (input_unread c s design i)) ∙ e))

  -- no process drives an input
  pub no_input : (p : DesignProcess) → IsOnly (driven_by c) s c.processes p → is_input c s ≡ false
  no_input p o = by (is_input c s) refl
    where
      by : (t : Bool) → is_input c s ≡ t → t ≡ false
      by false e = refl
      by true e = absurd (false≢true (sym (only_holds (λ (q : DesignProcess). is_among (driven_by c q) s ≡ false) (driven_by c) s c.processes p o (input_none c s design e)) ∙ o.here))

  pub comb_unheld : is_comb c s ≡ true → is_held c s ≡ false
  comb_unheld comb = by (find (drives c s) c.processes) refl
    where
      by_domain : (p : DesignProcess) (d : Option DomainId) → p.domain ≡ d → IsOnly (driven_by c) s c.processes p → is_held c s ≡ false
      by_domain p (Some d) h o = absurd (false≢true (sym (is_comb-only c design s p o ∙ ap is_none h) ∙ comb))
      by_domain p None h o = or_from (is_input c s) (is_register c s) (no_input p o) (is_register-only c design s p o ∙ ap is_some h)

      by : (o : Option DesignProcess) → find (drives c s) c.processes ≡ o → is_held c s ≡ false
      by None e =
          let none : AreNone (driven_by c) s c.processes = find_none (driven_by c) s c.processes e in
          read_unheld none (ap (λ t. t || reads_of (λ r. is_none r.domain)) (sym (none_test (driven_by c) s (λ q. is_none q.domain) c.processes none)) ∙ comb)
      by (Some p) e = by_domain p p.domain refl (find_only (driven_by c) s c.processes p (distinct_processes c design) e)

  pub held_uncomb : is_held c s ≡ true → is_comb c s ≡ false
  held_uncomb held = by (is_comb c s) refl
    where
      by : (t : Bool) → is_comb c s ≡ t → t ≡ false
      by false e = refl
      by true e = absurd (false≢true (sym (comb_unheld e) ∙ held))

-- ---- what a port gives

module _ (s : ℕ) where
  abbrev pub gives_it : MemRead → Bool
  gives_it r = r.word.0 == s

  abbrev stored_gives : Memory → Bool
  stored_gives m = is_there m && list_any gives_it m.reads

  of_kinds : (d x : Bool) → (d && x) ≡ false → (not d && x) ≡ false → x ≡ false
  of_kinds true x e f = e
  of_kinds false x e f = f

  some_not : {A : Type 0} (o : Option A) → is_some o ≡ not (is_none o)
  some_not None = refl
  some_not (Some x) = refl

  port_kinds : (rs : List MemRead) → list_any (λ (r : MemRead). is_none r.domain && gives_it r) rs ≡ false → list_any (λ (r : MemRead). is_some r.domain && gives_it r) rs ≡ false → list_any gives_it rs ≡ false
  port_kinds [] e f = refl
  port_kinds (r ∷ rs) e f =
      let here = or_parts (is_none r.domain && gives_it r) (list_any (λ (q : MemRead). is_none q.domain && gives_it q) rs) e in
      let there = or_parts (is_some r.domain && gives_it r) (list_any (λ (q : MemRead). is_some q.domain && gives_it q) rs) f in
      or_from (gives_it r) (list_any gives_it rs) (of_kinds (is_none r.domain) (gives_it r) here.0 (ap (λ b. b && gives_it r) (sym (some_not r.domain)) ∙ there.0)) (port_kinds rs here.1 there.1)

  -- what no port of either kind gives, no port gives
  pub kinds_none : (ms : List Memory) → list_any (λ (m : Memory). list_any (λ (r : MemRead). is_none r.domain && gives_it r) m.reads) ms ≡ false
      → list_any (λ (m : Memory). list_any (λ (r : MemRead). is_some r.domain && gives_it r) m.reads) ms ≡ false → list_any stored_gives ms ≡ false
  kinds_none [] e f = refl
  kinds_none (m ∷ ms) e f =
      let here = or_parts (list_any (λ (r : MemRead). is_none r.domain && gives_it r) m.reads) (list_any (λ (x : Memory). list_any (λ (r : MemRead). is_none r.domain && gives_it r) x.reads) ms) e in
      let there = or_parts (list_any (λ (r : MemRead). is_some r.domain && gives_it r) m.reads) (list_any (λ (x : Memory). list_any (λ (r : MemRead). is_some r.domain && gives_it r) x.reads) ms) f in
      or_from (stored_gives m) (list_any stored_gives ms) (and_right (is_there m) (list_any gives_it m.reads) (port_kinds m.reads here.0 there.0)) (kinds_none ms here.1 there.1)

module _ (c : Circuit) (design : IsDesign c) (s : ℕ) where
  unread_no : AreUnread s c.memories → is_read c s ≡ false
  unread_no e = kinds_none s c.memories (kind_none s (λ (r : MemRead). is_none r.domain) c.memories e) (kind_none s (λ (r : MemRead). is_some r.domain) c.memories e)

  -- neither events nor statements drive it
  pub read_driving : is_read c s ≡ true → driving c s ≡ ByRead
  read_driving read = driving-found c s (input (is_input c s) refl) (find (drives c s) c.processes) refl ∙ ap (driving_by (undriven c s)) (none (find (drives c s) c.processes) refl) ∙ ap (λ b. cond b ByRead ByNothing) read
    where
      input : (t : Bool) → is_input c s ≡ t → t ≡ false
      input false e = refl
      input true e = absurd (false≢true (sym (unread_no (input_unread c s design e)) ∙ read))

      none : (o : Option DesignProcess) → find (drives c s) c.processes ≡ o → o ≡ None
      none None e = refl
      none (Some p) e = absurd (false≢true (sym (unread_no (process_unread c design s p (find_only (driven_by c) s c.processes p (distinct_processes c design) e))) ∙ read))

  -- what is neither held nor combinational is given by no port
  pub free_unread : is_held c s ≡ false → is_comb c s ≡ false → is_read c s ≡ false
  free_unread unheld free =
      kinds_none s c.memories
      (or_parts (list_any (λ (q : DesignProcess). is_none q.domain && is_among (driven_by c q) s) c.processes) (list_any (λ (m : Memory). list_any (λ (r : MemRead). is_none r.domain && (r.word.0 == s)) m.reads) c.memories) free).1
      (or_parts (list_any (clocks_it (driven_by c) s) c.processes) (list_any (λ (m : Memory). list_any (λ (r : MemRead). is_some r.domain && (r.word.0 == s)) m.reads) c.memories) (or_parts (is_input c s) (is_register c s) unheld).1).1
