-- No process drives an input.
use Rattle.std.specs.Prelude.{◌≡◌, ℕ, ◌==◌, ◌&&◌, false, true, IsTrue, List, [], ◌∷◌, map}
use Rattle.std.specs.List.{AllByRecursion, list_any, flat_map}
use Rattle.std.proofs.Common.{sym, ◌∙◌, subst, ⊎_elim}
use Rattle.std.proofs.lemmas.Bool.{false≢true, and_parts, or_parts, or_cases, eqb-true}
use Rattle.std.proofs.lemmas.List.Folds.{list_any-append}
use Rattle.design_ir.specs.declared.process.DesignProcess.{DesignProcess}
use Rattle.design_ir.specs.declared.memory.MemRead.{MemRead}
use Rattle.design_ir.specs.declared.memory.Memory.{Memory}
use Rattle.design_ir.specs.declared.port.Port.{Port}
use Rattle.design_ir.specs.Guards.{driven}
use Rattle.design_ir.specs.Circuits.{Circuit, is_among, is_input}
use Rattle.design_ir.specs.Designs.{drivers, IsDesign}

module _ (c : Circuit) (s : ℕ) where
  undriven_ports : (ports : List Port) → AllByRecursion (λ (p : Port). IsTrue p.is_input → list_any (λ ss. is_among ss p.sig.0) (drivers c) ≡ false) ports
      → list_any (λ (p : Port). p.is_input && (p.sig.0 == s)) ports ≡ true → list_any (λ ss. is_among ss s) (drivers c) ≡ false
  undriven_ports [] h e = absurd (false≢true e)
  undriven_ports (p ∷ ports) h e = ⊎_elim
      (λ (here : (p.is_input && (p.sig.0 == s)) ≡ true).
      let parts = and_parts p.is_input (p.sig.0 == s) here in
      subst (λ n. list_any (λ ss. is_among ss n) (drivers c) ≡ false) (eqb-true p.sig.0 s parts.1) (h.0 parts.0))
      (λ (more : list_any (λ (q : Port). q.is_input && (q.sig.0 == s)) ports ≡ true). undriven_ports ports h.1 more)
      (or_cases (p.is_input && (p.sig.0 == s)) (list_any (λ (q : Port). q.is_input && (q.sig.0 == s)) ports) e)

  none_of : (ps : List DesignProcess) → list_any (λ ss. is_among ss s) (map (λ (p : DesignProcess). driven c.pool p.body) ps) ≡ false → AllByRecursion (λ (p : DesignProcess). is_among (driven c.pool p.body) s ≡ false) ps
  none_of [] e = tt
  none_of (p ∷ ps) e =
      let parts = or_parts (is_among (driven c.pool p.body) s) (list_any (λ ss. is_among ss s) (map (λ (q : DesignProcess). driven c.pool q.body) ps)) e in
      (parts.0, none_of ps parts.1)

  pub input_undriven : IsDesign c → is_input c s ≡ true → AllByRecursion (λ (p : DesignProcess). is_among (driven c.pool p.body) s ≡ false) c.processes
  input_undriven d e =
      let own : List (List ℕ) = map (λ (p : DesignProcess). driven c.pool p.body) c.processes in
      let more : List (List ℕ) = flat_map (λ (m : Memory). map (λ (r : MemRead). r.word.0 ∷ []) m.reads) c.memories in
      let none : list_any (λ ss. is_among ss s) (drivers c) ≡ false = undriven_ports c.ports d.no_driven_input e in
      none_of c.processes (or_parts (list_any (λ ss. is_among ss s) own) (list_any (λ ss. is_among ss s) more) (sym (list_any-append (λ ss. is_among ss s) own more) ∙ none)).0
