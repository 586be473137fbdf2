-- Which signals are inputs, by their ports.
use Rattle.std.proofs.Common.{◌≡◌, ◌==◌, ◌&&◌, ◌||◌, ℕ, Bool, true, false, cond, List, [], ◌∷◌, map, refl, sym, ap, ◌∙◌}
use Rattle.std.specs.Prelude.{nat_eq, Some}
use Rattle.std.specs.List.{AllByRecursion, IsDistinct, find, list_any}
use Rattle.std.proofs.lemmas.Bool.{eqb-true, eqb-false, ne_eqb}
use Rattle.design_ir.specs.declared.port.Port.{Port}
use Rattle.design_ir.specs.Circuits.{Circuit, is_input, option_test}
use Rattle.design_ir.specs.Designs.{IsDesign}
use Rattle.netlist_cells.specs.Places.{is_port_of}

abbrev takes_in : Port → Bool
takes_in p = p.is_input

none_ports : (ps : List Port) (s t : ℕ) → s ≡ t → AllByRecursion (λ u. nat_eq s u ≡ false) (map (λ (p : Port). p.sig.0) ps) → list_any (λ (p : Port). p.is_input && (p.sig.0 == t)) ps ≡ false
none_ports [] s t e h = refl
none_ports (p ∷ ps) s t e h =
    let f : (p.sig.0 == t) ≡ false = ne_eqb p.sig.0 t (λ g. eqb-false s p.sig.0 h.0 (e ∙ sym g)) in
    let z : (p.is_input && false) ≡ false = and_no p.is_input in
    rw (f, z) (none_ports ps s t e h.1)
  where
    and_no : (b : Bool) → (b && false) ≡ false
    and_no true = refl
    and_no false = refl

ports_input : (ps : List Port) (s : ℕ) → IsDistinct nat_eq (map (λ (p : Port). p.sig.0) ps) → option_test (λ (p : Port). p.is_input) (find (is_port_of s) ps) ≡ list_any (λ (p : Port). p.is_input && (p.sig.0 == s)) ps
unfolding IsDistinct
ports_input [] s h = refl
ports_input (p ∷ ps) s h = by (ports_input ps s h.1) (p.sig.0 == s) refl
  where
    either : (q : Bool) → q ≡ ((q && true) || false)
    either true = refl
    either false = refl

    and_no : (b : Bool) → (b && false) ≡ false
    and_no true = refl
    and_no false = refl

    by : option_test (λ (q : Port). q.is_input) (find (is_port_of s) ps) ≡ list_any (λ (q : Port). q.is_input && (q.sig.0 == s)) ps → (b : Bool) → (p.sig.0 == s) ≡ b
        → option_test (λ (q : Port). q.is_input) (cond b (Some p) (find (is_port_of s) ps)) ≡ ((p.is_input && b) || list_any (λ (q : Port). q.is_input && (q.sig.0 == s)) ps)
    by later true t = either p.is_input ∙ ap (λ r. (p.is_input && true) || r) (sym (none_ports ps p.sig.0 s (eqb-true p.sig.0 s t) h.0))
    by later false t = later ∙ ap (λ b. b || list_any (λ (q : Port). q.is_input && (q.sig.0 == s)) ps) (sym (and_no p.is_input))

pub input_found : (c : Circuit) (s : ℕ) → IsDesign c → option_test (λ (p : Port). p.is_input) (find (is_port_of s) c.ports) ≡ is_input c s
input_found c s h = ports_input c.ports s h.ports
