-- A register's cell has its edge where its domain is active.
use Rattle.std.specs.Prelude.{◌≡◌, ◌≢◌, refl, ℕ, zero, suc, ◌<◌, ◌==◌, ◌&&◌, ◌||◌, nat_eq, Bool, true, false, not, cond, List, [], ◌∷◌, map, length, slice_get, ℤ, pos, negsuc, ◌-ℤ◌, Option, Some, None, fold, option_map, unwrap_or}
use Rattle.std.specs.List.{AllByRecursion, IsDistinct, list_any}
use Rattle.std.proofs.Common.{sym, ◌∙◌, ap, arith, subst, ⊎_elim}
use Rattle.std.proofs.lemmas.Bool.{cases_eq, eqb-false, eq-eqb, ne_eqb}
use Rattle.std.proofs.lemmas.List.{length-set, get_or-set_same, get_or-set_other}
use Rattle.std.proofs.lemmas.Map.Keys.{IsDistinct-head, IsDistinct-tail}
use Rattle.amh_bits.specs.Patterns.{IsOf}
use Rattle.shape_rules.specs.Forms.{Form, unsigned}
use Rattle.shape_rules.specs.Operators.{is_zero}
use Rattle.design_ir.specs.declared.ids.DomainId.{DomainId}
use Rattle.design_ir.specs.declared.domain.Domain.{Domain}
use Rattle.design_ir.specs.declared.event.Event.TheVariants.{Edge}
use Rattle.design_ir.specs.Values.{signal_form}
use Rattle.design_ir.specs.Circuits.{Circuit, State, at, option_test}
use Rattle.design_ir.specs.Designs.{IsClockDomain, IsDesign}
use Rattle.design_ir.specs.Legal.{Ascending}
use Rattle.design_ir.specs.Steps.{is_before_edge, is_active, clocked, clocked_reads, toggle_at, toggle, moved}
use Rattle.rtlil_text.specs.Sources.{spec_bits}
use Rattle.rtlil_text.specs.Cells.{bit_at}
use Rattle.rtlil_text.specs.Meaning.{source_value}
use Rattle.rtlil_text.specs.History.{Wires, is_edge}
use Rattle.memory_cells.specs.declared.clock.Clock.{Clock}
use Rattle.memory_cells.specs.Clocks.{polarity}
use Rattle.netlist_laws.specs.Operators.{whole}
use Rattle.netlist_laws.specs.Carried.{IsIn, Carries}
use Rattle.netlist_laws.specs.Module.{signal_value, clock_of, clock_at, no_clock}
use Rattle.netlist_laws.proofs.SignalBits.{bit_at-signal}
use Rattle.netlist_laws.proofs.OneDriver.{fold_none, length-fold}
use Rattle.netlist_laws.proofs.Driven.{driven_by, input_none, input_unread}
use Rattle.netlist_laws.proofs.ReadOnce.{clocked_reads-other, length-clocked_reads}
use Rattle.netlist_laws.proofs.RegisterSteps.{all_at, clocked_at-other, length-clocked_at}

-- ---- clocks are apart

differs : (n : ℕ) (ds : List Domain) (j : ℕ) (y : Domain) → AllByRecursion (λ k. nat_eq n k ≡ false) (map (λ (x : Domain). x.clk.0) ds) → slice_get ds j ≡ Some y → n ≢ y.clk.0
differs n [] j y h e = cc
differs n (z ∷ ds) zero y h e = let same : z ≡ y = cc in λ d. eqb-false n z.clk.0 h.0 (d ∙ ap (λ (x : Domain). x.clk.0) (sym same))
differs n (z ∷ ds) (suc j) y h e = differs n ds j y h.1 e

clocks_apart : (ds : List Domain) (i j : ℕ) (x y : Domain) → IsDistinct nat_eq (map (λ (z : Domain). z.clk.0) ds) → slice_get ds i ≡ Some x → slice_get ds j ≡ Some y → i ≢ j → x.clk.0 ≢ y.clk.0
clocks_apart [] i j x y h e f apart = cc
clocks_apart (z ∷ ds) zero zero x y h e f apart = absurd (apart refl)
clocks_apart (z ∷ ds) zero (suc j) x y h e f apart =
    let same : z ≡ x = cc in
    λ d. differs z.clk.0 ds j y (IsDistinct-head nat_eq z.clk.0 (map (λ (w : Domain). w.clk.0) ds) h) f (ap (λ (w : Domain). w.clk.0) same ∙ d)
clocks_apart (z ∷ ds) (suc i) zero x y h e f apart =
    let same : z ≡ y = cc in
    λ d. differs z.clk.0 ds i x (IsDistinct-head nat_eq z.clk.0 (map (λ (w : Domain). w.clk.0) ds) h) e (ap (λ (w : Domain). w.clk.0) same ∙ sym d)
clocks_apart (z ∷ ds) (suc i) (suc j) x y h e f apart =
    clocks_apart ds i j x y (IsDistinct-tail nat_eq z.clk.0 (map (λ (w : Domain). w.clk.0) ds) h) e f (λ d. apart (ap suc d))

-- ---- what an edge does to a clock

pub length-toggle_at : (cur : List ℤ) (o : Option Domain) → length (toggle_at cur o) ≡ length cur
length-toggle_at cur None = refl
length-toggle_at cur (Some y) = length-set cur y.clk.0 (pos 1 -ℤ at cur y.clk.0)

module _ (domains : List Domain) (distinct : IsDistinct nat_eq (map (λ (z : Domain). z.clk.0) domains)) (d : ℕ) (x : Domain) (is : slice_get domains d ≡ Some x) where
  other_at : (e : ℕ) (cur : List ℤ) (o : Option Domain) → slice_get domains e ≡ o → e ≢ d → at (toggle_at cur o) x.clk.0 ≡ at cur x.clk.0
  other_at e cur None f apart = refl
  other_at e cur (Some y) f apart = get_or-set_other cur y.clk.0 x.clk.0 (pos 1 -ℤ at cur y.clk.0) (pos 0) (clocks_apart domains d e x y distinct is f (λ same. apart (sym same)))

  toggle-other : (e : DomainId) (cur : List ℤ) → e.0 ≢ d → at (toggle domains cur e) x.clk.0 ≡ at cur x.clk.0
  toggle-other e cur apart = other_at e.0 cur (slice_get domains e.0) refl apart

  toggle-same : (e : DomainId) (cur : List ℤ) → x.clk.0 < length cur → e.0 ≡ d → at (toggle domains cur e) x.clk.0 ≡ pos 1 -ℤ at cur x.clk.0
  toggle-same e cur there same =
      ap (λ o. at (toggle_at cur o) x.clk.0) (ap (slice_get domains) same ∙ is) ∙ get_or-set_same cur x.clk.0 (pos 1 -ℤ at cur x.clk.0) (pos 0) there

  -- domains past this one leave its clock alone
  toggles_past : (ds : List DomainId) (least : ℕ) (cur : List ℤ) → d < least → Ascending least ds → at (fold (toggle domains) cur ds) x.clk.0 ≡ at cur x.clk.0
  toggles_past [] least cur past h = refl
  toggles_past (e ∷ ds) least cur past h =
      toggles_past ds (suc e.0) (toggle domains cur e) (omega (arith, h.0)) h.1 ∙ toggle-other e cur (λ same. absurd (omega (arith, h.0, same)))

  toggles_at : (ds : List DomainId) (least : ℕ) (cur : List ℤ) → x.clk.0 < length cur → Ascending least ds
      → at (fold (toggle domains) cur ds) x.clk.0 ≡ cond (list_any (λ (e : DomainId). e.0 == d) ds) (pos 1 -ℤ at cur x.clk.0) (at cur x.clk.0)
  toggles_at [] least cur there h = refl
  toggles_at (e ∷ ds) least cur there h = ⊎_elim
      (λ (same : e.0 ≡ d).
      toggles_past ds (suc e.0) (toggle domains cur e) (omega arith) h.1
      ∙ toggle-same e cur there same
      ∙ ap (λ t. cond (t || list_any (λ (y : DomainId). y.0 == d) ds) (pos 1 -ℤ at cur x.clk.0) (at cur x.clk.0)) (sym (eq-eqb e.0 d same)))
      (λ (apart : e.0 ≢ d).
      toggles_at ds (suc e.0) (toggle domains cur e) (omega (arith, there, length-toggle_at cur (slice_get domains e.0))) h.1
      ∙ ap (λ z. cond (list_any (λ (y : DomainId). y.0 == d) ds) (pos 1 -ℤ z) z) (toggle-other e cur apart)
      ∙ ap (λ t. cond (t || list_any (λ (y : DomainId). y.0 == d) ds) (pos 1 -ℤ at cur x.clk.0) (at cur x.clk.0)) (sym (ne_eqb e.0 d apart)))
      (cases_eq e.0 d)

-- ---- an edge from 0 to 1, or from 1 to 0

edge_bit : (falling : Bool) (z : ℤ) (b : Bool) → IsOf false 1 z
    → is_edge (cond falling 0 1) (Some (not (is_zero z))) (Some (not (is_zero (cond b (pos 1 -ℤ z) z)))) ≡ (b && cond falling (not (is_zero z)) (is_zero z))
edge_bit true (pos zero) true h = refl
edge_bit true (pos zero) false h = refl
edge_bit true (pos (suc zero)) true h = refl
edge_bit true (pos (suc zero)) false h = refl
edge_bit false (pos zero) true h = refl
edge_bit false (pos zero) false h = refl
edge_bit false (pos (suc zero)) true h = refl
edge_bit false (pos (suc zero)) false h = refl
edge_bit falling (pos (suc (suc n))) b h = absurd (omega arith)
edge_bit falling (negsuc n) b h = absurd h

pub turned : (b : Bool) (z : ℤ) → IsOf false 1 z → IsOf false 1 (cond b (pos 1 -ℤ z) z)
turned false z h = h
turned true (pos zero) h = omega arith
turned true (pos (suc zero)) h = omega arith
turned true (pos (suc (suc n))) h = absurd (omega arith)
turned true (negsuc n) h = absurd h

module _ (c : Circuit) (design : IsDesign c) (env : List ℤ) (st : State) (listed : List DomainId) (ordered : Ascending 0 listed) (count : length st.held ≡ length c.pool.signals)
    (d : DomainId) (x : Domain) (is : slice_get c.domains d.0 ≡ Some x) where
  clock : IsClockDomain c x
  clock = all_at (IsClockDomain c) c.domains d.0 x design.domains is

  -- the clock toggles where its domain is listed
  pub clock_after : at (moved c st env (Edge listed)).held x.clk.0 ≡ cond (list_any (λ (e : DomainId). e.0 == d.0) listed) (pos 1 -ℤ at st.held x.clk.0) (at st.held x.clk.0)
  clock_after =
      let after : List ℤ = fold (clocked c env listed) st.held c.processes in
      let still : at after x.clk.0 ≡ at st.held x.clk.0 = fold_none (driven_by c) x.clk.0 (clocked c env listed) (λ cur q. length-clocked_at c env listed x.clk.0 q cur q.domain) (λ cur q h. clocked_at-other c env listed x.clk.0 q cur q.domain h)
      c.processes st.held (input_none c x.clk.0 design clock.clock_input) in
      let long : length after ≡ length st.held = length-fold (driven_by c) x.clk.0 (clocked c env listed) (λ cur q. length-clocked_at c env listed x.clk.0 q cur q.domain) (λ cur q h. clocked_at-other c env listed x.clk.0 q cur q.domain h) c.processes st.held in
      let read : List ℤ = clocked_reads c env listed c.memories st.rows after in
      let unread : at read x.clk.0 ≡ at after x.clk.0 = clocked_reads-other c env listed x.clk.0 c.memories st.rows after (input_unread c x.clk.0 design clock.clock_input) in
      toggles_at c.domains design.clocks d.0 x is listed 0 read (omega (arith, length-clocked_reads c env listed c.memories st.rows after, long, count, clock.clock.there)) ordered
      ∙ ap (λ z. cond (list_any (λ (e : DomainId). e.0 == d.0) listed) (pos 1 -ℤ z) z) (unread ∙ still)

  -- so the clock's bit has the domain's edge where the domain is active
  pub active_edge : (old new : Wires) → at st.held x.clk.0 ≡ at env x.clk.0 → IsIn (signal_form c.pool.signals x.clk.0) (at env x.clk.0)
      → Carries old (signal_value c x.clk.0) (at env x.clk.0) → Carries new (signal_value c x.clk.0) (at (moved c st env (Edge listed)).held x.clk.0)
      → is_edge (polarity (clock_of c d)) (bit_at (source_value old) (spec_bits (clock_of c d).bit) 0) (bit_at (source_value new) (spec_bits (clock_of c d).bit) 0) ≡ is_active c env listed d.0
  active_edge old new same fits o n =
      let b : Bool = list_any (λ (e : DomainId). e.0 == d.0) listed in
      let z : ℤ = at env x.clk.0 in
      let shape : signal_form c.pool.signals x.clk.0 ≡ unsigned 1 = clock.clock.shape in
      let one : IsOf false 1 z = subst (λ (g : Form). IsIn g z) shape fits in
      let after : at (moved c st env (Edge listed)).held x.clk.0 ≡ cond b (pos 1 -ℤ z) z = clock_after ∙ ap (λ y. cond b (pos 1 -ℤ y) y) same in
      let fits_after : IsIn (signal_form c.pool.signals x.clk.0) (at (moved c st env (Edge listed)).held x.clk.0) =
      subst (λ (g : Form). IsIn g (at (moved c st env (Edge listed)).held x.clk.0)) (sym shape) (subst (IsOf false 1) (sym after) (turned b z one)) in
      let up : ℕ = polarity (clock_at c x) in
      ap (λ (w : Clock). is_edge (polarity w) (bit_at (source_value old) (spec_bits w.bit) 0) (bit_at (source_value new) (spec_bits w.bit) 0)) (ap (λ o. unwrap_or (option_map (clock_at c) o) no_clock) is)
      ∙ ap (λ t. is_edge up t (bit_at (source_value new) (spec_bits (whole (signal_value c x.clk.0))) 0)) (bit_at-signal old c x.clk.0 z shape fits o)
      ∙ ap (is_edge up (Some (not (is_zero z)))) (bit_at-signal new c x.clk.0 (at (moved c st env (Edge listed)).held x.clk.0) shape fits_after n ∙ ap (λ y. Some (not (is_zero y))) after)
      ∙ edge_bit x.falling z b one
      ∙ ap (λ o. b && option_test (λ (y : Domain). is_before_edge y (at env y.clk.0)) o) (sym is)
