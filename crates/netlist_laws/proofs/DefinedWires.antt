-- Each bit of each wire of a module has a value where signals and expressions carry their numbers.
use Rattle.std.specs.Prelude.{◌≡◌, ℕ, zero, suc, ◌+◌, ◌<◌, ◌≤◌, ◌&&◌, nat_lt, nat_eq, Bool, true, false, cond, List, [], ◌∷◌, ◌++◌, map, length, slice_get, ℤ, Option, Some, None, is_none, All}
use Rattle.std.specs.List.{IsDistinct, flat_map, range_with_len}
use Rattle.std.proofs.Common.{refl, sym, ap, ◌∙◌, arith, subst, inl, inr, ⊎_elim}
use Rattle.std.proofs.lemmas.Bool.{false≢true, cond_both, and_parts, ne_eqb, eq-eqb, eqb-false}
use Rattle.std.proofs.lemmas.List.Elements.{All-nil, All-cons, All-append, All-from_recursion}
use Rattle.design_ir.specs.declared.ids.ExprId.{ExprId}
use Rattle.design_ir.specs.declared.ids.DomainId.{DomainId}
use Rattle.design_ir.specs.declared.signal.Sig.{Sig}
use Rattle.design_ir.specs.declared.expr.Expr.{Expr}
use Rattle.design_ir.specs.declared.port.Column.{Column}
use Rattle.design_ir.specs.declared.process.DesignProcess.{DesignProcess}
use Rattle.design_ir.specs.PoolRules.{IsPool}
use Rattle.design_ir.specs.Values.{form, num, signal_form}
use Rattle.design_ir.specs.Circuits.{Circuit, at}
use Rattle.design_ir.specs.Designs.{IsDesign}
use Rattle.design_ir.proofs.NumbersFit.{element, FitsSignals}
use Rattle.rtlil_text.specs.declared.module.RtlWire.{RtlWire}
use Rattle.rtlil_text.specs.declared.module.WirePort.TheVariants.{Inner}
use Rattle.rtlil_text.specs.Rules.{IsModule}
use Rattle.rtlil_text.specs.Meaning.{Inputs, State as Kept}
use Rattle.rtlil_text.specs.History.{Wires, wire_bit}
use Rattle.rtlil_text.proofs.Among.{Among, Among-append, Among-left, Among-map, AllByRecursion-among}
use Rattle.netlist_laws.specs.Ids.{value_id, signal_id}
use Rattle.netlist_laws.specs.Carried.{Carries}
use Rattle.netlist_laws.specs.CombDrawings.{ObeysComb}
use Rattle.netlist_laws.specs.Operators.{Value, Drawing, nothing, inner_wire}
use Rattle.netlist_laws.specs.Expressions.{part_count, drawn}
use Rattle.netlist_laws.specs.Plain.{ArePlain}
use Rattle.netlist_laws.specs.Histories.{AllDefined}
use Rattle.netlist_laws.specs.Module.{column_of, signal_value, expr_value, first_value, Driving, ByEvents, ByComb, ByClock, ByRead, ByNothing, driving, reset_of, register_drawing, driving_drawing, signal_drawing, column_wire, column_wires, signal_wires, expr_wires, drawn_from, drawings, other_drawings, all_drawings, module_of, Heeding, NoReset, AtEdges, AtOnce, heeding, is_async}
use Rattle.netlist_laws.specs.MemoryDrawings.{memory_drawings}
use Rattle.netlist_laws.proofs.Reading.{has_carried}
use Rattle.netlist_laws.proofs.ColumnSignals.{column_at, column_signals, columns_distinct}
use Rattle.netlist_laws.proofs.ManyDrawn.{drawing_wires}
use Rattle.netlist_laws.proofs.SettledWires.{Shows}
use Rattle.netlist_laws.proofs.Heedings.{at_edges}
use Rattle.netlist_laws.proofs.RegisterSteps.{choice_some}
use Rattle.netlist_laws.proofs.ModuleHeld.{All-flat_map}
use Rattle.netlist_laws.proofs.ModuleWires.{other_wires, module_wires}
use Rattle.netlist_laws.proofs.LogicCells.{drawn_logic}
use Rattle.netlist_laws.proofs.ModuleObeys.{obeys_drawing, obeys_signal}
use Rattle.netlist_laws.proofs.BitsThere.{IsDefined}
use Rattle.netlist_laws.proofs.OperatorParts.{AreDefined}
use Rattle.netlist_laws.proofs.PartsDefined.{drawn_parts}
use Rattle.netlist_laws.proofs.SignalWires.{named_by}

-- ---- a column is found by its signal

pub column_found : (xs : List Column) (x : Column) → IsDistinct nat_eq (column_signals xs) → Among xs x → column_at x.sig.0 xs ≡ Some x
unfolding IsDistinct
column_found [] x d a = absurd a
column_found (y ∷ ys) x d a = ⊎_elim
    (λ (e : y ≡ x). ap (λ t. cond t (Some y) (column_at x.sig.0 ys)) (eq-eqb y.sig.0 x.sig.0 (ap (λ (z : Column). z.sig.0) e)) ∙ ap (λ z. Some z) e)
    (λ (later : Among ys x).
    let apart : nat_eq y.sig.0 x.sig.0 ≡ false = AllByRecursion-among (λ t. nat_eq y.sig.0 t ≡ false) (column_signals ys) x.sig.0 d.0 (Among-map (λ (z : Column). z.sig.0) ys x later) in
    ap (λ t. cond t (Some y) (column_at x.sig.0 ys)) (ne_eqb y.sig.0 x.sig.0 (eqb-false y.sig.0 x.sig.0 apart)) ∙ column_found ys x d.1 later)
    a

range_below : (k n j : ℕ) → Among (range_with_len k n) j → j < k + n
range_below k zero j a = absurd a
range_below k (suc n) j a = ⊎_elim (λ e. omega (arith, e)) (λ later. omega (arith, range_below (k + 1) n j later)) a

none_is : (o : Option Column) → is_none o ≡ true → o ≡ None
none_is None e = refl
none_is (Some x) e = absurd (false≢true e)

module _ (c : Circuit) (rules : IsPool c.pool) (design : IsDesign c) (plain : ArePlain c) (module_rules : IsModule (module_of c)) (kept : Kept) (inputs : Inputs)
    (env held : List ℤ) (fit : FitsSignals c.pool env) (count : length held ≡ length c.pool.signals)
    (signals : (s : ℕ) → Carries (wire_bit (module_of c) kept inputs) (signal_value c s) (at env s))
    (exprs : (e : ExprId) → e.0 < length c.pool.exprs → Carries (wire_bit (module_of c) kept inputs) (expr_value c e.0) (num c.pool env e.0))
    (same : (s : ℕ) (p : DesignProcess) (d : DomainId) → driving c s ≡ ByClock p d → s < length c.pool.signals → at held s ≡ at env s)
    (stored : (d : Drawing) → Among (memory_drawings c) d → AreDefined (wire_bit (module_of c) kept inputs) d.wires) where
  abbrev wires : Wires
  wires = wire_bit (module_of c) kept inputs

  -- each bit of the wire has a value
  abbrev HasBits : RtlWire → Type 0
  HasBits w = IsDefined wires w.id w.width

  carried : (v : Value) (x : ℤ) → Carries wires v x → IsDefined wires v.id v.form.width
  carried v x h i l = (_, (has_carried wires v x h).at i l)

  -- ---- columns and signals

  columns_defined : (k : ℕ) (xs : List Column) → ((x : Column) → Among xs x → column_of c x.sig.0 ≡ Some x) → All HasBits (column_wires c k xs)
  columns_defined k [] found = All-nil HasBits
  columns_defined k (x ∷ xs) found =
      let w : ℕ = (signal_form c.pool.signals x.sig.0).width in
      All-cons HasBits (column_wire c k x) (column_wires c (suc k) xs)
      (subst (λ id. IsDefined wires id w) (named_by c x.sig.0 (Some x) (found x (inl refl))) (carried (signal_value c x.sig.0) (at env x.sig.0) (signals x.sig.0)))
      (columns_defined (suc k) xs (λ y a. found y (inr a)))

  signal_defined : (s : ℕ) → All HasBits (signal_wires c s)
  signal_defined s =
      let w : ℕ = (signal_form c.pool.signals s).width in
      let own : RtlWire = record { id = signal_id s; width = w; port = Inner; init = first_value c s } in
      cond_both (nat_lt 0 w && is_none (column_of c s)) (own ∷ []) [] (All HasBits)
      (λ t.
      let none : column_of c s ≡ None = none_is (column_of c s) (and_parts (nat_lt 0 w) (is_none (column_of c s)) t).1 in
      All-cons HasBits own [] (subst (λ id. IsDefined wires id w) (named_by c s None none) (carried (signal_value c s) (at env s) (signals s))) (All-nil HasBits))
      (λ _. All-nil HasBits)

  -- ---- expressions

  value_defined : (k : ℕ) → k < length c.pool.exprs → IsDefined wires (value_id k) (form c.pool k).width
  value_defined k there = carried (expr_value c k) (num c.pool env k) (exprs (record { 0 = k }) there)

  expr_defined : (k : ℕ) → k < length c.pool.exprs → All HasBits (expr_wires c k)
  expr_defined k there =
      let w : ℕ = (form c.pool k).width in
      cond_both (nat_lt 0 w) (inner_wire (value_id k) w ∷ []) [] (All HasBits) (λ _. All-cons HasBits (inner_wire (value_id k) w) [] (value_defined k there) (All-nil HasBits)) (λ _. All-nil HasBits)

  parts_defined : (k n : ℕ) (es : List Expr) → k + length es ≤ length c.pool.exprs → ((d : Drawing) → Among (drawn_from c k n es) d → Among (all_drawings c) d)
      → (d : Drawing) → Among (drawn_from c k n es) d → AreDefined wires d.wires
  parts_defined k n [] le among d a = absurd a
  parts_defined k n (e ∷ es) le among d a =
      let first : Drawing = drawn (signal_value c) (expr_value c) n (expr_value c k) e in
      let obeys = obeys_drawing c module_rules kept inputs first (among first (inl refl)) (drawn_logic (signal_value c) (expr_value c) n (expr_value c k) e) in
      let own : AreDefined wires first.wires = drawn_parts wires (signal_value c) (expr_value c) n (expr_value c k) e (value_defined k (omega (arith, le))) obeys in
      ⊎_elim (λ (here : first ≡ d). subst (λ (x : Drawing). AreDefined wires x.wires) here own)
      (λ more. parts_defined (suc k) (n + part_count e) es (omega (arith, le)) (λ x b. among x (inr b)) d more) a

  -- ---- registers

  shows : Shows wires c env
  shows e u = exprs e u.there

  choice_defined : (s : ℕ) (p : DesignProcess) (d : DomainId) (h : Heeding) → driving c s ≡ ByClock p d → s < length c.pool.signals → heeding c s d ≡ h → ObeysComb wires (register_drawing c s p d h) → AreDefined wires (register_drawing c s p d h).wires
  choice_defined s p d NoReset clock there e obeys = tt
  choice_defined s p d (AtOnce r) clock there e obeys = tt
  choice_defined s p d (AtEdges r) clock there e obeys =
      let x : (y : Sig) × (slice_get c.pool.signals s ≡ Some y) = element c.pool.signals s there in
      (choice_some c design s p d clock env wires rules plain fit shows signals x.0 x.1 r held (same s p d clock there) count (at_edges (is_async c d) (reset_of c s d) r e).0 obeys, tt)

  driving_defined : (s : ℕ) (d : Driving) → driving c s ≡ d → s < length c.pool.signals → ObeysComb wires (driving_drawing c s d) → AreDefined wires (driving_drawing c s d).wires
  driving_defined s ByEvents e there obeys = tt
  driving_defined s (ByComb p) e there obeys = tt
  driving_defined s (ByClock p d) e there obeys = choice_defined s p d (heeding c s d) e there refl obeys
  driving_defined s ByRead e there obeys = tt
  driving_defined s ByNothing e there obeys = tt

  steps_defined : (s : ℕ) → s < length c.pool.signals → AreDefined wires (signal_drawing c s).wires
  steps_defined s there = by (nat_lt 0 (signal_form c.pool.signals s).width) (obeys_signal c module_rules kept inputs s there)
    where
      by : (t : Bool) → ObeysComb wires (cond t (driving_drawing c s (driving c s)) nothing) → AreDefined wires (cond t (driving_drawing c s (driving c s)) nothing).wires
      by true obeys = driving_defined s (driving c s) refl there obeys
      by false obeys = tt

  all_steps_defined : (k n : ℕ) → k + n ≤ length c.pool.signals → (d : Drawing) → Among (map (signal_drawing c) (range_with_len k n)) d → AreDefined wires d.wires
  all_steps_defined k zero le d a = absurd a
  all_steps_defined k (suc n) le d a =
      ⊎_elim (λ (here : signal_drawing c k ≡ d). subst (λ (x : Drawing). AreDefined wires x.wires) here (steps_defined k (omega (arith, le)))) (λ more. all_steps_defined (k + 1) n (omega (arith, le)) d more) a

  -- ---- all wires

  drawing_defined : (d : Drawing) → Among (all_drawings c) d → AreDefined wires d.wires
  drawing_defined d a =
      let steps : List Drawing = map (signal_drawing c) (range_with_len 0 (length c.pool.signals)) in
      ⊎_elim (λ e. parts_defined 0 0 c.pool.exprs (omega arith) (λ x b. Among-left (drawings c) (other_drawings c) x b) d e)
      (λ other. ⊎_elim (λ s. all_steps_defined 0 (length c.pool.signals) (omega arith) d s) (λ m. stored d m) (Among-append steps (memory_drawings c) d other))
      (Among-append (drawings c) (other_drawings c) d a)

  others_defined : All HasBits (other_wires c)
  unfolding other_wires
  others_defined =
      let R = range_with_len 0 (length c.pool.signals) in
      let Q = range_with_len 0 (length c.pool.exprs) in
      let S = flat_map (signal_wires c) R in
      let X = flat_map (expr_wires c) Q in
      All-append HasBits (S ++ X) (flat_map drawing_wires (all_drawings c))
      (All-append HasBits S X (All-flat_map HasBits (signal_wires c) R (λ s a. signal_defined s)) (All-flat_map HasBits (expr_wires c) Q (λ k a. expr_defined k (omega (arith, range_below 0 (length c.pool.exprs) k a)))))
      (All-flat_map HasBits drawing_wires (all_drawings c) (λ d a. All-from_recursion HasBits d.wires (drawing_defined d a)))

  pub wires_defined : AllDefined (module_of c) wires
  wires_defined =
      subst (All HasBits) (sym (module_wires c))
      (All-append HasBits (column_wires c 0 c.columns) (other_wires c) (columns_defined 0 c.columns (λ x a. column_found c.columns x (columns_distinct c design) a)) others_defined)
