-- The module of a design has the wires of its signals, of its expressions and of its drawings.
use Rattle.std.specs.Prelude.{◌≡◌, ◌≤◌, ◌<◌, ◌+◌, ◌==◌, ◌&&◌, nat_lt, ℕ, zero, suc, Bool, true, false, cond, if◌then◌else◌, List, [], ◌∷◌, ◌++◌, length, All, Contains, Option, Some, None, is_none, option_map, unwrap_or}
use Rattle.std.specs.List.{flat_map, range_with_len}
use Rattle.std.proofs.Common.{refl, sym, ap, arith, subst, inl, inr}
use Rattle.std.proofs.lemmas.Bool.{eqb-true, eqb-false, lt-ltb}
use Rattle.std.proofs.lemmas.List.Elements.{All-nil, All-cons, All-append}
use Rattle.design_ir.specs.declared.port.Column.{Column}
use Rattle.design_ir.specs.Values.{form, signal_form}
use Rattle.design_ir.specs.Circuits.{Circuit}
use Rattle.rtlil_text.specs.declared.module.RtlWire.{RtlWire}
use Rattle.rtlil_text.specs.declared.module.WirePort.TheVariants.{Inner}
use Rattle.rtlil_text.proofs.Among.{Among, Among-contains, Contains-among, Among-left, Among-right, Among-flat_map}
use Rattle.netlist_laws.specs.Ids.{signal_id, value_id}
use Rattle.netlist_laws.specs.Operators.{Drawing, inner_wire}
use Rattle.netlist_laws.specs.Fits.{HasWire, HasValue}
use Rattle.netlist_laws.specs.Module.{public_id, column_of, signal_value, expr_value, first_value, column_wire, column_wires, signal_wires, expr_wires, all_drawings, module_of}
use Rattle.netlist_laws.proofs.ManyDrawn.{drawing_wires}
use Rattle.netlist_laws.proofs.ColumnSignals.{column_at, found}
use Rattle.netlist_laws.proofs.ModuleWires.{other_wires, module_wires}

-- ---- lists

pub Among-range : (k n s : ℕ) → k ≤ s → s < k + n → Among (range_with_len k n) s
Among-range k zero s p q = absurd (omega arith)
Among-range k (suc n) s p q = by (λ a. Among-range (k + 1) n s (omega (arith, a)) (omega arith)) (k == s) refl
  where
    by : ((k ≡ s → ⊥) → Among (range_with_len (k + 1) n) s) → (b : Bool) → (k == s) ≡ b → Among (k ∷ range_with_len (k + 1) n) s
    by later true t = inl (eqb-true k s t)
    by later false t = inr (later (eqb-false k s t))

pub All-among : {A : Type 0} (P : A → Type 0) (xs : List A) → ((x : A) → Among xs x → P x) → All P xs
All-among P [] h = All-nil P
All-among P (x ∷ xs) h = All-cons P x xs (h x (inl refl)) (All-among P xs (λ y a. h y (inr a)))

pub All-flat_map : {A B : Type 0} (P : B → Type 0) (f : A → List B) (xs : List A) → ((x : A) → Among xs x → All P (f x)) → All P (flat_map f xs)
All-flat_map P f [] h = All-nil P
All-flat_map P f (x ∷ xs) h = All-append P (f x) (flat_map f xs) (h x (inl refl)) (All-flat_map P f xs (λ y a. h y (inr a)))

held_in : (xs ys : List RtlWire) (id : List ℕ) (width : ℕ) → ((w : RtlWire) → Among xs w → Among ys w) → HasWire xs id width → HasWire ys id width
held_in xs ys id width f h = record { wire = h.wire; among = Contains-among ys h.wire (f h.wire (Among-contains xs h.wire h.among)); named = h.named; wide = h.wide }

-- ---- the wire of a column

column_held : (c : Circuit) (k : ℕ) (xs : List Column) (s : ℕ) (x : Column) → column_at s xs ≡ Some x → HasWire (column_wires c k xs) (public_id x.name) (signal_form c.pool.signals x.sig.0).width
column_held c k [] s x e = cc
column_held c k (y ∷ ys) s x e = by (column_held c (suc k) ys s x) (y.sig.0 == s) e
  where
    by : (column_at s ys ≡ Some x → HasWire (column_wires c (suc k) ys) (public_id x.name) (signal_form c.pool.signals x.sig.0).width) → (b : Bool) → cond b (Some y) (column_at s ys) ≡ Some x
        → HasWire (column_wires c k (y ∷ ys)) (public_id x.name) (signal_form c.pool.signals x.sig.0).width
    by later true e =
        let f : y ≡ x = cc in
        record {
          wire = column_wire c k y;
          among = Contains-among (column_wire c k y ∷ column_wires c (suc k) ys) (column_wire c k y) (inl refl);
          named = ap (λ (z : Column). public_id z.name) f;
          wide = ap (λ (z : Column). (signal_form c.pool.signals z.sig.0).width) f;
        }
    by later false e = held_in (column_wires c (suc k) ys) (column_wires c k (y ∷ ys)) (public_id x.name) (signal_form c.pool.signals x.sig.0).width (λ w a. inr a) (later e)

-- ---- in the module

module _ (c : Circuit) where
  abbrev wires : List RtlWire
  wires = (module_of c).wires

  pub in_columns : (w : RtlWire) → Among (column_wires c 0 c.columns) w → Among (module_of c).wires w
  in_columns w a = subst (λ ws. Among ws w) (sym (module_wires c)) (Among-left (column_wires c 0 c.columns) (other_wires c) w a)

  pub in_others : (w : RtlWire) → Among (other_wires c) w → Among (module_of c).wires w
  in_others w a = subst (λ ws. Among ws w) (sym (module_wires c)) (Among-right (column_wires c 0 c.columns) (other_wires c) w a)

  pub in_signals : (s : ℕ) (w : RtlWire) → s < length c.pool.signals → Among (signal_wires c s) w → Among (other_wires c) w
  unfolding other_wires
  in_signals s w p a =
      let R = range_with_len 0 (length c.pool.signals) in
      let S = flat_map (signal_wires c) R in
      let X = flat_map (expr_wires c) (range_with_len 0 (length c.pool.exprs)) in
      Among-left (S ++ X) (flat_map drawing_wires (all_drawings c)) w (Among-left S X w (Among-flat_map (signal_wires c) R s w (Among-range 0 (length c.pool.signals) s (omega arith) (omega arith)) a))

  pub in_exprs : (k : ℕ) (w : RtlWire) → k < length c.pool.exprs → Among (expr_wires c k) w → Among (other_wires c) w
  unfolding other_wires
  in_exprs k w p a =
      let S = flat_map (signal_wires c) (range_with_len 0 (length c.pool.signals)) in
      let Q = range_with_len 0 (length c.pool.exprs) in
      let X = flat_map (expr_wires c) Q in
      Among-left (S ++ X) (flat_map drawing_wires (all_drawings c)) w (Among-right S X w (Among-flat_map (expr_wires c) Q k w (Among-range 0 (length c.pool.exprs) k (omega arith) (omega arith)) a))

  pub in_drawings : (d : Drawing) (w : RtlWire) → Among (all_drawings c) d → Among d.wires w → Among (other_wires c) w
  unfolding other_wires
  in_drawings d w a b =
      let S = flat_map (signal_wires c) (range_with_len 0 (length c.pool.signals)) in
      let X = flat_map (expr_wires c) (range_with_len 0 (length c.pool.exprs)) in
      Among-right (S ++ X) (flat_map drawing_wires (all_drawings c)) w (Among-flat_map drawing_wires (all_drawings c) d w a b)

  -- the wires of a drawing
  pub drawing_held : (d : Drawing) → Among (all_drawings c) d → All (Contains (module_of c).wires) d.wires
  drawing_held d a = All-among (Contains (module_of c).wires) d.wires (λ w b. Contains-among (module_of c).wires w (in_others w (in_drawings d w a b)))

  -- the wire of an expression
  pub expr_held : (k : ℕ) → k < length c.pool.exprs → HasValue (module_of c).wires (expr_value c k)
  expr_held k p some =
      let w : ℕ = (form c.pool k).width in
      let own : RtlWire = inner_wire (value_id k) w in
      let here : Among (expr_wires c k) own = subst (λ (b : Bool). Among (if b then own ∷ [] else []) own) (sym (lt-ltb 0 w (omega arith))) (inl refl) in
      record { wire = own; among = Contains-among (module_of c).wires own (in_others own (in_exprs k own p here)); named = refl; wide = refl }

  -- the wire of a signal
  signal_at : (s : ℕ) → s < length c.pool.signals → 1 ≤ (signal_form c.pool.signals s).width → (o : Option Column) → column_of c s ≡ o
      → HasWire (module_of c).wires (unwrap_or (option_map (λ (x : Column). public_id x.name) o) (signal_id s)) (signal_form c.pool.signals s).width
  signal_at s p some (Some x) e =
      subst (λ j. HasWire (module_of c).wires (public_id x.name) (signal_form c.pool.signals j).width) (found c.columns s x e)
      (held_in (column_wires c 0 c.columns) (module_of c).wires (public_id x.name) (signal_form c.pool.signals x.sig.0).width in_columns (column_held c 0 c.columns s x e))
  signal_at s p some None e =
      let w : ℕ = (signal_form c.pool.signals s).width in
      let own : RtlWire = record { id = signal_id s; width = w; port = Inner; init = first_value c s } in
      let test : (nat_lt 0 w && is_none (column_of c s)) ≡ true = (λ i. lt-ltb 0 w (omega arith) i && is_none (e i)) in
      let here : Among (signal_wires c s) own = subst (λ (b : Bool). Among (if b then own ∷ [] else []) own) (sym test) (inl refl) in
      record { wire = own; among = Contains-among (module_of c).wires own (in_others own (in_signals s own p here)); named = refl; wide = refl }

  pub signal_held : (s : ℕ) → s < length c.pool.signals → HasValue (module_of c).wires (signal_value c s)
  signal_held s p some = signal_at s p some (column_of c s) refl
