-- The wire of each signal in the module of a design: its first value, and whether it is an input.
use Rattle.std.specs.Prelude.{◌≡◌, ◌≤◌, ◌<◌, ◌==◌, ◌&&◌, nat_lt, ℕ, suc, Bool, true, false, cond, List, [], ◌∷◌, length, Option, Some, None, is_none, option_map, unwrap_or}
use Rattle.std.specs.List.{find, IsDistinct}
use Rattle.std.proofs.Common.{refl, sym, ap, ◌∙◌, arith, subst, inl, inr, ⊎_elim}
use Rattle.std.proofs.lemmas.Bool.{lt-ltb}
use Rattle.lists.specs.Texts.{text_eq}
use Rattle.lists.proofs.TextLaws.{text_eq_same}
use Rattle.design_ir.specs.declared.port.Column.{Column}
use Rattle.design_ir.specs.Values.{signal_form}
use Rattle.design_ir.specs.Circuits.{Circuit, is_input}
use Rattle.design_ir.specs.Designs.{IsDesign}
use Rattle.rtlil_text.specs.declared.module.RtlWire.{RtlWire}
use Rattle.rtlil_text.specs.declared.module.WirePort.TheVariants.{Inner}
use Rattle.rtlil_text.specs.Rules.{IsModule}
use Rattle.rtlil_text.specs.Sources.{is_input_port, wire_of}
use Rattle.rtlil_text.specs.Drivers.{ByInput, driver}
use Rattle.rtlil_text.proofs.Among.{Among, Among-map, Contains-among, AllByRecursion-among}
use Rattle.rtlil_text.proofs.Driven.{wire_ids, wire_ids-distinct, driver-input}
use Rattle.netlist_laws.specs.Ids.{signal_id}
use Rattle.netlist_laws.specs.Module.{public_id, column_of, wire_id, first_value, column_wire, column_wires, signal_wires, module_of}
use Rattle.netlist_laws.proofs.ColumnSignals.{column_at, found, hidden_no_input, input_side}
use Rattle.netlist_laws.proofs.ModuleHeld.{in_columns, in_others, in_signals}

-- ---- the wires of columns

record IsPlaced (c : Circuit) (k : ℕ) (xs : List Column) (x : Column) : Type 0 where
  place : ℕ
  among : Among (column_wires c k xs) (column_wire c place x)

placed : (c : Circuit) (k : ℕ) (xs : List Column) (s : ℕ) (x : Column) → column_at s xs ≡ Some x → IsPlaced c k xs x
placed c k [] s x e = cc
placed c k (y ∷ ys) s x e = by (placed c (suc k) ys s x) (y.sig.0 == s) e
  where
    by : (column_at s ys ≡ Some x → IsPlaced c (suc k) ys x) → (b : Bool) → cond b (Some y) (column_at s ys) ≡ Some x → IsPlaced c k (y ∷ ys) x
    by later true e = let f : y ≡ x = cc in record { place = k; among = inl (ap (column_wire c k) f) }
    by later false e = let r = later e in record { place = r.place; among = inr r.among }

-- ---- the wire of a signal

pub record HasOwnWire (c : Circuit) (s : ℕ) : Type 0 where
  pub wire : RtlWire
  pub among : Among (module_of c).wires wire
  pub named : wire.id ≡ wire_id c s
  pub init : wire.init ≡ first_value c s
  pub input : is_input_port wire.port ≡ is_input c s

pub named_by : (c : Circuit) (s : ℕ) (o : Option Column) → column_of c s ≡ o → wire_id c s ≡ unwrap_or (option_map (λ (x : Column). public_id x.name) o) (signal_id s)
named_by c s o e = ap (λ (o : Option Column). unwrap_or (option_map (λ (x : Column). public_id x.name) o) (signal_id s)) e

own_wire : (c : Circuit) → IsDesign c → (s : ℕ) → s < length c.pool.signals → 1 ≤ (signal_form c.pool.signals s).width → (o : Option Column) → column_of c s ≡ o → HasOwnWire c s
own_wire c design s there some (Some x) e =
    let r = placed c 0 c.columns s x e in
    let same : x.sig.0 ≡ s = found c.columns s x e in
    record {
      wire = column_wire c r.place x;
      among = in_columns c (column_wire c r.place x) r.among;
      named = sym (named_by c s (Some x) e);
      init = ap (first_value c) same;
      input = input_side c.ports r.place x.sig.0 design.ports ∙ ap (is_input c) same;
    }
own_wire c design s there some None e =
    let w : ℕ = (signal_form c.pool.signals s).width in
    let own : RtlWire = record { id = signal_id s; width = w; port = Inner; init = first_value c s } in
    let test : (nat_lt 0 w && is_none (column_of c s)) ≡ true = (λ i. lt-ltb 0 w (omega arith) i && is_none (e i)) in
    let here : Among (signal_wires c s) own = subst (λ (b : Bool). Among (cond b (own ∷ []) []) own) (sym test) (inl refl) in
    record { wire = own; among = in_others c own (in_signals c s own there here); named = sym (named_by c s None e); init = refl; input = sym (hidden_no_input c design s e) }

pub signal_wire : (c : Circuit) → IsDesign c → (s : ℕ) → s < length c.pool.signals → 1 ≤ (signal_form c.pool.signals s).width → HasOwnWire c s
signal_wire c design s there some = own_wire c design s there some (column_of c s) refl

-- ---- found by its id

pub wire_found : (ws : List RtlWire) (w : RtlWire) → IsDistinct text_eq (wire_ids ws) → Among ws w → find (λ (v : RtlWire). text_eq v.id w.id) ws ≡ Some w
unfolding IsDistinct
wire_found [] w d a = absurd a
wire_found (v ∷ ws) w d a = ⊎_elim here (there (wire_found ws w d.1)) a
  where
    here : v ≡ w → find (λ (u : RtlWire). text_eq u.id w.id) (v ∷ ws) ≡ Some w
    here e = ap (λ t. cond t (Some v) (find (λ (u : RtlWire). text_eq u.id w.id) ws)) (ap (λ (u : RtlWire). text_eq u.id w.id) e ∙ text_eq_same w.id) ∙ ap (λ u. Some u) e

    there : (Among ws w → find (λ (u : RtlWire). text_eq u.id w.id) ws ≡ Some w) → Among ws w → find (λ (u : RtlWire). text_eq u.id w.id) (v ∷ ws) ≡ Some w
    there rest later =
        let apart : text_eq v.id w.id ≡ false = AllByRecursion-among (λ y. text_eq v.id y ≡ false) (wire_ids ws) w.id d.0 (Among-map (λ (u : RtlWire). u.id) ws w later) in
        ap (λ t. cond t (Some v) (find (λ (u : RtlWire). text_eq u.id w.id) ws)) apart ∙ rest later

module _ (c : Circuit) (design : IsDesign c) (rules : IsModule (module_of c)) (s : ℕ) (there : s < length c.pool.signals) (some : 1 ≤ (signal_form c.pool.signals s).width) where
  pub wire_of-signal : wire_of (module_of c) (wire_id c s) ≡ Some (signal_wire c design s there some).wire
  wire_of-signal =
      let own = signal_wire c design s there some in
      ap (wire_of (module_of c)) (sym own.named) ∙ wire_found (module_of c).wires own.wire (wire_ids-distinct (module_of c) rules) own.among

  -- the bits of an input are the input's
  pub input_driver : is_input c s ≡ true → (i : ℕ) → driver (module_of c) (wire_id c s) i ≡ ByInput
  input_driver e i =
      let own = signal_wire c design s there some in
      ap (λ id. driver (module_of c) id i) (sym own.named) ∙ driver-input (module_of c) own.wire i (Contains-among (module_of c).wires own.wire own.among) (own.input ∙ e)
