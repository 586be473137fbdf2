-- The wires of the module of a design: each has bits and first values as wide as it is; the columns' come first, and alone are ports.
use Rattle.std.specs.Prelude.{◌≡◌, ◌≤◌, ◌+◌, ◌==◌, ◌&&◌, ◌||◌, nat_lt, ℕ, suc, Bool, true, false, cond, if◌then◌else◌, List, [], ◌∷◌, ◌++◌, map, length, All, IfSome, Option, Some, None, is_none, option_map, unwrap_or, slice_get}
use Rattle.std.specs.List.{flat_map, range_with_len, find, enumerate_from, AllByRecursion}
use Rattle.std.proofs.Common.{refl, sym, ap, ◌∙◌, arith, subst, append_assoc, append-nil}
use Rattle.std.proofs.lemmas.Bool.{cond_both, false≢true, ltb-true, eq-eqb, and_parts}
use Rattle.std.proofs.lemmas.List.Concat.{flat_map-append}
use Rattle.std.proofs.lemmas.List.Elements.{All-nil, All-cons, All-append, All-from_recursion}
use Rattle.std.proofs.lemmas.List.FromFn.{length-range_with_len}
use Rattle.amh_bits.specs.Patterns.{pattern}
use Rattle.shape_rules.specs.Forms.{unsigned}
use Rattle.design_ir.specs.declared.port.Port.{Port}
use Rattle.design_ir.specs.declared.port.Column.{Column}
use Rattle.design_ir.specs.declared.signal.Sig.{Sig}
use Rattle.design_ir.specs.Values.{form, signal_form}
use Rattle.design_ir.specs.PoolRules.{IsPool}
use Rattle.design_ir.specs.Circuits.{Circuit, is_among}
use Rattle.design_ir.specs.Designs.{port_signals, IsDesign}
use Rattle.rtlil_text.specs.declared.module.RtlWire.{RtlWire}
use Rattle.rtlil_text.specs.declared.module.WirePort.TheVariants.{Inner, Input, Output}
use Rattle.rtlil_text.specs.Sources.{port_number}
use Rattle.rtlil_text.specs.Cells.{number_bits}
use Rattle.rtlil_text.specs.Rules.{WireFits, port_numbers}
use Rattle.rtlil_text.proofs.CellLaws.{length-number_bits}
use Rattle.netlist_laws.specs.Ids.{signal_id, value_id}
use Rattle.netlist_laws.specs.Operators.{inner_wire}
use Rattle.netlist_laws.specs.Expressions.{part_total}
use Rattle.netlist_laws.specs.Module.{public_id, column_of, side_of, port_of, is_clocked, driving, init_bits, first_value, column_wire, column_wires, signal_wires, expr_wires, drawings, other_drawings, all_drawings, module_of}
use Rattle.netlist_laws.specs.Corresponds.{column_fields, wire_fields, Corresponds}
use Rattle.rtlil_text.proofs.Among.{AllByRecursion-append}
use Rattle.netlist_laws.proofs.Fresh.{AllByRecursion-weaker}
use Rattle.netlist_laws.proofs.Drives.{IsBare}
use Rattle.netlist_laws.proofs.ManyDrawn.{drawing_wires, drawn_from_are}
use Rattle.netlist_laws.proofs.HiddenWires.{IsHidden, hidden_bare}
use Rattle.netlist_laws.proofs.OthersDrawn.{others_drawn}

-- ---- first values

abbrev HasWidth : Option Sig → Type 0
HasWidth o = length (unwrap_or (option_map (λ (x : Sig). number_bits x.shape.width (pattern x.shape.width x.init)) o) []) ≡ (unwrap_or (option_map (λ (x : Sig). x.shape) o) (unsigned 0)).width

init_width : (o : Option Sig) → HasWidth o
init_width None = refl
init_width (Some x) = length-number_bits x.shape.width (pattern x.shape.width x.init)

pub length-init_bits : (c : Circuit) (s : ℕ) → length (init_bits c s) ≡ (signal_form c.pool.signals s).width
length-init_bits c s = init_width (slice_get c.pool.signals s)

first_fits : (c : Circuit) (s : ℕ) → IfSome (first_value c s) (λ (bits : List Bool). length bits ≡ (signal_form c.pool.signals s).width)
first_fits c s =
    cond_both (is_clocked (driving c s)) (Some (init_bits c s)) None (λ (o : Option (List Bool)). IfSome o (λ (bits : List Bool). length bits ≡ (signal_form c.pool.signals s).width)) (λ _. length-init_bits c s) (λ _. tt)

-- ---- wires that are no ports

hidden_signal : (c : Circuit) (s : ℕ) → AllByRecursion IsHidden (signal_wires c s)
hidden_signal c s =
    let w : ℕ = (signal_form c.pool.signals s).width in
    let own : RtlWire = record { id = signal_id s; width = w; port = Inner; init = first_value c s } in
    cond_both (nat_lt 0 w && is_none (column_of c s)) (own ∷ []) [] (AllByRecursion IsHidden)
    (λ t. (record { fits = record { wide = omega (arith, ltb-true 0 w (and_parts (nat_lt 0 w) (is_none (column_of c s)) t).0); init = first_fits c s }; inner = refl }, tt)) (λ _. tt)

hidden_expr : (c : Circuit) (k : ℕ) → AllByRecursion IsHidden (expr_wires c k)
hidden_expr c k =
    let w : ℕ = (form c.pool k).width in
    cond_both (nat_lt 0 w) (inner_wire (value_id k) w ∷ []) [] (AllByRecursion IsHidden) (λ t. (record { fits = record { wide = omega (arith, ltb-true 0 w t); init = tt }; inner = refl }, tt)) (λ _. tt)

all_flat_map : {A B : Type 0} (P : B → Type 0) (f : A → List B) (xs : List A) → ((x : A) → AllByRecursion P (f x)) → AllByRecursion P (flat_map f xs)
all_flat_map P f [] h = tt
all_flat_map P f (x ∷ xs) h = AllByRecursion-append P (f x) (flat_map f xs) (h x) (all_flat_map P f xs h)

-- ---- the module's wires: those of the columns, and the others

unfoldable pub other_wires : Circuit → List RtlWire
other_wires c =
    (flat_map (signal_wires c) (range_with_len 0 (length c.pool.signals)) ++ flat_map (expr_wires c) (range_with_len 0 (length c.pool.exprs)))
    ++ flat_map drawing_wires (all_drawings c)

pub module_wires : (c : Circuit) → (module_of c).wires ≡ column_wires c 0 c.columns ++ other_wires c
unfolding module_of other_wires
module_wires c =
    let C = column_wires c 0 c.columns in
    let S = flat_map (signal_wires c) (range_with_len 0 (length c.pool.signals)) in
    let X = flat_map (expr_wires c) (range_with_len 0 (length c.pool.exprs)) in
    let W = flat_map drawing_wires (all_drawings c) in
    (λ i. append_assoc C S X i ++ W) ∙ append_assoc C (S ++ X) W

pub others_hidden : (c : Circuit) → IsPool c.pool → IsDesign c → AllByRecursion IsHidden (other_wires c)
unfolding other_wires
others_hidden c pool design =
    let R = range_with_len 0 (length c.pool.signals) in
    let S = flat_map (signal_wires c) R in
    let X = flat_map (expr_wires c) (range_with_len 0 (length c.pool.exprs)) in
    let parts = (drawn_from_are c pool 0 0 (part_total c.pool.exprs) c.pool.exprs (λ i lt. ap (slice_get c.pool.exprs) (omega arith)) (omega arith)).bare in
    let drawn : AllByRecursion IsHidden (flat_map drawing_wires (all_drawings c)) =
    subst (AllByRecursion IsHidden) (sym (flat_map-append drawing_wires (drawings c) (other_drawings c)))
    (AllByRecursion-append IsHidden (flat_map drawing_wires (drawings c)) (flat_map drawing_wires (other_drawings c)) (AllByRecursion-weaker IsBare IsHidden hidden_bare (flat_map drawing_wires (drawings c)) parts) (others_drawn c design).hidden) in
    AllByRecursion-append IsHidden (S ++ X) (flat_map drawing_wires (all_drawings c))
    (AllByRecursion-append IsHidden S X (all_flat_map IsHidden (signal_wires c) R (hidden_signal c)) (all_flat_map IsHidden (expr_wires c) (range_with_len 0 (length c.pool.exprs)) (hidden_expr c))) drawn

abbrev IsWide : Circuit → Column → Type 0
IsWide c x = 1 ≤ (signal_form c.pool.signals x.sig.0).width

columns_fit : (c : Circuit) (k : ℕ) (xs : List Column) → AllByRecursion (IsWide c) xs → All WireFits (column_wires c k xs)
columns_fit c k [] h = All-nil WireFits
columns_fit c k (x ∷ xs) h = All-cons WireFits (column_wire c k x) (column_wires c (suc k) xs) (record { wide = h.0; init = first_fits c x.sig.0 }) (columns_fit c (suc k) xs h.1)

pub module_wires-fit : (c : Circuit) → IsPool c.pool → IsDesign c → All WireFits (module_of c).wires
module_wires-fit c pool h =
    subst (All WireFits) (sym (module_wires c))
    (All-append WireFits (column_wires c 0 c.columns) (other_wires c) (columns_fit c 0 c.columns h.columns.some_width)
    (All-from_recursion WireFits (other_wires c) (AllByRecursion-weaker IsHidden WireFits (λ w g. g.fits) (other_wires c) (others_hidden c pool h))))

-- ---- the ports' numbers

abbrev numbers_of : RtlWire → List ℕ
numbers_of w = port_number w.port

abbrev IsPort : List Port → ℕ → Type 0
IsPort ps s = is_among (map (λ (p : Port). p.sig.0) ps) s ≡ true

no_number : (ps : List Port) (k s : ℕ) → is_among (map (λ (p : Port). p.sig.0) ps) s ≡ false → port_number (side_of k (find (λ (p : Port). p.sig.0 == s) ps)) ≡ []
no_number [] k s h = refl
no_number (p ∷ ps) k s h = by (no_number ps k s) (p.sig.0 == s) h
  where
    by : (is_among (map (λ (p : Port). p.sig.0) ps) s ≡ false → port_number (side_of k (find (λ (p : Port). p.sig.0 == s) ps)) ≡ []) → (b : Bool)
        → (b || is_among (map (λ (p : Port). p.sig.0) ps) s) ≡ false → port_number (side_of k (cond b (Some p) (find (λ (p : Port). p.sig.0 == s) ps))) ≡ []
    by later true e = absurd (false≢true (sym e))
    by later false e = later e

one_number : (ps : List Port) (k s : ℕ) → IsPort ps s → port_number (side_of k (find (λ (p : Port). p.sig.0 == s) ps)) ≡ suc k ∷ []
one_number [] k s h = absurd (false≢true h)
one_number (p ∷ ps) k s h = by (one_number ps k s) (p.sig.0 == s) h
  where
    by : (IsPort ps s → port_number (side_of k (find (λ (p : Port). p.sig.0 == s) ps)) ≡ suc k ∷ []) → (b : Bool)
        → (b || is_among (map (λ (p : Port). p.sig.0) ps) s) ≡ true → port_number (side_of k (cond b (Some p) (find (λ (p : Port). p.sig.0 == s) ps))) ≡ suc k ∷ []
    by later true e = either p.is_input
      where
        either : (q : Bool) → port_number (if q then Input (suc k) else Output (suc k)) ≡ suc k ∷ []
        either true = refl
        either false = refl
    by later false e = later e

more_ports : (p : Port) (ps : List Port) (s : ℕ) → IsPort ps s → IsPort (p ∷ ps) s
more_ports p ps s h = by (p.sig.0 == s)
  where
    by : (b : Bool) → (b || is_among (map (λ (p : Port). p.sig.0) ps) s) ≡ true
    by true = refl
    by false = h

all_ports : (ps : List Port) → AllByRecursion (IsPort ps) (map (λ (p : Port). p.sig.0) ps)
all_ports [] = tt
all_ports (p ∷ ps) = (rw (eq-eqb p.sig.0 p.sig.0 refl) refl, AllByRecursion-weaker (IsPort ps) (IsPort (p ∷ ps)) (more_ports p ps) (map (λ (p : Port). p.sig.0) ps) (all_ports ps))

-- the ports' signals, and then others
column_numbers : (c : Circuit) (k : ℕ) (xs : List Column) (ss rs : List ℕ) → map (λ (x : Column). x.sig.0) xs ≡ ss ++ rs → AllByRecursion (IsPort c.ports) ss
    → AllByRecursion (λ s. is_among (port_signals c) s ≡ false) rs → flat_map numbers_of (column_wires c k xs) ≡ range_with_len (suc k) (length ss)
column_numbers c k [] [] rs e a b = refl
column_numbers c k [] (s ∷ ss) rs e a b = cc
column_numbers c k (x ∷ xs) [] [] e a b = cc
column_numbers c k (x ∷ xs) [] (r ∷ rs) e a b =
    let same : r ≡ x.sig.0 = cc in
    let rest : map (λ (x : Column). x.sig.0) xs ≡ rs = cc in
    let none = no_number c.ports k x.sig.0 (subst (λ s. is_among (port_signals c) s ≡ false) same b.0) in
    (λ i. none i ++ flat_map numbers_of (column_wires c (suc k) xs)) ∙ column_numbers c (suc k) xs [] rs rest tt b.1
column_numbers c k (x ∷ xs) (s ∷ ss) rs e a b =
    let same : s ≡ x.sig.0 = cc in
    let rest : map (λ (x : Column). x.sig.0) xs ≡ ss ++ rs = cc in
    let one = one_number c.ports k x.sig.0 (subst (IsPort c.ports) same a.0) in
    let next : suc (suc k) ≡ suc k + 1 = omega arith in
    (λ i. one i ++ flat_map numbers_of (column_wires c (suc k) xs)) ∙ ap (λ r. suc k ∷ r) (column_numbers c (suc k) xs ss rs rest a.1 b ∙ ap (λ j. range_with_len j (length ss)) next)

no_numbers : (ws : List RtlWire) → AllByRecursion IsHidden ws → flat_map numbers_of ws ≡ []
no_numbers [] h = refl
no_numbers (w ∷ ws) h = (λ i. port_number (h.0.inner i) ++ no_numbers ws h.1 i)

module_ports : (c : Circuit) → IsPool c.pool → IsDesign c → port_numbers (module_of c) ≡ range_with_len 1 (length (port_signals c))
module_ports c pool h =
    ap (flat_map numbers_of) (module_wires c)
    ∙ flat_map-append numbers_of (column_wires c 0 c.columns) (other_wires c)
    ∙ (λ i. column_numbers c 0 c.columns (port_signals c) h.columns.registers h.columns.split (all_ports c.ports) h.columns.no_ports i ++ no_numbers (other_wires c) (others_hidden c pool h) i)
    ∙ append-nil (range_with_len 1 (length (port_signals c)))

pub module_ports-numbered : (c : Circuit) → IsPool c.pool → IsDesign c → port_numbers (module_of c) ≡ range_with_len 1 (length (port_numbers (module_of c)))
module_ports-numbered c pool h =
    let e = module_ports c pool h in
    e ∙ ap (range_with_len 1) (sym (ap length e ∙ length-range_with_len 1 (length (port_signals c))))

-- ---- the columns

column_wires-fields : (c : Circuit) (k n : ℕ) (xs : List Column) → k ≡ n → map wire_fields (column_wires c k xs) ≡ map (column_fields c) (enumerate_from n xs)
column_wires-fields c k n [] e = refl
column_wires-fields c k n (x ∷ xs) e =
    let rest = column_wires-fields c (suc k) (n + 1) xs (omega arith) in
    λ i. (public_id x.name, ((signal_form c.pool.signals x.sig.0).width, port_of c (e i) x.sig.0)) ∷ rest i

pub module_corresponds : (c : Circuit) → IsPool c.pool → IsDesign c → Corresponds c (module_of c)
module_corresponds c pool h = record {
  firsts = column_wires c 0 c.columns;
  others = other_wires c;
  wires = module_wires c;
  columns = column_wires-fields c 0 0 c.columns refl;
  inner = All-from_recursion (λ (w : RtlWire). w.port ≡ Inner) (other_wires c) (AllByRecursion-weaker IsHidden (λ (w : RtlWire). w.port ≡ Inner) (λ w g. g.inner) (other_wires c) (others_hidden c pool h));
}
