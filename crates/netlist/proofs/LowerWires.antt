-- Turns of the loops over wires and drawings.
use Rattle.std.proofs.Common.{◌≡◌, ◌<◌, ◌≤◌, ◌+◌, ◌-◌, ℕ, suc, List, [], ◌∷◌, ◌++◌, map, length, drop, sym, ap, ◌∙◌, arith, append_assoc, append-nil}
use Rattle.std.specs.Prelude.{Some, slice_get}
use Rattle.std.specs.List.{flat_map, range_with_len}
use Rattle.std.proofs.lemmas.List.{drop_more, drop_all}
use Rattle.std.proofs.lemmas.Option.{get_or_from_slice_get}
use Rattle.design_ir.specs.declared.port.Column.{Column}
use Rattle.design_ir.specs.Circuits.{Circuit}
use Rattle.rtlil_text.specs.declared.module.RtlWire.{RtlWire}
use Rattle.netlist_laws.specs.Operators.{Drawing}
use Rattle.netlist_laws.specs.Expressions.{and_also}
use Rattle.netlist_laws.specs.Module.{column_wire, column_wires}
use Rattle.netlist.specs.Tables.{together}
use Rattle.netlist.proofs.LowerDrawings.{also_nothing, also_more}

pub range_next : (i n : ℕ) → i < n → range_with_len i (n - i) ≡ i ∷ range_with_len (i + 1) (n - (i + 1))
range_next i n h = let e : n - i ≡ suc (n - (i + 1)) = omega arith in ap (range_with_len i) e

pub range_end : (i n : ℕ) → n ≤ i → range_with_len i (n - i) ≡ []
range_end i n h = let e : n - i ≡ 0 = omega arith in ap (range_with_len i) e

pub rows_turn : {A : Type 0} (f : ℕ → List A) (i n : ℕ) (out out' all : List A) → i < n → out' ≡ out ++ f i → out ++ flat_map f (range_with_len i (n - i)) ≡ all → out' ++ flat_map f (range_with_len (i + 1) (n - (i + 1))) ≡ all
rows_turn f i n out out' all h added whole =
    let rest = flat_map f (range_with_len (i + 1) (n - (i + 1))) in
    ap (λ o. o ++ rest) added ∙ append_assoc out (f i) rest ∙ ap (λ ks. out ++ flat_map f ks) (sym (range_next i n h)) ∙ whole

pub rows_end : {A : Type 0} (f : ℕ → List A) (i n : ℕ) (out all : List A) → n ≤ i → out ++ flat_map f (range_with_len i (n - i)) ≡ all → out ≡ all
rows_end f i n out all h whole = sym (append-nil out) ∙ ap (λ ks. out ++ flat_map f ks) (sym (range_end i n h)) ∙ whole

pub columns_turn : (c : Circuit) (k : ℕ) (x : Column) (out out' all : List RtlWire) → slice_get c.columns k ≡ Some x → k < length c.columns → out' ≡ out ++ column_wire c k x ∷ [] → out ++ column_wires c k (drop k c.columns) ≡ all → out' ++ column_wires c (k + 1) (drop (k + 1) c.columns) ≡ all
columns_turn c k x out out' all is h added whole =
    let one : k + 1 ≡ suc k = omega arith in
    let head : drop k c.columns ≡ x ∷ drop (k + 1) c.columns = drop_more c.columns k x h ∙ ap (λ (z : Column). z ∷ drop (k + 1) c.columns) (get_or_from_slice_get c.columns k x x is) in
    ap (λ o. o ++ column_wires c (k + 1) (drop (k + 1) c.columns)) added ∙ append_assoc out (column_wire c k x ∷ []) (column_wires c (k + 1) (drop (k + 1) c.columns))
    ∙ ap (λ j. out ++ column_wire c k x ∷ column_wires c j (drop (k + 1) c.columns)) one ∙ ap (λ xs. out ++ column_wires c k xs) (sym head) ∙ whole

pub columns_end : (c : Circuit) (k : ℕ) (out all : List RtlWire) → length c.columns ≤ k → out ++ column_wires c k (drop k c.columns) ≡ all → out ≡ all
columns_end c k out all h whole = sym (append-nil out) ∙ ap (λ xs. out ++ column_wires c k xs) (sym (drop_all k c.columns h)) ∙ whole

pub signals_turn : (f : ℕ → Drawing) (i n : ℕ) (d d' all : Drawing) → i < n → d' ≡ and_also d (f i) → and_also d (together (map f (range_with_len i (n - i)))) ≡ all → and_also d' (together (map f (range_with_len (i + 1) (n - (i + 1))))) ≡ all
signals_turn f i n d d' all h added whole =
    also_more d d' all (f i) (map f (range_with_len (i + 1) (n - (i + 1)))) added (ap (λ ks. and_also d (together (map f ks))) (sym (range_next i n h)) ∙ whole)

pub signals_end : (f : ℕ → Drawing) (i n : ℕ) (d all : Drawing) → n ≤ i → and_also d (together (map f (range_with_len i (n - i)))) ≡ all → d ≡ all
signals_end f i n d all h whole = sym (also_nothing d) ∙ ap (λ ks. and_also d (together (map f ks))) (sym (range_end i n h)) ∙ whole
