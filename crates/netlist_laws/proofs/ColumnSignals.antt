-- Columns and the signals that they show: each signal has one at most, and each port has one.
use Rattle.std.specs.Prelude.{◌≡◌, ◌≤◌, ◌<◌, ◌+◌, ◌==◌, ◌&&◌, ◌||◌, nat_lt, nat_eq, ℕ, zero, suc, Bool, true, false, cond, if◌then◌else◌, List, [], ◌∷◌, ◌++◌, map, length, IsPermutation, Option, Some, None, is_none, option_map, unwrap_or}
use Rattle.std.specs.List.{flat_map, range_with_len, find, list_any, AllByRecursion, IsDistinct}
use Rattle.std.proofs.Common.{refl, sym, ap, ◌∙◌, arith, subst, append-nil}
use Rattle.std.proofs.lemmas.Bool.{eqb-true, eqb-false, ne_eqb, false≢true, ltb-false}
use Rattle.std.proofs.lemmas.List.Sorted.{IsPermutation-refl, IsPermutation-trans, IsPermutation-append, IsPermutation-append_left}
use Rattle.design_ir.specs.declared.port.Port.{Port}
use Rattle.design_ir.specs.declared.port.Column.{Column}
use Rattle.design_ir.specs.Values.{signal_form}
use Rattle.design_ir.specs.Circuits.{Circuit, is_among, is_input}
use Rattle.design_ir.specs.Designs.{port_signals, IsDesign}
use Rattle.rtlil_text.specs.declared.module.WirePort.TheVariants.{Inner, Input, Output}
use Rattle.rtlil_text.specs.Sources.{Source, is_input_port}
use Rattle.netlist_laws.specs.Ids.{signal_id}
use Rattle.netlist_laws.specs.Module.{public_id, column_of, side_of, port_of, first_value, column_wires, signal_wires}
use Rattle.netlist_laws.proofs.Permuted.{IsPermutation-flat_map, flat_map-nested}
use Rattle.rtlil_text.proofs.Among.{AllByRecursion-append}
use Rattle.netlist_laws.proofs.Drives.{block, owed_bits}
use Rattle.netlist_laws.proofs.SignalsDrawn.{signal_bits}

-- ---- tests

or-false : (a b : Bool) → (a || b) ≡ false → (a ≡ false) × (b ≡ false)
or-false true b e = absurd (false≢true (sym e))
or-false false b e = (refl, e)

pub and-false : (a : Bool) → (a && false) ≡ false
and-false true = refl
and-false false = refl

-- the numbers of signals, of which s is none
abbrev pub IsNone : ℕ → List ℕ → Type 0
IsNone s ss = is_among ss s ≡ false

among_left : (xs ys : List ℕ) (s : ℕ) → IsNone s (xs ++ ys) → IsNone s xs
among_left [] ys s h = refl
among_left (x ∷ xs) ys s h = let g = or-false (x == s) (is_among (xs ++ ys) s) h in rw g.0 (among_left xs ys s g.1)

IsDistinct-append : (xs ys : List ℕ) → IsDistinct nat_eq xs → IsDistinct nat_eq ys → AllByRecursion (λ s. IsNone s xs) ys → IsDistinct nat_eq (xs ++ ys)
unfolding IsDistinct
IsDistinct-append [] ys h k n = k
IsDistinct-append (x ∷ xs) ys h k n = (AllByRecursion-append (λ y. nat_eq x y ≡ false) xs ys h.0 (firsts ys n), IsDistinct-append xs ys h.1 k (rests ys n))
  where
    firsts : (ys : List ℕ) → AllByRecursion (λ s. IsNone s (x ∷ xs)) ys → AllByRecursion (λ y. nat_eq x y ≡ false) ys
    firsts [] n = tt
    firsts (y ∷ ys) n = ((or-false (x == y) (is_among xs y) n.0).0, firsts ys n.1)

    rests : (ys : List ℕ) → AllByRecursion (λ s. IsNone s (x ∷ xs)) ys → AllByRecursion (λ s. IsNone s xs) ys
    rests [] n = tt
    rests (y ∷ ys) n = ((or-false (x == y) (is_among xs y) n.0).1, rests ys n.1)

-- ---- a column for a signal

abbrev pub column_at : ℕ → List Column → Option Column
column_at s xs = find (λ (x : Column). x.sig.0 == s) xs

abbrev pub column_signals : List Column → List ℕ
column_signals xs = map (λ (x : Column). x.sig.0) xs

pub columns_distinct : (c : Circuit) → IsDesign c → IsDistinct nat_eq (column_signals c.columns)
columns_distinct c h = subst (IsDistinct nat_eq) (sym h.columns.split) (IsDistinct-append (port_signals c) h.columns.registers h.ports h.columns.each_once h.columns.no_ports)

pub found : (xs : List Column) (s : ℕ) (x : Column) → column_at s xs ≡ Some x → x.sig.0 ≡ s
found [] s x e = cc
found (y ∷ ys) s x e = by (found ys s x) (y.sig.0 == s) refl e
  where
    by : (column_at s ys ≡ Some x → x.sig.0 ≡ s) → (b : Bool) → (y.sig.0 == s) ≡ b → cond b (Some y) (column_at s ys) ≡ Some x → x.sig.0 ≡ s
    by later true t e = let f : y ≡ x = cc in ap (λ (z : Column). z.sig.0) (sym f) ∙ eqb-true y.sig.0 s t
    by later false t e = later e

not_found : (xs : List Column) (s : ℕ) → column_at s xs ≡ None → IsNone s (column_signals xs)
not_found [] s e = refl
not_found (y ∷ ys) s e = by (not_found ys s) (y.sig.0 == s) e
  where
    by : (column_at s ys ≡ None → IsNone s (column_signals ys)) → (b : Bool) → cond b (Some y) (column_at s ys) ≡ None → (b || is_among (column_signals ys) s) ≡ false
    by later true e = cc
    by later false e = later e

none_apart : (xs : List Column) (s : ℕ) → AllByRecursion (λ t. nat_eq s t ≡ false) (column_signals xs) → column_at s xs ≡ None
none_apart [] s h = refl
none_apart (y ∷ ys) s h = let t : (y.sig.0 == s) ≡ false = ne_eqb y.sig.0 s (λ e. eqb-false s y.sig.0 h.0 (sym e)) in rw t (none_apart ys s h.1)

-- a signal that no column shows is no input
no_input : (ps : List Port) (s : ℕ) → IsNone s (map (λ (p : Port). p.sig.0) ps) → list_any (λ (p : Port). p.is_input && (p.sig.0 == s)) ps ≡ false
no_input [] s h = refl
no_input (p ∷ ps) s h = let g = or-false (p.sig.0 == s) (is_among (map (λ (p : Port). p.sig.0) ps) s) h in rw (g.0, and-false p.is_input) (no_input ps s g.1)

pub hidden_no_input : (c : Circuit) → IsDesign c → (s : ℕ) → column_of c s ≡ None → is_input c s ≡ false
hidden_no_input c h s e =
    no_input c.ports s (among_left (port_signals c) h.columns.registers s (subst (IsNone s) h.columns.split (not_found c.columns s e)))

-- ---- the port of a signal is an input where the signal is one

none_ports : (ps : List Port) (s t : ℕ) → s ≡ t → AllByRecursion (λ u. nat_eq s u ≡ false) (map (λ (p : Port). p.sig.0) ps) → IsNone t (map (λ (p : Port). p.sig.0) ps)
none_ports [] s t e h = refl
none_ports (p ∷ ps) s t e h = let f : (p.sig.0 == t) ≡ false = ne_eqb p.sig.0 t (λ g. eqb-false s p.sig.0 h.0 (e ∙ sym g)) in rw f (none_ports ps s t e h.1)

pub input_side : (ps : List Port) (k s : ℕ) → IsDistinct nat_eq (map (λ (p : Port). p.sig.0) ps) → is_input_port (side_of k (find (λ (p : Port). p.sig.0 == s) ps)) ≡ list_any (λ (p : Port). p.is_input && (p.sig.0 == s)) ps
unfolding IsDistinct
input_side [] k s h = refl
input_side (p ∷ ps) k s h = by (input_side ps k s h.1) (p.sig.0 == s) refl
  where
    either : (q : Bool) → is_input_port (if q then Input (suc k) else Output (suc k)) ≡ ((q && true) || false)
    either true = refl
    either false = refl

    by : is_input_port (side_of k (find (λ (p : Port). p.sig.0 == s) ps)) ≡ list_any (λ (p : Port). p.is_input && (p.sig.0 == s)) ps → (b : Bool) → (p.sig.0 == s) ≡ b → is_input_port (side_of k (cond b (Some p) (find (λ (p : Port). p.sig.0 == s) ps))) ≡ ((p.is_input && b) || list_any (λ (p : Port). p.is_input && (p.sig.0 == s)) ps)
    by later true t = either p.is_input ∙ ap (λ r. (p.is_input && true) || r) (sym (no_input ps s (none_ports ps p.sig.0 s (eqb-true p.sig.0 s t) h.0)))
    by later false t = later ∙ ap (λ b. b || list_any (λ (p : Port). p.is_input && (p.sig.0 == s)) ps) (sym (and-false p.is_input))

-- ---- what is given for columns, or for the signals that they show

abbrev pub of_column : (Column → List Source) → Option Column → List Source
of_column f None = []
of_column f (Some x) = f x

once_none : (v : List Source) (j k n : ℕ) → j < k → flat_map (λ s. if j == s then v else []) (range_with_len k n) ≡ []
once_none v j k zero h = refl
once_none v j k (suc n) h = let t : (j == k) ≡ false = ne_eqb j k (λ e. omega (arith, e)) in rw t (once_none v j (k + 1) n (omega arith))

once : (v : List Source) (j k n : ℕ) → k ≤ j → j < k + n → flat_map (λ s. if j == s then v else []) (range_with_len k n) ≡ v
once v j k zero p q = absurd (omega arith)
once v j k (suc n) p q = by (λ a. once v j (k + 1) n (omega (arith, a)) (omega arith)) (j == k) refl
  where
    by : ((j ≡ k → ⊥) → flat_map (λ s. if j == s then v else []) (range_with_len (k + 1) n) ≡ v) → (b : Bool) → (j == k) ≡ b → (if b then v else []) ++ flat_map (λ s. if j == s then v else []) (range_with_len (k + 1) n) ≡ v
    by later true t = ap (λ r. v ++ r) (once_none v j (k + 1) n (omega (arith, eqb-true j k t))) ∙ append-nil v
    by later false t = later (eqb-false j k t)

of_first : (f : Column → List Source) (x : Column) (xs : List Column) → AllByRecursion (λ t. nat_eq x.sig.0 t ≡ false) (column_signals xs) → (s : ℕ)
    → of_column f (column_at s (x ∷ xs)) ≡ (if x.sig.0 == s then f x else []) ++ of_column f (column_at s xs)
of_first f x xs h s = by (x.sig.0 == s) refl
  where
    by : (b : Bool) → (x.sig.0 == s) ≡ b → of_column f (cond b (Some x) (column_at s xs)) ≡ (if b then f x else []) ++ of_column f (column_at s xs)
    by true t = sym (ap (λ (o : Option Column). f x ++ of_column f o) (ap (λ j. column_at j xs) (sym (eqb-true x.sig.0 s t)) ∙ none_apart xs x.sig.0 h) ∙ append-nil (f x))
    by false t = refl

pub gathered : (f : Column → List Source) (n : ℕ) (xs : List Column) → IsDistinct nat_eq (column_signals xs) → AllByRecursion (λ (x : Column). x.sig.0 < n) xs → IsPermutation (flat_map f xs) (flat_map (λ s. of_column f (column_at s xs)) (range_with_len 0 n))
unfolding IsDistinct
gathered f n [] d h = subst (IsPermutation []) (sym (empty (range_with_len 0 n))) (IsPermutation-refl [])
  where
    empty : (ks : List ℕ) → flat_map (λ s. of_column f (column_at s [])) ks ≡ []
    empty [] = refl
    empty (k ∷ ks) = empty ks
gathered f n (x ∷ xs) d h =
    let R = range_with_len 0 n in
    let first : ℕ → List Source = λ s. if x.sig.0 == s then f x else [] in
    let later : ℕ → List Source = λ s. of_column f (column_at s xs) in
    let one : flat_map first R ≡ f x = once (f x) x.sig.0 0 n (omega arith) (omega (arith, h.0)) in
    let both : IsPermutation (f x ++ flat_map f xs) (flat_map first R ++ flat_map later R) =
    subst (λ u. IsPermutation (f x ++ flat_map f xs) (u ++ flat_map later R)) (sym one) (IsPermutation-append (f x) (f x) (flat_map f xs) (flat_map later R) (IsPermutation-refl (f x)) (gathered f n xs d.1 h.1)) in
    let all : IsPermutation (f x ++ flat_map f xs) (flat_map (λ s. first s ++ later s) R) = IsPermutation-trans (f x ++ flat_map f xs) (flat_map first R ++ flat_map later R) (flat_map (λ s. first s ++ later s) R) both (IsPermutation-flat_map first later R) in
    subst (IsPermutation (f x ++ flat_map f xs)) (λ i. flat_map (λ s. sym (of_first f x xs d.0 s) i) R) all

-- ---- the bits that columns and other signals owe

abbrev column_bits : Circuit → Column → List Source
column_bits c x = if is_input c x.sig.0 then [] else block (public_id x.name) (signal_form c.pool.signals x.sig.0).width

column_wires-bits : (c : Circuit) → IsDesign c → (k : ℕ) (xs : List Column) → flat_map owed_bits (column_wires c k xs) ≡ flat_map (column_bits c) xs
column_wires-bits c h k [] = refl
column_wires-bits c h k (x ∷ xs) =
    let side : is_input_port (port_of c k x.sig.0) ≡ is_input c x.sig.0 = input_side c.ports k x.sig.0 h.ports in
    let rest = column_wires-bits c h (suc k) xs in
    λ i. (if side i then [] else block (public_id x.name) (signal_form c.pool.signals x.sig.0).width) ++ rest i

-- the bits of a signal with this column
abbrev IsSplit : Circuit → ℕ → Option Column → Type 0
IsSplit c s o =
    (if is_input c s then [] else block (unwrap_or (option_map (λ (x : Column). public_id x.name) o) (signal_id s)) (signal_form c.pool.signals s).width)
    ≡ of_column (column_bits c) o ++ flat_map owed_bits (if nat_lt 0 (signal_form c.pool.signals s).width && is_none o then record { id = signal_id s; width = (signal_form c.pool.signals s).width; port = Inner; init = first_value c s } ∷ [] else [])

hidden_bits : (id : List ℕ) (v : ℕ) (init : Option (List Bool)) (b : Bool) → nat_lt 0 v ≡ b → block id v ≡ flat_map owed_bits (if b && true then record { id = id; width = v; port = Inner; init = init } ∷ [] else [])
hidden_bits id v init true t = sym (append-nil (block id v))
hidden_bits id v init false t = let z : v ≡ 0 = omega (arith, ltb-false 0 v t) in ap (block id) z

split_at : (c : Circuit) → IsDesign c → (s : ℕ) (o : Option Column) → column_of c s ≡ o → IsSplit c s o
split_at c h s (Some x) e =
    let v : ℕ = (signal_form c.pool.signals s).width in
    let f : s ≡ x.sig.0 = sym (found c.columns s x e) in
    (λ i. if is_input c (f i) then [] else block (public_id x.name) (signal_form c.pool.signals (f i)).width)
    ∙ sym (append-nil (column_bits c x))
    ∙ ap (λ (b : Bool). column_bits c x ++ flat_map owed_bits (if b then record { id = signal_id s; width = v; port = Inner; init = first_value c s } ∷ [] else [])) (sym (and-false (nat_lt 0 v)))
split_at c h s None e =
    let v : ℕ = (signal_form c.pool.signals s).width in
    ap (λ (b : Bool). if b then [] else block (signal_id s) v) (hidden_no_input c h s e) ∙ hidden_bits (signal_id s) v (first_value c s) (nat_lt 0 v) refl

signal_bits-split : (c : Circuit) → IsDesign c → (s : ℕ) → signal_bits c s ≡ of_column (column_bits c) (column_of c s) ++ flat_map owed_bits (signal_wires c s)
signal_bits-split c h s = split_at c h s (column_of c s) refl

-- the wires of columns and of other signals owe the bits of all signals that no event gives
pub signal_wires-bits : (c : Circuit) → IsDesign c
    → IsPermutation (flat_map owed_bits (column_wires c 0 c.columns) ++ flat_map owed_bits (flat_map (signal_wires c) (range_with_len 0 (length c.pool.signals)))) (flat_map (signal_bits c) (range_with_len 0 (length c.pool.signals)))
signal_wires-bits c h =
    let R = range_with_len 0 (length c.pool.signals) in
    let shown : ℕ → List Source = λ s. of_column (column_bits c) (column_of c s) in
    let hidden : ℕ → List Source = λ s. flat_map owed_bits (signal_wires c s) in
    let left = column_wires-bits c h 0 c.columns in
    let right = flat_map-nested owed_bits (signal_wires c) R in
    let columns : IsPermutation (flat_map (column_bits c) c.columns) (flat_map shown R) = gathered (column_bits c) (length c.pool.signals) c.columns (columns_distinct c h) h.columns.there in
    let both : IsPermutation (flat_map (column_bits c) c.columns ++ flat_map hidden R) (flat_map (λ s. shown s ++ hidden s) R) =
    IsPermutation-trans (flat_map (column_bits c) c.columns ++ flat_map hidden R) (flat_map shown R ++ flat_map hidden R) (flat_map (λ s. shown s ++ hidden s) R)
    (IsPermutation-append_left (flat_map hidden R) (flat_map (column_bits c) c.columns) (flat_map shown R) columns) (IsPermutation-flat_map shown hidden R) in
    subst (λ u. IsPermutation u (flat_map (signal_bits c) R)) (λ i. sym left i ++ sym right i)
    (subst (IsPermutation (flat_map (column_bits c) c.columns ++ flat_map hidden R)) (λ i. flat_map (λ s. sym (signal_bits-split c h s) i) R) both)
