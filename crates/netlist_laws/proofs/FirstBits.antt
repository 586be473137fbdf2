-- The wires of a module that have first values are those that its registers drive.
use Rattle.std.specs.Prelude.{◌≡◌, ℕ, suc, ◌+◌, ◌&&◌, nat_lt, Bool, true, false, if◌then◌else◌, List, [], ◌∷◌, ◌++◌, map, length, Option, Some, None, is_some, is_none, option_map, unwrap_or, IsPermutation, slice_get}
use Rattle.std.specs.List.{flat_map, range_with_len, AllByRecursion}
use Rattle.std.proofs.Common.{refl, sym, ap, ◌∙◌, arith, subst, append-nil, append_assoc}
use Rattle.std.proofs.lemmas.Bool.{cond_both, false≢true, ltb-false}
use Rattle.std.proofs.lemmas.List.Concat.{flat_map-append}
use Rattle.std.proofs.lemmas.List.Sorted.{IsPermutation-trans, IsPermutation-sym, IsPermutation-append_left}
use Rattle.shape_rules.specs.declared.cell.CellKind.{CellKind}
use Rattle.shape_rules.specs.declared.cell.CellKind.TheVariants.{Dff, Adff}
use Rattle.design_ir.specs.declared.ids.DomainId.{DomainId}
use Rattle.design_ir.specs.declared.port.Column.{Column}
use Rattle.design_ir.specs.declared.expr.Expr.{Expr}
use Rattle.design_ir.specs.declared.process.DesignProcess.{DesignProcess}
use Rattle.design_ir.specs.Values.{form, signal_form}
use Rattle.design_ir.specs.PoolRules.{IsPool}
use Rattle.design_ir.specs.Circuits.{Circuit}
use Rattle.design_ir.specs.Designs.{IsDesign}
use Rattle.rtlil_text.specs.declared.cell.RtlCell.{RtlCell}
use Rattle.rtlil_text.specs.declared.module.RtlWire.{RtlWire}
use Rattle.rtlil_text.specs.declared.module.WirePort.TheVariants.{Inner}
use Rattle.rtlil_text.specs.Sources.{Source}
use Rattle.rtlil_text.specs.Drivers.{output_bits}
use Rattle.rtlil_text.specs.Inits.{is_register_kind, registered_bits, register_bits, begun_bits, first_bits, InitsAreOfRegisters}
use Rattle.netlist_laws.specs.Ids.{signal_id, value_id}
use Rattle.netlist_laws.specs.Operators.{Drawing, nothing, inner_wire}
use Rattle.netlist_laws.specs.Expressions.{part_count, part_total, drawn}
use Rattle.netlist_laws.specs.Module.{public_id, column_of, signal_value, expr_value, Driving, ByEvents, ByComb, ByClock, ByRead, ByNothing, is_clocked, driving, init_bits, first_value, column_wires, signal_wires, expr_wires, drawn_from, drawings, register_drawing, driving_drawing, signal_drawing, other_drawings, all_drawings, module_of, Heeding, NoReset, AtEdges, AtOnce, heeding}
use Rattle.netlist_laws.specs.MemoryDrawings.{memory_drawings}
use Rattle.netlist_laws.proofs.Places.{spec_bits-wire_part}
use Rattle.netlist_laws.proofs.Permuted.{IsPermutation-flat_map, flat_map-nested}
use Rattle.netlist_laws.proofs.Drives.{block, value_bits, IsBare}
use Rattle.netlist_laws.proofs.ManyDrawn.{drawing_wires, drawn_from_are}
use Rattle.netlist_laws.proofs.SignalsDrawn.{signals_drawn}
use Rattle.netlist_laws.proofs.PartsDrawn.{memories_drawn}
use Rattle.netlist_laws.proofs.ColumnSignals.{of_column, gathered, and-false, found, columns_distinct}
use Rattle.netlist_laws.proofs.ModuleWires.{other_wires, module_wires}
use Rattle.netlist_laws.proofs.LogicCells.{is_logic_kind, IsLogic, drawn_logic}

-- ---- what registers drive

-- the bits of a signal, where a clock drives it
abbrev kept_bits : Circuit → ℕ → List Source
kept_bits c s = if is_clocked (driving c s) then value_bits (signal_value c s) else []

-- what the registers of a drawing drive
abbrev drawn_registers : Drawing → List Source
drawn_registers d = flat_map registered_bits d.cells

no_register : (k : CellKind) → is_logic_kind k ≡ true → is_register_kind k ≡ false
no_register Dff h = absurd (false≢true h)
no_register Adff h = absurd (false≢true h)
no_register kind h = refl

logic_registers : (cells : List RtlCell) → AllByRecursion IsLogic cells → flat_map registered_bits cells ≡ []
logic_registers [] h = refl
logic_registers (x ∷ cells) h = (λ i. (if no_register x.kind h.0 i then output_bits x else []) ++ logic_registers cells h.1 i)

expression_registers : (c : Circuit) (k n : ℕ) (es : List Expr) → flat_map drawn_registers (drawn_from c k n es) ≡ []
expression_registers c k n [] = refl
expression_registers c k n (e ∷ es) =
    λ i. logic_registers (drawn (signal_value c) (expr_value c) n (expr_value c k) e).cells (drawn_logic (signal_value c) (expr_value c) n (expr_value c k) e) i ++ expression_registers c (suc k) (n + part_count e) es i

module _ (c : Circuit) (s : ℕ) where
  one_register : (p : DesignProcess) (d : DomainId) (h : Heeding) → drawn_registers (register_drawing c s p d h) ≡ value_bits (signal_value c s)
  one_register p d NoReset = (λ i. spec_bits-wire_part (signal_value c s).id 0 (signal_form c.pool.signals s).width i ++ []) ∙ append-nil (value_bits (signal_value c s))
  one_register p d (AtOnce r) = (λ i. spec_bits-wire_part (signal_value c s).id 0 (signal_form c.pool.signals s).width i ++ []) ∙ append-nil (value_bits (signal_value c s))
  one_register p d (AtEdges r) = (λ i. spec_bits-wire_part (signal_value c s).id 0 (signal_form c.pool.signals s).width i ++ []) ∙ append-nil (value_bits (signal_value c s))

  driving_registers : (x : Driving) → drawn_registers (driving_drawing c s x) ≡ (if is_clocked x then value_bits (signal_value c s) else [])
  driving_registers ByEvents = refl
  driving_registers (ByComb p) = refl
  driving_registers (ByClock p d) = one_register p d (heeding c s d)
  driving_registers ByRead = refl
  driving_registers ByNothing = refl

  signal_registers : drawn_registers (signal_drawing c s) ≡ kept_bits c s
  signal_registers =
      let w : ℕ = (signal_form c.pool.signals s).width in
      cond_both (nat_lt 0 w) (driving_drawing c s (driving c s)) nothing (λ (d : Drawing). drawn_registers d ≡ kept_bits c s) (λ _. driving_registers (driving c s)) (λ t. none w t)
    where
      none : (w : ℕ) → nat_lt 0 w ≡ false → [] ≡ (if is_clocked (driving c s) then block (signal_value c s).id w else [])
      none w t =
          let z : 0 ≡ w = omega (arith, ltb-false 0 w t) in
          cond_both (is_clocked (driving c s)) (block (signal_value c s).id w) [] (λ (u : List Source). [] ≡ u) (λ _. ap (block (signal_value c s).id) z) (λ _. refl)

mapped : {A B C : Type 0} (f : B → List C) (g : A → B) (xs : List A) → flat_map f (map g xs) ≡ flat_map (λ x. f (g x)) xs
mapped f g [] = refl
mapped f g (x ∷ xs) = ap (λ r. f (g x) ++ r) (mapped f g xs)

-- those of memories' flags
abbrev kept_flags : Circuit → List Source
kept_flags c = flat_map drawn_registers (memory_drawings c)

registers_are : (c : Circuit) → register_bits (module_of c) ≡ flat_map (kept_bits c) (range_with_len 0 (length c.pool.signals)) ++ kept_flags c
unfolding module_of
registers_are c =
    let R = range_with_len 0 (length c.pool.signals) in
    flat_map-nested registered_bits (λ (d : Drawing). d.cells) (all_drawings c)
    ∙ flat_map-append drawn_registers (drawings c) (other_drawings c)
    ∙ (λ i. expression_registers c 0 0 c.pool.exprs i ++ flat_map-append drawn_registers (map (signal_drawing c) R) (memory_drawings c) i)
    ∙ ap (λ u. u ++ kept_flags c) (mapped drawn_registers (signal_drawing c) R ∙ (λ i. flat_map (λ s. signal_registers c s i) R))

-- ---- which wires have first values

abbrev column_kept : Circuit → Column → List Source
column_kept c x = if is_clocked (driving c x.sig.0) then block (public_id x.name) (signal_form c.pool.signals x.sig.0).width else []

some_value : (b : Bool) (bits : List Bool) → is_some (if b then Some bits else None) ≡ b
some_value true bits = refl
some_value false bits = refl

column_wires-begun : (c : Circuit) (k : ℕ) (xs : List Column) → flat_map begun_bits (column_wires c k xs) ≡ flat_map (column_kept c) xs
column_wires-begun c k [] = refl
column_wires-begun c k (x ∷ xs) =
    λ i. (if some_value (is_clocked (driving c x.sig.0)) (init_bits c x.sig.0) i then block (public_id x.name) (signal_form c.pool.signals x.sig.0).width else []) ++ column_wires-begun c (suc k) xs i

-- the bits of a signal with this column
abbrev IsSplit : Circuit → ℕ → Option Column → Type 0
IsSplit c s o =
    (if is_clocked (driving c s) then block (unwrap_or (option_map (λ (x : Column). public_id x.name) o) (signal_id s)) (signal_form c.pool.signals s).width else [])
    ≡ of_column (column_kept c) o ++ flat_map begun_bits (if nat_lt 0 (signal_form c.pool.signals s).width && is_none o then record { id = signal_id s; width = (signal_form c.pool.signals s).width; port = Inner; init = first_value c s } ∷ [] else [])

hidden_begun : (id : List ℕ) (v : ℕ) (q : Bool) (bits : List Bool) (b : Bool) → nat_lt 0 v ≡ b
    → (if q then block id v else []) ≡ flat_map begun_bits (if b && true then record { id = id; width = v; port = Inner; init = if q then Some bits else None } ∷ [] else [])
hidden_begun id v true bits true t = sym (append-nil (block id v))
hidden_begun id v false bits true t = refl
hidden_begun id v true bits false t = let z : v ≡ 0 = omega (arith, ltb-false 0 v t) in ap (block id) z
hidden_begun id v false bits false t = refl

split_at : (c : Circuit) (s : ℕ) (o : Option Column) → column_of c s ≡ o → IsSplit c s o
split_at c s (Some x) e =
    let v : ℕ = (signal_form c.pool.signals s).width in
    let f : s ≡ x.sig.0 = sym (found c.columns s x e) in
    (λ i. if is_clocked (driving c (f i)) then block (public_id x.name) (signal_form c.pool.signals (f i)).width else [])
    ∙ sym (append-nil (column_kept c x))
    ∙ ap (λ (b : Bool). column_kept c x ++ flat_map begun_bits (if b then record { id = signal_id s; width = v; port = Inner; init = first_value c s } ∷ [] else [])) (sym (and-false (nat_lt 0 v)))
split_at c s None e = hidden_begun (signal_id s) (signal_form c.pool.signals s).width (is_clocked (driving c s)) (init_bits c s) (nat_lt 0 (signal_form c.pool.signals s).width) refl

kept_bits-split : (c : Circuit) (s : ℕ) → kept_bits c s ≡ of_column (column_kept c) (column_of c s) ++ flat_map begun_bits (signal_wires c s)
kept_bits-split c s = split_at c s (column_of c s) refl

-- the wires of columns and of other signals begin with the bits that clocks drive
signals_begun : (c : Circuit) → IsDesign c
    → IsPermutation (flat_map begun_bits (column_wires c 0 c.columns) ++ flat_map begun_bits (flat_map (signal_wires c) (range_with_len 0 (length c.pool.signals)))) (flat_map (kept_bits c) (range_with_len 0 (length c.pool.signals)))
signals_begun c h =
    let R = range_with_len 0 (length c.pool.signals) in
    let shown : ℕ → List Source = λ s. of_column (column_kept c) (column_of c s) in
    let hidden : ℕ → List Source = λ s. flat_map begun_bits (signal_wires c s) in
    let left = column_wires-begun c 0 c.columns in
    let right = flat_map-nested begun_bits (signal_wires c) R in
    let columns : IsPermutation (flat_map (column_kept c) c.columns) (flat_map shown R) = gathered (column_kept c) (length c.pool.signals) c.columns (columns_distinct c h) h.columns.there in
    let both : IsPermutation (flat_map (column_kept c) c.columns ++ flat_map hidden R) (flat_map (λ s. shown s ++ hidden s) R) =
    IsPermutation-trans (flat_map (column_kept c) c.columns ++ flat_map hidden R) (flat_map shown R ++ flat_map hidden R) (flat_map (λ s. shown s ++ hidden s) R)
    (IsPermutation-append_left (flat_map hidden R) (flat_map (column_kept c) c.columns) (flat_map shown R) columns) (IsPermutation-flat_map shown hidden R) in
    subst (λ u. IsPermutation u (flat_map (kept_bits c) R)) (λ i. sym left i ++ sym right i)
    (subst (IsPermutation (flat_map (column_kept c) c.columns ++ flat_map hidden R)) (λ i. flat_map (λ s. sym (kept_bits-split c s) i) R) both)

bare_begun : (ws : List RtlWire) → AllByRecursion IsBare ws → flat_map begun_bits ws ≡ []
bare_begun [] h = refl
bare_begun (w ∷ ws) h = rw h.0.init (bare_begun ws h.1)

exprs_begun : (c : Circuit) (ks : List ℕ) → flat_map begun_bits (flat_map (expr_wires c) ks) ≡ []
exprs_begun c [] = refl
exprs_begun c (k ∷ ks) =
    flat_map-append begun_bits (expr_wires c k) (flat_map (expr_wires c) ks)
    ∙ (λ i. cond_both (nat_lt 0 (form c.pool k).width) (inner_wire (value_id k) (form c.pool k).width ∷ []) [] (λ (ws : List RtlWire). flat_map begun_bits ws ≡ []) (λ _. refl) (λ _. refl) i ++ exprs_begun c ks i)

-- the flags of memories
abbrev begun_flags : Circuit → List Source
begun_flags c = flat_map begun_bits (flat_map drawing_wires (memory_drawings c))

others_begun : (c : Circuit) → IsPool c.pool → flat_map begun_bits (other_wires c) ≡ flat_map begun_bits (flat_map (signal_wires c) (range_with_len 0 (length c.pool.signals))) ++ begun_flags c
unfolding other_wires
others_begun c pool =
    let R = range_with_len 0 (length c.pool.signals) in
    let Q = range_with_len 0 (length c.pool.exprs) in
    let S = flat_map (signal_wires c) R in
    let X = flat_map (expr_wires c) Q in
    let D = flat_map drawing_wires (drawings c) in
    let G = flat_map drawing_wires (map (signal_drawing c) R) in
    let M = flat_map drawing_wires (memory_drawings c) in
    let parts = (drawn_from_are c pool 0 0 (part_total c.pool.exprs) c.pool.exprs (λ i lt. ap (slice_get c.pool.exprs) (omega arith)) (omega arith)).bare in
    let steps = (signals_drawn c 0 (length c.pool.signals)).bare in
    let others : flat_map begun_bits (flat_map drawing_wires (other_drawings c)) ≡ begun_flags c =
    ap (flat_map begun_bits) (flat_map-append drawing_wires (map (signal_drawing c) R) (memory_drawings c)) ∙ flat_map-append begun_bits G M ∙ ap (λ u. u ++ begun_flags c) (bare_begun G steps) in
    let drawn : flat_map begun_bits (flat_map drawing_wires (all_drawings c)) ≡ begun_flags c =
    ap (flat_map begun_bits) (flat_map-append drawing_wires (drawings c) (other_drawings c)) ∙ flat_map-append begun_bits D (flat_map drawing_wires (other_drawings c)) ∙ (λ i. bare_begun D parts i ++ others i) in
    flat_map-append begun_bits (S ++ X) (flat_map drawing_wires (all_drawings c))
    ∙ (λ i. flat_map-append begun_bits S X i ++ drawn i)
    ∙ (λ i. (flat_map begun_bits S ++ exprs_begun c Q i) ++ begun_flags c)
    ∙ ap (λ u. u ++ begun_flags c) (append-nil (flat_map begun_bits S))

pub inits_are : (c : Circuit) → IsPool c.pool → IsDesign c → InitsAreOfRegisters (module_of c)
inits_are c pool h =
    let C = flat_map begun_bits (column_wires c 0 c.columns) in
    let S = flat_map begun_bits (flat_map (signal_wires c) (range_with_len 0 (length c.pool.signals))) in
    let kept = flat_map (kept_bits c) (range_with_len 0 (length c.pool.signals)) in
    let flags : kept_flags c ≡ begun_flags c = (memories_drawn c h).begins in
    let first : first_bits (module_of c) ≡ (C ++ S) ++ begun_flags c =
    ap (flat_map begun_bits) (module_wires c) ∙ flat_map-append begun_bits (column_wires c 0 c.columns) (other_wires c) ∙ ap (λ r. C ++ r) (others_begun c pool) ∙ sym (append_assoc C S (begun_flags c)) in
    let registers : register_bits (module_of c) ≡ kept ++ begun_flags c = registers_are c ∙ ap (λ r. kept ++ r) flags in
    subst (λ u. IsPermutation u (first_bits (module_of c))) (sym registers)
    (subst (IsPermutation (kept ++ begun_flags c)) (sym first) (IsPermutation-append_left (begun_flags c) kept (C ++ S) (IsPermutation-sym (C ++ S) kept (signals_begun c h))))
