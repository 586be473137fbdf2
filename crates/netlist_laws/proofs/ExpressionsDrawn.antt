-- The drawing of each expression: its own ids and wires, and one driver for each bit.
use Rattle.std.specs.Prelude.{◌≡◌, ◌≢◌, ◌≤◌, ◌+◌, ◌*◌, ◌^◌, ◌==◌, nat_lt, ℕ, zero, suc, false, max, if◌then◌else◌, List, [], ◌∷◌, ◌++◌, map, take, length, IsPermutation, pos, codes}
use Rattle.std.proofs.Common.{refl, sym, ap, ◌∙◌, arith, subst, append-nil}
use Rattle.std.proofs.lemmas.Bool.{cond_both, eqb-true, eqb-false}
use Rattle.std.proofs.lemmas.Nat.{pow_pos}
use Rattle.std.proofs.lemmas.List.{length-map}
use Rattle.std.proofs.lemmas.List.Sorted.{IsPermutation-refl, IsPermutation-trans, IsPermutation-append_right, IsPermutation-append_comm}
use Rattle.shape_rules.specs.Forms.{Form, unsigned}
use Rattle.shape_rules.specs.declared.cell.CellKind.{CellKind}
use Rattle.shape_rules.specs.declared.cell.CellKind.TheVariants as kind
use Rattle.design_ir.specs.declared.ids.ExprId.{ExprId}
use Rattle.design_ir.specs.declared.signal.Sig.{Sig}
use Rattle.design_ir.specs.declared.expr.Pattern.{Pattern}
use Rattle.design_ir.specs.declared.expr.Expr.{Expr}
use Rattle.design_ir.specs.declared.expr.Expr.TheVariants as expr
use Rattle.design_ir.specs.Values.{form_step}
use Rattle.design_ir.specs.PoolRules.{IsInRange}
use Rattle.rtlil_text.specs.declared.sig.SigPart.{SigPart}
use Rattle.rtlil_text.specs.Sources.{Source, spec_bits}
use Rattle.rtlil_text.specs.CellTables.{output_of}
use Rattle.netlist_laws.specs.Ids.{part_id}
use Rattle.netlist_laws.specs.Cells.{binary_cell, unary_cell, mux_cell}
use Rattle.netlist_laws.specs.Operands.{wire_part, const_spec, at_width, at_form, const_operand}
use Rattle.netlist_laws.specs.Operators.{Value, Drawing, nothing, inner_wire, whole, one_bit, as_form, linked}
use Rattle.netlist_laws.specs.Expressions.{and_also, truth_spec, truth_drawing, chosen, stride_form, stride_operand, amount_operand, amount_drawing, part_form, selected, picked, picked_of, matched, no_match, matched_within, matched_any, joined, part_count, shown, drawn}
use Rattle.netlist_laws.proofs.Drives.{block, value_bits, IsBare-inner_wire, IsDrawn, IsDrawn-wider, IsDrawn-linked, IsDrawn-nothing, IsDrawn-and_then, IsDrawn-before, fresh_places, zero_more, output_bits-binary, output_bits-mux}
use Rattle.netlist_laws.proofs.Places.{spec_bits-wire_part}
use Rattle.netlist_laws.proofs.DrawnCells.{fresh_from, last_first, IsDrawn-cells, IsDrawn-inner}
use Rattle.netlist_laws.proofs.OperatorsDrawn.{operator_drawn}

-- ---- whether a value is not 0

one_truth : (n : ℕ) (s : Value)
    → IsDrawn part_id n (n + 2) [] [] (record { wires = inner_wire (part_id (n + 1)) 1 ∷ []; cells = unary_cell kind.ReduceOr (part_id n) (as_form s s.form) 1 (one_bit (part_id (n + 1))) ∷ []; links = [] })
one_truth n s =
    IsDrawn-inner part_id n (n + 2) (inner_wire (part_id (n + 1)) 1 ∷ []) (unary_cell kind.ReduceOr (part_id n) (as_form s s.form) 1 (one_bit (part_id (n + 1))) ∷ [])
    (fresh_from part_id n 2 (part_id (n + 1) ∷ part_id n ∷ []) (fresh_places part_id n 0 2 (1 ∷ 0 ∷ []) (part_id (n + 1) ∷ part_id n ∷ []) (λ i. part_id (n + 1) ∷ part_id (zero_more n i) ∷ []) refl refl))
    (IsBare-inner_wire (part_id (n + 1)) 1 (omega arith), tt) refl

truth_drawn : (n : ℕ) (s : Value) → IsDrawn part_id n (n + 2) [] [] (truth_drawing n s)
truth_drawn n s =
    let two : Drawing = record { wires = inner_wire (part_id (n + 1)) 1 ∷ []; cells = unary_cell kind.ReduceOr (part_id n) (as_form s s.form) 1 (one_bit (part_id (n + 1))) ∷ []; links = [] } in
    cond_both (s.form.width == 0) nothing (if s.form.width == 1 then nothing else two) (IsDrawn part_id n (n + 2) [] [])
    (λ _. IsDrawn-nothing part_id n (n + 2))
    (λ _. cond_both (s.form.width == 1) nothing two (IsDrawn part_id n (n + 2) [] []) (λ _. IsDrawn-nothing part_id n (n + 2)) (λ _. one_truth n s))

-- ---- choices

choice_drawn : (n width : ℕ) (a b s : List SigPart) (y : Value) → IsDrawn part_id (n + 2) (n + 3) [] (value_bits y) (record { wires = []; cells = mux_cell (part_id (n + 2)) width a b s (whole y) ∷ []; links = [] })
choice_drawn n width a b s y =
    IsDrawn-cells part_id (n + 2) (n + 3) [] (mux_cell (part_id (n + 2)) width a b s (whole y) ∷ []) [] (value_bits y)
    (fresh_places part_id n 2 3 (2 ∷ []) (part_id (n + 2) ∷ []) refl refl refl) tt (λ i. output_bits-mux (part_id (n + 2)) width a b s y.id y.form.width i ++ []) refl

chosen_drawn : (n : ℕ) (s a b y : Value) → IsDrawn part_id n (n + 3) [] (value_bits y) (chosen n s a b y)
chosen_drawn n s a b y =
    IsDrawn-before part_id n (n + 2) (n + 2) (n + 3) (value_bits y) (truth_drawing n s)
    (record { wires = []; cells = mux_cell (part_id (n + 2)) y.form.width (at_width b.id b.form y.form.width) (at_width a.id a.form y.form.width) (truth_spec n s) (whole y) ∷ []; links = [] })
    (omega arith) (omega arith) (omega arith) (truth_drawn n s) (choice_drawn n y.form.width (at_width b.id b.form y.form.width) (at_width a.id a.form y.form.width) (truth_spec n s) y)

-- ---- parts at an offset

amount_drawn : (n : ℕ) (offset : Value) (stride : ℕ) → IsDrawn part_id n (n + 2) [] [] (amount_drawing n offset stride)
amount_drawn n offset stride =
    let g : Form = stride_form offset.form in
    let two : Drawing = record {
      wires = inner_wire (part_id (n + 1)) g.width ∷ [];
      cells = binary_cell kind.Mul (part_id n) (as_form offset g) (stride_operand offset.form stride) g.width (wire_part (part_id (n + 1)) 0 g.width) ∷ [];
      links = [];
    } in
    cond_both (stride == 1) nothing two (IsDrawn part_id n (n + 2) [] []) (λ _. IsDrawn-nothing part_id n (n + 2))
    (λ _.
    IsDrawn-inner part_id n (n + 2) (inner_wire (part_id (n + 1)) g.width ∷ [])
    (binary_cell kind.Mul (part_id n) (as_form offset g) (stride_operand offset.form stride) g.width (wire_part (part_id (n + 1)) 0 g.width) ∷ [])
    (fresh_from part_id n 2 (part_id (n + 1) ∷ part_id n ∷ []) (fresh_places part_id n 0 2 (1 ∷ 0 ∷ []) (part_id (n + 1) ∷ part_id n ∷ []) (λ i. part_id (n + 1) ∷ part_id (zero_more n i) ∷ []) refl refl))
    (IsBare-inner_wire (part_id (n + 1)) g.width (omega arith), tt)
    (λ i. output_bits-binary kind.Mul (part_id n) (as_form offset g) (stride_operand offset.form stride) g.width (part_id (n + 1)) g.width refl i ++ []))

-- a cell that drives an inner wire, and a link from it
linked_swap : (b s y : List Source) → s ≡ y → IsPermutation ((b ++ []) ++ (s ++ [])) (y ++ (b ++ []))
linked_swap b s y e =
    let f : s ++ [] ≡ y = append-nil s ∙ e in
    subst (λ r. IsPermutation ((b ++ []) ++ (s ++ [])) (r ++ (b ++ []))) f (IsPermutation-append_comm (b ++ []) (s ++ []))

selected_drawn : (n : ℕ) (a offset : Value) (stride : ℕ) (y : Value) → 1 ≤ y.form.width → IsDrawn part_id n (n + 4) [] (value_bits y) (selected n a offset stride y)
selected_drawn n a offset stride y h =
    let g : Form = part_form a.form y.form.width in
    let id : List ℕ = part_id (n + 3) in
    let k : CellKind = if a.form.signed then kind.Sshr else kind.Shr in
    let output : output_of k ≡ codes "\\Y" = cond_both a.form.signed kind.Sshr kind.Shr (λ (k : CellKind). output_of k ≡ codes "\\Y") (λ _. refl) (λ _. refl) in
    let bits = output_bits-binary k (part_id (n + 2)) (as_form a g) (amount_operand n offset stride) g.width id g.width output in
    let shift : Drawing = record {
      wires = inner_wire id g.width ∷ [];
      cells = binary_cell k (part_id (n + 2)) (as_form a g) (amount_operand n offset stride) g.width (wire_part id 0 g.width) ∷ [];
      links = record { left = whole y; right = wire_part id 0 y.form.width } ∷ [];
    } in
    let shift_drawn : IsDrawn part_id (n + 2) (n + 4) [] (value_bits y) shift = record {
      fresh = fresh_places part_id n 2 4 (3 ∷ 2 ∷ []) (part_id (n + 3) ∷ part_id (n + 2) ∷ []) refl refl refl;
      bare = (IsBare-inner_wire id g.width (omega arith), tt);
      drives = subst (λ r. IsPermutation ((r ++ []) ++ (spec_bits (whole y) ++ [])) (value_bits y ++ (block id g.width ++ []))) (sym bits) (linked_swap (block id g.width) (spec_bits (whole y)) (value_bits y) (spec_bits-wire_part y.id 0 y.form.width));
    } in
    cond_both (offset.form.width == 0) (linked y (at_width a.id a.form y.form.width)) (and_also (amount_drawing n offset stride) shift) (IsDrawn part_id n (n + 4) [] (value_bits y))
    (λ _. IsDrawn-linked part_id n (n + 4) y (at_width a.id a.form y.form.width))
    (λ _. IsDrawn-before part_id n (n + 2) (n + 2) (n + 4) (value_bits y) (amount_drawing n offset stride) shift (omega arith) (omega arith) (omega arith) (amount_drawn n offset stride) shift_drawn)

-- ---- items by an index

-- the third of three parts comes first, and the second before the first
third_first : (c b y : List Source) → IsPermutation (c ++ ((b ++ (y ++ [])) ++ [])) (y ++ (b ++ (c ++ [])))
third_first c b y =
    IsPermutation-trans (c ++ ((b ++ (y ++ [])) ++ [])) (y ++ (c ++ (b ++ []))) (y ++ (b ++ (c ++ [])))
    (subst (λ r. IsPermutation (c ++ r) (y ++ (c ++ (b ++ [])))) (sym (append-nil (b ++ (y ++ []))))
    (subst (λ r. IsPermutation r (y ++ (c ++ (b ++ [])))) (append-nil (c ++ (b ++ (y ++ [])))) (last_first (c ∷ b ∷ []) y)))
    (IsPermutation-append_right y (c ++ (b ++ [])) (b ++ (c ++ []))
    (subst (λ r. IsPermutation (c ++ (b ++ [])) (b ++ r)) (sym (append-nil c)) (subst (λ r. IsPermutation (c ++ r) (b ++ c)) (sym (append-nil b)) (IsPermutation-append_comm c b))))

picked_drawn : (n : ℕ) (index : Value) (i : ℕ) (first : Value) (more : List Value) (into : Value) → 1 ≤ into.form.width → IsDrawn part_id n (n + 4 * length more) [] (value_bits into) (picked n index i first more into)
picked_drawn n index i first [] into h = IsDrawn-linked part_id n (n + 4 * 0) into (at_width first.id first.form into.form.width)
picked_drawn n index i first (second ∷ more) into h =
    let one : Drawing = record {
      wires = inner_wire (part_id (n + 1)) 1 ∷ inner_wire (part_id (n + 3)) into.form.width ∷ [];
      cells =
          binary_cell kind.Eq (part_id n) (as_form index index.form) (const_operand index.form (pos i)) 1 (one_bit (part_id (n + 1)))
          ∷ mux_cell (part_id (n + 2)) into.form.width (wire_part (part_id (n + 3)) 0 into.form.width) (at_width first.id first.form into.form.width) (one_bit (part_id (n + 1))) (whole into) ∷ [];
      links = [];
    } in
    let B = block (part_id (n + 1)) 1 in
    let C = block (part_id (n + 3)) into.form.width in
    let bits = output_bits-mux (part_id (n + 2)) into.form.width (wire_part (part_id (n + 3)) 0 into.form.width) (at_width first.id first.form into.form.width) (one_bit (part_id (n + 1))) into.id into.form.width in
    let one_drawn : IsDrawn part_id n (n + 4) C (value_bits into) one = record {
      fresh =
          fresh_from part_id n 4 (part_id (n + 1) ∷ part_id (n + 3) ∷ part_id n ∷ part_id (n + 2) ∷ [])
          (fresh_places part_id n 0 4 (1 ∷ 3 ∷ 0 ∷ 2 ∷ []) (part_id (n + 1) ∷ part_id (n + 3) ∷ part_id n ∷ part_id (n + 2) ∷ []) (λ i. part_id (n + 1) ∷ part_id (n + 3) ∷ part_id (zero_more n i) ∷ part_id (n + 2) ∷ []) refl refl);
      bare = (IsBare-inner_wire (part_id (n + 1)) 1 (omega arith), (IsBare-inner_wire (part_id (n + 3)) into.form.width h, tt));
      drives = subst (λ r. IsPermutation (C ++ ((B ++ (r ++ [])) ++ [])) (value_bits into ++ (B ++ (C ++ [])))) (sym bits) (third_first C B (value_bits into));
    } in
    let rest : Value = record { id = part_id (n + 3); form = into.form } in
    IsDrawn-and_then part_id n (n + 4) (n + 4) (n + 4 * suc (length more)) C (value_bits into) one (picked (n + 4) index (suc i) second more rest) (omega arith) (omega arith) (omega arith) one_drawn
    (IsDrawn-wider part_id (n + 4) ((n + 4) + 4 * length more) (n + 4 * suc (length more)) [] C (picked (n + 4) index (suc i) second more rest) (omega arith) (picked_drawn (n + 4) index (suc i) second more rest h))

picked_of_drawn : (n : ℕ) (index : Value) (items : List Value) (y : Value) → 1 ≤ length items → 1 ≤ y.form.width → IsDrawn part_id n (n + 4 * length items) [] (value_bits y) (picked_of n index items y)
picked_of_drawn n index [] y p h = absurd (omega arith)
picked_of_drawn n index (first ∷ more) y p h =
    IsDrawn-wider part_id n (n + 4 * length more) (n + 4 * suc (length more)) [] (value_bits y) (picked n index 0 first more y) (omega arith) (picked_drawn n index 0 first more y h)

length-reach : (m : ℕ) (items : List Value) → length (take m items) ≤ length items
length-reach zero items = omega arith
length-reach (suc m) [] = omega arith
length-reach (suc m) (v ∷ items) = omega (arith, length-reach m items)

some_reach : (m : ℕ) (items : List Value) → 1 ≤ m → 1 ≤ length items → 1 ≤ length (take m items)
some_reach zero items p q = absurd (omega arith)
some_reach (suc m) [] p q = absurd (omega arith)
some_reach (suc m) (v ∷ items) p q = omega arith

pow_some : (w : ℕ) → 1 ≤ 2 ^ w
pow_some w = omega (arith, pow_pos w)

-- ---- patterns

matched_drawn : (n : ℕ) (g : Form) (a : Value) (p : Pattern) → 1 ≤ g.width → IsDrawn part_id n (n + 4) [] [] (matched n g a p)
matched_drawn n g a p h =
    IsDrawn-inner part_id n (n + 4) (inner_wire (part_id (n + 1)) g.width ∷ inner_wire (part_id (n + 3)) 1 ∷ [])
    (binary_cell kind.And (part_id n) (record { spec = at_width a.id (unsigned a.form.width) g.width; form = g }) (const_operand g (pos p.mask)) g.width (wire_part (part_id (n + 1)) 0 g.width)
    ∷ binary_cell kind.Eq (part_id (n + 2)) (at_form (part_id (n + 1)) g g) (const_operand g (pos p.bits)) 1 (one_bit (part_id (n + 3))) ∷ [])
    (fresh_from part_id n 4 (part_id (n + 1) ∷ part_id (n + 3) ∷ part_id n ∷ part_id (n + 2) ∷ [])
    (fresh_places part_id n 0 4 (1 ∷ 3 ∷ 0 ∷ 2 ∷ []) (part_id (n + 1) ∷ part_id (n + 3) ∷ part_id n ∷ part_id (n + 2) ∷ []) (λ i. part_id (n + 1) ∷ part_id (n + 3) ∷ part_id (zero_more n i) ∷ part_id (n + 2) ∷ []) refl refl))
    (IsBare-inner_wire (part_id (n + 1)) g.width h, (IsBare-inner_wire (part_id (n + 3)) 1 (omega arith), tt))
    (λ i.
    output_bits-binary kind.And (part_id n) (record { spec = at_width a.id (unsigned a.form.width) g.width; form = g }) (const_operand g (pos p.mask)) g.width (part_id (n + 1)) g.width refl i
    ++ (block (part_id (n + 3)) 1 ++ []))

no_match_drawn : (n : ℕ) → IsDrawn part_id n (n + 4) [] [] (no_match n)
no_match_drawn n = record {
  fresh = fresh_from part_id n 4 (part_id (n + 3) ∷ []) (fresh_places part_id n 0 4 (3 ∷ []) (part_id (n + 3) ∷ []) refl refl refl);
  bare = (IsBare-inner_wire (part_id (n + 3)) 1 (omega arith), tt);
  drives = IsPermutation-refl (block (part_id (n + 3)) 1 ++ []);
}

matched_within_drawn : (n : ℕ) (g : Form) (a : Value) (p : Pattern) → 1 ≤ g.width → IsDrawn part_id n (n + 4) [] [] (matched_within n g a p)
matched_within_drawn n g a p h =
    cond_both (nat_lt p.bits (2 ^ g.width)) (matched n g a p) (no_match n) (IsDrawn part_id n (n + 4) [] []) (λ _. matched_drawn n g a p h) (λ _. no_match_drawn n)

matched_any_drawn : (n : ℕ) (a : Value) (ps : List Pattern) (into : Value) → IsDrawn part_id n (n + 6 * length ps) [] (value_bits into) (matched_any n a ps into)
matched_any_drawn n a [] into = IsDrawn-linked part_id n (n + 6 * 0) into (const_spec 1 (pos 0))
matched_any_drawn n a (p ∷ ps) into =
    let g : Form = unsigned (max 1 a.form.width) in
    let B = block (part_id (n + 5)) 1 in
    let rest : Value = record { id = part_id (n + 5); form = unsigned 1 } in
    let high : ℕ = n + 6 * suc (length ps) in
    let either : Drawing = record {
      wires = inner_wire (part_id (n + 5)) 1 ∷ [];
      cells = binary_cell kind.Or (part_id (n + 4)) (at_form (part_id (n + 3)) (unsigned 1) (unsigned 1)) (at_form (part_id (n + 5)) (unsigned 1) (unsigned 1)) 1 (whole into) ∷ [];
      links = [];
    } in
    let bits = output_bits-binary kind.Or (part_id (n + 4)) (at_form (part_id (n + 3)) (unsigned 1) (unsigned 1)) (at_form (part_id (n + 5)) (unsigned 1) (unsigned 1)) 1 into.id into.form.width refl in
    let either_drawn : IsDrawn part_id (n + 4) (n + 6) B (value_bits into) either = record {
      fresh = fresh_places part_id n 4 6 (5 ∷ 4 ∷ []) (part_id (n + 5) ∷ part_id (n + 4) ∷ []) refl refl refl;
      bare = (IsBare-inner_wire (part_id (n + 5)) 1 (omega arith), tt);
      drives = subst (λ r. IsPermutation (B ++ ((r ++ []) ++ [])) (value_bits into ++ (B ++ []))) (sym bits) (turned B (value_bits into));
    } in
    let later = IsDrawn-wider part_id (n + 6) ((n + 6) + 6 * length ps) high [] B (matched_any (n + 6) a ps rest) (omega arith) (matched_any_drawn (n + 6) a ps rest) in
    IsDrawn-before part_id n (n + 4) (n + 4) high (value_bits into) (matched_within n g a p) (and_also either (matched_any (n + 6) a ps rest)) (omega arith) (omega arith) (omega arith) (matched_within_drawn n g a p (omega arith))
    (IsDrawn-and_then part_id (n + 4) (n + 6) (n + 6) high B (value_bits into) either (matched_any (n + 6) a ps rest) (omega arith) (omega arith) (omega arith) either_drawn later)
  where
    turned : (b y : List Source) → IsPermutation (b ++ ((y ++ []) ++ [])) (y ++ (b ++ []))
    turned b y =
        subst (λ r. IsPermutation (b ++ r) (y ++ (b ++ []))) (sym (append-nil (y ++ []) ∙ append-nil y)) (subst (λ r. IsPermutation (b ++ y) (y ++ r)) (sym (append-nil b)) (IsPermutation-append_comm b y))

-- ---- all expressions

some_items : {A : Type 0} (xs : List A) → xs ≢ [] → 1 ≤ length xs
some_items [] h = absurd (h refl)
some_items (x ∷ xs) h = omega arith

module _ (sigs : List Sig) (signal value : ℕ → Value) (n : ℕ) (y : Value) where
  IsShown : Expr → Type 0
  IsShown e = IsDrawn part_id n (n + part_count e) [] (value_bits y) (shown signal value n y e)

  shown_drawn : (e : Expr) → y.form ≡ form_step sigs (λ k. (value k).form) e → IsInRange sigs (λ k. (value k).form) e → 1 ≤ y.form.width → IsShown e
  unfolding IsShown
  shown_drawn (expr.Const c s) f r h = IsDrawn-linked part_id n (n + 0) y (const_spec s.width c)
  shown_drawn (expr.Sig s) f r h = IsDrawn-linked part_id n (n + 0) y (whole (signal s.0))
  shown_drawn (expr.Unary o a) f r h = operator_drawn o n (value a.0) (record { id = []; form = unsigned 0 }) y f h
  shown_drawn (expr.Binary o a b) f r h = operator_drawn o n (value a.0) (value b.0) y f h
  shown_drawn (expr.Mux s a b) f r h = chosen_drawn n (value s.0) (value a.0) (value b.0) y
  shown_drawn (expr.Slice a low width) f r h = IsDrawn-linked part_id n (n + 0) y (wire_part (value a.0).id low width)
  shown_drawn (expr.Cat es) f r h = IsDrawn-linked part_id n (n + 0) y (joined value es)
  shown_drawn (expr.Part a offset width stride) f r h = selected_drawn n (value a.0) (value offset.0) stride y h
  shown_drawn (expr.Pick index es) f r h =
      let items : List Value = map (λ (e : ExprId). value e.0) es in
      let m : ℕ = 2 ^ (value index.0).form.width in
      let many : length items ≡ length es = length-map es (λ (e : ExprId). value e.0) in
      let some = some_reach m items (pow_some (value index.0).form.width) (omega (arith, many, some_items es r)) in
      IsDrawn-wider part_id n (n + 4 * length (take m items)) (n + 4 * length es) [] (value_bits y) (picked_of n (value index.0) (take m items) y) (omega (arith, length-reach m items, many))
      (picked_of_drawn n (value index.0) (take m items) y some h)
  shown_drawn (expr.Cast a signed) f r h = IsDrawn-linked part_id n (n + 0) y (whole (value a.0))
  shown_drawn (expr.Matches a patterns) f r h = matched_any_drawn n (value a.0) patterns y
  shown_drawn (expr.Reset domain place) f r h = IsDrawn-linked part_id n (n + 0) y (const_spec 1 (pos 0))

  none : (w : ℕ) (id : List ℕ) → w ≡ 0 → block id w ≡ []
  none w id e = ap (block id) e

  -- also where it has no bits
  pub expression_drawn : (e : Expr) → y.form ≡ form_step sigs (λ k. (value k).form) e → IsInRange sigs (λ k. (value k).form) e → IsDrawn part_id n (n + part_count e) [] (value_bits y) (drawn signal value n y e)
  unfolding IsShown
  expression_drawn e f r =
      cond_both (y.form.width == 0) nothing (shown signal value n y e) (IsDrawn part_id n (n + part_count e) [] (value_bits y))
      (λ t. subst (λ u. IsDrawn part_id n (n + part_count e) [] u nothing) (sym (none y.form.width y.id (eqb-true y.form.width 0 t))) (IsDrawn-nothing part_id n (n + part_count e)))
      (λ t. shown_drawn e f r (some_width t))
    where
      some_width : (y.form.width == 0) ≡ false → 1 ≤ y.form.width
      some_width t = omega (arith, eqb-false y.form.width 0 t)
