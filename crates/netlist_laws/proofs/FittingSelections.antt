-- Drawings of selections, items and patterns keep the rules, and so does the drawing of each expression.
use Rattle.std.proofs.Common.{◌≡◌, ℕ, zero, suc, ◌+◌, ◌≤◌, ◌^◌, ◌==◌, max, Bool, true, false, cond, List, [], ◌∷◌, ◌++◌, map, take, replicate, refl, sym, ◌∙◌, ap, subst, arith, pos}
use Rattle.std.specs.Prelude.{All, Contains, nat_lt}
use Rattle.std.specs.List.{AllByRecursion}
use Rattle.std.proofs.lemmas.Bool.{cond_both, false≢true}
use Rattle.std.proofs.lemmas.List.Elements.{All-nil, All-append, All-from_recursion}
use Rattle.shape_rules.specs.Forms.{Form, IsForm, unsigned}
use Rattle.shape_rules.specs.declared.cell.CellKind.TheVariants as kind
use Rattle.design_ir.specs.declared.ids.ExprId.{ExprId}
use Rattle.design_ir.specs.declared.expr.Pattern.{Pattern}
use Rattle.design_ir.specs.declared.expr.Expr.{Expr}
use Rattle.design_ir.specs.declared.expr.Expr.TheVariants as expr
use Rattle.rtlil_text.specs.declared.module.RtlModule.{RtlModule}
use Rattle.rtlil_text.specs.Rules.{WireFits, PartFits, CellFits, LinkFits}
use Rattle.netlist_laws.specs.Ids.{part_id}
use Rattle.netlist_laws.specs.Cells.{Operand, flag, binary_cell, mux_cell}
use Rattle.netlist_laws.specs.Operands.{wire_part, const_part, const_spec, at_width, at_form, const_operand}
use Rattle.netlist_laws.specs.Operators.{Value, Drawing, nothing, inner_wire, whole, one_bit, as_form, linked}
use Rattle.netlist_laws.specs.Expressions.{and_also, stride_form, stride_operand, amount_operand, amount_drawing, part_form, selected, picked, picked_of, matched, no_match, matched_within, matched_any}
use Rattle.netlist_laws.specs.Fits.{HasWire, HasValue, HasWires, DrawingFits, FitsExpression}
use Rattle.netlist_laws.proofs.Places.{length-const_part, length-spec_append}
use Rattle.netlist_laws.proofs.Reading.{length-replicate}
use Rattle.netlist_laws.proofs.Drawn.{form_sign}
use Rattle.netlist_laws.proofs.Selections.{part_accepted}
use Rattle.netlist_laws.proofs.FittingCells.{SpecIs, wire_is, whole_is, const_is, const_parts, at_width_is, binary_fits, mux_fits, shift_rules, linked_fits, inner_fits}
use Rattle.netlist_laws.proofs.FittingDrawings.{nothing_fits, arithmetic_fits, comparison_fits, mul_kind, and_kind, or_kind, eq_kind}
use Rattle.netlist_laws.proofs.FittingParts.{first_held, others_held, inner_is, inner_at}
use Rattle.netlist_laws.proofs.FittingExpressions.{also_fits, first_wires, second_wires, fits_shown, fits_const, fits_reset, fits_sig, fits_cast, fits_slice, fits_cat, fits_unary, fits_binary, fits_mux}

-- ---- parts at an offset

stride_is : (m : RtlModule) (f : Form) (stride : ℕ) → SpecIs m (stride_operand f stride).spec (stride_form f).width
stride_is m f stride =
    let n : ℕ = max 1 f.width in
    let low = const_is m 8 (pos stride) in
    record {
      wide = length-spec_append (const_part (replicate n false)) (const_spec 8 (pos stride)) ∙ (let e = length-const_part (replicate n false) ∙ length-replicate false n in omega (arith, e, low.wide));
      parts = All-append (PartFits m.wires) (const_part (replicate n false)) (const_spec 8 (pos stride)) (const_parts m (replicate n false)) low.parts;
    }

record AmountFits (m : RtlModule) (d : Drawing) (o : Operand) : Type 0 where
  drawing : DrawingFits m d
  spec : SpecIs m o.spec o.form.width
  unsigned : o.form.signed ≡ false

amount_by : (m : RtlModule) (n : ℕ) (offset : Value) (stride : ℕ) (t : Bool) → offset.form.signed ≡ false → HasValue m.wires offset
    → All (Contains m.wires) (cond t nothing (record {
      wires = inner_wire (part_id (n + 1)) (stride_form offset.form).width ∷ [];
      cells = binary_cell kind.Mul (part_id n) (as_form offset (stride_form offset.form)) (stride_operand offset.form stride) (stride_form offset.form).width (wire_part (part_id (n + 1)) 0 (stride_form offset.form).width) ∷ [];
      links = [];
    })).wires
    → AmountFits m (cond t nothing (record {
      wires = inner_wire (part_id (n + 1)) (stride_form offset.form).width ∷ [];
      cells = binary_cell kind.Mul (part_id n) (as_form offset (stride_form offset.form)) (stride_operand offset.form stride) (stride_form offset.form).width (wire_part (part_id (n + 1)) 0 (stride_form offset.form).width) ∷ [];
      links = [];
    })) (cond t (as_form offset offset.form) (at_form (part_id (n + 1)) (stride_form offset.form) (stride_form offset.form)))
amount_by m n offset stride true u h wires = record {
  drawing = nothing_fits m;
  spec = at_width_is m offset.id offset.form offset.form.width h (λ signed. absurd (false≢true (sym u ∙ signed)));
  unsigned = u;
}
amount_by m n offset stride false u h wires =
    let g : Form = stride_form offset.form in
    let w : HasWire m.wires (part_id (n + 1)) g.width = first_held m (part_id (n + 1)) g.width [] wires in
    let cell = binary_cell kind.Mul (part_id n) (as_form offset g) (stride_operand offset.form stride) g.width (wire_part (part_id (n + 1)) 0 g.width) in
    record {
      drawing = record {
        wires = All-from_recursion WireFits (inner_wire (part_id (n + 1)) g.width ∷ []) (inner_fits (part_id (n + 1)) g.width (omega arith), tt);
        cells = All-from_recursion (CellFits m) (cell ∷ []) (
          arithmetic_fits m kind.Mul (part_id n) (as_form offset g) (stride_operand offset.form stride) g.width (wire_part (part_id (n + 1)) 0 g.width) mul_kind
              (at_width_is m offset.id offset.form g.width h (λ signed. absurd (false≢true (sym u ∙ signed)))) (stride_is m offset.form stride) (inner_is m (part_id (n + 1)) g.width w) refl refl,
          tt,
        );
        links = All-nil (LinkFits m);
      };
      spec = inner_at m (part_id (n + 1)) g g.width (omega arith) w;
      unsigned = refl;
    }

amount_fits : (m : RtlModule) (n : ℕ) (offset : Value) (stride : ℕ) → offset.form.signed ≡ false → HasValue m.wires offset → All (Contains m.wires) (amount_drawing n offset stride).wires → AmountFits m (amount_drawing n offset stride) (amount_operand n offset stride)
amount_fits m n offset stride u h wires = amount_by m n offset stride (stride == 1) u h wires

shift_fits : (m : RtlModule) (name : List ℕ) (a b : Operand) (width : ℕ) (out : List ℕ) (s : Bool) → a.form.signed ≡ s → SpecIs m a.spec a.form.width → SpecIs m b.spec b.form.width → SpecIs m (wire_part out 0 width) width → a.form.width ≡ width → b.form.signed ≡ false
    → CellFits m (binary_cell (cond s kind.Sshr kind.Shr) name a b width (wire_part out 0 width))
shift_fits m name a b width out true e p q r wide u =
    binary_fits m kind.Sshr name a b width (wire_part out 0 width) refl refl p q r (record { shift = shift_rules m kind.Sshr name a b width (wire_part out 0 width) p q r wide u; signed = ap flag e })
shift_fits m name a b width out false e p q r wide u =
    binary_fits m kind.Shr name a b width (wire_part out 0 width) refl refl p q r (shift_rules m kind.Shr name a b width (wire_part out 0 width) p q r wide u)

selected_fits : (m : RtlModule) (n : ℕ) (a offset : Value) (stride : ℕ) (y : Value) → IsForm a.form.width a.form.signed → offset.form.signed ≡ false → HasValue m.wires a → HasValue m.wires offset → HasValue m.wires y → 1 ≤ y.form.width
    → All (Contains m.wires) (selected n a offset stride y).wires → DrawingFits m (selected n a offset stride y)
selected_fits m n a offset stride y shape u ha ho hy some =
    let g : Form = part_form a.form y.form.width in
    let first : Drawing = amount_drawing n offset stride in
    let cell = binary_cell (cond a.form.signed kind.Sshr kind.Shr) (part_id (n + 2)) (as_form a g) (amount_operand n offset stride) g.width (wire_part (part_id (n + 3)) 0 g.width) in
    let rest : Drawing = record { wires = inner_wire (part_id (n + 3)) g.width ∷ []; cells = cell ∷ []; links = record { left = whole y; right = wire_part (part_id (n + 3)) 0 y.form.width } ∷ [] } in
    cond_both (offset.form.width == 0) (linked y (at_width a.id a.form y.form.width)) (and_also first rest) (λ (d : Drawing). All (Contains m.wires) d.wires → DrawingFits m d)
    (λ none wires. linked_fits m y (at_width a.id a.form y.form.width) hy (at_width_is m a.id a.form y.form.width ha (form_sign a.form shape)))
    (λ bits wires.
    let amount = amount_fits m n offset stride u ho (first_wires m first.wires rest.wires wires) in
    let w : HasWire m.wires (part_id (n + 3)) g.width = first_held m (part_id (n + 3)) g.width [] (second_wires m first.wires rest.wires wires) in
    let low = wire_is m (part_id (n + 3)) 0 y.form.width g.width (λ one. w) (omega arith) in
    also_fits m first rest amount.drawing (record {
      wires = All-from_recursion WireFits rest.wires (inner_fits (part_id (n + 3)) g.width (omega arith), tt);
      cells = All-from_recursion (CellFits m) rest.cells (
        shift_fits m (part_id (n + 2)) (as_form a g) (amount_operand n offset stride) g.width (part_id (n + 3)) a.form.signed refl (at_width_is m a.id a.form g.width ha (form_sign a.form shape)) amount.spec (inner_is m (part_id (n + 3)) g.width w) refl amount.unsigned,
        tt,
      );
      links = All-from_recursion (LinkFits m) rest.links (record { left = (whole_is m y hy).parts; right = low.parts; equal = (whole_is m y hy).wide ∙ sym low.wide }, tt);
    }))

pub fits_part : (a offset : ExprId) (width stride : ℕ) → FitsExpression (expr.Part a offset width stride)
fits_part a offset width stride m signals signal value n y forms held range accepted e made hy =
    fits_shown m signal value n y (expr.Part a offset width stride) (λ some wires.
    selected_fits m n (value a.0) (value offset.0) stride y made.0.shape (part_accepted (value offset.0).form.signed width accepted) made.0.wire made.1.0.wire hy some wires)

-- ---- items by an index

record ItemFits (m : RtlModule) (v : Value) : Type 0 where
  shape : IsForm v.form.width v.form.signed
  wire : HasValue m.wires v

picked_fits : (m : RtlModule) (n : ℕ) (index : Value) (i : ℕ) (first : Value) (more : List Value) (into : Value) → ItemFits m index → ItemFits m first → AllByRecursion (ItemFits m) more → HasValue m.wires into → 1 ≤ into.form.width
    → All (Contains m.wires) (picked n index i first more into).wires → DrawingFits m (picked n index i first more into)
picked_fits m n index i first [] into p q rs h some wires =
    linked_fits m into (at_width first.id first.form into.form.width) h (at_width_is m first.id first.form into.form.width q.wire (form_sign first.form q.shape))
picked_fits m n index i first (second ∷ more) into p q rs h some wires =
    let w : ℕ = into.form.width in
    let others : Value = record { id = part_id (n + 3); form = into.form } in
    let test = binary_cell kind.Eq (part_id n) (as_form index index.form) (const_operand index.form (pos i)) 1 (one_bit (part_id (n + 1))) in
    let choose = mux_cell (part_id (n + 2)) w (wire_part (part_id (n + 3)) 0 w) (at_width first.id first.form w) (one_bit (part_id (n + 1))) (whole into) in
    let here : Drawing = record { wires = inner_wire (part_id (n + 1)) 1 ∷ inner_wire (part_id (n + 3)) w ∷ []; cells = test ∷ choose ∷ []; links = [] } in
    let rest : Drawing = picked (n + 4) index (suc i) second more others in
    let held = first_wires m here.wires rest.wires wires in
    let bit : HasWire m.wires (part_id (n + 1)) 1 = first_held m (part_id (n + 1)) 1 (inner_wire (part_id (n + 3)) w ∷ []) held in
    let wire : HasWire m.wires (part_id (n + 3)) w = first_held m (part_id (n + 3)) w [] (others_held m (inner_wire (part_id (n + 1)) 1) (inner_wire (part_id (n + 3)) w ∷ []) held) in
    also_fits m here rest (record {
      wires = All-from_recursion WireFits here.wires (inner_fits (part_id (n + 1)) 1 (omega arith), (inner_fits (part_id (n + 3)) w some, tt));
      cells = All-from_recursion (CellFits m) here.cells (
        comparison_fits m kind.Eq (part_id n) (as_form index index.form) (const_operand index.form (pos i)) (one_bit (part_id (n + 1))) eq_kind (at_width_is m index.id index.form index.form.width p.wire (form_sign index.form p.shape)) (const_is m index.form.width (pos i))
            (inner_is m (part_id (n + 1)) 1 bit) refl,
        (
          mux_fits m (part_id (n + 2)) w (wire_part (part_id (n + 3)) 0 w) (at_width first.id first.form w) (one_bit (part_id (n + 1))) (whole into) (inner_is m (part_id (n + 3)) w wire) (at_width_is m first.id first.form w q.wire (form_sign first.form q.shape))
              (inner_is m (part_id (n + 1)) 1 bit) (whole_is m into h),
          tt,
        ),
      );
      links = All-nil (LinkFits m);
    }) (picked_fits m (n + 4) index (suc i) second more others p rs.0 rs.1 (λ one. wire) some (second_wires m here.wires rest.wires wires))

picked_of_fits : (m : RtlModule) (n : ℕ) (index : Value) (vs : List Value) (y : Value) → ItemFits m index → AllByRecursion (ItemFits m) vs → HasValue m.wires y → 1 ≤ y.form.width → All (Contains m.wires) (picked_of n index vs y).wires → DrawingFits m (picked_of n index vs y)
picked_of_fits m n index [] y p rs h some wires = nothing_fits m
picked_of_fits m n index (v ∷ vs) y p rs h some wires = picked_fits m n index 0 v vs y p rs.0 rs.1 h some wires

items_fit : (m : RtlModule) (value : ℕ → Value) (es : List ExprId) (n : ℕ) → AllByRecursion (HasWires m value) es → AllByRecursion (ItemFits m) (take n (map (λ (e : ExprId). value e.0) es))
items_fit m value es zero h = tt
items_fit m value [] (suc n) h = tt
items_fit m value (e ∷ es) (suc n) h = (record { shape = h.0.shape; wire = h.0.wire }, items_fit m value es n h.1)

pub fits_pick : (index : ExprId) (es : List ExprId) → FitsExpression (expr.Pick index es)
fits_pick index es m signals signal value n y forms held range accepted e made hy =
    fits_shown m signal value n y (expr.Pick index es) (λ some wires.
    picked_of_fits m n (value index.0) (take (2 ^ (value index.0).form.width) (map (λ (e : ExprId). value e.0) es)) y (record { shape = made.0.shape; wire = made.0.wire }) (items_fit m value es (2 ^ (value index.0).form.width) made.1) hy some wires)

-- ---- patterns

matched_fits : (m : RtlModule) (n w : ℕ) (a : Value) (p : Pattern) → HasValue m.wires a → 1 ≤ w → HasWire m.wires (part_id (n + 3)) 1 → All (Contains m.wires) (matched n (unsigned w) a p).wires → DrawingFits m (matched n (unsigned w) a p)
matched_fits m n w a p h some out wires =
    let u : Form = unsigned w in
    let left : Operand = record { spec = at_width a.id (unsigned a.form.width) w; form = u } in
    let under : HasWire m.wires (part_id (n + 1)) w = first_held m (part_id (n + 1)) w (inner_wire (part_id (n + 3)) 1 ∷ []) wires in
    record {
      wires = All-from_recursion WireFits (matched n u a p).wires (inner_fits (part_id (n + 1)) w some, (inner_fits (part_id (n + 3)) 1 (omega arith), tt));
      cells = All-from_recursion (CellFits m) (matched n u a p).cells (
        arithmetic_fits m kind.And (part_id n) left (const_operand u (pos p.mask)) w (wire_part (part_id (n + 1)) 0 w) and_kind (at_width_is m a.id (unsigned a.form.width) w h (λ signed. absurd (false≢true signed))) (const_is m w (pos p.mask))
            (inner_is m (part_id (n + 1)) w under) refl refl,
        (comparison_fits m kind.Eq (part_id (n + 2)) (at_form (part_id (n + 1)) u u) (const_operand u (pos p.bits)) (one_bit (part_id (n + 3))) eq_kind (inner_at m (part_id (n + 1)) u w some under) (const_is m w (pos p.bits)) (inner_is m (part_id (n + 3)) 1 out) refl, tt),
      );
      links = All-nil (LinkFits m);
    }

-- the wire that says whether a pattern matches, and its drawing
record WithinFits (m : RtlModule) (n : ℕ) (d : Drawing) : Type 0 where
  drawing : DrawingFits m d
  wire : HasWire m.wires (part_id (n + 3)) 1

within_fits : (m : RtlModule) (n w : ℕ) (a : Value) (p : Pattern) → HasValue m.wires a → 1 ≤ w → All (Contains m.wires) (matched_within n (unsigned w) a p).wires → WithinFits m n (matched_within n (unsigned w) a p)
within_fits m n w a p h some =
    cond_both (nat_lt p.bits (2 ^ w)) (matched n (unsigned w) a p) (no_match n) (λ (d : Drawing). All (Contains m.wires) d.wires → WithinFits m n d)
    (λ e wires.
    let out : HasWire m.wires (part_id (n + 3)) 1 = first_held m (part_id (n + 3)) 1 [] (others_held m (inner_wire (part_id (n + 1)) w) (inner_wire (part_id (n + 3)) 1 ∷ []) wires) in
    record { drawing = matched_fits m n w a p h some out wires; wire = out })
    (λ e wires.
    let out : HasWire m.wires (part_id (n + 3)) 1 = first_held m (part_id (n + 3)) 1 [] wires in
    let bit = inner_is m (part_id (n + 3)) 1 out in
    let none = const_is m 1 (pos 0) in
    record {
      drawing = record {
        wires = All-from_recursion WireFits (no_match n).wires (inner_fits (part_id (n + 3)) 1 (omega arith), tt);
        cells = All-nil (CellFits m);
        links = All-from_recursion (LinkFits m) (no_match n).links (record { left = bit.parts; right = none.parts; equal = bit.wide ∙ sym none.wide }, tt);
      };
      wire = out;
    })

any_fits : (m : RtlModule) (n : ℕ) (a : Value) (ps : List Pattern) (into : Value) → HasValue m.wires a → HasValue m.wires into → into.form.width ≡ 1 → All (Contains m.wires) (matched_any n a ps into).wires → DrawingFits m (matched_any n a ps into)
any_fits m n a [] into h hi one wires = linked_fits m into (const_spec 1 (pos 0)) hi (subst (λ (v : ℕ). SpecIs m (const_spec 1 (pos 0)) v) (sym one) (const_is m 1 (pos 0)))
any_fits m n a (p ∷ ps) into h hi one wires =
    let w : ℕ = max 1 a.form.width in
    let left : Operand = at_form (part_id (n + 3)) (unsigned 1) (unsigned 1) in
    let right : Operand = at_form (part_id (n + 5)) (unsigned 1) (unsigned 1) in
    let cell = binary_cell kind.Or (part_id (n + 4)) left right 1 (whole into) in
    let first : Drawing = matched_within n (unsigned w) a p in
    let here : Drawing = record { wires = inner_wire (part_id (n + 5)) 1 ∷ []; cells = cell ∷ []; links = [] } in
    let out : Value = record { id = part_id (n + 5); form = unsigned 1 } in
    let rest : Drawing = matched_any (n + 6) a ps out in
    let behind = second_wires m first.wires (here.wires ++ rest.wires) wires in
    let within = within_fits m n w a p h (omega arith) (first_wires m first.wires (here.wires ++ rest.wires) wires) in
    let others : HasWire m.wires (part_id (n + 5)) 1 = first_held m (part_id (n + 5)) 1 [] (first_wires m here.wires rest.wires behind) in
    also_fits m first (and_also here rest) within.drawing
    (also_fits m here rest (record {
      wires = All-from_recursion WireFits here.wires (inner_fits (part_id (n + 5)) 1 (omega arith), tt);
      cells = All-from_recursion (CellFits m) here.cells (
        arithmetic_fits m kind.Or (part_id (n + 4)) left right 1 (whole into) or_kind (inner_at m (part_id (n + 3)) (unsigned 1) 1 (omega arith) within.wire) (inner_at m (part_id (n + 5)) (unsigned 1) 1 (omega arith) others)
            (subst (λ (v : ℕ). SpecIs m (whole into) v) one (whole_is m into hi)) refl refl,
        tt,
      );
      links = All-nil (LinkFits m);
    }) (any_fits m (n + 6) a ps out h (λ some. others) refl (second_wires m here.wires rest.wires behind)))

pub fits_matches : (a : ExprId) (ps : List Pattern) → FitsExpression (expr.Matches a ps)
fits_matches a ps m signals signal value n y forms held range accepted e made hy =
    fits_shown m signal value n y (expr.Matches a ps) (λ some wires. any_fits m n (value a.0) ps y made.0.wire hy (ap (λ (f : Form). f.width) e) wires)

-- ---- all expressions

pub fits_expression : (e : Expr) → FitsExpression e
fits_expression (expr.Const x s) = fits_const x s
fits_expression (expr.Sig s) = fits_sig s
fits_expression (expr.Unary o a) = fits_unary o a
fits_expression (expr.Binary o a b) = fits_binary o a b
fits_expression (expr.Mux s a b) = fits_mux s a b
fits_expression (expr.Slice a low width) = fits_slice a low width
fits_expression (expr.Cat es) = fits_cat es
fits_expression (expr.Part a offset width stride) = fits_part a offset width stride
fits_expression (expr.Pick index es) = fits_pick index es
fits_expression (expr.Cast a signed) = fits_cast a signed
fits_expression (expr.Matches a ps) = fits_matches a ps
fits_expression (expr.Reset domain place) = fits_reset domain place
