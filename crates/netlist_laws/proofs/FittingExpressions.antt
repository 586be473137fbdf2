-- Drawings of links, operators and choices keep the rules of a module.
use Rattle.std.proofs.Common.{◌≡◌, ℕ, ◌+◌, ◌≤◌, ◌==◌, Bool, true, false, cond, List, [], ◌∷◌, ◌++◌, length, refl, sym, ◌∙◌, ap, subst, arith, ℤ, pos}
use Rattle.std.specs.Prelude.{All, Contains}
use Rattle.std.specs.List.{AllByRecursion}
use Rattle.std.proofs.lemmas.Bool.{cond_both, eqb-true, eqb-false}
use Rattle.std.proofs.lemmas.List.Elements.{All-nil, All-append, All-from_recursion, recursion_from_All}
use Rattle.shape_rules.specs.Forms.{Form, IsForm, unsigned}
use Rattle.shape_rules.specs.declared.op.Op.{Op}
use Rattle.shape_rules.specs.declared.cell.CellKind.TheVariants as kind
use Rattle.amh_host.specs.declared.place.Place.{Place}
use Rattle.design_ir.specs.declared.ids.ExprId.{ExprId}
use Rattle.design_ir.specs.declared.ids.SigId.{SigId}
use Rattle.design_ir.specs.declared.expr.Expr.{Expr}
use Rattle.design_ir.specs.declared.expr.Expr.TheVariants as expr
use Rattle.design_ir.specs.Values.{total_width}
use Rattle.rtlil_text.specs.declared.sig.SigPart.{SigPart}
use Rattle.rtlil_text.specs.declared.module.RtlWire.{RtlWire}
use Rattle.rtlil_text.specs.declared.module.RtlModule.{RtlModule}
use Rattle.rtlil_text.specs.Sources.{spec_bits}
use Rattle.rtlil_text.specs.Rules.{WireFits, PartFits, CellFits, LinkFits}
use Rattle.netlist_laws.specs.Ids.{part_id}
use Rattle.netlist_laws.specs.Cells.{unary_cell, mux_cell}
use Rattle.netlist_laws.specs.Operands.{wire_part, const_spec, at_width}
use Rattle.netlist_laws.specs.Operators.{Value, Drawing, nothing, whole, linked, one_bit, inner_wire, as_form}
use Rattle.netlist_laws.specs.Expressions.{and_also, truth_spec, truth_drawing, joined, shown, drawn}
use Rattle.netlist_laws.specs.Fits.{HasWire, HasValue, HasWires, DrawingFits, FitsExpression}
use Rattle.netlist_laws.proofs.Places.{length-spec_append}
use Rattle.netlist_laws.proofs.Drawn.{form_sign}
use Rattle.netlist_laws.proofs.NeededBits.{all_left, all_right}
use Rattle.netlist_laws.proofs.OperatorExpressions.{taken, unary_taken}
use Rattle.netlist_laws.proofs.FittingCells.{SpecIs, wire_is, whole_is, const_is, at_width_is, unary_fits, mux_fits, reduction_rules, linked_fits, inner_fits}
use Rattle.netlist_laws.proofs.FittingDrawings.{nothing_fits, one_fits}
use Rattle.netlist_laws.proofs.FittingParts.{fits_operator, first_held, inner_is}

-- ---- one drawing and another

pub also_fits : (m : RtlModule) (d e : Drawing) → DrawingFits m d → DrawingFits m e → DrawingFits m (and_also d e)
also_fits m d e p q = record {
  wires = All-append WireFits d.wires e.wires p.wires q.wires;
  cells = All-append (CellFits m) d.cells e.cells p.cells q.cells;
  links = All-append (LinkFits m) d.links e.links p.links q.links;
}

pub first_wires : (m : RtlModule) (xs ys : List RtlWire) → All (Contains m.wires) (xs ++ ys) → All (Contains m.wires) xs
first_wires m xs ys h = All-from_recursion (Contains m.wires) xs (all_left (Contains m.wires) xs ys (recursion_from_All (Contains m.wires) (xs ++ ys) h))

pub second_wires : (m : RtlModule) (xs ys : List RtlWire) → All (Contains m.wires) (xs ++ ys) → All (Contains m.wires) ys
second_wires m xs ys h = All-from_recursion (Contains m.wires) ys (all_right (Contains m.wires) xs ys (recursion_from_All (Contains m.wires) (xs ++ ys) h))

-- an expression with bits is shown
pub fits_shown : (m : RtlModule) (signal value : ℕ → Value) (n : ℕ) (y : Value) (e : Expr) → (1 ≤ y.form.width → All (Contains m.wires) (shown signal value n y e).wires → DrawingFits m (shown signal value n y e))
    → All (Contains m.wires) (drawn signal value n y e).wires → DrawingFits m (drawn signal value n y e)
fits_shown m signal value n y e law =
    cond_both (y.form.width == 0) nothing (shown signal value n y e) (λ (d : Drawing). All (Contains m.wires) d.wires → DrawingFits m d)
    (λ none wires. nothing_fits m)
    (λ some wires. law (omega (arith, eqb-false y.form.width 0 some)) wires)

-- a link to a spec of the width of a value
link_fits : (m : RtlModule) (y : Value) (spec : List SigPart) (w : ℕ) → HasValue m.wires y → SpecIs m spec w → y.form.width ≡ w → DrawingFits m (linked y spec)
link_fits m y spec w h p e = linked_fits m y spec h (subst (λ (v : ℕ). SpecIs m spec v) (sym e) p)

pub fits_const : (x : ℤ) (s : Form) → FitsExpression (expr.Const x s)
fits_const x s m signals signal value n y forms held range accepted e made hy =
    fits_shown m signal value n y (expr.Const x s) (λ some wires. link_fits m y (const_spec s.width x) s.width hy (const_is m s.width x) (ap (λ (f : Form). f.width) e))

pub fits_reset : (domain : List ℕ) (place : Place) → FitsExpression (expr.Reset domain place)
fits_reset domain place m signals signal value n y forms held range accepted e made hy =
    fits_shown m signal value n y (expr.Reset domain place) (λ some wires. link_fits m y (const_spec 1 (pos 0)) 1 hy (const_is m 1 (pos 0)) (ap (λ (f : Form). f.width) e))

pub fits_sig : (s : SigId) → FitsExpression (expr.Sig s)
fits_sig s m signals signal value n y forms held range accepted e made hy =
    fits_shown m signal value n y (expr.Sig s) (λ some wires.
    link_fits m y (whole (signal s.0)) (signal s.0).form.width hy (whole_is m (signal s.0) (held s.0 range)) (ap (λ (f : Form). f.width) e ∙ sym (ap (λ (f : Form). f.width) (forms s.0))))

pub fits_cast : (a : ExprId) (signed : Bool) → FitsExpression (expr.Cast a signed)
fits_cast a signed m signals signal value n y forms held range accepted e made hy =
    fits_shown m signal value n y (expr.Cast a signed) (λ some wires. link_fits m y (whole (value a.0)) (value a.0).form.width hy (whole_is m (value a.0) made.0.wire) (ap (λ (f : Form). f.width) e))

pub fits_slice : (a : ExprId) (low width : ℕ) → FitsExpression (expr.Slice a low width)
fits_slice a low width m signals signal value n y forms held range accepted e made hy =
    fits_shown m signal value n y (expr.Slice a low width) (λ some wires.
    link_fits m y (wire_part (value a.0).id low width) width hy (wire_is m (value a.0).id low width (value a.0).form.width made.0.wire range) (ap (λ (f : Form). f.width) e))

joined_is : (m : RtlModule) (value : ℕ → Value) (es : List ExprId) → AllByRecursion (HasWires m value) es → SpecIs m (joined value es) (total_width (λ k. (value k).form) es)
joined_is m value [] made = record { wide = refl; parts = All-nil (PartFits m.wires) }
joined_is m value (e ∷ es) made =
    let more = joined_is m value es made.1 in
    let first = whole_is m (value e.0) made.0.wire in
    record {
      wide =
          length-spec_append (joined value es) (whole (value e.0))
          ∙ ap (λ j. j + length (spec_bits (joined value es))) first.wide
          ∙ ap (λ j. (value e.0).form.width + j) more.wide;
      parts = All-append (PartFits m.wires) (joined value es) (whole (value e.0)) more.parts first.parts;
    }

pub fits_cat : (es : List ExprId) → FitsExpression (expr.Cat es)
fits_cat es m signals signal value n y forms held range accepted e made hy =
    fits_shown m signal value n y (expr.Cat es) (λ some wires. link_fits m y (joined value es) (total_width (λ k. (value k).form) es) hy (joined_is m value es made) (ap (λ (f : Form). f.width) e))

-- ---- operators

pub fits_unary : (o : Op) (a : ExprId) → FitsExpression (expr.Unary o a)
fits_unary o a m signals signal value n y forms held range accepted e made hy =
    let none : Value = record { id = []; form = unsigned 0 } in
    let shape : IsForm 0 false = omega arith in
    let no_wire : HasValue m.wires none = λ some. absurd (omega arith) in
    fits_shown m signal value n y (expr.Unary o a) (λ some wires. fits_operator o m n (value a.0) none y made.0.shape shape (unary_taken o (value a.0).form accepted) e made.0.wire no_wire hy wires)

pub fits_binary : (o : Op) (a b : ExprId) → FitsExpression (expr.Binary o a b)
fits_binary o a b m signals signal value n y forms held range accepted e made hy =
    fits_shown m signal value n y (expr.Binary o a b) (λ some wires. fits_operator o m n (value a.0) (value b.0) y made.0.shape made.1.0.shape (taken o (value a.0).form (value b.0).form accepted) e made.0.wire made.1.0.wire hy wires)

-- ---- choices

-- the bit that says whether a value is not 0, and its drawing
record TruthFits (m : RtlModule) (d : Drawing) (spec : List SigPart) : Type 0 where
  drawing : DrawingFits m d
  bit : SpecIs m spec 1

truth_by : (m : RtlModule) (n : ℕ) (s : Value) (t u : Bool) → (s.form.width == 0) ≡ t → (s.form.width == 1) ≡ u → IsForm s.form.width s.form.signed → HasValue m.wires s
    → All (Contains m.wires) (cond t nothing (cond u nothing (record { wires = inner_wire (part_id (n + 1)) 1 ∷ []; cells = unary_cell kind.ReduceOr (part_id n) (as_form s s.form) 1 (one_bit (part_id (n + 1))) ∷ []; links = [] }))).wires
    → TruthFits m (cond t nothing (cond u nothing (record { wires = inner_wire (part_id (n + 1)) 1 ∷ []; cells = unary_cell kind.ReduceOr (part_id n) (as_form s s.form) 1 (one_bit (part_id (n + 1))) ∷ []; links = [] })))
    (cond t (const_spec 1 (pos 0)) (cond u (whole s) (one_bit (part_id (n + 1)))))
truth_by m n s true u d e shape h wires = record { drawing = nothing_fits m; bit = const_is m 1 (pos 0) }
truth_by m n s false true d e shape h wires = record { drawing = nothing_fits m; bit = subst (λ (w : ℕ). SpecIs m (whole s) w) (eqb-true s.form.width 1 e) (whole_is m s h) }
truth_by m n s false false d e shape h wires =
    let w : HasWire m.wires (part_id (n + 1)) 1 = first_held m (part_id (n + 1)) 1 [] wires in
    let out = inner_is m (part_id (n + 1)) 1 w in
    let read = at_width_is m s.id s.form s.form.width h (form_sign s.form shape) in
    let cell = unary_cell kind.ReduceOr (part_id n) (as_form s s.form) 1 (one_bit (part_id (n + 1))) in
    record {
      drawing = record {
        wires = All-from_recursion WireFits (inner_wire (part_id (n + 1)) 1 ∷ []) (inner_fits (part_id (n + 1)) 1 (omega arith), tt);
        cells = All-from_recursion (CellFits m) (cell ∷ []) (unary_fits m kind.ReduceOr (part_id n) (as_form s s.form) 1 (one_bit (part_id (n + 1))) refl refl read out (reduction_rules m kind.ReduceOr (part_id n) (as_form s s.form) (one_bit (part_id (n + 1))) read out), tt);
        links = All-nil (LinkFits m);
      };
      bit = out;
    }

truth_fits : (m : RtlModule) (n : ℕ) (s : Value) → IsForm s.form.width s.form.signed → HasValue m.wires s → All (Contains m.wires) (truth_drawing n s).wires → TruthFits m (truth_drawing n s) (truth_spec n s)
truth_fits m n s shape h wires = truth_by m n s (s.form.width == 0) (s.form.width == 1) refl refl shape h wires

pub fits_mux : (s a b : ExprId) → FitsExpression (expr.Mux s a b)
fits_mux s a b m signals signal value n y forms held range accepted e made hy =
    fits_shown m signal value n y (expr.Mux s a b) (λ some wires.
    let w : ℕ = y.form.width in
    let high : List SigPart = at_width (value a.0).id (value a.0).form w in
    let low : List SigPart = at_width (value b.0).id (value b.0).form w in
    let test = truth_fits m n (value s.0) made.0.shape made.0.wire (first_wires m (truth_drawing n (value s.0)).wires [] wires) in
    let cell = mux_cell (part_id (n + 2)) w low high (truth_spec n (value s.0)) (whole y) in
    let rest : Drawing = record { wires = []; cells = cell ∷ []; links = [] } in
    also_fits m (truth_drawing n (value s.0)) rest test.drawing
    (one_fits m cell (mux_fits m (part_id (n + 2)) w low high (truth_spec n (value s.0)) (whole y) (at_width_is m (value b.0).id (value b.0).form w made.1.1.0.wire (form_sign (value b.0).form made.1.1.0.shape))
    (at_width_is m (value a.0).id (value a.0).form w made.1.0.wire (form_sign (value a.0).form made.1.0.shape)) test.bit (whole_is m y hy))))
