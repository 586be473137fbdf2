-- Whether a value is not 0, and choices by it.
use Rattle.std.proofs.Common.{◌≡◌, ℕ, ◌+◌, ◌%◌, ◌==◌, Bool, true, false, cond, not, ◌||◌, List, [], ◌∷◌, ◌++◌, refl, sym, ◌∙◌, ap, subst, arith, ℤ, pos}
use Rattle.std.specs.Prelude.{Some}
use Rattle.std.specs.List.{list_any}
use Rattle.std.proofs.lemmas.Bool.{eqb-true}
use Rattle.std.proofs.lemmas.Option.{same_Some}
use Rattle.std.proofs.lemmas.List.Elements.{All-from_recursion, recursion_from_All}
use Rattle.amh_bits.specs.Patterns.{pattern, IsOf}
use Rattle.shape_rules.specs.Operators.{is_zero}
use Rattle.shape_rules.specs.declared.cell.CellKind.TheVariants as kind
use Rattle.design_ir.specs.declared.ids.ExprId.{ExprId}
use Rattle.design_ir.specs.declared.expr.Expr.TheVariants as expr
use Rattle.design_ir.specs.Targets.{Bit}
use Rattle.design_ir.specs.Needed.{extended, every}
use Rattle.rtlil_text.specs.declared.sig.SigPart.{SigPart}
use Rattle.rtlil_text.specs.declared.cell.RtlCell.{RtlCell}
use Rattle.rtlil_text.specs.Sources.{spec_bits}
use Rattle.rtlil_text.specs.Cells.{bit_at}
use Rattle.rtlil_text.specs.Meaning.{source_value}
use Rattle.rtlil_text.specs.History.{Wires}
use Rattle.netlist_laws.specs.Ids.{part_id}
use Rattle.netlist_laws.specs.Cells.{unary_cell, mux_cell}
use Rattle.netlist_laws.specs.Operands.{const_spec, at_width}
use Rattle.netlist_laws.specs.Operators.{Value, Drawing, nothing, inner_wire, whole, one_bit, as_form}
use Rattle.netlist_laws.specs.Carried.{IsIn, ObeysCell, ObeysLink, Obeys}
use Rattle.netlist_laws.specs.Expressions.{and_also, truth_spec, truth_drawing}
use Rattle.netlist_laws.specs.Made.{known_form, SignalHas, MakesExpression}
use Rattle.netlist_laws.proofs.Reading.{bit_of, HasBits, reads_const, slice_get-pattern, bit_at-wire_part}
use Rattle.netlist_laws.proofs.Drawn.{first_cell}
use Rattle.netlist_laws.proofs.Bitwise.{mux_cell_bit}
use Rattle.netlist_laws.proofs.Widths.{reads_narrow}
use Rattle.netlist_laws.proofs.ReducedBits.{any-pattern, pattern-is_zero}
use Rattle.netlist_laws.proofs.ReducedOperators.{or_reduction, reduction_bit, empty_pattern}
use Rattle.netlist_laws.proofs.NeededBits.{all_left, all_right, made_every, made_extended}
use Rattle.netlist_laws.proofs.Linked.{follows_shown, bit_at-whole}

-- ---- one drawing and another

pub also_first : (wires : Wires) (d e : Drawing) → Obeys wires (and_also d e) → Obeys wires d
also_first wires d e o = record {
  cells = All-from_recursion (ObeysCell wires) d.cells (all_left (ObeysCell wires) d.cells e.cells (recursion_from_All (ObeysCell wires) (d.cells ++ e.cells) o.cells));
  links = All-from_recursion (ObeysLink wires) d.links (all_left (ObeysLink wires) d.links e.links (recursion_from_All (ObeysLink wires) (d.links ++ e.links) o.links));
}

pub also_second : (wires : Wires) (d e : Drawing) → Obeys wires (and_also d e) → Obeys wires e
also_second wires d e o = record {
  cells = All-from_recursion (ObeysCell wires) e.cells (all_right (ObeysCell wires) d.cells e.cells (recursion_from_All (ObeysCell wires) (d.cells ++ e.cells) o.cells));
  links = All-from_recursion (ObeysLink wires) e.links (all_right (ObeysLink wires) d.links e.links (recursion_from_All (ObeysLink wires) (d.links ++ e.links) o.links));
}

-- ---- whether a value is not 0

or-false : (b : Bool) → (b || false) ≡ b
or-false true = refl
or-false false = refl

-- a number of one bit is not 0 where that bit is set
one_bit_truth : (s : Bool) (w : ℕ) (x : ℤ) → w ≡ 1 → IsOf s w x → bit_of x 0 ≡ not (is_zero x)
one_bit_truth s w x e f =
    let g : IsOf s 1 x = subst (λ (v : ℕ). IsOf s v x) e f in
    let b : (pattern 1 x % 2 == 1) ≡ bit_of x 0 = same_Some (pattern 1 x % 2 == 1) (bit_of x 0) (slice_get-pattern 1 x 0 (omega arith)) in
    sym b ∙ sym (or-false (pattern 1 x % 2 == 1)) ∙ any-pattern s 1 x g

no_bit_truth : (s : Bool) (w : ℕ) (x : ℤ) → w ≡ 0 → IsOf s w x → false ≡ not (is_zero x)
no_bit_truth s w x e f = ap not (ap (λ n. n == 0) (sym (empty_pattern w x e)) ∙ pattern-is_zero s w x f)

truth_by : (wires : Wires) (n : ℕ) (s : Value) (x : ℤ) (t u : Bool) → (s.form.width == 0) ≡ t → (s.form.width == 1) ≡ u → IsIn s.form x → HasBits wires s.id s.form.width x
    → Obeys wires (cond t nothing (cond u nothing (record { wires = inner_wire (part_id (n + 1)) 1 ∷ []; cells = unary_cell kind.ReduceOr (part_id n) (as_form s s.form) 1 (one_bit (part_id (n + 1))) ∷ []; links = [] })))
    → bit_at (source_value wires) (spec_bits (cond t (const_spec 1 (pos 0)) (cond u (whole s) (one_bit (part_id (n + 1)))))) 0 ≡ Some (not (is_zero x))
truth_by wires n s x true u d e f b o = (reads_const wires 1 (pos 0)).at 0 (omega arith) ∙ ap Some (no_bit_truth s.form.signed s.form.width x (eqb-true s.form.width 0 d) f)
truth_by wires n s x false true d e f b o =
    let one : s.form.width ≡ 1 = eqb-true s.form.width 1 e in
    bit_at-whole wires s 0 (omega arith) ∙ b.at 0 (omega arith) ∙ ap Some (one_bit_truth s.form.signed s.form.width x one f)
truth_by wires n s x false false d e f b o =
    let cell = unary_cell kind.ReduceOr (part_id n) (as_form s s.form) 1 (one_bit (part_id (n + 1))) in
    bit_at-wire_part wires (part_id (n + 1)) 0 1 0 (omega arith)
    ∙ reduction_bit wires kind.ReduceOr (λ bits. list_any (λ b. b) bits) (part_id n) (as_form s s.form) 1 (part_id (n + 1)) 1 x or_reduction (reads_narrow wires s.id s.form s.form.width x (omega arith) b) (omega arith)
    (first_cell wires cell [] o.cells)
    ∙ ap Some (any-pattern s.form.signed s.form.width x f)

-- the bit that says whether a value is not 0
pub truth_is : (wires : Wires) (n : ℕ) (s : Value) (x : ℤ) → IsIn s.form x → HasBits wires s.id s.form.width x → Obeys wires (truth_drawing n s) → bit_at (source_value wires) (spec_bits (truth_spec n s)) 0 ≡ Some (not (is_zero x))
truth_is wires n s x f b o = truth_by wires n s x (s.form.width == 0) (s.form.width == 1) refl refl f b o

-- ---- choices

other_way : (z : Bool) (x y : ℤ) (k : ℕ) → cond (not z) (bit_of x k) (bit_of y k) ≡ bit_of (cond z y x) k
other_way true x y k = refl
other_way false x y k = refl

pub makes_mux : (s a b : ExprId) → MakesExpression (expr.Mux s a b)
makes_mux s a b wires c n y signals range accepted stride e made =
    let whole_s : List Bit = every (known_form c s.0) (c.needed s.0) in
    let holds : Bit → Type 0 = SignalHas wires c in
    follows_shown wires c n y (expr.Mux s a b) (λ k. whole_s ++ extended (known_form c a.0) (c.needed a.0) k ++ extended (known_form c b.0) (c.needed b.0) k) (cond (is_zero (c.num s.0)) (c.num b.0) (c.num a.0)) (λ some o k h needs.
    let left : List Bit = extended (known_form c a.0) (c.needed a.0) k in
    let right : List Bit = extended (known_form c b.0) (c.needed b.0) k in
    let first = all_left holds (whole_s ++ left) right needs in
    let w : ℕ = y.form.width in
    let high : List SigPart = at_width (c.value a.0).id (known_form c a.0) w in
    let low : List SigPart = at_width (c.value b.0).id (known_form c b.0) w in
    let cell : RtlCell = mux_cell (part_id (n + 2)) w low high (truth_spec n (c.value s.0)) (whole y) in
    let rest : Drawing = record { wires = []; cells = cell ∷ []; links = [] } in
    mux_cell_bit wires (part_id (n + 2)) w low high (truth_spec n (c.value s.0)) y.id w k (not (is_zero (c.num s.0))) (bit_of (c.num b.0) k) (bit_of (c.num a.0) k)
    (truth_is wires n (c.value s.0) (c.num s.0) made.0.integer (made_every wires c s made.0 (all_left holds whole_s left first)) (also_first wires (truth_drawing n (c.value s.0)) rest o))
    (made_extended wires c b w k made.1.1.0 h (all_right holds (whole_s ++ left) right needs))
    (made_extended wires c a w k made.1.0 h (all_right holds whole_s left first)) h
    (first_cell wires cell [] (also_second wires (truth_drawing n (c.value s.0)) rest o).cells)
    ∙ ap Some (other_way (is_zero (c.num s.0)) (c.num a.0) (c.num b.0) k))
