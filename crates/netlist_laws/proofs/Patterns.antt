-- Whether a value has one of several patterns.
use Rattle.std.proofs.Common.{◌≡◌, ℕ, ◌+◌, ◌<◌, ◌≤◌, ◌^◌, ◌==◌, max, Bool, false, ◌&&◌, ◌||◌, List, [], ◌∷◌, refl, sym, ◌∙◌, ap, arith, ℤ, pos, bit_and}
use Rattle.std.specs.Prelude.{Some, nat_lt}
use Rattle.std.specs.List.{list_any}
use Rattle.std.proofs.lemmas.Bool.{cond_both, ltb-true, ltb-false, ne_eqb, false≢true}
use Rattle.std.proofs.lemmas.Nat.{and_comm, and_le_l}
use Rattle.std.proofs.lemmas.List.Elements.{All-nil}
use Rattle.std.proofs.Math.Nat.{pow-le-pow_right}
use Rattle.amh_bits.specs.Integers.{int_and}
use Rattle.amh_bits.specs.Patterns.{pattern}
use Rattle.amh_bits.proofs.BitsOf.{bit_pattern}
use Rattle.amh_bits.proofs.Wraps.{pattern_below}
use Rattle.shape_rules.specs.Forms.{Form, unsigned}
use Rattle.shape_rules.specs.Operators.{truth, int_same}
use Rattle.shape_rules.specs.declared.cell.CellKind.TheVariants as kind
use Rattle.design_ir.specs.declared.ids.ExprId.{ExprId}
use Rattle.design_ir.specs.declared.expr.Pattern.{Pattern}
use Rattle.design_ir.specs.declared.expr.Expr.TheVariants as expr
use Rattle.design_ir.specs.Needed.{every}
use Rattle.design_ir.specs.Values.{matches}
use Rattle.rtlil_text.specs.declared.cell.RtlCell.{RtlCell}
use Rattle.rtlil_text.specs.History.{Wires}
use Rattle.netlist_laws.specs.Ids.{part_id}
use Rattle.netlist_laws.specs.Cells.{Operand, binary_cell}
use Rattle.netlist_laws.specs.Operands.{wire_part, const_spec, at_width, at_form, const_operand}
use Rattle.netlist_laws.specs.Operators.{Value, Drawing, inner_wire, whole, one_bit, linked}
use Rattle.netlist_laws.specs.Carried.{ObeysCell, Obeys}
use Rattle.netlist_laws.specs.Expressions.{and_also, matched, no_match, matched_within, matched_any}
use Rattle.netlist_laws.specs.Made.{known_form, MakesExpression}
use Rattle.netlist_laws.proofs.Reading.{HasBits, reads_const, reads_at_width}
use Rattle.netlist_laws.proofs.Whole.{signed_cell}
use Rattle.netlist_laws.proofs.Drawn.{first_cell, second_cell}
use Rattle.netlist_laws.proofs.Bitwise.{or_bitwise, and_bitwise, and_by_bits, bitwise_bit, bitwise_cell}
use Rattle.netlist_laws.proofs.Comparisons.{eq_whole, eq_result}
use Rattle.netlist_laws.proofs.Widths.{reads_narrow, has_same, has_equal, has_truth, linked_bits, bit_of-truth}
use Rattle.netlist_laws.proofs.NeededBits.{made_every}
use Rattle.netlist_laws.proofs.Linked.{follows_shown}
use Rattle.netlist_laws.proofs.Choices.{also_first, also_second}
use Rattle.netlist_laws.proofs.Items.{same_pos}

-- ---- one pattern

-- the bits of a number alone
has_pattern : (wires : Wires) (id : List ℕ) (w : ℕ) (x : ℤ) → HasBits wires id w x → HasBits wires id w (pos (pattern w x))
has_pattern wires id w x b = has_same wires id w x (pos (pattern w x)) (λ i h. ap (λ d. d == 1) (sym (bit_pattern x w i h))) b

masked_below : (w v mask : ℕ) (x : ℤ) → w ≤ v → bit_and (pattern w x) mask < 2 ^ v
masked_below w v mask x le = omega (arith, and_le_l (pattern w x) mask, pattern_below w x, pow-le-pow_right {n = 2} (omega arith) le)

matched_bits : (wires : Wires) (n : ℕ) (g : Form) (a : Value) (p : Pattern) (x : ℤ) → g.signed ≡ false → a.form.width ≤ g.width → HasBits wires a.id a.form.width x → p.bits < 2 ^ g.width
    → Obeys wires (matched n (unsigned g.width) a p) → HasBits wires (part_id (n + 3)) 1 (truth (matches p (pattern a.form.width x)))
matched_bits wires n g a p x plain le b small o =
    let w : ℕ = g.width in
    let u : Form = unsigned w in
    let m : ℕ = pattern a.form.width x in
    let left : Operand = record { spec = at_width a.id (unsigned a.form.width) w; form = u } in
    let mask = binary_cell kind.And (part_id n) left (const_operand u (pos p.mask)) w (wire_part (part_id (n + 1)) 0 w) in
    let test = binary_cell kind.Eq (part_id (n + 2)) (at_form (part_id (n + 1)) u u) (const_operand u (pos p.bits)) 1 (one_bit (part_id (n + 3))) in
    let under : HasBits wires (part_id (n + 1)) w (pos (bit_and m p.mask)) =
    bitwise_cell wires kind.And ◌&&◌ int_and (part_id n) left (const_operand u (pos p.mask)) w (part_id (n + 1)) w w (pos m) (pos p.mask) and_bitwise and_by_bits
    (reads_at_width wires a.id (unsigned a.form.width) w (pos m) (λ signed. absurd (false≢true signed)) (pattern_below a.form.width x) (has_pattern wires a.id a.form.width x b)) (reads_const wires w (pos p.mask)) (omega arith)
    (first_cell wires mask (test ∷ []) o.cells) in
    has_equal wires (part_id (n + 3)) 1 (truth (int_same (pos (bit_and m p.mask)) (pos p.bits))) (truth (matches p m))
    (ap truth (same_pos (bit_and m p.mask) p.bits ∙ ap (λ j. j == p.bits) (and_comm m p.mask)))
    (signed_cell wires kind.Eq (part_id (n + 2)) (at_form (part_id (n + 1)) u u) (const_operand u (pos p.bits)) 1 (part_id (n + 3)) 1 (pos (bit_and m p.mask)) (pos p.bits) (truth (int_same (pos (bit_and m p.mask)) (pos p.bits))) eq_whole (λ s. refl)
    (reads_narrow wires (part_id (n + 1)) u w (pos (bit_and m p.mask)) (omega arith) under) (reads_const wires w (pos p.bits)) (masked_below a.form.width w p.mask x le) small (eq_result (pos (bit_and m p.mask)) (pos p.bits))
    (second_cell wires mask test [] o.cells))

-- bits behind the value are never there
unmatched : (w v : ℕ) (p : Pattern) (x : ℤ) → w ≤ v → 2 ^ v ≤ p.bits → matches p (pattern w x) ≡ false
unmatched w v p x le large =
    ne_eqb (bit_and p.mask (pattern w x)) p.bits (λ e. omega (arith, masked_below w v p.mask x le, and_comm p.mask (pattern w x)))

within_bits : (wires : Wires) (n : ℕ) (w : ℕ) (a : Value) (p : Pattern) (x : ℤ) → a.form.width ≤ w → HasBits wires a.id a.form.width x → Obeys wires (matched_within n (unsigned w) a p) → HasBits wires (part_id (n + 3)) 1 (truth (matches p (pattern a.form.width x)))
within_bits wires n w a p x le b =
    cond_both (nat_lt p.bits (2 ^ w)) (matched n (unsigned w) a p) (no_match n) (λ (d : Drawing). Obeys wires d → HasBits wires (part_id (n + 3)) 1 (truth (matches p (pattern a.form.width x))))
    (λ e o. matched_bits wires n (unsigned w) a p x refl le b (ltb-true p.bits (2 ^ w) e) o)
    (λ e o.
    let out : Value = record { id = part_id (n + 3); form = unsigned 1 } in
    let link : Obeys wires (linked out (const_spec 1 (pos 0))) = record { cells = All-nil (ObeysCell wires); links = o.links } in
    has_equal wires (part_id (n + 3)) 1 (pos 0) (truth (matches p (pattern a.form.width x))) (ap truth (sym (unmatched a.form.width w p x le (ltb-false p.bits (2 ^ w) e))))
    (linked_bits wires out (const_spec 1 (pos 0)) 1 (pos 0) (reads_const wires 1 (pos 0)) (omega arith) link))

-- ---- several

any_bits : (wires : Wires) (n : ℕ) (a : Value) (ps : List Pattern) (into : Value) (x : ℤ) → into.form.width ≡ 1 → HasBits wires a.id a.form.width x → Obeys wires (matched_any n a ps into)
    → HasBits wires into.id into.form.width (truth (list_any (λ p. matches p (pattern a.form.width x)) ps))
any_bits wires n a [] into x one b o = linked_bits wires into (const_spec 1 (pos 0)) 1 (pos 0) (reads_const wires 1 (pos 0)) (omega arith) o
any_bits wires n a (p ∷ ps) into x one b o =
    let w : ℕ = max 1 a.form.width in
    let m : ℕ = pattern a.form.width x in
    let t : Bool = matches p m in
    let u : Bool = list_any (λ q. matches q m) ps in
    let left : Operand = at_form (part_id (n + 3)) (unsigned 1) (unsigned 1) in
    let right : Operand = at_form (part_id (n + 5)) (unsigned 1) (unsigned 1) in
    let cell : RtlCell = binary_cell kind.Or (part_id (n + 4)) left right 1 (whole into) in
    let first : Drawing = matched_within n (unsigned w) a p in
    let here : Drawing = record { wires = inner_wire (part_id (n + 5)) 1 ∷ []; cells = cell ∷ []; links = [] } in
    let out : Value = record { id = part_id (n + 5); form = unsigned 1 } in
    let rest : Drawing = matched_any (n + 6) a ps out in
    let behind = also_second wires first (and_also here rest) o in
    let one_has : HasBits wires (part_id (n + 3)) 1 (truth t) = within_bits wires n w a p x (omega arith) b (also_first wires first (and_also here rest) o) in
    let more_has : HasBits wires (part_id (n + 5)) 1 (truth u) = any_bits wires (n + 6) a ps out x refl b (also_second wires here rest behind) in
    let one_read = reads_narrow wires (part_id (n + 3)) (unsigned 1) 1 (truth t) (omega arith) one_has in
    let more_read = reads_narrow wires (part_id (n + 5)) (unsigned 1) 1 (truth u) (omega arith) more_has in
    has_truth wires into.id into.form.width (t || u) one
    (bitwise_bit wires kind.Or ◌||◌ (part_id (n + 4)) left right 1 into.id into.form.width 0 t u or_bitwise (one_read.at 0 (omega arith) ∙ ap Some (bit_of-truth t)) (more_read.at 0 (omega arith) ∙ ap Some (bit_of-truth u)) (omega arith)
    (first_cell wires cell [] (also_first wires here rest behind).cells))

pub makes_matches : (a : ExprId) (ps : List Pattern) → MakesExpression (expr.Matches a ps)
makes_matches a ps wires c n y signals range accepted stride e made =
    let x : ℤ = c.num a.0 in
    let same : y.form.width ≡ 1 = ap (λ (f : Form). f.width) e in
    follows_shown wires c n y (expr.Matches a ps) (λ k. every (known_form c a.0) (c.needed a.0)) (truth (list_any (λ p. matches p (pattern (known_form c a.0).width x)) ps)) (λ some o k h needs.
    (any_bits wires n (c.value a.0) ps y x same (made_every wires c a made.0 needs) o).at k h)
