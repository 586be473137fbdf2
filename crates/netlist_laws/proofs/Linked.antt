-- Expressions that are links: constants, signals, parts, joins and readings of others.
use Rattle.std.proofs.Common.{◌≡◌, ℕ, ◌+◌, ◌-◌, ◌*◌, ◌<◌, ◌≤◌, ◌^◌, ◌==◌, Bool, cond, List, [], ◌∷◌, ◌++◌, refl, sym, ◌∙◌, ap, subst, arith, ⊎_elim, ℤ, pos}
use Rattle.std.specs.Prelude.{Some}
use Rattle.std.specs.List.{AllByRecursion}
use Rattle.std.proofs.lemmas.Bool.{cond_below, cond_above, cases_lt, ne_eqb}
use Rattle.std.proofs.lemmas.List.Elements.{All-head}
use Rattle.std.proofs.Math.Nat.{mul_comm}
use Rattle.amh_bits.specs.Integers.{floor_quotient}
use Rattle.amh_bits.specs.Patterns.{pattern, nat_bit, int_bit, wrap}
use Rattle.amh_bits.proofs.BitsOf.{bit_pattern, int_bit_down, nat_bit_joined_low, nat_bit_joined_high}
use Rattle.amh_bits.proofs.Wraps.{pattern_below}
use Rattle.shape_rules.specs.Forms.{Form}
use Rattle.design_ir.specs.declared.ids.ExprId.{ExprId}
use Rattle.design_ir.specs.declared.ids.SigId.{SigId}
use Rattle.design_ir.specs.declared.expr.Expr.{Expr}
use Rattle.design_ir.specs.declared.expr.Expr.TheVariants as expr
use Rattle.amh_host.specs.declared.place.Place.{Place}
use Rattle.design_ir.specs.Circuits.{at}
use Rattle.design_ir.specs.Targets.{Bit}
use Rattle.design_ir.specs.Needed.{joined_bits}
use Rattle.design_ir.specs.Values as values
use Rattle.design_ir.specs.Values.{total_width, bits_from, signal_form}
use Rattle.rtlil_text.specs.declared.sig.SigPart.{SigPart}
use Rattle.rtlil_text.specs.Sources.{Net, spec_bits}
use Rattle.rtlil_text.specs.Cells.{bit_at}
use Rattle.rtlil_text.specs.Meaning.{source_value}
use Rattle.rtlil_text.specs.History.{Wires}
use Rattle.netlist_laws.specs.Operands.{wire_part, const_spec}
use Rattle.netlist_laws.specs.Operators.{Value, Drawing, nothing, whole, linked}
use Rattle.netlist_laws.specs.Carried.{ObeysLink, Obeys}
use Rattle.netlist_laws.specs.Expressions.{joined, shown, drawn}
use Rattle.netlist_laws.specs.Made.{Known, known_form, SignalHas, Follows, IsMade, MakesExpression}
use Rattle.netlist_laws.proofs.Places.{length-wire_part, slice_get-wire_part}
use Rattle.netlist_laws.proofs.Reading.{bit_of, reads_const, bit_at-wire_part, bit_at_left, bit_at_right}
use Rattle.netlist_laws.proofs.Widths.{bit_of-wrap}

-- an expression with bits is shown
pub follows_shown : (wires : Wires) (c : Known) (n : ℕ) (y : Value) (e : Expr) (bits : ℕ → List Bit) (x : ℤ) → (1 ≤ y.form.width → Obeys wires (shown c.signal c.value n y e) → Follows wires c bits y x)
    → Obeys wires (drawn c.signal c.value n y e) → Follows wires c bits y x
follows_shown wires c n y e bits x law o k h needs =
    let d : Drawing = shown c.signal c.value n y e in
    law (omega arith) (subst (Obeys wires) (ap (λ (t : Bool). cond t nothing d) (ne_eqb y.form.width 0 (λ none. omega arith))) o) k h needs

pub linked_bit : (wires : Wires) (y : Value) (spec : List SigPart) (k : ℕ) → Obeys wires (linked y spec) → k < y.form.width → wires y.id k ≡ bit_at (source_value wires) (spec_bits spec) k
linked_bit wires y spec k o h =
    All-head (ObeysLink wires) (record { left = whole y; right = spec }) [] o.links k y.id k (slice_get-wire_part y.id 0 y.form.width k h ∙ ap (λ j. Some (Net y.id j)) (let d : 0 + k ≡ k = omega arith in d))

pub bit_at-whole : (wires : Wires) (v : Value) (k : ℕ) → k < v.form.width → bit_at (source_value wires) (spec_bits (whole v)) k ≡ wires v.id k
bit_at-whole wires v k h = bit_at-wire_part wires v.id 0 v.form.width k h ∙ ap (wires v.id) (let d : 0 + k ≡ k = omega arith in d)

width_of : (f g : Form) → f ≡ g → f.width ≡ g.width
width_of f g e = ap (λ (f : Form). f.width) e

pub makes_const : (x : ℤ) (s : Form) → MakesExpression (expr.Const x s)
makes_const x s wires c n y signals range accepted stride e made =
    follows_shown wires c n y (expr.Const x s) (λ k. []) x (λ some o k h needs.
    let same : y.form.width ≡ s.width = width_of y.form s e in
    linked_bit wires y (const_spec s.width x) k o h ∙ (reads_const wires s.width x).at k (omega arith))

pub makes_reset : (domain : List ℕ) (place : Place) → MakesExpression (expr.Reset domain place)
makes_reset domain place wires c n y signals range accepted stride e made =
    follows_shown wires c n y (expr.Reset domain place) (λ k. []) (pos 0) (λ some o k h needs.
    let same : y.form.width ≡ 1 = ap (λ (f : Form). f.width) e in
    linked_bit wires y (const_spec 1 (pos 0)) k o h ∙ (reads_const wires 1 (pos 0)).at k (omega arith))

pub makes_sig : (s : SigId) → MakesExpression (expr.Sig s)
makes_sig s wires c n y signals range accepted stride e made =
    follows_shown wires c n y (expr.Sig s) (λ k. record { sig = s.0; index = k } ∷ []) (at c.env s.0) (λ some o k h needs.
    let same : y.form.width ≡ (c.signal s.0).form.width = ap (λ (f : Form). f.width) e ∙ sym (ap (λ (f : Form). f.width) (signals s.0)) in
    linked_bit wires y (whole (c.signal s.0)) k o h ∙ bit_at-whole wires (c.signal s.0) k (omega arith) ∙ needs.0)

pub makes_cast : (a : ExprId) (signed : Bool) → MakesExpression (expr.Cast a signed)
makes_cast a signed wires c n y signals range accepted stride e made =
    follows_shown wires c n y (expr.Cast a signed) (c.needed a.0) (wrap signed (known_form c a.0).width (c.num a.0)) (λ some o k h needs.
    let same : y.form.width ≡ (known_form c a.0).width = ap (λ (f : Form). f.width) e in
    linked_bit wires y (whole (c.value a.0)) k o h ∙ bit_at-whole wires (c.value a.0) k (omega arith) ∙ made.0.bits k (omega arith) needs
    ∙ ap Some (sym (bit_of-wrap signed (known_form c a.0).width (c.num a.0) k (omega arith))))

-- ---- parts

bit_of-part : (low width : ℕ) (x : ℤ) (k : ℕ) → k < width → bit_of (pos (bits_from low width x)) k ≡ bit_of x (low + k)
bit_of-part low width x k h = ap (λ b. b == 1) (bit_pattern (floor_quotient x (2 ^ low)) width k h ∙ int_bit_down x low k)

pub makes_slice : (a : ExprId) (low width : ℕ) → MakesExpression (expr.Slice a low width)
makes_slice a low width wires c n y signals range accepted stride e made =
    follows_shown wires c n y (expr.Slice a low width) (λ k. c.needed a.0 (low + k)) (pos (bits_from low width (c.num a.0))) (λ some o k h needs.
    let same : y.form.width ≡ width = ap (λ (f : Form). f.width) e in
    linked_bit wires y (wire_part (c.value a.0).id low width) k o h ∙ bit_at-wire_part wires (c.value a.0).id low width k (omega arith)
    ∙ made.0.bits (low + k) (omega (arith, range)) needs ∙ ap Some (sym (bit_of-part low width (c.num a.0) k (omega arith))))

-- ---- one above the other

above_is : (p q r : ℕ) → p + q * r ≡ r * q + p
above_is p q r = omega (arith, mul_comm q r)

joined_low : (w v : ℕ) (x : ℤ) (r k : ℕ) → k < w → nat_bit (pattern w x + 2 ^ w * r) k ≡ int_bit x k
joined_low w v x r k h =
    ap (λ n. nat_bit n k) (above_is (pattern w x) (2 ^ w) r)
    ∙ nat_bit_joined_low (record { width = w; bits = pattern w x }) (record { width = v; bits = r }) k (pattern_below w x) h
    ∙ bit_pattern x w k h

joined_high : (w v : ℕ) (x : ℤ) (r k : ℕ) → nat_bit (pattern w x + 2 ^ w * r) (w + k) ≡ nat_bit r k
joined_high w v x r k =
    ap (λ n. nat_bit n (w + k)) (above_is (pattern w x) (2 ^ w) r)
    ∙ nat_bit_joined_high (record { width = w; bits = pattern w x }) (record { width = v; bits = r }) k (pattern_below w x)

joined_bit : (wires : Wires) (c : Known) (es : List ExprId) (k : ℕ) → AllByRecursion (IsMade wires c) es → k < total_width (known_form c) es → AllByRecursion (SignalHas wires c) (joined_bits (known_form c) c.needed es k)
    → bit_at (source_value wires) (spec_bits (joined c.value es)) k ≡ Some (nat_bit (values.joined (known_form c) c.num es) k == 1)
joined_bit wires c [] k made h needs = absurd (omega arith)
joined_bit wires c (e ∷ es) k made h needs =
    let w : ℕ = (known_form c e.0).width in
    let rest : ℕ = values.joined (known_form c) c.num es in
    let more : List Bit = joined_bits (known_form c) c.needed es (k - w) in
    ⊎_elim
    (λ (low : k < w).
    bit_at_left wires (joined c.value es) (whole (c.value e.0)) k (rw (length-wire_part (c.value e.0).id 0 w) low)
    ∙ bit_at-whole wires (c.value e.0) k low
    ∙ made.0.bits k low (rw (← cond_below k w (c.needed e.0 k) more low) at needs)
    ∙ ap (λ b. Some (b == 1)) (sym (joined_low w (total_width (known_form c) es) (c.num e.0) rest k low)))
    (λ (le : w ≤ k).
    let d : w + (k - w) ≡ k = omega arith in
    ap (bit_at (source_value wires) (spec_bits (joined c.value es ++ whole (c.value e.0)))) (sym d)
    ∙ bit_at_right wires (joined c.value es) (whole (c.value e.0)) w (k - w) (length-wire_part (c.value e.0).id 0 w)
    ∙ joined_bit wires c es (k - w) made.1 (omega arith) (rw (← cond_above k w (c.needed e.0 k) more more le refl) at needs)
    ∙ ap (λ b. Some (b == 1)) (sym (joined_high w (total_width (known_form c) es) (c.num e.0) rest (k - w)))
    ∙ ap (λ j. Some (nat_bit (pattern w (c.num e.0) + 2 ^ w * rest) j == 1)) d)
    (cases_lt k w)

pub makes_cat : (es : List ExprId) → MakesExpression (expr.Cat es)
makes_cat es wires c n y signals range accepted stride e made =
    follows_shown wires c n y (expr.Cat es) (joined_bits (known_form c) c.needed es) (pos (values.joined (known_form c) c.num es)) (λ some o k h needs.
    let same : y.form.width ≡ total_width (known_form c) es = ap (λ (f : Form). f.width) e in
    linked_bit wires y (joined c.value es) k o h ∙ joined_bit wires c es k made (omega arith) needs)
