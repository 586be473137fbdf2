-- Expressions that are operators.
use Rattle.std.proofs.Common.{◌≡◌, ℕ, ◌<◌, ◌≤◌, Bool, true, false, cond, ◌&&◌, ◌||◌, List, [], ◌++◌, refl, ◌∙◌, ap, subst, arith, ⊎_elim, ℤ, pos}
use Rattle.std.specs.Prelude.{Some, None}
use Rattle.std.specs.List.{AllByRecursion}
use Rattle.std.proofs.lemmas.Bool.{cond_below, cases_lt}
use Rattle.amh_bits.specs.Integers.{int_and, int_or, int_xor}
use Rattle.amh_bits.proofs.InShape.{of_zero}
use Rattle.shape_rules.specs.Forms.{Form, IsForm, unsigned}
use Rattle.shape_rules.specs.Operators.{work_form, integer_of, turned}
use Rattle.shape_rules.specs.Stops.{IsTaken, is_shift, is_bad_operand, widest}
use Rattle.shape_rules.specs.declared.op.Op.{Op}
use Rattle.shape_rules.specs.declared.op.Op.TheVariants as op
use Rattle.shape_rules.specs.declared.cell.CellKind.{CellKind}
use Rattle.shape_rules.specs.declared.cell.CellKind.TheVariants as kind
use Rattle.design_ir.specs.declared.ids.ExprId.{ExprId}
use Rattle.design_ir.specs.declared.expr.Expr.TheVariants as expr
use Rattle.design_ir.specs.declared.refusal.PoolStop.TheVariants.{Width}
use Rattle.design_ir.specs.PoolRules.{shape_stop}
use Rattle.design_ir.specs.Targets.{Bit}
use Rattle.design_ir.specs.Needed.{extended, every, is_bitwise}
use Rattle.rtlil_text.specs.Sources.{spec_bits}
use Rattle.rtlil_text.specs.Cells.{bit_at, xor}
use Rattle.rtlil_text.specs.Meaning.{source_value}
use Rattle.rtlil_text.specs.History.{Wires}
use Rattle.netlist_laws.specs.Ids.{part_id}
use Rattle.netlist_laws.specs.Cells.{unary_cell, binary_cell}
use Rattle.netlist_laws.specs.Operands.{at_width}
use Rattle.netlist_laws.specs.Operators.{Value, as_form, whole, alike}
use Rattle.netlist_laws.specs.Carried.{Carries, Obeys}
use Rattle.netlist_laws.specs.Made.{Known, known_form, SignalHas, IsMade, MakesExpression}
use Rattle.netlist_laws.proofs.Reading.{bit_of, has_carried, carries_bits}
use Rattle.netlist_laws.proofs.Drawn.{operator_drawing-some, first_cell}
use Rattle.netlist_laws.proofs.Bitwise.{IsBitwise, IsByBits, bitwise_bit, not_bit, and_bitwise, or_bitwise, xor_bitwise, and_by_bits, or_by_bits, xor_by_bits}
use Rattle.netlist_laws.proofs.Widths.{common_width_left}
use Rattle.netlist_laws.proofs.BitOperators.{result_within, bit_of-turned}
use Rattle.netlist_laws.proofs.MadeOperators.{makes_operator}
use Rattle.netlist_laws.proofs.NeededBits.{all_left, all_right, made_every, made_extended, bit_at-low}
use Rattle.netlist_laws.proofs.Linked.{follows_shown}

-- ---- what a pool accepts, an operator takes

accepted_is : (bad : Bool) (w : ℕ) → shape_stop bad w ≡ None → (bad ≡ false) × (w ≤ 128)
accepted_is true w e = cc
accepted_is false w e =
    (refl, ⊎_elim (λ (lt : 128 < w). let none : Some Width ≡ None = cond_below 128 w (Some Width) None lt ∙ e in cc) (λ (ge : w ≤ 128). ge) (cases_lt 128 w))

taken_of : (o : Op) (a b : Form) → is_bad_operand o b ≡ false → widest o a b ≤ 128 → IsTaken o a b
taken_of o a b ok le = record { operand = ok; result = omega arith; work = omega arith }

pub taken : (o : Op) (a b : Form) → shape_stop (is_bad_operand o b) (widest o a b) ≡ None → IsTaken o a b
taken o a b e = let h = accepted_is (is_bad_operand o b) (widest o a b) e in taken_of o a b h.0 h.1

and-false : (t : Bool) → (t && false) ≡ false
and-false true = refl
and-false false = refl

pub unary_taken : (o : Op) (a : Form) → shape_stop false (widest o a (unsigned 0)) ≡ None → IsTaken o a (unsigned 0)
unary_taken o a e = taken_of o a (unsigned 0) (and-false (is_shift o)) (accepted_is false (widest o a (unsigned 0)) e).1

-- ---- operators that need all bits

binary_whole : (o : Op) (a b : ExprId) → is_bitwise o ≡ false → MakesExpression (expr.Binary o a b)
binary_whole o a b other wires c n y signals range accepted stride e made =
    let x : ℤ = c.num a.0 in
    let z : ℤ = c.num b.0 in
    let left : List Bit = every (known_form c a.0) (c.needed a.0) in
    let right : List Bit = every (known_form c b.0) (c.needed b.0) in
    follows_shown wires c n y (expr.Binary o a b) (λ k. cond (is_bitwise o) (extended (known_form c a.0) (c.needed a.0) k ++ extended (known_form c b.0) (c.needed b.0) k) (left ++ right)) (integer_of o (known_form c a.0) x (known_form c b.0) z)
    (λ some obeys k h needs.
    let all = subst (λ (t : Bool). AllByRecursion (SignalHas wires c) (cond t (extended (known_form c a.0) (c.needed a.0) k ++ extended (known_form c b.0) (c.needed b.0) k) (left ++ right))) other needs in
    let p = carries_bits wires (c.value a.0) x (made_every wires c a made.0 (all_left (SignalHas wires c) left right all)) in
    let q = carries_bits wires (c.value b.0) z (made_every wires c b made.1.0 (all_right (SignalHas wires c) left right all)) in
    let law = makes_operator o wires n (c.value a.0) (c.value b.0) y x z made.0.shape made.1.0.shape (taken o (known_form c a.0) (known_form c b.0) accepted) e made.0.integer made.1.0.integer p q obeys in
    (has_carried wires y (integer_of o (known_form c a.0) x (known_form c b.0) z) law).at k h)

unary_whole : (o : Op) (a : ExprId) → is_bitwise o ≡ false → MakesExpression (expr.Unary o a)
unary_whole o a other wires c n y signals range accepted stride e made =
    let x : ℤ = c.num a.0 in
    let all_bits : List Bit = every (known_form c a.0) (c.needed a.0) in
    let none : Value = record { id = []; form = unsigned 0 } in
    follows_shown wires c n y (expr.Unary o a) (λ k. cond (is_bitwise o) (c.needed a.0 k) all_bits) (integer_of o (known_form c a.0) x (unsigned 0) (pos 0))
    (λ some obeys k h needs.
    let all = subst (λ (t : Bool). AllByRecursion (SignalHas wires c) (cond t (c.needed a.0 k) all_bits)) other needs in
    let p = carries_bits wires (c.value a.0) x (made_every wires c a made.0 all) in
    let q : Carries wires none (pos 0) = λ i l. absurd (omega arith) in
    let shape : IsForm 0 false = omega arith in
    let law = makes_operator o wires n (c.value a.0) none y x (pos 0) made.0.shape shape (unary_taken o (known_form c a.0) accepted) e made.0.integer (of_zero false 0) p q obeys in
    (has_carried wires y (integer_of o (known_form c a.0) x (unsigned 0) (pos 0)) law).at k h)

-- ---- operators that go bit by bit

alike_bit : (wires : Wires) (k : CellKind) (f : Bool → Bool → Bool) (n : ℕ) (g : Form) (a b y : Value) (i : ℕ) (p q : Bool) → IsBitwise k f → bit_at (source_value wires) (spec_bits (at_width a.id a.form g.width)) i ≡ Some p
    → bit_at (source_value wires) (spec_bits (at_width b.id b.form g.width)) i ≡ Some q → i < y.form.width → Obeys wires (alike k n g a b y) → wires y.id i ≡ Some (f p q)
alike_bit wires k f n g a b y i p q kind d e h o =
    bitwise_bit wires k f (part_id n) (as_form a g) (as_form b g) y.form.width y.id y.form.width i p q kind d e h
    (first_cell wires (binary_cell k (part_id n) (as_form a g) (as_form b g) y.form.width (whole y)) [] o.cells)

alike_follows : (wires : Wires) (c : Known) (k : CellKind) (f : Bool → Bool → Bool) (of : ℤ → ℤ → ℤ) (n : ℕ) (g : Form) (a b : ExprId) (y : Value) (i : ℕ) → IsBitwise k f → IsByBits f of → IsMade wires c a → IsMade wires c b
    → y.form.width ≤ g.width → Obeys wires (alike k n g (c.value a.0) (c.value b.0) y) → i < y.form.width
    → AllByRecursion (SignalHas wires c) (extended (known_form c a.0) (c.needed a.0) i ++ extended (known_form c b.0) (c.needed b.0) i) → wires y.id i ≡ Some (bit_of (of (c.num a.0) (c.num b.0)) i)
alike_follows wires c k f of n g a b y i kind law p q le o h needs =
    let left : List Bit = extended (known_form c a.0) (c.needed a.0) i in
    let right : List Bit = extended (known_form c b.0) (c.needed b.0) i in
    alike_bit wires k f n g (c.value a.0) (c.value b.0) y i (bit_of (c.num a.0) i) (bit_of (c.num b.0) i) kind
    (made_extended wires c a g.width i p (omega arith) (all_left (SignalHas wires c) left right needs))
    (made_extended wires c b g.width i q (omega arith) (all_right (SignalHas wires c) left right needs)) h o
    ∙ ap Some (law (c.num a.0) (c.num b.0) i)

and_bits : (a b : ExprId) → MakesExpression (expr.Binary op.And a b)
and_bits a b wires c n y signals range accepted stride e made =
    follows_shown wires c n y (expr.Binary op.And a b) (λ k. extended (known_form c a.0) (c.needed a.0) k ++ extended (known_form c b.0) (c.needed b.0) k) (int_and (c.num a.0) (c.num b.0)) (λ some obeys k h needs.
    let g : Form = work_form op.And (known_form c a.0) (known_form c b.0) in
    alike_follows wires c kind.And ◌&&◌ int_and n g a b y k and_bitwise and_by_bits made.0 made.1.0 (result_within op.And (known_form c a.0) (known_form c b.0) y.form e (common_width_left _ _ _ _))
    (subst (Obeys wires) (operator_drawing-some op.And n (c.value a.0) (c.value b.0) y some) obeys) h needs)

or_bits : (a b : ExprId) → MakesExpression (expr.Binary op.Or a b)
or_bits a b wires c n y signals range accepted stride e made =
    follows_shown wires c n y (expr.Binary op.Or a b) (λ k. extended (known_form c a.0) (c.needed a.0) k ++ extended (known_form c b.0) (c.needed b.0) k) (int_or (c.num a.0) (c.num b.0)) (λ some obeys k h needs.
    let g : Form = work_form op.Or (known_form c a.0) (known_form c b.0) in
    alike_follows wires c kind.Or ◌||◌ int_or n g a b y k or_bitwise or_by_bits made.0 made.1.0 (result_within op.Or (known_form c a.0) (known_form c b.0) y.form e (common_width_left _ _ _ _))
    (subst (Obeys wires) (operator_drawing-some op.Or n (c.value a.0) (c.value b.0) y some) obeys) h needs)

xor_bits : (a b : ExprId) → MakesExpression (expr.Binary op.Xor a b)
xor_bits a b wires c n y signals range accepted stride e made =
    follows_shown wires c n y (expr.Binary op.Xor a b) (λ k. extended (known_form c a.0) (c.needed a.0) k ++ extended (known_form c b.0) (c.needed b.0) k) (int_xor (c.num a.0) (c.num b.0)) (λ some obeys k h needs.
    let g : Form = work_form op.Xor (known_form c a.0) (known_form c b.0) in
    alike_follows wires c kind.Xor xor int_xor n g a b y k xor_bitwise xor_by_bits made.0 made.1.0 (result_within op.Xor (known_form c a.0) (known_form c b.0) y.form e (common_width_left _ _ _ _))
    (subst (Obeys wires) (operator_drawing-some op.Xor n (c.value a.0) (c.value b.0) y some) obeys) h needs)

not_bits : (a : ExprId) → MakesExpression (expr.Unary op.Not a)
not_bits a wires c n y signals range accepted stride e made =
    follows_shown wires c n y (expr.Unary op.Not a) (c.needed a.0) (turned (known_form c a.0) (c.num a.0)) (λ some obeys k h needs.
    let f : Form = known_form c a.0 in
    let g : Form = work_form op.Not f (unsigned 0) in
    let none : Value = record { id = []; form = unsigned 0 } in
    let v : Value = c.value a.0 in
    let same : y.form.width ≡ f.width = ap (λ (f : Form). f.width) e in
    let wide : f.width ≤ g.width = common_width_left _ _ _ _ in
    let o = subst (Obeys wires) (operator_drawing-some op.Not n v none y some) obeys in
    not_bit wires (part_id n) (as_form v g) y.form.width y.id y.form.width k (bit_of (c.num a.0) k)
    (bit_at-low wires v.id f.signed f.width g.width k (omega arith) (omega arith) ∙ made.0.bits k (omega arith) needs) h
    (first_cell wires (unary_cell kind.Not (part_id n) (as_form v g) y.form.width (whole y)) [] o.cells)
    ∙ ap Some (bit_of-turned f (c.num a.0) k made.0.integer (omega arith)))

-- ---- all operators

-- those of two operands have none alone, and the other way round
two_is_not_one : {A : Type 0} → ◌≡◌ {A = ℕ} 2 1 → A
two_is_not_one e = absurd (omega arith)

one_is_not_two : {A : Type 0} → ◌≡◌ {A = ℕ} 1 2 → A
one_is_not_two e = absurd (omega arith)

pub makes_unary : (o : Op) (a : ExprId) → MakesExpression (expr.Unary o a)
makes_unary op.Not a = not_bits a
makes_unary op.And a = λ wires c n y signals range. two_is_not_one range
makes_unary op.Or a = λ wires c n y signals range. two_is_not_one range
makes_unary op.Xor a = λ wires c n y signals range. two_is_not_one range
makes_unary o a = unary_whole o a refl

pub makes_binary : (o : Op) (a b : ExprId) → MakesExpression (expr.Binary o a b)
makes_binary op.Not a b = λ wires c n y signals range. one_is_not_two range
makes_binary op.And a b = and_bits a b
makes_binary op.Or a b = or_bits a b
makes_binary op.Xor a b = xor_bits a b
makes_binary o a b = binary_whole o a b refl
