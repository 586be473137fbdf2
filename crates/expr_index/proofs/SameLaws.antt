-- Expressions of which all parts are the same are equal.
use Rattle.std.specs.Prelude.{◌≡◌, refl, ℕ, ◌==◌, ◌&&◌, Bool, true, false, List, [], ◌∷◌, slice_index_or}
use Rattle.std.proofs.Common.{sym, ◌∙◌, ap}
use Rattle.std.specs.Ordering.{int_eq}
use Rattle.std.proofs.lemmas.Bool.{eqb-true, eq-eqb, false≢true, and_parts, and_from}
use Rattle.std.proofs.lemmas.Bool.Decides.{Decides-int_eq}
use Rattle.lists.specs.Texts.{text_eq}
use Rattle.lists.proofs.TextLaws.{text_eq_true, text_eq_same}
use Rattle.amh_host.specs.declared.place.Place.{Place}
use Rattle.shape_rules.specs.Forms.{Form}
use Rattle.shape_rules.specs.declared.op.Op.{Op}
use Rattle.shape_rules.specs.declared.op.Op.TheVariants.{Add, Sub, Neg, Mul, Div, Mod, Abs, Not, And, Or, Xor, Eq, Ne, Lt, Le, Gt, Ge, Any, All, Parity, Shl, Shr}
use Rattle.design_ir.specs.declared.ids.ExprId.{ExprId}
use Rattle.design_ir.specs.declared.expr.Pattern.{Pattern}
use Rattle.design_ir.specs.declared.expr.Expr as expr
use Rattle.design_ir.specs.declared.expr.Expr.{Expr}
use Rattle.design_ir.specs.declared.expr.Expr.TheVariants.{Const, Unary, Binary, Mux, Slice, Cat, Part, Pick, Cast, Matches, Reset}
use Rattle.expr_index.specs.Same.{op_number, same_op, same_bool, same_form, same_place, same_ids, same_pattern, same_patterns, same}
use Rattle.expr_index.specs.Laws.{SameIsEqual}

-- ---- parts that are the same

-- the operator of a number
abbrev of_number : ℕ → Op
of_number n = slice_index_or (Add ∷ Sub ∷ Neg ∷ Mul ∷ Div ∷ Mod ∷ Abs ∷ Not ∷ And ∷ Or ∷ Xor ∷ Eq ∷ Ne ∷ Lt ∷ Le ∷ Gt ∷ Ge ∷ Any ∷ All ∷ Parity ∷ Shl ∷ Shr ∷ []) n Shr

number_back : (a : Op) → of_number (op_number a) ≡ a
number_back Add = refl
number_back Sub = refl
number_back Neg = refl
number_back Mul = refl
number_back Div = refl
number_back Mod = refl
number_back Abs = refl
number_back Not = refl
number_back And = refl
number_back Or = refl
number_back Xor = refl
number_back Eq = refl
number_back Ne = refl
number_back Lt = refl
number_back Le = refl
number_back Gt = refl
number_back Ge = refl
number_back Any = refl
number_back All = refl
number_back Parity = refl
number_back Shl = refl
number_back Shr = refl

op_is : (a b : Op) → same_op a b ≡ true → a ≡ b
op_is a b h = sym (number_back a) ∙ ap of_number (eqb-true (op_number a) (op_number b) h) ∙ number_back b

bool_is : (a b : Bool) → same_bool a b ≡ true → a ≡ b
bool_is true true h = refl
bool_is true false h = absurd (false≢true h)
bool_is false true h = absurd (false≢true h)
bool_is false false h = refl

form_is : (a b : Form) → same_form a b ≡ true → a ≡ b
form_is a b h =
    let p = and_parts (a.width == b.width) (same_bool a.signed b.signed) h in
    let w = eqb-true a.width b.width p.0 in
    let s = bool_is a.signed b.signed p.1 in
    ap (λ x. record { width = x; signed = a.signed }) w ∙ ap (λ x. record { width = b.width; signed = x }) s

place_is : (a b : Place) → same_place a b ≡ true → a ≡ b
place_is a b h =
    let p = and_parts (a.line == b.line) (a.col == b.col) h in
    ap (λ x. record { line = x; col = a.col }) (eqb-true a.line b.line p.0) ∙ ap (λ x. record { line = b.line; col = x }) (eqb-true a.col b.col p.1)

id_is : (a b : ExprId) → (a.0 == b.0) ≡ true → a ≡ b
id_is a b h = ap (λ n. record { 0 = n }) (eqb-true a.0 b.0 h)

ids_are : (a b : List ExprId) → same_ids a b ≡ true → a ≡ b
ids_are [] [] h = refl
ids_are [] (y ∷ ys) h = absurd (false≢true h)
ids_are (x ∷ xs) [] h = absurd (false≢true h)
ids_are (x ∷ xs) (y ∷ ys) h =
    let p = and_parts (x.0 == y.0) (same_ids xs ys) h in
    let first = id_is x y p.0 in
    let rest = ids_are xs ys p.1 in
    ap (λ e. e ∷ xs) first ∙ ap (λ es. y ∷ es) rest

pattern_is : (a b : Pattern) → same_pattern a b ≡ true → a ≡ b
pattern_is a b h =
    let p = and_parts (a.mask == b.mask) (a.bits == b.bits) h in
    ap (λ x. record { mask = x; bits = a.bits }) (eqb-true a.mask b.mask p.0) ∙ ap (λ x. record { mask = b.mask; bits = x }) (eqb-true a.bits b.bits p.1)

patterns_are : (a b : List Pattern) → same_patterns a b ≡ true → a ≡ b
patterns_are [] [] h = refl
patterns_are [] (y ∷ ys) h = absurd (false≢true h)
patterns_are (x ∷ xs) [] h = absurd (false≢true h)
patterns_are (x ∷ xs) (y ∷ ys) h =
    let p = and_parts (same_pattern x y) (same_patterns xs ys) h in
    let first = pattern_is x y p.0 in
    let rest = patterns_are xs ys p.1 in
    ap (λ e. e ∷ xs) first ∙ ap (λ es. y ∷ es) rest

-- ---- expressions that are the same

pub same_are : (a b : Expr) → same a b ≡ true → a ≡ b
same_are (Const n s) (Const m t) h =
    let p = and_parts (int_eq n m) (same_form s t) h in
    let i = (Decides-int_eq n m).0 p.0 in
    let f = form_is s t p.1 in
    cc
same_are (expr.TheVariants.Sig s) (expr.TheVariants.Sig t) h = ap (λ n. expr.TheVariants.Sig (record { 0 = n })) (eqb-true s.0 t.0 h)
same_are (Unary op a) (Unary po b) h =
    let p = and_parts (same_op op po) (a.0 == b.0) h in
    let i = op_is op po p.0 in
    let x = id_is a b p.1 in
    cc
same_are (Binary op a b) (Binary po c d) h =
    let p = and_parts (same_op op po) ((a.0 == c.0) && (b.0 == d.0)) h in
    let q = and_parts (a.0 == c.0) (b.0 == d.0) p.1 in
    let i = op_is op po p.0 in
    let x = id_is a c q.0 in
    let y = id_is b d q.1 in
    cc
same_are (Mux s a b) (Mux t c d) h =
    let p = and_parts (s.0 == t.0) ((a.0 == c.0) && (b.0 == d.0)) h in
    let q = and_parts (a.0 == c.0) (b.0 == d.0) p.1 in
    let i = id_is s t p.0 in
    let x = id_is a c q.0 in
    let y = id_is b d q.1 in
    cc
same_are (Slice a low width) (Slice b from size) h =
    let p = and_parts (a.0 == b.0) ((low == from) && (width == size)) h in
    let q = and_parts (low == from) (width == size) p.1 in
    let i = id_is a b p.0 in
    let x = eqb-true low from q.0 in
    let y = eqb-true width size q.1 in
    cc
same_are (Cat xs) (Cat ys) h = ap Cat (ids_are xs ys h)
same_are (Part a offset width stride) (Part b place size step) h =
    let p = and_parts (a.0 == b.0) ((offset.0 == place.0) && ((width == size) && (stride == step))) h in
    let q = and_parts (offset.0 == place.0) ((width == size) && (stride == step)) p.1 in
    let r = and_parts (width == size) (stride == step) q.1 in
    let i = id_is a b p.0 in
    let j = id_is offset place q.0 in
    let x = eqb-true width size r.0 in
    let y = eqb-true stride step r.1 in
    cc
same_are (Pick a xs) (Pick b ys) h =
    let p = and_parts (a.0 == b.0) (same_ids xs ys) h in
    let i = id_is a b p.0 in
    let x = ids_are xs ys p.1 in
    cc
same_are (Cast a signed) (Cast b minus) h =
    let p = and_parts (a.0 == b.0) (same_bool signed minus) h in
    let i = id_is a b p.0 in
    let x = bool_is signed minus p.1 in
    cc
same_are (Matches a ps) (Matches b qs) h =
    let p = and_parts (a.0 == b.0) (same_patterns ps qs) h in
    let i = id_is a b p.0 in
    let x = patterns_are ps qs p.1 in
    cc
same_are (Reset name place) (Reset other there) h =
    let p = and_parts (text_eq name other) (same_place place there) h in
    let i = text_eq_true name other p.0 in
    let x = place_is place there p.1 in
    cc
same_are a b h = absurd (false≢true h)

-- ---- an expression is the same as itself

here : (n : ℕ) → (n == n) ≡ true
here n = eq-eqb n n refl

bool_here : (a : Bool) → same_bool a a ≡ true
bool_here true = refl
bool_here false = refl

form_here : (a : Form) → same_form a a ≡ true
form_here a = and_from (a.width == a.width) (same_bool a.signed a.signed) (here a.width) (bool_here a.signed)

ids_here : (a : List ExprId) → same_ids a a ≡ true
ids_here [] = refl
ids_here (x ∷ xs) = and_from (x.0 == x.0) (same_ids xs xs) (here x.0) (ids_here xs)

patterns_here : (a : List Pattern) → same_patterns a a ≡ true
patterns_here [] = refl
patterns_here (x ∷ xs) = and_from (same_pattern x x) (same_patterns xs xs) (and_from (x.mask == x.mask) (x.bits == x.bits) (here x.mask) (here x.bits)) (patterns_here xs)

pub same_here : (a : Expr) → same a a ≡ true
same_here (Const n s) = and_from (int_eq n n) (same_form s s) ((Decides-int_eq n n).1 refl) (form_here s)
same_here (expr.TheVariants.Sig s) = here s.0
same_here (Unary op a) = and_from (same_op op op) (a.0 == a.0) (here (op_number op)) (here a.0)
same_here (Binary op a b) = and_from (same_op op op) ((a.0 == a.0) && (b.0 == b.0)) (here (op_number op)) (and_from (a.0 == a.0) (b.0 == b.0) (here a.0) (here b.0))
same_here (Mux s a b) = and_from (s.0 == s.0) ((a.0 == a.0) && (b.0 == b.0)) (here s.0) (and_from (a.0 == a.0) (b.0 == b.0) (here a.0) (here b.0))
same_here (Slice a low width) = and_from (a.0 == a.0) ((low == low) && (width == width)) (here a.0) (and_from (low == low) (width == width) (here low) (here width))
same_here (Cat xs) = ids_here xs
same_here (Part a offset width stride) =
    and_from (a.0 == a.0) ((offset.0 == offset.0) && ((width == width) && (stride == stride))) (here a.0)
    (and_from (offset.0 == offset.0) ((width == width) && (stride == stride)) (here offset.0)
    (and_from (width == width) (stride == stride) (here width) (here stride)))
same_here (Pick a xs) = and_from (a.0 == a.0) (same_ids xs xs) (here a.0) (ids_here xs)
same_here (Cast a signed) = and_from (a.0 == a.0) (same_bool signed signed) (here a.0) (bool_here signed)
same_here (Matches a ps) = and_from (a.0 == a.0) (same_patterns ps ps) (here a.0) (patterns_here ps)
same_here (Reset name place) =
    and_from (text_eq name name) (same_place place place) (text_eq_same name)
    (and_from (place.line == place.line) (place.col == place.col) (here place.line) (here place.col))

pub same_is_equal : SameIsEqual
same_is_equal a b = (same_are a b, λ e. ap (same a) (sym e) ∙ same_here a)
