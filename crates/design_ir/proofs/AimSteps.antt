-- The aims of an expression, by those of the expressions that it names; and the numbers of offsets and indices.
use Rattle.std.specs.Prelude.{◌≡◌, refl, ℕ, zero, suc, ◌+◌, ◌-◌, ◌^◌, ◌<◌, ◌≤◌, min, Bool, true, false, List, [], ◌∷◌, ◌++◌, map, length, take, drop, slice_get, ℤ, pos, negsuc, unsigned_abs, Option, Some, None, option_and_then}
use Rattle.std.specs.List.{AllByRecursion, flat_map, filter_map}
use Rattle.std.proofs.Common.{sym, ◌∙◌, ap, arith}
use Rattle.std.proofs.lemmas.Bool.{false≢true}
use Rattle.amh_bits.specs.Patterns.{IsOf}
use Rattle.shape_rules.specs.Forms.{Form}
use Rattle.design_ir.specs.declared.ids.ExprId.{ExprId}
use Rattle.design_ir.specs.declared.expr.Expr.{Expr}
use Rattle.design_ir.specs.declared.expr.Expr.TheVariants as expr
use Rattle.design_ir.specs.Named.{named}
use Rattle.design_ir.specs.Pools.{Pooled}
use Rattle.design_ir.specs.PoolRules.{IsPool}
use Rattle.design_ir.specs.Values.{form, num, value_step, signal_form, common_of_all}
use Rattle.design_ir.specs.Targets.{Numbers, own_number, numbers_of, numbers, chosen_items, Aim, raised, within, shifted, loose, aims_of_all, aim_step, aims}
use Rattle.design_ir.specs.Choices.{IsNumber}
use Rattle.design_ir.specs.Circuits.{FitsSignals}
use Rattle.design_ir.proofs.Congruence.{AreSame, same_below}
use Rattle.design_ir.proofs.Equations.{standing, answer_at, num_is}
use Rattle.design_ir.proofs.NumbersFit.{element, num_fits}

-- ---- by the aims of the expressions that it names

joined_same : (forms : ℕ → Form) (f g : ℕ → List Aim) (low : ℕ) (es : List ExprId) → AreSame f g es → aims_of_all forms f low es ≡ aims_of_all forms g low es
joined_same forms f g low [] h = refl
joined_same forms f g low (e ∷ es) h = λ i. map (raised low) (h.0 i) ++ joined_same forms f g (low + (forms e.0).width) es h.1 i

items_same : (f g : ℕ → List Aim) (es : List ExprId) → AreSame f g es → flat_map (λ (e : ExprId). f e.0) es ≡ flat_map (λ (e : ExprId). g e.0) es
items_same f g [] h = refl
items_same f g (e ∷ es) h = λ i. h.0 i ++ items_same f g es h.1 i

all_take : {A : Type 0} (P : A → Type 0) (n : ℕ) (xs : List A) → AllByRecursion P xs → AllByRecursion P (take n xs)
all_take P zero [] h = tt
all_take P zero (x ∷ xs) h = tt
all_take P (suc n) [] h = tt
all_take P (suc n) (x ∷ xs) h = (h.0, all_take P n xs h.1)

all_drop : {A : Type 0} (P : A → Type 0) (n : ℕ) (xs : List A) → AllByRecursion P xs → AllByRecursion P (drop n xs)
all_drop P zero [] h = h
all_drop P zero (x ∷ xs) h = h
all_drop P (suc n) [] h = tt
all_drop P (suc n) (x ∷ xs) h = all_drop P n xs h.1

-- what holds of all items holds of those that an index picks
pub all_chosen : (P : ExprId → Type 0) (n : Numbers) (es : List ExprId) → AllByRecursion P es → AllByRecursion P (chosen_items n es)
all_chosen P n es h = all_drop P (min n.least (length es - 1)) (take (n.greatest + 1) es) (all_take P (n.greatest + 1) es h)

pub step_same : (sig_form forms : ℕ → Form) (nums : ℕ → Numbers) (f g : ℕ → List Aim) (e : Expr) → AreSame f g (named e) → aim_step sig_form forms nums f e ≡ aim_step sig_form forms nums g e
step_same sig_form forms nums f g (expr.Sig s) h = refl
step_same sig_form forms nums f g (expr.Slice a low width) h = ap (filter_map (within low width)) h.0
step_same sig_form forms nums f g (expr.Cat es) h = joined_same forms f g 0 es h
step_same sig_form forms nums f g (expr.Part a offset width stride) h = ap (filter_map (shifted (nums offset.0) (forms a.0).width width stride)) h.0
step_same sig_form forms nums f g (expr.Pick index es) h =
    ap (filter_map (loose (common_of_all forms es).width)) (items_same f g (chosen_items (nums index.0) es) (all_chosen (λ (e : ExprId). f e.0 ≡ g e.0) (nums index.0) es h.1))
step_same sig_form forms nums f g (expr.Cast a signed) h = h.0
step_same sig_form forms nums f g (expr.Const n s) h = refl
step_same sig_form forms nums f g (expr.Unary o a) h = refl
step_same sig_form forms nums f g (expr.Binary o a b) h = refl
step_same sig_form forms nums f g (expr.Mux s a b) h = refl
step_same sig_form forms nums f g (expr.Matches a patterns) h = refl
step_same sig_form forms nums f g (expr.Reset domain place) h = refl

pub aims_is : (p : Pooled) (k : ℕ) (e : Expr) → IsPool p → slice_get p.exprs k ≡ Some e → aims p k ≡ aim_step (signal_form p.signals) (form p) (numbers p) (aims p) e
unfolding aims
aims_is p k e h is =
    let names = (standing p k e h is).names in
    answer_at [] (aim_step (signal_form p.signals) (form p) (numbers p)) p.exprs k e is (λ f g same. step_same (signal_form p.signals) (form p) (numbers p) f g e (same_below f g k (named e) same names))

-- ---- the numbers of an offset or an index

ordered : (width : ℕ) (o : Option ℕ) → (numbers_of width o).least ≤ (numbers_of width o).greatest
ordered width (Some n) = omega arith
ordered width None = omega arith

-- some number there is
pub least_is : (p : Pooled) (k : ℕ) → IsNumber p k (numbers p k).least
unfolding numbers
least_is p k = record { above = omega arith; below = ordered (form p k).width (option_and_then own_number (slice_get p.exprs k)) }

abs_below : (s : Bool) (w : ℕ) (z : ℤ) → s ≡ false → IsOf s w z → unsigned_abs z < 2 ^ w
abs_below false w (pos n) e h = h
abs_below false w (negsuc n) e h = absurd h
abs_below true w z e h = absurd (false≢true (sym e))

-- a constant has its own number
own : (forms : ℕ → Form) (env : List ℤ) (nums : ℕ → ℤ) (e : Expr) (n : ℕ) → own_number e ≡ Some n → unsigned_abs (value_step forms env nums e) ≡ n
own forms env nums (expr.Const z s) n e = cc
own forms env nums (expr.Sig s) n e = cc
own forms env nums (expr.Slice a low width) n e = cc
own forms env nums (expr.Cat es) n e = cc
own forms env nums (expr.Part a offset width stride) n e = cc
own forms env nums (expr.Pick index es) n e = cc
own forms env nums (expr.Cast a signed) n e = cc
own forms env nums (expr.Unary o a) n e = cc
own forms env nums (expr.Binary o a b) n e = cc
own forms env nums (expr.Mux s a b) n e = cc
own forms env nums (expr.Matches a patterns) n e = cc
own forms env nums (expr.Reset domain place) n e = cc

among : (width x : ℕ) (o : Option ℕ) → ((n : ℕ) → o ≡ Some n → x ≡ n) → x < 2 ^ width → ((numbers_of width o).least ≤ x) × (x ≤ (numbers_of width o).greatest)
among width x (Some n) own below = let e = own n refl in (omega (arith, e), omega (arith, e))
among width x None own below = (omega arith, omega (arith, below))

-- where the signals have numbers of their shapes, an offset's or index's number is one of these
pub number_is : (p : Pooled) (env : List ℤ) (e : ExprId) → IsPool p → FitsSignals p env → e.0 < length p.exprs → (form p e.0).signed ≡ false → IsNumber p e.0 (unsigned_abs (num p env e.0))
unfolding numbers
number_is p env e rules fit there plain =
    let x = element p.exprs e.0 there in
    let below : unsigned_abs (num p env e.0) < 2 ^ (form p e.0).width = abs_below (form p e.0).signed (form p e.0).width (num p env e.0) plain (num_fits p env rules fit e there) in
    let is : (n : ℕ) → option_and_then own_number (slice_get p.exprs e.0) ≡ Some n → unsigned_abs (num p env e.0) ≡ n =
    λ n h. ap unsigned_abs (num_is p env e.0 x.0 rules x.1) ∙ own (form p) env (num p env) x.0 n (ap (option_and_then own_number) (sym x.1) ∙ h) in
    let r = among (form p e.0).width (unsigned_abs (num p env e.0)) (option_and_then own_number (slice_get p.exprs e.0)) is below in
    record { above = r.0; below = r.1 }
