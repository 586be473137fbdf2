-- Each place of a target is a bit of a signal, and there are no more of them than the target has bits.
use Rattle.std.specs.Prelude.{◌≡◌, refl, ℕ, zero, suc, ◌+◌, ◌-◌, ◌*◌, ◌<◌, ◌≤◌, min, Bool, true, false, List, [], ◌∷◌, ◌++◌, map, length, take, drop, replicate, slice_index_or, ℤ, unsigned_abs, Option, Some, None}
use Rattle.std.specs.List.{AllByRecursion, flat_map, range_with_len}
use Rattle.std.proofs.Common.{ap, arith}
use Rattle.std.proofs.lemmas.List.{length-take}
use Rattle.std.proofs.lemmas.List.FromFn.{length-range_with_len}
use Rattle.std.proofs.Math.ListN.{length-append}
use Rattle.amh_bits.specs.Patterns.{IsOf}
use Rattle.shape_rules.specs.Forms.{Form, IsForm}
use Rattle.design_ir.specs.declared.ids.ExprId.{ExprId}
use Rattle.design_ir.specs.declared.signal.Sig.{Sig}
use Rattle.design_ir.specs.declared.expr.Expr as expr
use Rattle.design_ir.specs.declared.expr.Expr.{Expr}
use Rattle.design_ir.specs.declared.expr.Expr.TheVariants.{Const, Unary, Binary, Mux, Slice, Cat, Part, Pick, Cast, Matches, Reset}
use Rattle.design_ir.specs.Named.{named, AllBelow}
use Rattle.design_ir.specs.Pools.{Pooled}
use Rattle.design_ir.specs.PoolRules.{IsPool, HasInit}
use Rattle.design_ir.specs.Values.{form, form_step, num, signal_form, total_width, picked, common_of_all}
use Rattle.design_ir.specs.Targets.{Bit, bits_of, padded, target_step, target_bits}
use Rattle.design_ir.specs.Circuits.{at}
use Rattle.design_ir.proofs.Equations.{standing, form_is}
use Rattle.design_ir.proofs.NumbersFit.{FitsSignals, element, has_shape}
use Rattle.design_ir.proofs.Related.{related}
use Rattle.design_ir.proofs.TargetLaws.{target_is}
use Rattle.sim_plans.specs.Reading.{IsInside}

-- ---- lists

pub all_append : {A : Type 0} (P : A → Type 0) (xs ys : List A) → AllByRecursion P xs → AllByRecursion P ys → AllByRecursion P (xs ++ ys)
all_append P [] ys h k = k
all_append P (x ∷ xs) ys h k = (h.0, all_append P xs ys h.1 k)

all_take : {A : Type 0} (P : A → Type 0) (n : ℕ) (xs : List A) → AllByRecursion P xs → AllByRecursion P (take n xs)
all_take P zero [] h = tt
all_take P zero (x ∷ xs) h = tt
all_take P (suc n) [] h = tt
all_take P (suc n) (x ∷ xs) h = (h.0, all_take P n xs h.1)

all_drop : {A : Type 0} (P : A → Type 0) (n : ℕ) (xs : List A) → AllByRecursion P xs → AllByRecursion P (drop n xs)
all_drop P zero [] h = h
all_drop P zero (x ∷ xs) h = h
all_drop P (suc n) [] h = tt
all_drop P (suc n) (x ∷ xs) h = all_drop P n xs h.1

-- ---- each place is a bit of a signal

there_by_width : (sigs : List Sig) (s i : ℕ) → i < (signal_form sigs s).width → s < length sigs
there_by_width [] s i h = absurd (omega (arith, h))
there_by_width (x ∷ sigs) zero i h = omega arith
there_by_width (x ∷ sigs) (suc s) i h = omega (arith, there_by_width sigs s i h)

module _ (sigs : List Sig) where
  abbrev AreInside : List (Option Bit) → Type 0
  AreInside places = AllByRecursion (IsInside sigs) places

  none_inside : (n : ℕ) → AreInside (replicate n None)
  none_inside zero = tt
  none_inside (suc n) = (tt, none_inside n)

  padded_inside : (n : ℕ) (places : List (Option Bit)) → AreInside places → AreInside (padded n places)
  padded_inside n places h =
      all_take (IsInside sigs) n (places ++ replicate n None) (all_append (IsInside sigs) places (replicate n None) h (none_inside n))

  bits_inside : (s a n : ℕ) → a + n ≤ (signal_form sigs s).width → AreInside (map (λ b. Some b) (map (λ i. record { sig = s; index = i }) (range_with_len a n)))
  bits_inside s a zero h = tt
  bits_inside s a (suc n) h = ((there_by_width sigs s a (omega (arith, h)), omega (arith, h)), bits_inside s (a + 1) n (omega (arith, h)))

  module _ (f : ℕ → List (Option Bit)) (h : (k : ℕ) → AreInside (f k)) where
    all_inside : (es : List ExprId) → AreInside (flat_map (λ (e : ExprId). f e.0) es)
    all_inside [] = tt
    all_inside (e ∷ es) = all_append (IsInside sigs) (f e.0) (flat_map (λ (e : ExprId). f e.0) es) (h e.0) (all_inside es)

    item_inside : (es : List ExprId) (k : ℕ) → AreInside (slice_index_or (map (λ (e : ExprId). f e.0) es) k [])
    item_inside [] k = tt
    item_inside (e ∷ es) zero = h e.0
    item_inside (e ∷ es) (suc k) = item_inside es k

    step_inside : (forms : ℕ → Form) (nums : ℕ → ℤ) (e : Expr) → AreInside (target_step (signal_form sigs) forms nums f e)
    step_inside forms nums (Const n s) = tt
    step_inside forms nums (expr.TheVariants.Sig s) = bits_inside s.0 0 (signal_form sigs s.0).width (omega arith)
    step_inside forms nums (Unary op a) = tt
    step_inside forms nums (Binary op a b) = tt
    step_inside forms nums (Mux s a b) = tt
    step_inside forms nums (Slice a low width) = all_take (IsInside sigs) width (drop low (f a.0)) (all_drop (IsInside sigs) low (f a.0) (h a.0))
    step_inside forms nums (Cat es) = all_inside es
    step_inside forms nums (Part a offset width stride) =
        padded_inside width (drop (unsigned_abs (nums offset.0) * stride) (f a.0)) (all_drop (IsInside sigs) (unsigned_abs (nums offset.0) * stride) (f a.0) (h a.0))
    step_inside forms nums (Pick index es) =
        padded_inside (common_of_all forms es).width (picked [] (map (λ (e : ExprId). f e.0) es) (unsigned_abs (nums index.0))) (item_inside es (min (unsigned_abs (nums index.0)) (length (map (λ (e : ExprId). f e.0) es) - 1)))
    step_inside forms nums (Cast a signed) = h a.0
    step_inside forms nums (Matches a patterns) = tt
    step_inside forms nums (Reset domain place) = tt

pub target_inside : (p : Pooled) (env : List ℤ) (k : ℕ) → AllByRecursion (IsInside p.signals) (target_bits p env k)
unfolding target_bits
target_inside p env k =
    let step : (ℕ → List (Option Bit)) → Expr → List (Option Bit) = target_step (signal_form p.signals) (form p) (num p env) in
    related [] [] step step (λ xs ys. AllByRecursion (IsInside p.signals) xs) tt (λ f g e h. step_inside p.signals f h (form p) (num p env) e) p.exprs k

-- ---- no more places than bits

mapped_length : {A B : Type 0} (f : A → B) (xs : List A) → length (map f xs) ≡ length xs
mapped_length f [] = refl
mapped_length f (x ∷ xs) = ap suc (mapped_length f xs)

module _ (p : Pooled) (env : List ℤ) (rules : IsPool p) where
  abbrev IsShort : ExprId → Type 0
  IsShort e = length (target_bits p env e.0) ≤ (form p e.0).width

  joined_short : (k : ℕ) (es : List ExprId) → ((e : ExprId) → e.0 < k → IsShort e) → AllBelow k es → length (flat_map (λ (e : ExprId). target_bits p env e.0) es) ≤ total_width (form p) es
  joined_short k [] each h = omega arith
  joined_short k (e ∷ es) each h =
      omega (arith, length-append (target_bits p env e.0) (flat_map (λ (x : ExprId). target_bits p env x.0) es), each e h.0, joined_short k es each h.1)

  step_short : (k : ℕ) (e : Expr) → AllBelow k (named e) → ((x : ExprId) → x.0 < k → IsShort x) → length (target_step (signal_form p.signals) (form p) (num p env) (target_bits p env) e) ≤ (form_step p.signals (form p) e).width
  step_short k (Const n s) h each = omega arith
  step_short k (expr.TheVariants.Sig s) h each =
      omega (arith, mapped_length (λ b. Some b) (bits_of s.0 (signal_form p.signals s.0).width), mapped_length {B = Bit} (λ i. record { sig = s.0; index = i }) (range_with_len 0 (signal_form p.signals s.0).width), length-range_with_len 0 (signal_form p.signals s.0).width)
  step_short k (Unary op a) h each = omega arith
  step_short k (Binary op a b) h each = omega arith
  step_short k (Mux s a b) h each = omega arith
  step_short k (Slice a low width) h each = omega (arith, length-take width (drop low (target_bits p env a.0)))
  step_short k (Cat es) h each = joined_short k es each h
  step_short k (Part a offset width stride) h each =
      let places : List (Option Bit) = drop (unsigned_abs (num p env offset.0) * stride) (target_bits p env a.0) in
      omega (arith, length-take width (places ++ replicate width None))
  step_short k (Pick index es) h each =
      let places : List (Option Bit) = picked [] (map (λ (e : ExprId). target_bits p env e.0) es) (unsigned_abs (num p env index.0)) in
      let w : ℕ = (common_of_all (form p) es).width in
      omega (arith, length-take w (places ++ replicate w None))
  step_short k (Cast a signed) h each = each a h.0
  step_short k (Matches a patterns) h each = omega arith
  step_short k (Reset domain place) h each = omega arith

  up_to : (n : ℕ) (e : ExprId) → e.0 < n → e.0 < length p.exprs → IsShort e
  up_to zero e below there = absurd (omega (arith, below))
  up_to (suc n) e below there =
      let x = element p.exprs e.0 there in
      let stands = standing p e.0 x.0 rules x.1 in
      let earlier : (y : ExprId) → y.0 < e.0 → IsShort y = λ y lt. up_to n y (omega (arith, below, lt)) (omega (arith, there, lt)) in
      omega (arith, ap length (target_is p env e.0 x.0 rules x.1), step_short e.0 x.0 stands.names earlier, ap (λ (f : Form). f.width) (form_is p e.0 x.0 rules x.1))

  pub target_short : (e : ExprId) → e.0 < length p.exprs → length (target_bits p env e.0) ≤ (form p e.0).width
  target_short e there = up_to (suc e.0) e (omega arith) there

-- ---- the inits of signals

abbrev pub inits : List Sig → List ℤ
inits sigs = map (λ (x : Sig). x.init) sigs

init_fits : (sigs : List Sig) (s : ℕ) → AllByRecursion HasInit sigs → s < length sigs → IsOf (signal_form sigs s).signed (signal_form sigs s).width (at (inits sigs) s)
init_fits [] s h there = absurd (omega (arith, there))
init_fits (x ∷ sigs) zero h there = h.0
init_fits (x ∷ sigs) (suc s) h there = init_fits sigs s h.1 (omega (arith, there))

pub inits_fit : (p : Pooled) → IsPool p → FitsSignals p (inits p.signals)
inits_fit p rules = λ s there. init_fits p.signals s rules.inits there

narrow_form : (w : ℕ) (s : Bool) → IsForm w s → w ≤ 128
narrow_form w false h = h
narrow_form w true h = h.1

pub target_few : (p : Pooled) (env : List ℤ) (e : ExprId) → IsPool p → e.0 < length p.exprs → length (target_bits p env e.0) ≤ 128
target_few p env e rules there =
    omega (arith, target_short p env rules e there, narrow_form (form p e.0).width (form p e.0).signed (has_shape p (inits p.signals) rules (inits_fit p rules) e there))
