-- A target has one place for each bit of its shape.
use Rattle.std.specs.Prelude.{◌≡◌, refl, ℕ, zero, suc, ◌+◌, ◌-◌, ◌*◌, ◌<◌, ◌≤◌, ◌&&◌, Bool, true, false, List, [], ◌∷◌, ◌++◌, map, length, take, drop, replicate, slice_get, ℤ, unsigned_abs, Option, Some, None}
use Rattle.std.specs.List.{flat_map, list_all, range_with_len}
use Rattle.std.proofs.Common.{sym, ◌∙◌, ap, arith}
use Rattle.std.proofs.lemmas.Bool.{false≢true}
use Rattle.std.proofs.Math.ListN.{length-append}
use Rattle.shape_rules.specs.Forms.{Form}
use Rattle.design_ir.specs.declared.ids.ExprId.{ExprId}
use Rattle.design_ir.specs.declared.expr.Expr as expr
use Rattle.design_ir.specs.declared.expr.Expr.{Expr}
use Rattle.design_ir.specs.declared.expr.Expr.TheVariants.{Const, Unary, Binary, Mux, Slice, Cat, Part, Pick, Cast, Matches, Reset}
use Rattle.design_ir.specs.Named.{named, AllBelow}
use Rattle.design_ir.specs.Pools.{Pooled}
use Rattle.design_ir.specs.PoolRules.{IsPool}
use Rattle.design_ir.specs.Values.{form, form_step, num, signal_form, total_width, picked, common_of_all}
use Rattle.design_ir.specs.Targets.{Bit, bits_of, padded, target_step, target_bits, target_test, is_target}
use Rattle.design_ir.proofs.Congruence.{AreSame, same_below}
use Rattle.design_ir.proofs.Equations.{IsStanding, standing, form_is, answer_at}
use Rattle.design_ir.proofs.NumbersFit.{element}

-- ---- the places of a target are decided by those of the expressions that it names

flat_map_same : {A : Type 0} (f g : ℕ → List A) (es : List ExprId) → AreSame f g es → flat_map (λ (e : ExprId). f e.0) es ≡ flat_map (λ (e : ExprId). g e.0) es
flat_map_same f g [] h = refl
flat_map_same f g (e ∷ es) h = let a = h.0 in let b = flat_map_same f g es h.1 in cc

map_same : {A : Type 0} (f g : ℕ → A) (es : List ExprId) → AreSame f g es → map (λ (e : ExprId). f e.0) es ≡ map (λ (e : ExprId). g e.0) es
map_same f g [] h = refl
map_same f g (e ∷ es) h = let a = h.0 in let b = map_same f g es h.1 in cc

every_same : (f g : ℕ → Bool) (es : List ExprId) → AreSame f g es → list_all (λ (e : ExprId). f e.0) es ≡ list_all (λ (e : ExprId). g e.0) es
every_same f g [] h = refl
every_same f g (e ∷ es) h = let a = h.0 in let b = every_same f g es h.1 in cc

places_same : (sig_form forms : ℕ → Form) (nums : ℕ → ℤ) (f g : ℕ → List (Option Bit)) (e : Expr) → AreSame f g (named e) → target_step sig_form forms nums f e ≡ target_step sig_form forms nums g e
places_same sig_form forms nums f g (Const n s) h = refl
places_same sig_form forms nums f g (expr.TheVariants.Sig s) h = refl
places_same sig_form forms nums f g (Unary op a) h = refl
places_same sig_form forms nums f g (Binary op a b) h = refl
places_same sig_form forms nums f g (Mux s a b) h = refl
places_same sig_form forms nums f g (Slice a low width) h = ap (λ xs. take width (drop low xs)) h.0
places_same sig_form forms nums f g (Cat es) h = flat_map_same f g es h
places_same sig_form forms nums f g (Part a offset width stride) h = ap (λ xs. padded width (drop (unsigned_abs (nums offset.0) * stride) xs)) h.0
places_same sig_form forms nums f g (Pick index es) h = ap (λ xs. padded (common_of_all forms es).width (picked [] xs (unsigned_abs (nums index.0)))) (map_same f g es h.1)
places_same sig_form forms nums f g (Cast a signed) h = h.0
places_same sig_form forms nums f g (Matches a patterns) h = refl
places_same sig_form forms nums f g (Reset domain place) h = refl

test_same : (f g : ℕ → Bool) (e : Expr) → AreSame f g (named e) → target_test f e ≡ target_test g e
test_same f g (Const n s) h = refl
test_same f g (expr.TheVariants.Sig s) h = refl
test_same f g (Unary op a) h = refl
test_same f g (Binary op a b) h = refl
test_same f g (Mux s a b) h = refl
test_same f g (Slice a low width) h = h.0
test_same f g (Cat es) h = every_same f g es h
test_same f g (Part a offset width stride) h = h.0
test_same f g (Pick index es) h = every_same f g es h.1
test_same f g (Cast a signed) h = h.0
test_same f g (Matches a patterns) h = refl
test_same f g (Reset domain place) h = refl

pub target_is : (p : Pooled) (env : List ℤ) (k : ℕ) (e : Expr) → IsPool p → slice_get p.exprs k ≡ Some e → target_bits p env k ≡ target_step (signal_form p.signals) (form p) (num p env) (target_bits p env) e
unfolding target_bits
target_is p env k e h is =
    let names = (standing p k e h is).names in
    answer_at [] (target_step (signal_form p.signals) (form p) (num p env)) p.exprs k e is (λ f g same. places_same (signal_form p.signals) (form p) (num p env) f g e (same_below f g k (named e) same names))

pub is_target_is : (p : Pooled) (k : ℕ) (e : Expr) → IsPool p → slice_get p.exprs k ≡ Some e → is_target p k ≡ target_test (is_target p) e
unfolding is_target
is_target_is p k e h is =
    let names = (standing p k e h is).names in
    answer_at false target_test p.exprs k e is (λ f g same. test_same f g e (same_below f g k (named e) same names))

-- ---- lengths

pub map_length : {A B : Type 0} (f : A → B) (xs : List A) → length (map f xs) ≡ length xs
map_length f [] = refl
map_length f (x ∷ xs) = ap suc (map_length f xs)

pub range_length : (a n : ℕ) → length (range_with_len a n) ≡ n
range_length a zero = refl
range_length a (suc n) = ap suc (range_length (a + 1) n)

pub take_length : {A : Type 0} (n : ℕ) (xs : List A) → n ≤ length xs → length (take n xs) ≡ n
take_length zero [] h = refl
take_length zero (x ∷ xs) h = refl
take_length (suc n) [] h = absurd (omega (arith, h))
take_length (suc n) (x ∷ xs) h = ap suc (take_length n xs (omega (arith, h)))

pub drop_length : {A : Type 0} (n : ℕ) (xs : List A) → length (drop n xs) ≡ length xs - n
drop_length zero [] = refl
drop_length zero (x ∷ xs) = omega arith
drop_length (suc n) [] = omega arith
drop_length (suc n) (x ∷ xs) = omega (arith, drop_length n xs)

places_length : (n : ℕ) (x : Option Bit) → length (replicate n x) ≡ n
places_length zero x = refl
places_length (suc n) x = ap suc (places_length n x)

pub padded_length : (n : ℕ) (places : List (Option Bit)) → length (padded n places) ≡ n
padded_length n places =
    take_length n (places ++ replicate n None) (omega (arith, length-append places (replicate n None), places_length n None))

-- ---- each target

pub and_true : (a b : Bool) → (a && b) ≡ true → (a ≡ true) × (b ≡ true)
and_true true b e = (refl, e)
and_true false b e = absurd (false≢true e)

-- the target has a place for each bit of its shape
abbrev pub HasPlaces : Pooled → List ℤ → ExprId → Type 0
HasPlaces p env e = is_target p e.0 ≡ true → length (target_bits p env e.0) ≡ (form p e.0).width

module _ (p : Pooled) (env : List ℤ) (rules : IsPool p) where
  joined_length : (k : ℕ) (es : List ExprId) → ((e : ExprId) → e.0 < k → HasPlaces p env e) → AllBelow k es → list_all (λ (e : ExprId). is_target p e.0) es ≡ true → length (flat_map (λ (e : ExprId). target_bits p env e.0) es) ≡ total_width (form p) es
  joined_length k [] each h t = refl
  joined_length k (e ∷ es) each h t =
      let split = and_true (is_target p e.0) (list_all (λ (x : ExprId). is_target p x.0) es) t in
      omega (arith, length-append (target_bits p env e.0) (flat_map (λ (x : ExprId). target_bits p env x.0) es), each e h.0 split.0, joined_length k es each h.1 split.1)

  step_length : (k : ℕ) (e : Expr) → IsStanding p k e → ((x : ExprId) → x.0 < k → HasPlaces p env x) → target_test (is_target p) e ≡ true → length (target_step (signal_form p.signals) (form p) (num p env) (target_bits p env) e) ≡ (form_step p.signals (form p) e).width
  step_length k (Const n s) h each t = absurd (false≢true t)
  step_length k (expr.TheVariants.Sig s) h each t =
      let w : ℕ = (signal_form p.signals s.0).width in
      map_length (λ b. Some b) (bits_of s.0 w) ∙ map_length (λ i. record { sig = s.0; index = i }) (range_with_len 0 w) ∙ range_length 0 w
  step_length k (Unary op a) h each t = absurd (false≢true t)
  step_length k (Binary op a b) h each t = absurd (false≢true t)
  step_length k (Mux s a b) h each t = absurd (false≢true t)
  step_length k (Slice a low width) h each t =
      take_length width (drop low (target_bits p env a.0)) (omega (arith, drop_length low (target_bits p env a.0), each a h.names.0 t, h.askable.parts))
  step_length k (Cat es) h each t = joined_length k es each h.names t
  step_length k (Part a offset width stride) h each t = padded_length width (drop (unsigned_abs (num p env offset.0) * stride) (target_bits p env a.0))
  step_length k (Pick index es) h each t =
      padded_length (common_of_all (form p) es).width (picked [] (map (λ (e : ExprId). target_bits p env e.0) es) (unsigned_abs (num p env index.0)))
  step_length k (Cast a signed) h each t = each a h.names.0 t
  step_length k (Matches a patterns) h each t = absurd (false≢true t)
  step_length k (Reset domain place) h each t = absurd (false≢true t)

  up_to : (n : ℕ) (e : ExprId) → e.0 < n → e.0 < length p.exprs → HasPlaces p env e
  up_to zero e below there = absurd (omega (arith, below))
  up_to (suc n) e below there =
      let x = element p.exprs e.0 there in
      let stands = standing p e.0 x.0 rules x.1 in
      let earlier : (y : ExprId) → y.0 < e.0 → HasPlaces p env y = λ y lt. up_to n y (omega (arith, below, lt)) (omega (arith, there, lt)) in
      λ t. ap length (target_is p env e.0 x.0 rules x.1)
      ∙ step_length e.0 x.0 stands earlier (sym (is_target_is p e.0 x.0 rules x.1) ∙ t)
      ∙ ap (λ (f : Form). f.width) (sym (form_is p e.0 x.0 rules x.1))

  pub target_length : (e : ExprId) → e.0 < length p.exprs → is_target p e.0 ≡ true → length (target_bits p env e.0) ≡ (form p e.0).width
  target_length e there = up_to (suc e.0) e (omega arith) there
