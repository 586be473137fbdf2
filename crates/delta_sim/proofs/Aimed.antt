-- The places of an expression, from those of the expressions before it.
use Rattle.std.specs.Prelude.{◌≡◌, refl, ℕ, ◌*◌, List, [], ◌∷◌, map, drop, take, length, slice_get, slice_index_or, ℤ, pos, unsigned_abs, Option, Some}
use Rattle.std.specs.List.{flat_map}
use Rattle.std.proofs.Common.{sym, ◌∙◌, ap}
use Rattle.shape_rules.specs.Forms.{Form}
use Rattle.design_ir.specs.declared.ids.ExprId.{ExprId}
use Rattle.design_ir.specs.declared.signal.Sig.{Sig}
use Rattle.design_ir.specs.declared.expr.Expr as expr
use Rattle.design_ir.specs.declared.expr.Expr.{Expr}
use Rattle.design_ir.specs.declared.expr.Expr.TheVariants.{Const, Unary, Binary, Mux, Slice, Cat, Part, Pick, Cast, Matches, Reset}
use Rattle.design_ir.specs.Named.{named}
use Rattle.design_ir.specs.Pools.{Pooled}
use Rattle.design_ir.specs.PoolRules.{IsPool, IsInRange}
use Rattle.design_ir.specs.Values.{form, form_step, num, signal_form, picked, common_of_all}
use Rattle.design_ir.specs.Targets.{Bit, bits_of, padded, target_step, target_bits}
use Rattle.design_ir.proofs.Congruence.{AreSame, same_below}
use Rattle.design_ir.proofs.Equations.{standing, form_is}
use Rattle.design_ir.proofs.TargetLaws.{target_is}
use Rattle.sim_plans.specs.Reading.{AreNumbers, ArePlaces, IsPickSome, aimed_step}

pub drop_none : {A : Type 0} (xs : List A) → drop 0 xs ≡ xs
drop_none [] = refl
drop_none (x ∷ xs) = refl

pub pick_some : (sigs : List Sig) (forms : ℕ → Form) (e : Expr) → IsInRange sigs forms e → IsPickSome e
pick_some sigs forms (Const n s) h = tt
pick_some sigs forms (expr.TheVariants.Sig s) h = tt
pick_some sigs forms (Unary op a) h = tt
pick_some sigs forms (Binary op a b) h = tt
pick_some sigs forms (Mux s a b) h = tt
pick_some sigs forms (Slice a low width) h = tt
pick_some sigs forms (Cat es) h = tt
pick_some sigs forms (Part a offset width stride) h = tt
pick_some sigs forms (Pick index es) h = h
pick_some sigs forms (Cast a signed) h = tt
pick_some sigs forms (Matches a patterns) h = tt
pick_some sigs forms (Reset domain place) h = tt

module _ (f g : ℕ → List (Option Bit)) where
  flat_same : (es : List ExprId) → AreSame f g es → flat_map (λ (e : ExprId). f e.0) es ≡ flat_map (λ (e : ExprId). g e.0) es
  flat_same [] h = refl
  flat_same (e ∷ es) h = let a = h.0 in let b = flat_same es h.1 in cc

  map_same : (es : List ExprId) → AreSame f g es → map (λ (e : ExprId). f e.0) es ≡ map (λ (e : ExprId). g e.0) es
  map_same [] h = refl
  map_same (e ∷ es) h = let a = h.0 in let b = map_same es h.1 in cc

  step_is : (sigs : List Sig) (forms : ℕ → Form) (n m : ℕ → ℤ) (width : ℕ) (e : Expr) → AreSame n m (named e) → AreSame f g (named e) → width ≡ (form_step sigs forms e).width → aimed_step width n f e ≡ target_step (signal_form sigs) forms m g e
  step_is sigs forms n m width (Const z s) h k w = refl
  step_is sigs forms n m width (expr.TheVariants.Sig s) h k w = ap (λ v. map (λ b. Some b) (bits_of s.0 v)) w
  step_is sigs forms n m width (Unary op a) h k w = refl
  step_is sigs forms n m width (Binary op a b) h k w = refl
  step_is sigs forms n m width (Mux s a b) h k w = refl
  step_is sigs forms n m width (Slice a low v) h k w =
      ap (λ v. take v (drop low (f a.0))) w ∙ ap (λ xs. take v (drop low xs)) k.0
  step_is sigs forms n m width (Cat es) h k w = flat_same es k
  step_is sigs forms n m width (Part a offset v stride) h k w =
      ap (λ v. padded v (drop (unsigned_abs (n offset.0) * stride) (f a.0))) w
      ∙ ap (λ z. padded v (drop (unsigned_abs z * stride) (f a.0))) h.1.0
      ∙ ap (λ xs. padded v (drop (unsigned_abs (m offset.0) * stride) xs)) k.0
  step_is sigs forms n m width (Pick index es) h k w =
      ap (λ v. padded v (picked [] (map (λ (e : ExprId). f e.0) es) (unsigned_abs (n index.0)))) w
      ∙ ap (λ z. padded (common_of_all forms es).width (picked [] (map (λ (e : ExprId). f e.0) es) (unsigned_abs z))) h.0
      ∙ ap (λ xs. padded (common_of_all forms es).width (picked [] xs (unsigned_abs (m index.0)))) (map_same es k.1)
  step_is sigs forms n m width (Cast a signed) h k w = k.0
  step_is sigs forms n m width (Matches a patterns) h k w = refl
  step_is sigs forms n m width (Reset domain place) h k w = refl

pub aimed_is : (p : Pooled) (env nums : List ℤ) (all : List (List (Option Bit))) (k width : ℕ) (shape : Form) (e : Expr) → IsPool p → slice_get p.exprs k ≡ Some e → AreNumbers p env (length p.exprs) nums → ArePlaces p env k all → shape ≡ form p k → width ≡ shape.width → aimed_step width (λ j. slice_index_or nums j (pos 0)) (λ j. slice_index_or all j []) e ≡ target_bits p env k
aimed_is p env nums all k width shape e rules is numbers places of wide =
    let s = standing p k e rules is in
    let n = same_below (λ j. slice_index_or nums j (pos 0)) (num p env) (length p.exprs) (named e) (λ j h. numbers.each j h) s.askable.names in
    let t = same_below (λ j. slice_index_or all j []) (target_bits p env) k (named e) (λ j h. places.each j h) s.names in
    let w = wide ∙ ap (λ (x : Form). x.width) (of ∙ form_is p k e rules is) in
    step_is (λ j. slice_index_or all j []) (target_bits p env) p.signals (form p) (λ j. slice_index_or nums j (pos 0)) (num p env) width e n t w
    ∙ sym (target_is p env k e rules is)
