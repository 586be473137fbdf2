-- What is marked as a target of one side is a target, and its signals are of that side.
use Rattle.std.specs.Prelude.{◌≡◌, refl, ℕ, ◌&&◌, Bool, true, false, List, [], ◌∷◌, ◌++◌}
use Rattle.std.specs.List.{AllByRecursion, list_all, flat_map}
use Rattle.std.proofs.lemmas.Bool.{false≢true, and_parts}
use Rattle.design_ir.specs.declared.ids.ExprId.{ExprId}
use Rattle.design_ir.specs.declared.expr.Expr.{Expr}
use Rattle.design_ir.specs.declared.expr.Expr.TheVariants as expr
use Rattle.design_ir.specs.Pools.{Pooled, answer}
use Rattle.design_ir.specs.Targets.{target_test, is_target, signals_step, target_signals}
use Rattle.design_ir.proofs.Related.{related}
use Rattle.design_table.specs.Tests.{side_step}

and_of : (a b : Bool) → a ≡ true → b ≡ true → (a && b) ≡ true
and_of true b e f = f
and_of false b e f = absurd (false≢true e)

pub all_joined : {A : Type 0} (P : A → Type 0) (xs ys : List A) → AllByRecursion P xs → AllByRecursion P ys → AllByRecursion P (xs ++ ys)
all_joined P [] ys h k = k
all_joined P (x ∷ xs) ys h k = (h.0, all_joined P xs ys h.1 k)

-- the signals are all of the side
abbrev pub AreOwn : (ℕ → Bool) → List ℕ → Type 0
AreOwn own ss = AllByRecursion (λ s. own s ≡ true) ss

module _ (own : ℕ → Bool) where
  all_tests : (f g : ℕ → Bool) → ((k : ℕ) → f k ≡ true → g k ≡ true) → (es : List ExprId) → list_all (λ (e : ExprId). f e.0) es ≡ true → list_all (λ (e : ExprId). g e.0) es ≡ true
  all_tests f g h [] t = refl
  all_tests f g h (e ∷ es) t =
      let r = and_parts (f e.0) (list_all (λ (x : ExprId). f x.0) es) t in
      and_of (g e.0) (list_all (λ (x : ExprId). g x.0) es) (h e.0 r.0) (all_tests f g h es r.1)

  step_tests : (f g : ℕ → Bool) (e : Expr) → ((k : ℕ) → f k ≡ true → g k ≡ true) → side_step own f e ≡ true → target_test g e ≡ true
  step_tests f g (expr.Sig s) h t = refl
  step_tests f g (expr.Slice a low width) h t = h a.0 t
  step_tests f g (expr.Cat es) h t = all_tests f g h es t
  step_tests f g (expr.Part a offset width stride) h t = h a.0 t
  step_tests f g (expr.Pick index es) h t = all_tests f g h es t
  step_tests f g (expr.Cast a signed) h t = h a.0 t
  step_tests f g (expr.Const n s) h t = absurd (false≢true t)
  step_tests f g (expr.Unary o a) h t = absurd (false≢true t)
  step_tests f g (expr.Binary o a b) h t = absurd (false≢true t)
  step_tests f g (expr.Mux s a b) h t = absurd (false≢true t)
  step_tests f g (expr.Matches a patterns) h t = absurd (false≢true t)
  step_tests f g (expr.Reset domain place) h t = absurd (false≢true t)

  pub side_target : (pool : Pooled) (k : ℕ) → answer false (side_step own) pool.exprs k ≡ true → is_target pool k ≡ true
  unfolding is_target
  side_target pool k =
      related false false (side_step own) target_test (λ b t. b ≡ true → t ≡ true) (λ e. e) (λ f g e h. step_tests f g e h) pool.exprs k

  all_own : (f : ℕ → Bool) (g : ℕ → List ℕ) → ((k : ℕ) → f k ≡ true → AreOwn own (g k)) → (es : List ExprId) → list_all (λ (e : ExprId). f e.0) es ≡ true → AreOwn own (flat_map (λ (e : ExprId). g e.0) es)
  all_own f g h [] t = tt
  all_own f g h (e ∷ es) t =
      let r = and_parts (f e.0) (list_all (λ (x : ExprId). f x.0) es) t in
      all_joined (λ s. own s ≡ true) (g e.0) (flat_map (λ (x : ExprId). g x.0) es) (h e.0 r.0) (all_own f g h es r.1)

  step_own : (f : ℕ → Bool) (g : ℕ → List ℕ) (e : Expr) → ((k : ℕ) → f k ≡ true → AreOwn own (g k)) → side_step own f e ≡ true → AreOwn own (signals_step g e)
  step_own f g (expr.Sig s) h t = (t, tt)
  step_own f g (expr.Slice a low width) h t = h a.0 t
  step_own f g (expr.Cat es) h t = all_own f g h es t
  step_own f g (expr.Part a offset width stride) h t = h a.0 t
  step_own f g (expr.Pick index es) h t = all_own f g h es t
  step_own f g (expr.Cast a signed) h t = h a.0 t
  step_own f g (expr.Const n s) h t = tt
  step_own f g (expr.Unary o a) h t = tt
  step_own f g (expr.Binary o a b) h t = tt
  step_own f g (expr.Mux s a b) h t = tt
  step_own f g (expr.Matches a patterns) h t = tt
  step_own f g (expr.Reset domain place) h t = tt

  pub side_signals : (pool : Pooled) (k : ℕ) → answer false (side_step own) pool.exprs k ≡ true → AreOwn own (target_signals pool k)
  unfolding target_signals
  side_signals pool k =
      related false [] (side_step own) signals_step (λ b ss. b ≡ true → AreOwn own ss) (λ e. tt) (λ f g e h. step_own f g e h) pool.exprs k
