-- Which bits of an input an expression is.
use Rattle.std.proofs.Common.{◌≡◌, ◌∙◌, sym, ap, refl, ℕ, zero, suc, ◌+◌, ◌<◌, ◌≤◌, ◌==◌, ◌||◌, Bool, true, false, List, drop, length, Option, Some, None, arith}
use Rattle.std.specs.Prelude.{slice_get}
use Rattle.std.specs.List.{list_any}
use Rattle.py_heap.proofs.ObjectLaws.{drop_at}
use Rattle.design_ir.specs.declared.ids.ExprId.{ExprId}
use Rattle.design_ir.specs.declared.ids.SigId.{SigId}
use Rattle.design_ir.specs.declared.domain.Domain.{Domain}
use Rattle.design_ir.specs.declared.expr.Expr as expr
use Rattle.design_ir.specs.declared.expr.Expr.{Expr}
use Rattle.design_ir.specs.declared.expr.Expr.TheVariants.{Const, Sig, Unary, Binary, Mux, Slice, Cat, Part, Pick, Cast, Matches, Reset}
use Rattle.design_ir.specs.Circuits.{Circuit, is_clock}
use Rattle.design_ir.specs.PoolRules.{IsPool}
use Rattle.design_ir.specs.Values.{form}
use Rattle.design_ir.proofs.Equations.{standing, form_is}
use Rattle.comb_graph.proofs.GraphTables.{shape_of}
use Rattle.amh_things.proofs.Drafts.{width_of_form}
use Rattle.bench_acts.specs.declared.targets.InputBits.{InputBits}
use Rattle.bench_acts.specs.Targets.{bits_within}

-- ---- as many steps as there are expressions before this one are enough

module _ (c : Circuit) (rules : IsPool c.pool) (width : ℕ) where
  step_enough : (n m k low : ℕ) (e : Option Expr) → slice_get c.pool.exprs k ≡ e → k < n → k < m → bits_within c n e low width ≡ bits_within c m e low width
  step_enough zero m k low e is h g = absurd (omega (arith, h))
  step_enough (suc n) zero k low e is h g = absurd (omega (arith, g))
  step_enough (suc n) (suc m) k low None is h g = refl
  step_enough (suc n) (suc m) k low (Some (Sig s)) is h g = refl
  step_enough (suc n) (suc m) k low (Some (Slice a from w)) is h g =
      let below = (standing c.pool k (Slice a from w) rules is).names.0 in
      step_enough n m a.0 (low + from) (slice_get c.pool.exprs a.0) refl (omega (arith, below, h)) (omega (arith, below, g))
  step_enough (suc n) (suc m) k low (Some (Cast a signed)) is h g =
      let below = (standing c.pool k (Cast a signed) rules is).names.0 in
      step_enough n m a.0 low (slice_get c.pool.exprs a.0) refl (omega (arith, below, h)) (omega (arith, below, g))
  step_enough (suc n) (suc m) k low (Some (Const x s)) is h g = refl
  step_enough (suc n) (suc m) k low (Some (Unary op a)) is h g = refl
  step_enough (suc n) (suc m) k low (Some (Binary op a b)) is h g = refl
  step_enough (suc n) (suc m) k low (Some (Mux s a b)) is h g = refl
  step_enough (suc n) (suc m) k low (Some (Cat es)) is h g = refl
  step_enough (suc n) (suc m) k low (Some (Part a offset w stride)) is h g = refl
  step_enough (suc n) (suc m) k low (Some (Pick index es)) is h g = refl
  step_enough (suc n) (suc m) k low (Some (Matches a patterns)) is h g = refl
  step_enough (suc n) (suc m) k low (Some (Reset domain place)) is h g = refl

  steps_enough : (n m k low : ℕ) → k < n → k < m → bits_within c n (slice_get c.pool.exprs k) low width ≡ bits_within c m (slice_get c.pool.exprs k) low width
  steps_enough n m k low h g = step_enough n m k low (slice_get c.pool.exprs k) refl h g

  -- a slice: the bits that it is of are those of what it is of, from there on
  pub slice_bits : (k low : ℕ) (a : ExprId) (from w : ℕ) (whole : Option InputBits) → slice_get c.pool.exprs k ≡ Some (Slice a from w) → bits_within c (suc k) (slice_get c.pool.exprs k) low width ≡ whole → bits_within c (suc a.0) (slice_get c.pool.exprs a.0) (low + from) width ≡ whole
  slice_bits k low a from w whole is h =
      let below = (standing c.pool k (Slice a from w) rules is).names.0 in
      steps_enough (suc a.0) k a.0 (low + from) (omega arith) below ∙ sym (ap (λ e. bits_within c (suc k) e low width) is) ∙ h

  pub cast_bits : (k low : ℕ) (a : ExprId) (signed : Bool) (whole : Option InputBits) → slice_get c.pool.exprs k ≡ Some (Cast a signed) → bits_within c (suc k) (slice_get c.pool.exprs k) low width ≡ whole → bits_within c (suc a.0) (slice_get c.pool.exprs a.0) low width ≡ whole
  cast_bits k low a signed whole is h =
      let below = (standing c.pool k (Cast a signed) rules is).names.0 in
      steps_enough (suc a.0) k a.0 low (omega arith) below ∙ sym (ap (λ e. bits_within c (suc k) e low width) is) ∙ h

  -- and there is room
  pub slice_room : (k low : ℕ) (a : ExprId) (from w : ℕ) → slice_get c.pool.exprs k ≡ Some (Slice a from w) → low + width ≤ (form c.pool k).width → (low + from) + width ≤ (form c.pool a.0).width
  slice_room k low a from w is h =
      let room = (standing c.pool k (Slice a from w) rules is).askable.parts in
      omega (arith, h, room, ap (λ f. f.width) (form_is c.pool k (Slice a from w) rules is))

  pub cast_room : (k low : ℕ) (a : ExprId) (signed : Bool) → slice_get c.pool.exprs k ≡ Some (Cast a signed) → low + width ≤ (form c.pool k).width → low + width ≤ (form c.pool a.0).width
  cast_room k low a signed is h = omega (arith, h, ap (λ f. f.width) (form_is c.pool k (Cast a signed) rules is))

  -- no place of a bit is past 128
  pub slice_fits : (k low : ℕ) (a : ExprId) (from w : ℕ) → slice_get c.pool.exprs k ≡ Some (Slice a from w) → k < length c.pool.exprs → low + width ≤ (form c.pool k).width → low + from ≤ 128
  slice_fits k low a from w is there h =
      let below = (standing c.pool k (Slice a from w) rules is).names.0 in
      let few = width_of_form (form c.pool a.0).width (form c.pool a.0).signed (shape_of c.pool a.0 rules (omega (arith, below, there))) in
      omega (arith, slice_room k low a from w is h, few)

-- ---- clocks

pub is_no_clock : (ds : List Domain) (i s : ℕ) (d : Domain) (whole : Bool) → slice_get ds i ≡ Some d → (d.clk.0 == s) ≡ false → list_any (λ (x : Domain). x.clk.0 == s) (drop i ds) ≡ whole → list_any (λ (x : Domain). x.clk.0 == s) (drop (i + 1) ds) ≡ whole
is_no_clock ds i s d whole is other h = sym (ap (list_any (λ (x : Domain). x.clk.0 == s)) (drop_at ds i d is) ∙ ap (λ b. b || list_any (λ (x : Domain). x.clk.0 == s) (drop (i + 1) ds)) other) ∙ h

pub is_a_clock : (ds : List Domain) (i s : ℕ) (d : Domain) (whole : Bool) → slice_get ds i ≡ Some d → (d.clk.0 == s) ≡ true → list_any (λ (x : Domain). x.clk.0 == s) (drop i ds) ≡ whole → true ≡ whole
is_a_clock ds i s d whole is same h = sym (ap (list_any (λ (x : Domain). x.clk.0 == s)) (drop_at ds i d is) ∙ ap (λ b. b || list_any (λ (x : Domain). x.clk.0 == s) (drop (i + 1) ds)) same) ∙ h
