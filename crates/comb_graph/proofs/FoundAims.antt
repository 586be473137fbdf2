-- The aims at a bit, and that each bit that a target stands for is one of its signal.
use Rattle.std.specs.Prelude.{◌≡◌, ℕ, zero, suc, ◌+◌, ◌-◌, ◌*◌, ◌<◌, ◌≤◌, ◌⊎◌, min, true, List, [], ◌∷◌, map, length, drop, slice_get, slice_index_or, ℤ, unsigned_abs, Option, Some, Contains}
use Rattle.std.specs.List.{flat_map}
use Rattle.std.proofs.Common.{sym, ◌∙◌, ap, arith, subst, ⊎_elim, inl, inr}
use Rattle.design_ir.specs.declared.ids.ExprId.{ExprId}
use Rattle.design_ir.specs.declared.expr.Expr.{Expr}
use Rattle.design_ir.specs.declared.expr.Expr.TheVariants as expr
use Rattle.design_ir.specs.Pools.{Pooled}
use Rattle.design_ir.specs.PoolRules.{IsPool}
use Rattle.design_ir.specs.Values.{form, num, signal_form, common_of_all}
use Rattle.design_ir.specs.Targets.{Bit, Aim, aims, is_target, target_step, target_bits}
use Rattle.design_ir.specs.Choices.{HasAim}
use Rattle.design_ir.specs.Circuits.{FitsSignals}
use Rattle.design_ir.proofs.Elements.{contains_first, contains_more, contains_cases, get_take_of, get_drop, get_append_cases}
use Rattle.design_ir.proofs.Related.{related}
use Rattle.design_ir.proofs.ChoiceLaws.{signal_place, padded_place, places_are}
use Rattle.design_ir.proofs.AimLaws.{signals_choose}
use Rattle.comb_graph.proofs.BitWrites.{cases_bit}

-- ---- aims

-- each bit that a target stands for is one of its aims, at its place
pub places_aimed : (p : Pooled) (env : List ℤ) → IsPool p → FitsSignals p env → (e : ExprId) → is_target p e.0 ≡ true → (j : ℕ) (b : Bit) → slice_get (target_bits p env e.0) j ≡ Some (Some b) → HasAim (aims p e.0) b j
places_aimed p env rules fit e target j b here = places_are p rules (signals_choose p rules env e.0 fit target) b j here

none_more : (x : Aim) (xs : List Aim) (b : Bit) (j : ℕ) → (x.bit ≡ b → ⊥) → (HasAim xs b j → ⊥) → HasAim (x ∷ xs) b j → ⊥
none_more x xs b j apart none h =
    ⊎_elim (λ (same : x ≡ h.aim). apart (ap (λ (y : Aim). y.bit) same ∙ h.bit)) (λ (more : Contains xs h.aim). none (record { aim = h.aim; among = more; bit = h.bit; stands = h.stands })) (contains_cases x h.aim xs h.among)

-- one of the aims is at the bit, or none is
pub cases_aim : (b : Bit) (xs : List Aim) → ((a : Aim) × Contains xs a × (a.bit ≡ b)) ⊎ ((j : ℕ) → HasAim xs b j → ⊥)
cases_aim b [] = inr (λ j h. let none = h.among in absurd (omega (arith, none.1)))
cases_aim b (x ∷ xs) =
    ⊎_elim
    (λ e. inl (x, contains_first x xs, e))
    (λ apart. ⊎_elim (λ r. inl (r.0, contains_more x xs r.0 r.1, r.2)) (λ none. inr (λ j h. none_more x xs b j apart (none j) h)) (cases_aim b xs))
    (cases_bit x.bit b)

-- ---- places

-- each place is none, or a bit of a signal
abbrev pub AreInside : Pooled → List (Option Bit) → Type 0
AreInside p places = (j : ℕ) (b : Bit) → slice_get places j ≡ Some (Some b) → b.index < (signal_form p.signals b.sig).width

module _ (p : Pooled) (env : List ℤ) (f : ℕ → List (Option Bit)) (each : (k : ℕ) → AreInside p (f k)) where
  joined_inside : (es : List ExprId) → AreInside p (flat_map (λ (e : ExprId). f e.0) es)
  joined_inside [] j b e = cc
  joined_inside (x ∷ es) j b e =
      let others : List (Option Bit) = flat_map (λ (a : ExprId). f a.0) es in
      ⊎_elim (λ (here : slice_get (f x.0) j ≡ Some (Some b)). each x.0 j b here)
      (λ (there : (length (f x.0) ≤ j) × (slice_get others (j - length (f x.0)) ≡ Some (Some b))). joined_inside es (j - length (f x.0)) b there.1)
      (get_append_cases (f x.0) others j (Some b) e)

  item_inside : (es : List ExprId) (i : ℕ) → AreInside p (slice_index_or (map (λ (e : ExprId). f e.0) es) i [])
  item_inside [] i j b e = cc
  item_inside (x ∷ es) zero j b e = each x.0 j b e
  item_inside (x ∷ es) (suc i) j b e = item_inside es i j b e

  step_inside : (e : Expr) → AreInside p (target_step (signal_form p.signals) (form p) (num p env) f e)
  step_inside (expr.Sig s) j b e =
      let w : ℕ = (signal_form p.signals s.0).width in
      let r = signal_place s.0 0 w j b e in
      let inside : 0 + j < w = omega (arith, r.0) in
      subst (λ (c : Bit). c.index < (signal_form p.signals c.sig).width) r.1 inside
  step_inside (expr.Slice a low width) j b e = let r = get_take_of width (drop low (f a.0)) j (Some b) e in each a.0 (low + j) b (sym (get_drop low (f a.0) j) ∙ r.1)
  step_inside (expr.Cat es) j b e = joined_inside es j b e
  step_inside (expr.Part a offset width stride) j b e =
      let low : ℕ = unsigned_abs (num p env offset.0) * stride in
      let r = padded_place width (drop low (f a.0)) j b e in each a.0 (low + j) b (sym (get_drop low (f a.0) j) ∙ r.1)
  step_inside (expr.Pick index es) j b e =
      let items : List (List (Option Bit)) = map (λ (a : ExprId). f a.0) es in
      let i : ℕ = min (unsigned_abs (num p env index.0)) (length items - 1) in
      item_inside es i j b (padded_place (common_of_all (form p) es).width (slice_index_or items i []) j b e).1
  step_inside (expr.Cast a signed) j b e = each a.0 j b e
  step_inside (expr.Const n s) j b e = cc
  step_inside (expr.Unary o a) j b e = cc
  step_inside (expr.Binary o a b') j b e = cc
  step_inside (expr.Mux s a b') j b e = cc
  step_inside (expr.Matches a patterns) j b e = cc
  step_inside (expr.Reset domain place) j b e = cc

pub places_inside : (p : Pooled) (env : List ℤ) (k : ℕ) → AreInside p (target_bits p env k)
unfolding target_bits
places_inside p env k =
    related {A = List (Option Bit)} {B = ℕ} [] 0 (target_step (signal_form p.signals) (form p) (num p env)) (λ g e. 0) (λ places n. AreInside p places) (λ j b e. cc) (λ f g e each. step_inside p env f each e) p.exprs k
