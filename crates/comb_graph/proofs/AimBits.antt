-- The bits of a target's aims are bits of its signals, and stand at places of its shape.
use Rattle.std.specs.Prelude.{◌≡◌, refl, nat_le, nat_lt, ◌&&◌, Bool, false, if◌then◌else◌, None, ℕ, zero, suc, ◌+◌, ◌-◌, ◌*◌, ◌<◌, ◌≤◌, true, List, [], ◌∷◌, map, length, Some, Contains}
use Rattle.std.specs.List.{flat_map, list_any, range_with_len}
use Rattle.std.proofs.Common.{sym, ◌∙◌, ap, arith, subst, ⊎_elim}
use Rattle.std.proofs.lemmas.Bool.{eqb-true, cases_lt}
use Rattle.std.proofs.lemmas.List.Elements.{Contains-append_left, Contains-append_right, Contains-append_cases}
use Rattle.shape_rules.specs.Forms.{Form}
use Rattle.design_ir.specs.declared.ids.ExprId.{ExprId}
use Rattle.design_ir.specs.declared.signal.Sig.{Sig}
use Rattle.design_ir.specs.declared.expr.Expr.{Expr}
use Rattle.design_ir.specs.declared.expr.Expr.TheVariants as expr
use Rattle.design_ir.specs.Named.{named, AllBelow}
use Rattle.design_ir.specs.Pools.{Pooled}
use Rattle.design_ir.specs.PoolRules.{IsPool}
use Rattle.design_ir.specs.Values.{form, form_step, signal_form, total_width, common_of_all}
use Rattle.design_ir.specs.Targets.{Bit, Numbers, numbers, some_number, chosen_items, Spot, fixed, chosen, Aim, stands_at, chosen_below, raised, within_at, within, shifted, loose, aims_of_all, aim_at, aim_step, aims, signals_step, target_signals}
use Rattle.design_ir.proofs.Elements.{some_is, contains_first, contains_none, map_of, filter_of, flat_of, flat_has, range_of, has_get}
use Rattle.design_ir.proofs.Answers.{answer_past}
use Rattle.design_ir.proofs.Equations.{standing, form_is}
use Rattle.design_ir.proofs.Related.{related}
use Rattle.design_ir.proofs.NumbersFit.{element}
use Rattle.design_ir.proofs.AimSteps.{all_chosen, aims_is}
use Rattle.design_ir.proofs.AimLaws.{chosen_back, within_back, raised_back}
use Rattle.comb_graph.specs.Rules.{IsAim}
use Rattle.comb_graph.specs.Seen.{StandsBelow}
use Rattle.digraph.proofs.Members.{all_from_contains, all_at}

abbrev aim : Bit → Spot → Aim
aim b s = record { bit = b; spot = s }

-- the items that an index picks are items
chosen_there : (n : Numbers) (es : List ExprId) (e : ExprId) → Contains (chosen_items n es) e → Contains es e
chosen_there n es e c =
    let i = has_get (chosen_items n es) e c in
    all_at (λ (x : ExprId). Contains es x) (chosen_items n es) i.0 e (all_chosen (λ (x : ExprId). Contains es x) n es (all_from_contains (λ (x : ExprId). Contains es x) es (λ x there. there))) i.1

chosen_bit_of : (t : Bool) (b : Bit) (s : Spot) (x : Aim) → (if t then Some (aim b s) else None) ≡ Some x → x.bit ≡ b
chosen_bit_of false b s x e = cc
chosen_bit_of true b s x e = ap (λ (y : Aim). y.bit) (sym (some_is (aim b s) x e))

chosen_bit : (width : ℕ) (b : Bit) (set : ℕ → Bool) (x : Aim) → chosen_below width b set ≡ Some x → x.bit ≡ b
chosen_bit width b set x e = chosen_bit_of (list_any set (range_with_len 0 width)) b (chosen (λ k. nat_lt k width && set k)) x e

within_bit : (low width : ℕ) (b : Bit) (s : Spot) (x : Aim) → within_at low width b s ≡ Some x → x.bit ≡ b
within_bit low width b (fixed i) x e = chosen_bit_of (nat_le low i && nat_lt i (low + width)) b (fixed (i - low)) x e
within_bit low width b (chosen set) x e = chosen_bit width b (λ k. set (low + k)) x e

-- only expressions of the pool have aims
pub aims_past : (pool : Pooled) (e : ℕ) → length pool.exprs ≤ e → aims pool e ≡ []
unfolding aims
aims_past pool e past = answer_past [] (aim_step (signal_form pool.signals) (form pool) (numbers pool)) pool.exprs e past

aimed_there : (pool : Pooled) (k : ℕ) (x : Aim) → Contains (aims pool k) x → k < length pool.exprs
aimed_there pool k x c =
    ⊎_elim (λ lt. lt) (λ past. absurd (contains_none x (subst (λ xs. Contains xs x) (aims_past pool k past) c))) (cases_lt k (length pool.exprs))

-- ---- at bits of a target's signals

-- a bit of one of these signals
pub record IsAimOf (sig_form : ℕ → Form) (signals : List ℕ) (x : Aim) : Type 0 where
  pub of : Contains signals x.bit.sig
  pub index : x.bit.index < (sig_form x.bit.sig).width

module _ (sig_form forms : ℕ → Form) (nums : ℕ → Numbers) where
  AreOf : List Aim → List ℕ → Type 0
  AreOf xs ss = (x : Aim) → Contains xs x → IsAimOf sig_form ss x

  -- an aim at the same bit, of more signals
  moved : (ss ts : List ℕ) (x y : Aim) → IsAimOf sig_form ss y → x.bit ≡ y.bit → ((s : ℕ) → Contains ss s → Contains ts s) → IsAimOf sig_form ts x
  moved ss ts x y h same more = record {
    of = more x.bit.sig (subst (λ (b : Bit). Contains ss b.sig) (sym same) h.of);
    index = subst (λ (b : Bit). b.index < (sig_form b.sig).width) (sym same) h.index;
  }

  module _ (f : ℕ → List Aim) (g : ℕ → List ℕ) (each : (k : ℕ) (x : Aim) → Contains (f k) x → IsAimOf sig_form (g k) x) where
    joined_of : (low : ℕ) (es : List ExprId) (x : Aim) → Contains (aims_of_all forms f low es) x → IsAimOf sig_form (flat_map (λ (e : ExprId). g e.0) es) x
    joined_of low [] x c = absurd (contains_none x c)
    joined_of low (e ∷ es) x c =
        let w : ℕ = (forms e.0).width in
        let others : List ℕ = flat_map (λ (a : ExprId). g a.0) es in
        let all : List ℕ = flat_map (λ (a : ExprId). g a.0) (e ∷ es) in
        ⊎_elim
        (λ (own : Contains (map (raised low) (f e.0)) x).
        let m = map_of (raised low) (f e.0) x own in
        moved (g e.0) all x m.0 (each e.0 m.0 m.1) (ap (λ (y : Aim). y.bit) (sym m.2)) (λ s. Contains-append_left (g e.0) others s))
        (λ (more : Contains (aims_of_all forms f (low + w) es) x). moved others all x x (joined_of (low + w) es x more) refl (λ s. Contains-append_right (g e.0) others s))
        (Contains-append_cases (map (raised low) (f e.0)) (aims_of_all forms f (low + w) es) x c)

    step_of : (e : Expr) (x : Aim) → Contains (aim_step sig_form forms nums f e) x → IsAimOf sig_form (signals_step g e) x
    step_of (expr.Sig s) x c =
        let w : ℕ = (sig_form s.0).width in
        let m = map_of (aim_at s.0) (range_with_len 0 w) x c in
        let r = range_of 0 w m.0 m.1 in
        let own : IsAimOf sig_form (s.0 ∷ []) (aim_at s.0 m.0) = record { of = contains_first s.0 []; index = omega (arith, r.1) } in
        subst (IsAimOf sig_form (s.0 ∷ [])) m.2 own
    step_of (expr.Slice a low width) x c =
        let m = filter_of (within low width) (f a.0) x c in
        moved (g a.0) (g a.0) x m.0 (each a.0 m.0 m.1) (within_bit low width (m.0).bit (m.0).spot x m.2) (λ s here. here)
    step_of (expr.Cat es) x c = joined_of 0 es x c
    step_of (expr.Part a offset width stride) x c =
        let ns : Numbers = nums offset.0 in
        let wide : ℕ = (forms a.0).width in
        let m = filter_of (shifted ns wide width stride) (f a.0) x c in
        let set : ℕ → Bool = λ n. some_number ns wide (λ o. stands_at (m.0).spot (o * stride + n)) in
        moved (g a.0) (g a.0) x m.0 (each a.0 m.0 m.1) (chosen_bit width (m.0).bit set x m.2) (λ s here. here)
    step_of (expr.Pick index es) x c =
        let width : ℕ = (common_of_all forms es).width in
        let items : List ExprId = chosen_items (nums index.0) es in
        let m = filter_of (loose width) (flat_map (λ (a : ExprId). f a.0) items) x c in
        let y = flat_of (λ (a : ExprId). f a.0) items m.0 m.1 in
        let item : Contains es y.0 = chosen_there (nums index.0) es y.0 y.1 in
        moved (g (y.0).0) (flat_map (λ (a : ExprId). g a.0) es) x m.0 (each (y.0).0 m.0 y.2) (chosen_bit width (m.0).bit (stands_at (m.0).spot) x m.2)
        (λ s here. flat_has (λ (a : ExprId). g a.0) es y.0 s item here)
    step_of (expr.Cast a signed) x c = each a.0 x c
    step_of (expr.Const n s) x c = absurd (contains_none x c)
    step_of (expr.Unary o a) x c = absurd (contains_none x c)
    step_of (expr.Binary o a b) x c = absurd (contains_none x c)
    step_of (expr.Mux s a b) x c = absurd (contains_none x c)
    step_of (expr.Matches a patterns) x c = absurd (contains_none x c)
    step_of (expr.Reset domain place) x c = absurd (contains_none x c)

pub aims_of_signals : (pool : Pooled) (k : ℕ) (x : Aim) → Contains (aims pool k) x → IsAimOf (signal_form pool.signals) (target_signals pool k) x
unfolding aims target_signals
aims_of_signals pool k x c =
    let sig_form = signal_form pool.signals in
    related {A = List Aim} {B = List ℕ} [] [] (aim_step sig_form (form pool) (numbers pool)) signals_step (λ xs ss. (y : Aim) → Contains xs y → IsAimOf sig_form ss y) (λ y none. absurd (contains_none y none))
    (λ f g e each. step_of sig_form (form pool) (numbers pool) f g each e) pool.exprs k x c

-- a signal that has a bit is there
with_bit : (sigs : List Sig) (s i : ℕ) → i < (signal_form sigs s).width → s < length sigs
with_bit [] s i h = absurd (omega (arith, h))
with_bit (x ∷ sigs) zero i h = omega arith
with_bit (x ∷ sigs) (suc s) i h = omega (arith, with_bit sigs s i h)

-- ---- below the width of its shape

module _ (pool : Pooled) where
  module _ (k : ℕ) (each : (a : ℕ) → a < k → (x : Aim) → Contains (aims pool a) x → StandsBelow (form pool a).width x.spot) where
    joined_below : (low : ℕ) (es : List ExprId) (x : Aim) → AllBelow k es → Contains (aims_of_all (form pool) (aims pool) low es) x → StandsBelow (low + total_width (form pool) es) x.spot
    joined_below low [] x names c = absurd (contains_none x c)
    joined_below low (e ∷ es) x names c =
        let w : ℕ = (form pool e.0).width in
        ⊎_elim
        (λ (own : Contains (map (raised low) (aims pool e.0)) x).
        let m = map_of (raised low) (aims pool e.0) x own in
        λ j here. let back = raised_back low j (m.0).spot (ap (λ (y : Aim). stands_at y.spot j) m.2 ∙ here) in let inside = each e.0 names.0 m.0 m.1 (j - low) back.1 in omega (arith, back.0, inside))
        (λ (more : Contains (aims_of_all (form pool) (aims pool) (low + w) es) x). λ j here. let inside = joined_below (low + w) es x names.1 more j here in omega (arith, inside))
        (Contains-append_cases (map (raised low) (aims pool e.0)) (aims_of_all (form pool) (aims pool) (low + w) es) x c)

    step_below : (e : Expr) → AllBelow k (named e) → (x : Aim) → Contains (aim_step (signal_form pool.signals) (form pool) (numbers pool) (aims pool) e) x → StandsBelow (form_step pool.signals (form pool) e).width x.spot
    step_below (expr.Sig s) names x c = λ j here.
        let w : ℕ = (signal_form pool.signals s.0).width in
        let m = map_of (aim_at s.0) (range_with_len 0 w) x c in
        let at : m.0 ≡ j = eqb-true m.0 j (ap (λ (y : Aim). stands_at y.spot j) m.2 ∙ here) in
        omega (arith, at, (range_of 0 w m.0 m.1).1)
    step_below (expr.Slice a low width) names x c = λ j here. let m = filter_of (within low width) (aims pool a.0) x c in (within_back low width j (m.0).bit (m.0).spot x m.2 here).1
    step_below (expr.Cat es) names x c = λ j here. let inside = joined_below 0 es x names c j here in omega (arith, inside)
    step_below (expr.Part a offset width stride) names x c = λ j here.
        let ns : Numbers = numbers pool offset.0 in
        let wide : ℕ = (form pool a.0).width in
        let m = filter_of (shifted ns wide width stride) (aims pool a.0) x c in
        (chosen_back width j (m.0).bit (λ n. some_number ns wide (λ o. stands_at (m.0).spot (o * stride + n))) x m.2 here).1
    step_below (expr.Pick index es) names x c = λ j here.
        let width : ℕ = (common_of_all (form pool) es).width in
        let m = filter_of (loose width) (flat_map (λ (a : ExprId). aims pool a.0) (chosen_items (numbers pool index.0) es)) x c in
        (chosen_back width j (m.0).bit (stands_at (m.0).spot) x m.2 here).1
    step_below (expr.Cast a signed) names x c = each a.0 names.0 x c
    step_below (expr.Const n s) names x c = absurd (contains_none x c)
    step_below (expr.Unary o a) names x c = absurd (contains_none x c)
    step_below (expr.Binary o a b) names x c = absurd (contains_none x c)
    step_below (expr.Mux s a b) names x c = absurd (contains_none x c)
    step_below (expr.Matches a patterns) names x c = absurd (contains_none x c)
    step_below (expr.Reset domain place) names x c = absurd (contains_none x c)

  module _ (rules : IsPool pool) where
    all_below : (n k : ℕ) → k < n → (x : Aim) → Contains (aims pool k) x → StandsBelow (form pool k).width x.spot
    all_below zero k below x c = absurd (omega (arith, below))
    all_below (suc n) k below x c =
        let e = element pool.exprs k (aimed_there pool k x c) in
        subst (λ (f : Form). StandsBelow f.width x.spot) (sym (form_is pool k e.0 rules e.1))
        (step_below k (λ a lt. all_below n a (omega (arith, below, lt))) e.0 (standing pool k e.0 rules e.1).names x (subst (λ xs. Contains xs x) (aims_is pool k e.0 rules e.1) c))

    pub aims_are : (k : ℕ) (x : Aim) → Contains (aims pool k) x → IsAim pool k x
    aims_are k x c =
        let a = aims_of_signals pool k x c in
        record { there = with_bit pool.signals x.bit.sig x.bit.index a.index; index = a.index; of = a.of; below = all_below (suc k) k (omega arith) x c }
