-- Each aim stands somewhere, and one at a fixed place stands there whatever the offsets and indices are.
use Rattle.std.specs.Prelude.{◌≡◌, refl, ℕ, ◌+◌, ◌-◌, ◌*◌, ◌<◌, ◌≤◌, nat_le, nat_lt, ◌&&◌, Bool, true, false, if◌then◌else◌, List, [], ◌∷◌, ◌++◌, map, length, drop, slice_get, Option, Some, None, Contains}
use Rattle.std.specs.List.{flat_map, list_any, range_with_len}
use Rattle.std.proofs.Common.{sym, ◌∙◌, ap, arith, subst, ⊎_elim}
use Rattle.std.proofs.lemmas.Bool.{and_parts, and_from, leb-true, ltb-true, lt-ltb, le-leb, eq-eqb}
use Rattle.std.proofs.lemmas.List.Elements.{Contains-append_cases}
use Rattle.shape_rules.specs.Forms.{Form}
use Rattle.design_ir.specs.declared.ids.ExprId.{ExprId}
use Rattle.design_ir.specs.declared.expr.Expr.{Expr}
use Rattle.design_ir.specs.declared.expr.Expr.TheVariants as expr
use Rattle.design_ir.specs.Pools.{Pooled}
use Rattle.design_ir.specs.PoolRules.{IsPool}
use Rattle.design_ir.specs.Values.{form, signal_form, common_of_all}
use Rattle.design_ir.specs.Targets.{Bit, Numbers, numbers, some_number, chosen_items, Spot, fixed, chosen, Aim, stands_at, chosen_below, raised_spot, raised, within_at, within, shifted, loose, aims_of_all, aim_at, aim_step, aims}
use Rattle.design_ir.specs.Choices.{StandsFor, whole, sliced, joined, part, item, same, StandForAll, none, and, AimsStand, FixedAimsStay}
use Rattle.design_ir.proofs.Elements.{some_is, contains_none, map_of, filter_of, any_of, range_of, get_take, get_drop, get_append_left, get_append_right}
use Rattle.design_ir.proofs.Related.{related}
use Rattle.design_ir.proofs.AimSteps.{aims_is}
use Rattle.design_ir.proofs.ChoiceLaws.{stands_length}
use Rattle.design_ir.proofs.AimLaws.{bit_at, signal_has}

-- ---- each aim stands somewhere

abbrev Stands : Aim → Type 0
Stands x = (j : ℕ) × (stands_at x.spot j ≡ true)

abbrev AllStand : List Aim → Type 0
AllStand xs = (x : Aim) → Contains xs x → Stands x

chosen_stands : (width : ℕ) (b : Bit) (set : ℕ → Bool) (x : Aim) → chosen_below width b set ≡ Some x → Stands x
chosen_stands width b set x e = tested (list_any set (range_with_len 0 width)) refl e
  where
    tested : (t : Bool) → list_any set (range_with_len 0 width) ≡ t → (if t then Some (record { bit = b; spot = chosen (λ k. nat_lt k width && set k) }) else None) ≡ Some x → Stands x
    tested false is e = cc
    tested true is e =
        let k = any_of set (range_with_len 0 width) is in
        let r = range_of 0 width k.0 k.1 in
        let at : record { bit = b; spot = chosen (λ k. nat_lt k width && set k) } ≡ x = some_is (record { bit = b; spot = chosen (λ k. nat_lt k width && set k) }) x e in
        subst Stands at (k.0, and_from (nat_lt k.0 width) (set k.0) (lt-ltb k.0 width (omega (arith, r.1))) k.2)

within_stands : (low width : ℕ) (b : Bit) (s : Spot) (x : Aim) → within_at low width b s ≡ Some x → Stands x
within_stands low width b (fixed i) x e = tested (nat_le low i && nat_lt i (low + width)) e
  where
    tested : (t : Bool) → (if t then Some (record { bit = b; spot = fixed (i - low) }) else None) ≡ Some x → Stands x
    tested false e = cc
    tested true e = subst Stands (some_is (record { bit = b; spot = fixed (i - low) }) x e) (i - low, eq-eqb (i - low) (i - low) refl)
within_stands low width b (chosen set) x e = chosen_stands width b (λ k. set (low + k)) x e

raised_stands : (by : ℕ) (s : Spot) → (j : ℕ) × (stands_at s j ≡ true) → (j : ℕ) × (stands_at (raised_spot by s) j ≡ true)
raised_stands by (fixed i) h = (by + i, eq-eqb (by + i) (by + i) refl)
raised_stands by (chosen set) h =
    let back : by + h.0 - by ≡ h.0 = omega arith in
    (by + h.0, and_from (nat_le by (by + h.0)) (set (by + h.0 - by)) (le-leb by (by + h.0) (omega arith)) (ap set back ∙ h.1))

module _ (sig_form forms : ℕ → Form) (nums : ℕ → Numbers) (f : ℕ → List Aim) (each : (k : ℕ) → AllStand (f k)) where
  joined_stand : (low : ℕ) (es : List ExprId) → AllStand (aims_of_all forms f low es)
  joined_stand low [] x c = absurd (contains_none x c)
  joined_stand low (e ∷ es) x c =
      ⊎_elim
      (λ (mine : Contains (map (raised low) (f e.0)) x). let m = map_of (raised low) (f e.0) x mine in subst Stands m.2 (raised_stands low (m.0).spot (each e.0 m.0 m.1)))
      (λ (more : Contains (aims_of_all forms f (low + (forms e.0).width) es) x). joined_stand (low + (forms e.0).width) es x more)
      (Contains-append_cases (map (raised low) (f e.0)) (aims_of_all forms f (low + (forms e.0).width) es) x c)

  step_stand : (e : Expr) → AllStand (aim_step sig_form forms nums f e)
  step_stand (expr.Sig s) x c = let m = map_of (aim_at s.0) (range_with_len 0 (sig_form s.0).width) x c in subst Stands m.2 (m.0, eq-eqb m.0 m.0 refl)
  step_stand (expr.Slice a low width) x c = let m = filter_of (within low width) (f a.0) x c in within_stands low width (m.0).bit (m.0).spot x m.2
  step_stand (expr.Cat es) x c = joined_stand 0 es x c
  step_stand (expr.Part a offset width stride) x c =
      let ns : Numbers = nums offset.0 in
      let wide : ℕ = (forms a.0).width in
      let m = filter_of (shifted ns wide width stride) (f a.0) x c in
      chosen_stands width (m.0).bit (λ k. some_number ns wide (λ o. stands_at (m.0).spot (o * stride + k))) x m.2
  step_stand (expr.Pick index es) x c =
      let width : ℕ = (common_of_all forms es).width in
      let m = filter_of (loose width) (flat_map (λ (a : ExprId). f a.0) (chosen_items (nums index.0) es)) x c in
      chosen_stands width (m.0).bit (stands_at (m.0).spot) x m.2
  step_stand (expr.Cast a signed) x c = each a.0 x c
  step_stand (expr.Const n s) x c = absurd (contains_none x c)
  step_stand (expr.Unary o a) x c = absurd (contains_none x c)
  step_stand (expr.Binary o a b) x c = absurd (contains_none x c)
  step_stand (expr.Mux s a b) x c = absurd (contains_none x c)
  step_stand (expr.Matches a patterns) x c = absurd (contains_none x c)
  step_stand (expr.Reset domain place) x c = absurd (contains_none x c)

pub aims_stand : (p : Pooled) → AimsStand p
unfolding aims
aims_stand p k x c =
    let step = aim_step (signal_form p.signals) (form p) (numbers p) in
    related {A = List Aim} {B = ℕ} [] 0 step (λ g e. 0) (λ xs n. AllStand xs) (λ y none. absurd (contains_none y none)) (λ f g e each. step_stand (signal_form p.signals) (form p) (numbers p) f each e) p.exprs k x c

-- ---- fixed places

abbrev aim : Bit → Spot → Aim
aim b s = record { bit = b; spot = s }

never_fixed : (t : Bool) (b c : Bit) (set : ℕ → Bool) (j : ℕ) → (if t then Some (aim b (chosen set)) else None) ≡ Some (aim c (fixed j)) → ⊥
never_fixed false b c set j e = cc
never_fixed true b c set j e = let at : aim b (chosen set) ≡ aim c (fixed j) = some_is (aim b (chosen set)) (aim c (fixed j)) e in let spots : chosen set ≡ fixed j = ap (λ (x : Aim). x.spot) at in cc

within_fixed : (low width j : ℕ) (b c : Bit) (s : Spot) → within_at low width b s ≡ Some (aim c (fixed j)) → (b ≡ c) × (s ≡ fixed (low + j)) × (j < width)
within_fixed low width j b c (chosen set) e = absurd (never_fixed (list_any (λ k. set (low + k)) (range_with_len 0 width)) b c (λ k. nat_lt k width && set (low + k)) j e)
within_fixed low width j b c (fixed i) e = tested (nat_le low i && nat_lt i (low + width)) refl e
  where
    tested : (t : Bool) → (nat_le low i && nat_lt i (low + width)) ≡ t → (if t then Some (aim b (fixed (i - low))) else None) ≡ Some (aim c (fixed j)) → (b ≡ c) × (fixed i ≡ fixed (low + j)) × (j < width)
    tested false is e = cc
    tested true is e =
        let at : aim b (fixed (i - low)) ≡ aim c (fixed j) = some_is (aim b (fixed (i - low))) (aim c (fixed j)) e in
        let bits : b ≡ c = ap (λ (x : Aim). x.bit) at in
        let spots : fixed (i - low) ≡ fixed j = ap (λ (x : Aim). x.spot) at in
        let place : i - low ≡ j = cc in
        let t = and_parts (nat_le low i) (nat_lt i (low + width)) is in
        let from : low ≤ i = leb-true low i t.0 in
        let upto : i < low + width = ltb-true i (low + width) t.1 in
        (bits, ap fixed (let n : i ≡ low + j = omega (arith, from, place) in n), omega (arith, from, upto, place))

raised_fixed : (by j : ℕ) (s : Spot) → raised_spot by s ≡ fixed j → (i : ℕ) × (s ≡ fixed i) × (by + i ≡ j)
raised_fixed by j (fixed i) e = (i, refl, cc)
raised_fixed by j (chosen set) e = absurd cc

module _ (p : Pooled) (rules : IsPool p) where
  mutual
    pub stays : {k : ℕ} {places : List (Option Bit)} → StandsFor p k places → (b : Bit) (j : ℕ) → Contains (aims p k) (aim b (fixed j)) → slice_get places j ≡ Some (Some b)
    stays (whole k s e) b j c =
        let w : ℕ = (signal_form p.signals s.0).width in
        let m = map_of (aim_at s.0) (range_with_len 0 w) (aim b (fixed j)) (subst (λ xs. Contains xs (aim b (fixed j))) (aims_is p k (expr.Sig s) rules e) c) in
        let r = range_of 0 w m.0 m.1 in
        let bits : bit_at s.0 m.0 ≡ b = ap (λ (x : Aim). x.bit) m.2 in
        let spots : fixed m.0 ≡ fixed j = ap (λ (x : Aim). x.spot) m.2 in
        let i : m.0 ≡ j = cc in
        let at : 0 + j ≡ m.0 = omega (arith, i) in
        signal_has s.0 0 w j (omega (arith, r.1, i)) ∙ ap (λ n. Some (Some (bit_at s.0 n))) at ∙ ap (λ x. Some (Some x)) bits
    stays (sliced k a low width places e h) b j c =
        let m = filter_of (within low width) (aims p a.0) (aim b (fixed j)) (subst (λ xs. Contains xs (aim b (fixed j))) (aims_is p k (expr.Slice a low width) rules e) c) in
        let back = within_fixed low width j (m.0).bit b (m.0).spot m.2 in
        let same-aim : m.0 ≡ record { bit = b; spot = fixed (low + j) } = λ i. record { bit = back.0 i; spot = back.1 i } in
        get_take width (drop low places) j (Some b) back.2 (get_drop low places j ∙ stays h b (low + j) (subst (λ x. Contains (aims p a.0) x) same-aim m.1))
    stays (joined k es places e h) b j c =
        let i : j - 0 ≡ j = omega arith in
        ap (slice_get places) (sym i) ∙ (all_stay h 0 b j (subst (λ xs. Contains xs (aim b (fixed j))) (aims_is p k (expr.Cat es) rules e) c)).1
    stays (part k a offset width stride o places e n h) b j c =
        let ns : Numbers = numbers p offset.0 in
        let wide : ℕ = (form p a.0).width in
        let m = filter_of (shifted ns wide width stride) (aims p a.0) (aim b (fixed j)) (subst (λ xs. Contains xs (aim b (fixed j))) (aims_is p k (expr.Part a offset width stride) rules e) c) in
        let set : ℕ → Bool = λ i. some_number ns wide (λ q. stands_at (m.0).spot (q * stride + i)) in
        absurd (never_fixed (list_any set (range_with_len 0 width)) (m.0).bit b (λ i. nat_lt i width && set i) j m.2)
    stays (item k index es i x places e n at h) b j c =
        let width : ℕ = (common_of_all (form p) es).width in
        let m = filter_of (loose width) (flat_map (λ (a : ExprId). aims p a.0) (chosen_items (numbers p index.0) es)) (aim b (fixed j)) (subst (λ xs. Contains xs (aim b (fixed j))) (aims_is p k (expr.Pick index es) rules e) c) in
        absurd (never_fixed (list_any (stands_at (m.0).spot) (range_with_len 0 width)) (m.0).bit b (λ i. nat_lt i width && stands_at (m.0).spot i) j m.2)
    stays (same k a signed places e h) b j c = stays h b j (subst (λ xs. Contains xs (aim b (fixed j))) (aims_is p k (expr.Cast a signed) rules e) c)

    all_stay : {es : List ExprId} {places : List (Option Bit)} → StandForAll p es places → (low : ℕ) (b : Bit) (j : ℕ) → Contains (aims_of_all (form p) (aims p) low es) (aim b (fixed j)) → (low ≤ j) × (slice_get places (j - low) ≡ Some (Some b))
    all_stay none low b j c = absurd (contains_none (aim b (fixed j)) c)
    all_stay (and e es xs ys h hs) low b j c =
        let w : ℕ = (form p e.0).width in
        let long : length xs ≡ w = stands_length p rules h in
        ⊎_elim
        (λ (mine : Contains (map (raised low) (aims p e.0)) (aim b (fixed j))).
        let m = map_of (raised low) (aims p e.0) (aim b (fixed j)) mine in
        let bits : (m.0).bit ≡ b = ap (λ (x : Aim). x.bit) m.2 in
        let back = raised_fixed low j (m.0).spot (ap (λ (x : Aim). x.spot) m.2) in
        let same-aim : m.0 ≡ record { bit = b; spot = fixed back.0 } = λ i. record { bit = bits i; spot = back.1 i } in
        let at : j - low ≡ back.0 = omega (arith, back.2) in
        (omega (arith, back.2), get_append_left xs ys (j - low) (Some b) (ap (slice_get xs) at ∙ stays h b back.0 (subst (λ x. Contains (aims p e.0) x) same-aim m.1))))
        (λ (more : Contains (aims_of_all (form p) (aims p) (low + w) es) (aim b (fixed j))).
        let rest = all_stay hs (low + w) b j more in
        let at : j - low ≡ length xs + (j - (low + w)) = omega (arith, rest.0, long) in
        (omega (arith, rest.0), ap (slice_get (xs ++ ys)) at ∙ get_append_right xs ys (j - (low + w)) ∙ rest.1))
        (Contains-append_cases (map (raised low) (aims p e.0)) (aims_of_all (form p) (aims p) (low + w) es) (aim b (fixed j)) c)

  pub fixed_aims_stay : FixedAimsStay p
  fixed_aims_stay = λ k places b j h c. stays h b j c
