-- What a target stands for under a choice of numbers is what it aims at.
use Rattle.std.specs.Prelude.{◌≡◌, refl, ℕ, zero, suc, ◌+◌, ◌-◌, ◌*◌, ◌<◌, ◌≤◌, min, nat_le, nat_lt, ◌&&◌, Bool, true, false, if◌then◌else◌, List, ◌++◌, map, length, take, drop, replicate, slice_get, Option, Some, None, Contains}
use Rattle.std.specs.List.{flat_map, filter_map, range_with_len}
use Rattle.std.proofs.Common.{sym, ◌∙◌, ap, arith, subst, ⊎_elim}
use Rattle.std.proofs.lemmas.Bool.{false≢true, and_from, le-leb, lt-ltb, eq-eqb, eqb-true}
use Rattle.std.proofs.lemmas.List.Elements.{Contains-append_left, Contains-append_right}
use Rattle.std.proofs.Math.ListN.{length-append}
use Rattle.std.proofs.Math.Nat.{mul-le-mul_left}
use Rattle.std.proofs.lemmas.Option.{slice_get_within}
use Rattle.shape_rules.specs.Forms.{Form}
use Rattle.design_ir.specs.declared.ids.ExprId.{ExprId}
use Rattle.design_ir.specs.declared.expr.Expr.TheVariants as expr
use Rattle.design_ir.specs.Pools.{Pooled}
use Rattle.design_ir.specs.PoolRules.{IsPool}
use Rattle.design_ir.specs.Values.{form, signal_form, total_width, common_of_all}
use Rattle.design_ir.specs.Targets.{Bit, bits_of, padded, Numbers, numbers, some_number, chosen_items, Spot, fixed, chosen, Aim, stands_at, chosen_below, raised_spot, raised, within_at, within, shifted, loose, aims_of_all, aim_at, aims}
use Rattle.design_ir.specs.Choices.{IsNumber, StandsFor, whole, sliced, joined, part, item, same, StandForAll, none, and, HasAim}
use Rattle.design_ir.proofs.Elements.{map_has, filter_has, flat_has, any_has, range_has, get_has, get_take_of, get_take, get_drop, get_append_cases}
use Rattle.design_ir.proofs.Equations.{standing, form_is}
use Rattle.design_ir.proofs.TargetLaws.{map_length, range_length, take_length, drop_length, padded_length}
use Rattle.design_ir.proofs.AimSteps.{aims_is}

-- ---- one step of an aim

pub chosen_has : (width j : ℕ) (b : Bit) (set : ℕ → Bool) → j < width → set j ≡ true → chosen_below width b set ≡ Some (record { bit = b; spot = chosen (λ k. nat_lt k width && set k) })
chosen_has width j b set below here = rw (any_has set (range_with_len 0 width) j (range_has 0 width j (omega arith) (omega (arith, below))) here) refl

-- an aim of a list that stands at a place is one of what the list comes to, at a place
pub chosen_aim : (f : Aim → Option Aim) (width : ℕ) (sets : Aim → ℕ → Bool) → ((x : Aim) → f x ≡ chosen_below width x.bit (sets x)) → (xs : List Aim) (b : Bit) (i j : ℕ) → j < width → ((x : Aim) → stands_at x.spot i ≡ true → sets x j ≡ true) → HasAim xs b i → HasAim (filter_map f xs) b j
chosen_aim f width sets is xs b i j below moves h =
    let x : Aim = h.aim in
    let here : sets x j ≡ true = moves x h.stands in
    record {
      aim = record { bit = x.bit; spot = chosen (λ k. nat_lt k width && sets x k) };
      among = filter_has f xs x (record { bit = x.bit; spot = chosen (λ k. nat_lt k width && sets x k) }) h.among (is x ∙ chosen_has width j x.bit (sets x) below here);
      bit = h.bit;
      stands = and_from (nat_lt j width) (sets x j) (lt-ltb j width below) here;
    }

fixed_test : (t : Bool) (x : Aim) → t ≡ true → (if t then Some x else None) ≡ Some x
fixed_test true x e = refl
fixed_test false x e = absurd (false≢true e)

within_spot : (low width j : ℕ) (b : Bit) (s : Spot) → j < width → stands_at s (low + j) ≡ true → (y : Aim) × (within_at low width b s ≡ Some y) × (y.bit ≡ b) × (stands_at y.spot j ≡ true)
within_spot low width j b (fixed i) below here =
    let e : i ≡ low + j = eqb-true i (low + j) here in
    let t : (nat_le low i && nat_lt i (low + width)) ≡ true = and_from (nat_le low i) (nat_lt i (low + width)) (le-leb low i (omega (arith, e))) (lt-ltb i (low + width) (omega (arith, e, below))) in
    (record { bit = b; spot = fixed (i - low) }, fixed_test (nat_le low i && nat_lt i (low + width)) (record { bit = b; spot = fixed (i - low) }) t, refl, eq-eqb (i - low) j (omega (arith, e)))
within_spot low width j b (chosen set) below here =
    (record { bit = b; spot = chosen (λ k. nat_lt k width && set (low + k)) }, chosen_has width j b (λ k. set (low + k)) below here, refl, and_from (nat_lt j width) (set (low + j)) (lt-ltb j width below) here)

has_within : (low width j : ℕ) (b : Bit) (xs : List Aim) → j < width → HasAim xs b (low + j) → HasAim (filter_map (within low width) xs) b j
has_within low width j b xs below h =
    let r = within_spot low width j h.aim.bit h.aim.spot below h.stands in
    record { aim = r.0; among = filter_has (within low width) xs h.aim r.0 h.among r.1; bit = r.2 ∙ h.bit; stands = r.3 }

raised_stands : (by j : ℕ) (s : Spot) → stands_at s j ≡ true → stands_at (raised_spot by s) (by + j) ≡ true
raised_stands by j (fixed i) here = eq-eqb (by + i) (by + j) (ap (λ n. by + n) (eqb-true i j here))
raised_stands by j (chosen set) here =
    and_from (nat_le by (by + j)) (set (by + j - by)) (le-leb by (by + j) (omega arith)) (ap set (let e : by + j - by ≡ j = omega arith in e) ∙ here)

has_raised : (by j : ℕ) (b : Bit) (xs : List Aim) → HasAim xs b j → HasAim (map (raised by) xs) b (by + j)
has_raised by j b xs h = record { aim = raised by h.aim; among = map_has (raised by) xs h.aim h.among; bit = h.bit; stands = raised_stands by j h.aim.spot h.stands }

pub has_left : (b : Bit) (j : ℕ) (xs ys : List Aim) → HasAim xs b j → HasAim (xs ++ ys) b j
has_left b j xs ys h = record { aim = h.aim; among = Contains-append_left xs ys h.aim h.among; bit = h.bit; stands = h.stands }

pub has_right : (b : Bit) (j : ℕ) (xs ys : List Aim) → HasAim ys b j → HasAim (xs ++ ys) b j
has_right b j xs ys h = record { aim = h.aim; among = Contains-append_right xs ys h.aim h.among; bit = h.bit; stands = h.stands }

-- ---- places

no_place : (n j : ℕ) (b : Bit) → slice_get (replicate n None) j ≡ Some (Some b) → ⊥
no_place zero j b e = cc
no_place (suc n) zero b e = cc
no_place (suc n) (suc j) b e = no_place n j b e

-- a place that is not of the padding
pub padded_place : (n : ℕ) (places : List (Option Bit)) (j : ℕ) (b : Bit) → slice_get (padded n places) j ≡ Some (Some b) → (j < n) × (slice_get places j ≡ Some (Some b))
padded_place n places j b e =
    let t = get_take_of n (places ++ replicate n None) j (Some b) e in
    (t.0, ⊎_elim (λ h. h) (λ h. absurd (no_place n (j - length places) b h.1)) (get_append_cases places (replicate n None) j (Some b) t.1))

pub signal_place : (s low n j : ℕ) (b : Bit) → slice_get (map (λ x. Some x) (map (λ i. record { sig = s; index = i }) (range_with_len low n))) j ≡ Some (Some b) → (j < n) × (record { sig = s; index = low + j } ≡ b)
signal_place s low zero j b e = cc
signal_place s low (suc n) zero b e =
    let at : record { sig = s; index = low } ≡ b = cc in
    let i : low + 0 ≡ low = omega arith in
    (omega arith, ap (λ k. record { sig = s; index = k }) i ∙ at)
signal_place s low (suc n) (suc j) b e =
    let r = signal_place s (low + 1) n j b e in
    let i : low + suc j ≡ low + 1 + j = omega arith in
    (omega (arith, r.0), ap (λ k. record { sig = s; index = k }) i ∙ r.1)

module _ (p : Pooled) (rules : IsPool p) where
  -- ---- a place for each bit of the shape

  mutual
    pub stands_length : {k : ℕ} {places : List (Option Bit)} → StandsFor p k places → length places ≡ (form p k).width
    stands_length (whole k s e) =
        let w : ℕ = (signal_form p.signals s.0).width in
        map_length (λ b. Some b) (bits_of s.0 w) ∙ map_length (λ i. record { sig = s.0; index = i }) (range_with_len 0 w) ∙ range_length 0 w ∙ ap (λ (f : Form). f.width) (sym (form_is p k (expr.Sig s) rules e))
    stands_length (sliced k a low width places e h) =
        let long : length places ≡ (form p a.0).width = stands_length h in
        take_length width (drop low places) (omega (arith, drop_length low places, long, (standing p k (expr.Slice a low width) rules e).askable.parts))
        ∙ ap (λ (f : Form). f.width) (sym (form_is p k (expr.Slice a low width) rules e))
    stands_length (joined k es places e h) = all_length h ∙ ap (λ (f : Form). f.width) (sym (form_is p k (expr.Cat es) rules e))
    stands_length (part k a offset width stride o places e n h) = padded_length width (drop (o * stride) places) ∙ ap (λ (f : Form). f.width) (sym (form_is p k (expr.Part a offset width stride) rules e))
    stands_length (item k index es i x places e n at h) = padded_length (common_of_all (form p) es).width places ∙ ap (λ (f : Form). f.width) (sym (form_is p k (expr.Pick index es) rules e))
    stands_length (same k a signed places e h) = stands_length h ∙ ap (λ (f : Form). f.width) (sym (form_is p k (expr.Cast a signed) rules e))

    pub all_length : {es : List ExprId} {places : List (Option Bit)} → StandForAll p es places → length places ≡ total_width (form p) es
    all_length none = refl
    all_length (and e es xs ys h hs) = let a : length xs ≡ (form p e.0).width = stands_length h in let b : length ys ≡ total_width (form p) es = all_length hs in omega (arith, length-append xs ys, a, b)

  -- ---- each place is an aim

  -- an offset's number that leads to a place inside is found among those that are tried
  found_number : (offset : ExprId) (wide stride o j : ℕ) (s : Spot) → IsNumber p offset.0 o → o * stride + j < wide → stands_at s (o * stride + j) ≡ true
      → some_number (numbers p offset.0) wide (λ n. stands_at s (n * stride + j)) ≡ true
  found_number offset wide zero o j s n inside here =
      let ns : Numbers = numbers p offset.0 in
      let i : ns.least * zero + j ≡ o * zero + j = omega arith in
      any_has (λ m. stands_at s (m * zero + j)) (range_with_len ns.least (min (ns.greatest - ns.least) wide + 1)) ns.least (range_has ns.least (min (ns.greatest - ns.least) wide + 1) ns.least (omega arith) (omega arith)) (ap (stands_at s) i ∙ here)
  found_number offset wide (suc stride) o j s n inside here =
      let ns : Numbers = numbers p offset.0 in
      let few : o < wide = omega (arith, inside, mul-le-mul_left o (let one : 1 ≤ suc stride = omega arith in one)) in
      any_has (λ m. stands_at s (m * suc stride + j)) (range_with_len ns.least (min (ns.greatest - ns.least) wide + 1)) o
      (range_has ns.least (min (ns.greatest - ns.least) wide + 1) o n.above (omega (arith, few, n.above, n.below))) here

  -- the item at a place is one of those that are chosen
  item_chosen : (index : ExprId) (i : ℕ) (es : List ExprId) (x : ExprId) → IsNumber p index.0 i → slice_get es (min i (length es - 1)) ≡ Some x → Contains (chosen_items (numbers p index.0) es) x
  item_chosen index i es x n e =
      let ns : Numbers = numbers p index.0 in
      let low : ℕ = min ns.least (length es - 1) in
      let at : ℕ = min i (length es - 1) in
      let d : low + (at - low) ≡ at = omega (arith, n.above) in
      get_has (chosen_items ns es) (at - low) x
      (get_drop low (take (ns.greatest + 1) es) (at - low) ∙ ap (slice_get (take (ns.greatest + 1) es)) d ∙ get_take (ns.greatest + 1) es at x (omega (arith, n.below)) e)

  mutual
    pub places_are : {k : ℕ} {places : List (Option Bit)} → StandsFor p k places → (b : Bit) (j : ℕ) → slice_get places j ≡ Some (Some b) → HasAim (aims p k) b j
    places_are (whole k s e) b j at =
        let w : ℕ = (signal_form p.signals s.0).width in
        let r = signal_place s.0 0 w j b at in
        let i : 0 + j ≡ j = omega arith in
        let is : aims p k ≡ map (aim_at s.0) (range_with_len 0 w) = aims_is p k (expr.Sig s) rules e in
        subst (λ xs. HasAim xs b j) (sym is) (record {
          aim = aim_at s.0 j;
          among = map_has (aim_at s.0) (range_with_len 0 w) j (range_has 0 w j (omega arith) (omega (arith, r.0)));
          bit = ap (λ n. record { sig = s.0; index = n }) (sym i) ∙ r.1;
          stands = eq-eqb j j refl;
        })
    places_are (sliced k a low width places e h) b j at =
        let r = get_take_of width (drop low places) j (Some b) at in
        let is : aims p k ≡ filter_map (within low width) (aims p a.0) = aims_is p k (expr.Slice a low width) rules e in
        subst (λ xs. HasAim xs b j) (sym is) (has_within low width j b (aims p a.0) r.0 (places_are h b (low + j) (sym (get_drop low places j) ∙ r.1)))
    places_are (joined k es places e h) b j at =
        let i : 0 + j ≡ j = omega arith in
        let is : aims p k ≡ aims_of_all (form p) (aims p) 0 es = aims_is p k (expr.Cat es) rules e in
        subst (λ xs. HasAim xs b j) (sym is) (subst (λ n. HasAim (aims_of_all (form p) (aims p) 0 es) b n) i (all_are h 0 b j at))
    places_are (part k a offset width stride o places e n h) b j at =
        let r = padded_place width (drop (o * stride) places) j b at in
        let here : slice_get places (o * stride + j) ≡ Some (Some b) = sym (get_drop (o * stride) places j) ∙ r.1 in
        let wide : ℕ = (form p a.0).width in
        let inside : o * stride + j < wide = omega (arith, slice_get_within places (o * stride + j) (Some b) here, stands_length h) in
        let is : aims p k ≡ filter_map (shifted (numbers p offset.0) wide width stride) (aims p a.0) = aims_is p k (expr.Part a offset width stride) rules e in
        subst (λ xs. HasAim xs b j) (sym is)
        (chosen_aim (shifted (numbers p offset.0) wide width stride) width (λ x m. some_number (numbers p offset.0) wide (λ q. stands_at x.spot (q * stride + m))) (λ x. refl) (aims p a.0) b (o * stride + j) j r.0
        (λ x stands. found_number offset wide stride o j x.spot n inside stands) (places_are h b (o * stride + j) here))
    places_are (item k index es i x places e n at h) b j here =
        let width : ℕ = (common_of_all (form p) es).width in
        let r = padded_place width places j b here in
        let own : HasAim (aims p x.0) b j = places_are h b j r.1 in
        let items : List ExprId = chosen_items (numbers p index.0) es in
        let is : aims p k ≡ filter_map (loose width) (flat_map (λ (a : ExprId). aims p a.0) items) = aims_is p k (expr.Pick index es) rules e in
        subst (λ xs. HasAim xs b j) (sym is)
        (chosen_aim (loose width) width (λ y. stands_at y.spot) (λ y. refl) (flat_map (λ (a : ExprId). aims p a.0) items) b j j r.0 (λ y stands. stands)
        (record { aim = own.aim; among = flat_has (λ (a : ExprId). aims p a.0) items x own.aim (item_chosen index i es x n at) own.among; bit = own.bit; stands = own.stands }))
    places_are (same k a signed places e h) b j at =
        let is : aims p k ≡ aims p a.0 = aims_is p k (expr.Cast a signed) rules e in
        subst (λ xs. HasAim xs b j) (sym is) (places_are h b j at)

    all_are : {es : List ExprId} {places : List (Option Bit)} → StandForAll p es places → (low : ℕ) (b : Bit) (j : ℕ) → slice_get places j ≡ Some (Some b) → HasAim (aims_of_all (form p) (aims p) low es) b (low + j)
    all_are none low b j at = cc
    all_are (and e es xs ys h hs) low b j at =
        let w : ℕ = (form p e.0).width in
        let mine : List Aim = map (raised low) (aims p e.0) in
        let others : List Aim = aims_of_all (form p) (aims p) (low + w) es in
        let long : length xs ≡ w = stands_length h in
        ⊎_elim
        (λ (here : slice_get xs j ≡ Some (Some b)). has_left b (low + j) mine others (has_raised low j b (aims p e.0) (places_are h b j here)))
        (λ (there : (length xs ≤ j) × (slice_get ys (j - length xs) ≡ Some (Some b))).
        let i : low + w + (j - length xs) ≡ low + j = omega (arith, there.0, long) in
        has_right b (low + j) mine others (subst (λ n. HasAim others b n) i (all_are hs (low + w) b (j - length xs) there.1)))
        (get_append_cases xs ys j (Some b) at)
