-- The places that the writes of a part and of an item fill.
use Rattle.std.specs.Prelude.{◌≡◌, ◌≢◌, refl, ℕ, zero, suc, ◌+◌, ◌-◌, ◌*◌, ◌<◌, ◌≤◌, min, nat_le, ◌==◌, ◌&&◌, Bool, true, false, if◌then◌else◌, List, [], ◌∷◌, ◌++◌, map, length, take, drop, slice_get, ℤ, unsigned_abs, Option, Some}
use Rattle.std.specs.List.{flat_map, filter_map, range_with_len, enumerate_from}
use Rattle.std.proofs.Common.{sym, ◌∙◌, ap, arith, ⊎_elim, append-nil}
use Rattle.std.proofs.lemmas.Bool.{cond-true, cond-false, and_from, and_parts, le-leb, lt-leb, eq-eqb, ne_eqb, eqb-true, eqb-false, leb-true, cases_lt, cases_eq}
use Rattle.std.proofs.lemmas.Grind.{flat_map-append}
use Rattle.std.proofs.lemmas.List.{drop_all}
use Rattle.std.proofs.Math.Nat.{mul-le-mul_left}
use Rattle.design_ir.specs.declared.ids.ExprId.{ExprId}
use Rattle.design_ir.specs.Pools.{Pooled}
use Rattle.design_ir.specs.Values.{num}
use Rattle.design_ir.specs.Targets.{Bit, Numbers, padded}
use Rattle.flat_design.specs.declared.writes.Test.{Test}
use Rattle.flat_design.specs.declared.writes.Write.{Write}
use Rattle.flat_design.specs.Activity.{test_holds}
use Rattle.flat_design.specs.Writes.{cut, tested, is_number, is_no_less, part_at, parts_at, item_at}
use Rattle.flat_design.proofs.Placings.{occupied, window, take_none, filter_window, occupied_padded}
use Rattle.flat_design.proofs.WritePlaces.{filled, placed, placed_cut, placed_kept, placed_lost}

-- ---- lists

flat_flat : {A B C : Type 0} (f : B → List C) (g : A → List B) (xs : List A) → flat_map f (flat_map g xs) ≡ flat_map (λ x. flat_map f (g x)) xs
flat_flat f g [] = refl
flat_flat f g (x ∷ xs) = flat_map-append f (g x) (flat_map g xs) ∙ ap (λ ys. flat_map f (g x) ++ ys) (flat_flat f g xs)

-- a range in which one number alone gives something
range_none : {A : Type 0} (f : ℕ → List A) (a n : ℕ) → ((o : ℕ) → a ≤ o → o < a + n → f o ≡ []) → flat_map f (range_with_len a n) ≡ []
range_none f a zero none = refl
range_none f a (suc n) none = ap (λ xs. xs ++ flat_map f (range_with_len (a + 1) n)) (none a (omega arith) (omega arith)) ∙ range_none f (a + 1) n (λ o from upto. none o (omega (arith, from)) (omega (arith, upto)))

range_one : {A : Type 0} (f : ℕ → List A) (x a n : ℕ) → a ≤ x → x < a + n → ((o : ℕ) → a ≤ o → o < a + n → o ≢ x → f o ≡ []) → flat_map f (range_with_len a n) ≡ f x
range_one f x a zero from upto others = absurd (omega (arith, from, upto))
range_one f x a (suc n) from upto others =
    ⊎_elim
    (λ (e : a ≡ x).
    ap (λ xs. f a ++ xs) (range_none f (a + 1) n (λ o low high. others o (omega (arith, low)) (omega (arith, high)) (λ same. omega (arith, same, e, low)))) ∙ append-nil (f a) ∙ ap f e)
    (λ (other : a ≡ x → ⊥).
    ap (λ xs. xs ++ flat_map f (range_with_len (a + 1) n)) (others a (omega arith) (omega arith) other)
    ∙ range_one f x (a + 1) n (omega (arith, from, other)) (omega (arith, upto)) (λ o low high. others o (omega (arith, low)) (omega (arith, high))))
    (cases_eq a x)

-- items of which one alone gives something
items_none : {A : Type 0} (f : (ℕ × ExprId) → List A) (a : ℕ) (es : List ExprId) → ((i : ℕ) (e : ExprId) → a ≤ i → i < a + length es → f (i, e) ≡ []) → flat_map f (enumerate_from a es) ≡ []
items_none f a [] none = refl
items_none f a (e ∷ es) none =
    ap (λ xs. xs ++ flat_map f (enumerate_from (a + 1) es)) (none a e (omega arith) (omega arith)) ∙ items_none f (a + 1) es (λ i x from upto. none i x (omega (arith, from)) (omega (arith, upto)))

items_one : {A : Type 0} (f : (ℕ × ExprId) → List A) (a x : ℕ) (es : List ExprId) (e : ExprId) → slice_get es x ≡ Some e → ((i : ℕ) (y : ExprId) → a ≤ i → i < a + length es → i ≢ a + x → f (i, y) ≡ []) → flat_map f (enumerate_from a es) ≡ f (a + x, e)
items_one f a x [] e at others = cc
items_one f a zero (y ∷ es) e at others =
    let same : y ≡ e = cc in
    let here : a ≡ a + 0 = omega arith in
    ap (λ xs. f (a, y) ++ xs) (items_none f (a + 1) es (λ i z from upto. others i z (omega (arith, from)) (omega (arith, upto)) (λ eq. omega (arith, eq, from)))) ∙ append-nil (f (a, y)) ∙ (λ t. f (here t, same t))
items_one f a (suc x) (y ∷ es) e at others =
    let there : a + 1 + x ≡ a + suc x = omega arith in
    ap (λ xs. xs ++ flat_map f (enumerate_from (a + 1) es)) (others a y (omega arith) (omega arith) (λ eq. omega (arith, eq)))
    ∙ items_one f (a + 1) x es e at (λ i z from upto ne. others i z (omega (arith, from)) (omega (arith, upto)) (λ eq. ne (omega (arith, eq)))) ∙ ap (λ i. f (i, e)) there

-- a stride that moves the part
pub strided : (n : Numbers) (offset : ExprId) (wide width stride : ℕ) (whole : List Write) → parts_at n offset wide width (suc stride) whole ≡ flat_map (part_at n offset width (suc stride) whole) (range_with_len n.least (min (n.greatest - n.least) wide + 1))
strided n offset wide width stride whole =
    cond-false (suc stride == 0) (filter_map (cut 0 width) whole) (flat_map (part_at n offset width (suc stride) whole) (range_with_len n.least (min (n.greatest - n.least) wide + 1))) (ne_eqb (suc stride) 0 (λ e. omega (arith, e)))

module _ (p : Pooled) (env : List ℤ) where
  -- ---- parts

  placed_flat : {A : Type 0} (g : A → List Write) (xs : List A) → placed p env (flat_map g xs) ≡ flat_map (λ x. placed p env (g x)) xs
  placed_flat g xs = flat_flat (filled p env) g xs

  module _ (n : Numbers) (offset : ExprId) (width stride : ℕ) (whole : List Write) (above : n.least ≤ unsigned_abs (num p env offset.0)) (below : unsigned_abs (num p env offset.0) ≤ n.greatest) where
    part_here : placed p env (part_at n offset width stride whole (unsigned_abs (num p env offset.0))) ≡ filter_map (window (unsigned_abs (num p env offset.0) * stride) width) (placed p env whole)
    part_here =
        let o : ℕ = unsigned_abs (num p env offset.0) in
        placed_kept p env n (is_number offset o) (filter_map (cut (o * stride) width) whole) (eq-eqb o o refl) ∙ placed_cut p env (o * stride) width whole

    part_elsewhere : (o : ℕ) → n.least ≤ o → o ≤ n.greatest → o ≢ unsigned_abs (num p env offset.0) → placed p env (part_at n offset width stride whole o) ≡ []
    part_elsewhere o from upto other =
        placed_lost p env n (is_number offset o) (filter_map (cut (o * stride) width) whole) (λ e. other (omega (arith, e, from, upto, above, below))) (ne_eqb (unsigned_abs (num p env offset.0)) o (λ e. other (sym e)))

    parts_inside : (wide : ℕ) → unsigned_abs (num p env offset.0) < n.least + (min (n.greatest - n.least) wide + 1) → placed p env (flat_map (part_at n offset width stride whole) (range_with_len n.least (min (n.greatest - n.least) wide + 1))) ≡ filter_map (window (unsigned_abs (num p env offset.0) * stride) width) (placed p env whole)
    parts_inside wide upto =
        placed_flat (part_at n offset width stride whole) (range_with_len n.least (min (n.greatest - n.least) wide + 1))
        ∙ range_one (λ o. placed p env (part_at n offset width stride whole o)) (unsigned_abs (num p env offset.0)) n.least (min (n.greatest - n.least) wide + 1) above upto (λ o low high other. part_elsewhere o low (omega (arith, high, low, above, below)) other)
        ∙ part_here

    parts_outside : (wide : ℕ) → n.least + (min (n.greatest - n.least) wide + 1) ≤ unsigned_abs (num p env offset.0) → placed p env (flat_map (part_at n offset width stride whole) (range_with_len n.least (min (n.greatest - n.least) wide + 1))) ≡ []
    parts_outside wide past =
        placed_flat (part_at n offset width stride whole) (range_with_len n.least (min (n.greatest - n.least) wide + 1))
        ∙ range_none (λ o. placed p env (part_at n offset width stride whole o)) n.least (min (n.greatest - n.least) wide + 1) (λ o low high. part_elsewhere o low (omega (arith, high, low, above, below)) (λ e. omega (arith, e, high, past)))

    -- the window of the places is what the part stands for
    part_window : (places : List (Option Bit)) → placed p env whole ≡ occupied 0 places → filter_map (window (unsigned_abs (num p env offset.0) * stride) width) (placed p env whole) ≡ occupied 0 (padded width (drop (unsigned_abs (num p env offset.0) * stride) places))
    part_window places is =
        let low : ℕ = unsigned_abs (num p env offset.0) * stride in
        ap (filter_map (window low width)) is ∙ filter_window low width 0 low places (omega arith) ∙ sym (occupied_padded width 0 (drop low places))

  pub part_placed : (n : Numbers) (offset : ExprId) (wide width stride : ℕ) (whole : List Write) (places : List (Option Bit)) → n.least ≤ unsigned_abs (num p env offset.0) → unsigned_abs (num p env offset.0) ≤ n.greatest → length places ≤ wide → placed p env whole ≡ occupied 0 places
      → placed p env (parts_at n offset wide width stride whole) ≡ occupied 0 (padded width (drop (unsigned_abs (num p env offset.0) * stride) places))
  part_placed n offset wide width zero whole places above below long is =
      let o : ℕ = unsigned_abs (num p env offset.0) in
      let still : 0 ≡ o * zero = omega arith in
      placed_cut p env 0 width whole ∙ ap (λ low. filter_map (window low width) (placed p env whole)) still ∙ part_window n offset width zero whole above below places is
  part_placed n offset wide width (suc stride) whole places above below long is =
      let o : ℕ = unsigned_abs (num p env offset.0) in
      let count : ℕ = min (n.greatest - n.least) wide + 1 in
      ap (placed p env) (strided n offset wide width stride whole)
      ∙ ⊎_elim
      (λ (upto : o < n.least + count). parts_inside n offset width (suc stride) whole above below wide upto ∙ part_window n offset width (suc stride) whole above below places is)
      (λ (past : n.least + count ≤ o).
      let far : wide < o = omega (arith, past, below) in
      let over : o ≤ o * suc stride = omega (arith, mul-le-mul_left o (let one : 1 ≤ suc stride = omega arith in one)) in
      let none : drop (o * suc stride) places ≡ [] = drop_all (o * suc stride) places (omega (arith, long, far, over)) in
      parts_outside n offset width (suc stride) whole above below wide past ∙ sym (occupied_padded width 0 (drop (o * suc stride) places) ∙ ap (λ xs. occupied 0 (take width xs)) none ∙ ap (occupied 0) (take_none width)))
      (cases_lt o (n.least + count))

  -- ---- items

  module _ (n : Numbers) (index : ExprId) (last : ℕ) (writes : ℕ → List Write) (above : n.least ≤ unsigned_abs (num p env index.0)) (below : unsigned_abs (num p env index.0) ≤ n.greatest) where
    picked_test : (b : Bool) (i : ℕ) → b ≡ (i == last) → i ≡ min (unsigned_abs (num p env index.0)) last → test_holds p env (if b then is_no_less index i else is_number index i) ≡ true
    picked_test true i is e = le-leb i (unsigned_abs (num p env index.0)) (omega (arith, e))
    picked_test false i is e = eq-eqb (unsigned_abs (num p env index.0)) i (let ne : i ≢ last = eqb-false i last (sym is) in omega (arith, e, ne))

    other_test : (b : Bool) (i : ℕ) → b ≡ (i == last) → i ≤ last → i ≢ min (unsigned_abs (num p env index.0)) last → test_holds p env (if b then is_no_less index i else is_number index i) ≡ false
    other_test true i is upto e = lt-leb i (unsigned_abs (num p env index.0)) (let same : i ≡ last = eqb-true i last (sym is) in omega (arith, e, same))
    other_test false i is upto e = ne_eqb (unsigned_abs (num p env index.0)) i (λ same. e (omega (arith, same, upto)))

    item_here : (i : ℕ) (e : ExprId) → i ≡ min (unsigned_abs (num p env index.0)) last → placed p env (item_at n index last writes (i, e)) ≡ placed p env (writes e.0)
    item_here i e is =
        let t : Test = if i == last then is_no_less index i else is_number index i in
        ap (placed p env) (cond-true (nat_le (min n.least last) i && nat_le i n.greatest) (map (tested n t) (writes e.0)) [] (and_from (nat_le (min n.least last) i) (nat_le i n.greatest) (le-leb (min n.least last) i (omega (arith, is, above))) (le-leb i n.greatest (omega (arith, is, below)))))
        ∙ placed_kept p env n t (writes e.0) (picked_test (i == last) i refl is)

    item_tested : (b : Bool) (i : ℕ) (e : ExprId) → b ≡ (nat_le (min n.least last) i && nat_le i n.greatest) → i ≤ last → i ≢ min (unsigned_abs (num p env index.0)) last
        → placed p env (if b then map (tested n (if i == last then is_no_less index i else is_number index i)) (writes e.0) else []) ≡ []
    item_tested false i e is upto other = refl
    item_tested true i e is upto other =
        let r = and_parts (nat_le (min n.least last) i) (nat_le i n.greatest) (sym is) in
        let from : min n.least last ≤ i = leb-true (min n.least last) i r.0 in
        let to : i ≤ n.greatest = leb-true i n.greatest r.1 in
        placed_lost p env n (if i == last then is_no_less index i else is_number index i) (writes e.0) (λ same. other (omega (arith, same, from, to, above, below, upto))) (other_test (i == last) i refl upto other)

    pub items_placed : (es : List ExprId) (e : ExprId) → last ≡ length es - 1 → slice_get es (min (unsigned_abs (num p env index.0)) last) ≡ Some e → placed p env (flat_map (item_at n index last writes) (enumerate_from 0 es)) ≡ placed p env (writes e.0)
    items_placed es e end at =
        let m : ℕ = min (unsigned_abs (num p env index.0)) last in
        let here : 0 + m ≡ m = omega arith in
        placed_flat (item_at n index last writes) (enumerate_from 0 es)
        ∙ items_one (λ x. placed p env (item_at n index last writes x)) 0 m es e at (λ i y from upto other. item_tested (nat_le (min n.least last) i && nat_le i n.greatest) i y refl (omega (arith, upto, end)) (λ same. other (omega (arith, same))))
        ∙ item_here (0 + m) e here
