-- Places of a value with the bits that they go into, of the places of a target and of writes.
use Rattle.std.specs.Prelude.{◌≡◌, refl, ℕ, zero, suc, ◌+◌, ◌-◌, ◌<◌, ◌≤◌, min, max, nat_le, nat_lt, ◌&&◌, if◌then◌else◌, List, [], ◌∷◌, ◌++◌, map, length, take, drop, replicate, fold, ℤ, Option, Some, None}
use Rattle.std.specs.List.{filter_map, cons_option, range_with_len}
use Rattle.std.proofs.Common.{sym, ◌∙◌, ap, arith, ⊎_elim}
use Rattle.std.proofs.lemmas.Bool.{cond-true, cond-false, and_from, and_left, and_right, le-leb, lt-leb, lt-ltb, le-ltb, cases_lt}
use Rattle.amh_bits.specs.Patterns.{nat_bit}
use Rattle.design_ir.specs.Pools.{Pooled}
use Rattle.design_ir.specs.Targets.{Bit, padded}
use Rattle.design_ir.specs.Put.{put_bit, put_bits}

-- a place of a value, and the bit that it goes into
pub record Placing : Type 0 where
  pub place : ℕ
  pub bit : Bit

-- the places that are bits, counted from one on
abbrev pub occupied : ℕ → List (Option Bit) → List Placing
occupied i [] = []
occupied i (None ∷ xs) = occupied (i + 1) xs
occupied i (Some b ∷ xs) = record { place = i; bit = b } ∷ occupied (i + 1) xs

-- neighbouring places into neighbouring bits of a signal
abbrev pub run : ℕ → ℕ → ℕ → ℕ → List Placing
run i sig low zero = []
run i sig low (suc n) = record { place = i; bit = record { sig = sig; index = low } } ∷ run (i + 1) sig (low + 1) n

-- so many places higher
abbrev pub lifted : ℕ → Placing → Placing
lifted by x = record x { place = by + x.place }

-- what of a place falls into so many from one on
abbrev pub window : ℕ → ℕ → Placing → Option Placing
window low width x = if nat_le low x.place && nat_lt x.place (low + width) then Some (record x { place = x.place - low }) else None

abbrev pub put_placing : Pooled → ℕ → List ℤ → Placing → List ℤ
put_placing p v cur x = put_bit p x.bit (nat_bit v x.place) cur

-- ---- writing

pub put_occupied : (p : Pooled) (v : ℕ) (xs : List (Option Bit)) (i : ℕ) (cur : List ℤ) → put_bits p xs v i cur ≡ fold (put_placing p v) cur (occupied i xs)
put_occupied p v [] i cur = refl
put_occupied p v (None ∷ xs) i cur = put_occupied p v xs (i + 1) cur
put_occupied p v (Some b ∷ xs) i cur = put_occupied p v xs (i + 1) (put_bit p b (nat_bit v i) cur)

pub occupied_run : (i sig low n : ℕ) → occupied i (map (λ k. Some (record { sig = sig; index = k })) (range_with_len low n)) ≡ run i sig low n
occupied_run i sig low zero = refl
occupied_run i sig low (suc n) = ap (λ xs. record { place = i; bit = record { sig = sig; index = low } } ∷ xs) (occupied_run (i + 1) sig (low + 1) n)

-- ---- lists

pub take_none : (n : ℕ) → take {A = Option Bit} n [] ≡ []
take_none zero = refl
take_none (suc n) = refl

-- ---- windows

window_in : (low width : ℕ) (x : Placing) → low ≤ x.place → x.place < low + width → window low width x ≡ Some (record x { place = x.place - low })
window_in low width x from upto =
    cond-true (nat_le low x.place && nat_lt x.place (low + width)) (Some (record x { place = x.place - low })) None (and_from (nat_le low x.place) (nat_lt x.place (low + width)) (le-leb low x.place from) (lt-ltb x.place (low + width) upto))

window_low : (low width : ℕ) (x : Placing) → x.place < low → window low width x ≡ None
window_low low width x h =
    cond-false (nat_le low x.place && nat_lt x.place (low + width)) (Some (record x { place = x.place - low })) None (and_left (nat_le low x.place) (nat_lt x.place (low + width)) (lt-leb low x.place h))

window_high : (low width : ℕ) (x : Placing) → low + width ≤ x.place → window low width x ≡ None
window_high low width x h =
    cond-false (nat_le low x.place && nat_lt x.place (low + width)) (Some (record x { place = x.place - low })) None (and_right (nat_le low x.place) (nat_lt x.place (low + width)) (le-ltb x.place (low + width) h))

module _ (low width : ℕ) where
  -- what is left where the first place is, or is not, in the window
  kept : (i j : ℕ) (b : Bit) (xs ys : List Placing) → low ≤ i → i < low + width → i - low ≡ j → filter_map (window low width) xs ≡ ys → filter_map (window low width) (record { place = i; bit = b } ∷ xs) ≡ record { place = j; bit = b } ∷ ys
  kept i j b xs ys from upto at e =
      ap (λ o. cons_option o (filter_map (window low width) xs)) (window_in low width (record { place = i; bit = b }) from upto) ∙ (λ t. record { place = at t; bit = b } ∷ e t)

  past : (i : ℕ) (xs : List (Option Bit)) → low + width ≤ i → filter_map (window low width) (occupied i xs) ≡ []
  past i [] h = refl
  past i (None ∷ xs) h = past (i + 1) xs (omega (arith, h))
  past i (Some b ∷ xs) h = ap (λ o. cons_option o (filter_map (window low width) (occupied (i + 1) xs))) (window_high low width (record { place = i; bit = b }) h) ∙ past (i + 1) xs (omega (arith, h))

  inside : (m n i : ℕ) (xs : List (Option Bit)) → i ≡ low + m → n ≡ width - m → filter_map (window low width) (occupied i xs) ≡ occupied m (take n xs)
  inside m zero i [] at left = refl
  inside m zero i (x ∷ xs) at left = past i (x ∷ xs) (omega (arith, at, left))
  inside m (suc n) i [] at left = refl
  inside m (suc n) i (None ∷ xs) at left = inside (m + 1) n (i + 1) xs (omega (arith, at)) (omega (arith, left))
  inside m (suc n) i (Some b ∷ xs) at left =
      kept i m b (occupied (i + 1) xs) (occupied (m + 1) (take n xs)) (omega (arith, at)) (omega (arith, at, left)) (omega (arith, at)) (inside (m + 1) n (i + 1) xs (omega (arith, at)) (omega (arith, left)))

  pub filter_window : (i d : ℕ) (xs : List (Option Bit)) → low ≡ i + d → filter_map (window low width) (occupied i xs) ≡ occupied 0 (take width (drop d xs))
  filter_window i zero [] at = ap (occupied 0) (sym (take_none width))
  filter_window i zero (x ∷ xs) at = inside 0 width i (x ∷ xs) (omega (arith, at)) (omega arith)
  filter_window i (suc d) [] at = ap (occupied 0) (sym (take_none width))
  filter_window i (suc d) (None ∷ xs) at = filter_window (i + 1) d xs (omega (arith, at))
  filter_window i (suc d) (Some b ∷ xs) at =
      ap (λ o. cons_option o (filter_map (window low width) (occupied (i + 1) xs))) (window_low low width (record { place = i; bit = b }) (omega (arith, at))) ∙ filter_window (i + 1) d xs (omega (arith, at))

  run_same : (sig a b c a' b' c' : ℕ) → a ≡ a' → b ≡ b' → c ≡ c' → run a sig b c ≡ run a' sig b' c'
  run_same sig a b c a' b' c' e f g = λ t. run (e t) sig (f t) (g t)

  pub window_run : (i sig from n : ℕ) → filter_map (window low width) (run i sig from n) ≡ run (max i low - low) sig (from + (max i low - i)) (min (i + n) (low + width) - max i low)
  window_run i sig from zero = ap (run (max i low - low) sig (from + (max i low - i))) (let e : 0 ≡ min (i + 0) (low + width) - max i low = omega arith in e)
  window_run i sig from (suc n) =
      let rest = window_run (i + 1) sig (from + 1) n in
      let x : Placing = record { place = i; bit = record { sig = sig; index = from } } in
      ⊎_elim
      (λ (below : i < low).
      ap (λ o. cons_option o (filter_map (window low width) (run (i + 1) sig (from + 1) n))) (window_low low width x below) ∙ rest ∙ run_same sig _ _ _ _ _ _ (omega (arith, below)) (omega (arith, below)) (omega (arith, below)))
      (λ (above : low ≤ i).
      ⊎_elim
      (λ (here : i < low + width).
      let one : from ≡ from + (max i low - i) = omega (arith, above) in
      let more : run (max (i + 1) low - low) sig (from + 1 + (max (i + 1) low - (i + 1))) (min (i + 1 + n) (low + width) - max (i + 1) low) ≡ run (max i low - low + 1) sig (from + (max i low - i) + 1) (min (i + 1 + n) (low + width) - (i + 1)) =
      run_same sig _ _ _ _ _ _ (omega (arith, above)) (omega (arith, above)) (omega (arith, above)) in
      let count : suc (min (i + 1 + n) (low + width) - (i + 1)) ≡ min (i + suc n) (low + width) - max i low = omega (arith, above, here) in
      kept i (max i low - low) (record { sig = sig; index = from }) (run (i + 1) sig (from + 1) n) _ above here (omega (arith, above)) (rest ∙ more)
      ∙ ap (λ k. record { place = max i low - low; bit = record { sig = sig; index = k } } ∷ run (max i low - low + 1) sig (from + (max i low - i) + 1) (min (i + 1 + n) (low + width) - (i + 1))) one
      ∙ ap (run (max i low - low) sig (from + (max i low - i))) count)
      (λ (over : low + width ≤ i).
      let none : min (i + 1 + n) (low + width) - max (i + 1) low ≡ 0 = omega (arith, over) in
      let none' : 0 ≡ min (i + suc n) (low + width) - max i low = omega (arith, over) in
      ap (λ o. cons_option o (filter_map (window low width) (run (i + 1) sig (from + 1) n))) (window_high low width x over) ∙ rest
      ∙ ap (run (max (i + 1) low - low) sig (from + 1 + (max (i + 1) low - (i + 1)))) none
      ∙ ap (run (max i low - low) sig (from + (max i low - i))) none')
      (cases_lt i (low + width)))
      (cases_lt i low)

-- ---- places that are padded, one above the other, or higher

no_padding : (n m i : ℕ) → occupied i (take n (replicate m None)) ≡ []
no_padding zero zero i = refl
no_padding zero (suc m) i = refl
no_padding (suc n) zero i = refl
no_padding (suc n) (suc m) i = no_padding n m (i + 1)

padding : (n m i : ℕ) (xs : List (Option Bit)) → occupied i (take n (xs ++ replicate m None)) ≡ occupied i (take n xs)
padding n m i [] = no_padding n m i ∙ ap (occupied i) (sym (take_none n))
padding zero m i (x ∷ xs) = refl
padding (suc n) m i (None ∷ xs) = padding n m (i + 1) xs
padding (suc n) m i (Some b ∷ xs) = ap (λ ys. record { place = i; bit = b } ∷ ys) (padding n m (i + 1) xs)

pub occupied_padded : (n i : ℕ) (xs : List (Option Bit)) → occupied i (padded n xs) ≡ occupied i (take n xs)
occupied_padded n i xs = padding n n i xs

pub occupied_append : (i j : ℕ) (xs ys : List (Option Bit)) → j ≡ i + length xs → occupied i (xs ++ ys) ≡ occupied i xs ++ occupied j ys
occupied_append i j [] ys at = ap (λ k. occupied k ys) (let e : i ≡ j = omega (arith, at) in e)
occupied_append i j (None ∷ xs) ys at = occupied_append (i + 1) j xs ys (omega (arith, at))
occupied_append i j (Some b ∷ xs) ys at = ap (λ zs. record { place = i; bit = b } ∷ zs) (occupied_append (i + 1) j xs ys (omega (arith, at)))

pub occupied_lifted : (by i j : ℕ) (xs : List (Option Bit)) → j ≡ by + i → occupied j xs ≡ map (lifted by) (occupied i xs)
occupied_lifted by i j [] at = refl
occupied_lifted by i j (None ∷ xs) at = occupied_lifted by (i + 1) (j + 1) xs (omega (arith, at))
occupied_lifted by i j (Some b ∷ xs) at = λ t. record { place = at t; bit = b } ∷ occupied_lifted by (i + 1) (j + 1) xs (omega (arith, at)) t

pub run_lifted : (by i j sig low n : ℕ) → j ≡ by + i → run j sig low n ≡ map (lifted by) (run i sig low n)
run_lifted by i j sig low zero at = refl
run_lifted by i j sig low (suc n) at = λ t. record { place = at t; bit = record { sig = sig; index = low } } ∷ run_lifted by (i + 1) (j + 1) sig (low + 1) n (omega (arith, at)) t
