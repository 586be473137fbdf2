-- Columns in stripes, so that a row looks at those alone that an event may have changed.
-- Internal: no rule of the language.
use Rattle.std.specs.Prelude.{◌≡◌, ◌≢◌, ◌<◌, ℕ, zero, suc, true, false, List, [], ◌∷◌, ◌++◌, map, length, slice_index_or, ℤ}
use Rattle.std.specs.List.{AllByRecursion}
use Rattle.design_ir.specs.Circuits.{at, is_among}
use Rattle.play_text.specs.declared.trace_columns.Lane.{Lane}
use Rattle.play_text.specs.declared.trace_stripes.Stripe.{Stripe}

-- the columns of each stripe
abbrev pub grid : List Stripe → List (List Lane)
grid stripes = map (λ (x : Stripe). x.lanes.items) stripes

-- one after the other
abbrev pub joined : List (List Lane) → List Lane
joined [] = []
joined (xs ∷ g) = xs ++ joined g

-- ---- where a signal is shown

-- the column's signal is shown in the stripe with this number
abbrev pub IsFound : List (List ℕ) → ℕ → Lane → Type 0
IsFound shown b x = x.sig.0 < length shown → is_among (slice_index_or shown x.sig.0 []) b ≡ true

-- so it is for each column of stripes that are numbered from one number on
abbrev pub AreFound : List (List ℕ) → ℕ → List (List Lane) → Type 0
AreFound shown b [] = Unit {0}
AreFound shown b (xs ∷ g) = AllByRecursion (IsFound shown b) xs × AreFound shown (suc b) g

-- a signal is shown where it was, and perhaps elsewhere
pub record Grows (old new : List (List ℕ)) : Type 0 where
  pub count : length new ≡ length old
  pub stays : (s b : ℕ) → is_among (slice_index_or old s []) b ≡ true → is_among (slice_index_or new s []) b ≡ true

-- ---- what may have changed

-- where the column has another number now, its signal is one of so many, and among these
abbrev pub IsNoted : ℕ → List ℕ → List ℤ → Lane → Type 0
IsNoted count signals now x = x.last ≢ at now x.sig.0 → (x.sig.0 < count) × (is_among signals x.sig.0 ≡ true)

-- the columns have the numbers that they had last
abbrev pub IsStill : List ℤ → List Lane → Type 0
IsStill now xs = AllByRecursion (λ (x : Lane). x.last ≡ at now x.sig.0) xs

-- stripes that are not due have the numbers that they had last
abbrev pub AreStill : List ℤ → List Stripe → Type 0
AreStill now stripes = AllByRecursion (λ (x : Stripe). x.due ≡ false → IsStill now x.lanes.items) stripes

-- the stripe at a place is due
abbrev pub due_set : ℕ → List Stripe → List Stripe
due_set b [] = []
due_set zero (x ∷ xs) = record { lanes = x.lanes; due = true } ∷ xs
due_set (suc b) (x ∷ xs) = x ∷ due_set b xs

-- those at these places are
abbrev pub marked : List ℕ → List Stripe → List Stripe
marked [] xs = xs
marked (b ∷ bs) xs = marked bs (due_set b xs)

-- those in which one of these signals is shown are
abbrev pub marked_all : List (List ℕ) → List ℕ → List Stripe → List Stripe
marked_all shown [] xs = xs
marked_all shown (s ∷ ss) xs = marked_all shown ss (marked (slice_index_or shown s []) xs)
