-- What holds of each cell after some are cut, and pairs of ids.
use Rattle.std.proofs.Common.{◌≡◌, ◌<◌, ◌≤◌, ◌+◌, ◌&&◌, ℕ, zero, suc, Bool, true, false, cond, List, [], ◌∷◌, ◌++◌, map, length, refl, arith, All, length-append}
use Rattle.std.specs.Prelude.{AllPairs, nat_lt, codes}
use Rattle.std.specs.List.{range_with_len}
use Rattle.std.proofs.lemmas.Bool.{and_parts, ltb-true}
use Rattle.std.proofs.lemmas.List.Elements.{All-nil, All-cons, All-head, All-tail, All-append, All-map}
use Rattle.std.proofs.lemmas.List.FromFn.{length-map-range_with_len}
use Rattle.std.proofs.lemmas.List.Kept.{AllPairs-cons}
use Rattle.rtlil_text.specs.declared.cell.RtlCell.{RtlCell}
use Rattle.rtlil_text.specs.Sources.{end_width}
use Rattle.rtlil_text.proofs.SpecOnce.{All-left, All-right}
use Rattle.cell_split.specs.Pieces.{is_bitwise, piece, pieces}
use Rattle.cell_split.specs.Split.{can_split, split_cell, split_cells}

-- ---- lists

pub All-unmap : {A B : Type 0} (P : B → Type 0) (f : A → B) (xs : List A) → All P (map f xs) → All (λ x. P (f x)) xs
All-unmap P f [] h = All-nil (λ x. P (f x))
All-unmap P f (x ∷ xs) h = All-cons (λ y. P (f y)) x xs (All-head P (f x) (map f xs) h) (All-unmap P f xs (All-tail P (f x) (map f xs) h))

pub All-range : (P : ℕ → Type 0) (a n : ℕ) → ((i : ℕ) → a ≤ i → i < a + n → P i) → All P (range_with_len a n)
All-range P a zero h = All-nil P
All-range P a (suc n) h = All-cons P a (range_with_len (a + 1) n) (h a (omega arith) (omega arith)) (All-range P (a + 1) n (λ i low high. h i (omega arith) (omega arith)))

pub AllPairs-tail : {A : Type 0} (R : A → A → Type 0) (x : A) (xs : List A) → AllPairs R (x ∷ xs) → AllPairs R xs
AllPairs-tail R x xs p = λ i j d lt h. p (suc i) (suc j) d (omega arith) (omega arith)

pub AllPairs-head : {A : Type 0} (R : A → A → Type 0) (x : A) (xs : List A) → AllPairs R (x ∷ xs) → All (R x) xs
AllPairs-head R x xs p = λ k d h. p 0 (suc k) d (omega arith) (omega arith)

pub AllPairs-append : {A : Type 0} (R : A → A → Type 0) (xs ys : List A) → AllPairs R xs → AllPairs R ys → All (λ x. All (R x) ys) xs → AllPairs R (xs ++ ys)
AllPairs-append R [] ys p q across = q
AllPairs-append R (x ∷ xs) ys p q across =
    AllPairs-cons R x (xs ++ ys) (All-append (R x) xs ys (AllPairs-head R x xs p) (All-head (λ z. All (R z) ys) x xs across))
    (AllPairs-append R xs ys (AllPairs-tail R x xs p) q (All-tail (λ z. All (R z) ys) x xs across))

pub AllPairs-nil : {A : Type 0} (R : A → A → Type 0) → AllPairs R []
AllPairs-nil R = λ i j d lt h. absurd (omega arith)

pub AllPairs-left : {A : Type 0} (R : A → A → Type 0) (xs ys : List A) → AllPairs R (xs ++ ys) → AllPairs R xs
AllPairs-left R [] ys p = AllPairs-nil R
AllPairs-left R (x ∷ xs) ys p = AllPairs-cons R x xs (All-left (R x) xs ys (AllPairs-head R x (xs ++ ys) p)) (AllPairs-left R xs ys (AllPairs-tail R x (xs ++ ys) p))

pub AllPairs-right : {A : Type 0} (R : A → A → Type 0) (xs ys : List A) → AllPairs R (xs ++ ys) → AllPairs R ys
AllPairs-right R [] ys p = p
AllPairs-right R (x ∷ xs) ys p = AllPairs-right R xs ys (AllPairs-tail R x (xs ++ ys) p)

pub AllPairs-across : {A : Type 0} (R : A → A → Type 0) (xs ys : List A) → AllPairs R (xs ++ ys) → All (λ x. All (R x) ys) xs
AllPairs-across R [] ys p = All-nil (λ x. All (R x) ys)
AllPairs-across R (x ∷ xs) ys p =
    All-cons (λ z. All (R z) ys) x xs (All-right (R x) xs ys (AllPairs-head R x (xs ++ ys) p)) (AllPairs-across R xs ys (AllPairs-tail R x (xs ++ ys) p))

-- ---- cells

-- what a piece is known by: its number, its bit and the cell that it is cut from
pub record IsPieceOf (n high : ℕ) (c : RtlCell) (j k : ℕ) : Type 0 where
  pub bitwise : is_bitwise c.kind ≡ true
  pub wide : 1 < end_width c (codes "\\Y")
  pub within : k < end_width c (codes "\\Y")
  pub first : n ≤ j
  pub last : j < high

pub length-pieces : (n : ℕ) (c : RtlCell) → length (pieces n c) ≡ end_width c (codes "\\Y")
length-pieces n c = length-map-range_with_len (λ k. piece (n + k) c k) 0 (end_width c (codes "\\Y"))

pub splits : (b : Bool) (c : RtlCell) → (b && can_split c) ≡ true → (is_bitwise c.kind ≡ true) × (1 < end_width c (codes "\\Y"))
splits b c e =
    let both = and_parts (is_bitwise c.kind) (nat_lt 1 (end_width c (codes "\\Y"))) (and_parts b (can_split c) e).1 in
    (both.0, ltb-true 1 (end_width c (codes "\\Y")) both.1)

module _ (P Q : RtlCell → Type 0) (same : (c : RtlCell) → P c → Q c) where
  cut_all : (n high : ℕ) (c : RtlCell) (cut : Bool) → (cut ≡ true → (is_bitwise c.kind ≡ true) × (1 < end_width c (codes "\\Y"))) → n + length (cond cut (pieces n c) (c ∷ [])) ≤ high → P c
      → ((c : RtlCell) (j k : ℕ) → P c → IsPieceOf n high c j k → Q (piece j c k)) → All Q (cond cut (pieces n c) (c ∷ []))
  cut_all n high c true h few p new =
      All-map Q (λ k. piece (n + k) c k) (range_with_len 0 (end_width c (codes "\\Y")))
      (All-range (λ k. Q (piece (n + k) c k)) 0 (end_width c (codes "\\Y"))
      (λ k low within. new c (n + k) k p (record { bitwise = (h refl).0; wide = (h refl).1; within = omega arith; first = omega arith; last = omega (arith, length-pieces n c, few) })))
  cut_all n high c false h few p new = All-cons Q c [] (same c p) (All-nil Q)

  pub All-split_cells : (n high : ℕ) (marks : List Bool) (cells : List RtlCell) → n + length (split_cells n marks cells) ≤ high → All P cells
      → ((c : RtlCell) (j k : ℕ) → P c → IsPieceOf n high c j k → Q (piece j c k)) → All Q (split_cells n marks cells)
  All-split_cells n high [] cells few old new = λ k d h. same _ (old k d h)
  All-split_cells n high (b ∷ marks) [] few old new = All-nil Q
  All-split_cells n high (b ∷ marks) (c ∷ cells) few old new =
      let front : List RtlCell = split_cell n b c in
      let rest : List RtlCell = split_cells (n + length front) marks cells in
      let all : length (front ++ rest) ≡ length front + length rest = length-append front rest in
      All-append Q front rest (cut_all n high c (b && can_split c) (splits b c) (omega (arith, all, few)) (All-head P c cells old) new)
      (All-split_cells (n + length front) high marks cells (omega (arith, all, few)) (All-tail P c cells old)
      (λ d j k p is. new d j k p (record { bitwise = is.bitwise; wide = is.wide; within = is.within; first = omega (arith, is.first); last = is.last })))
