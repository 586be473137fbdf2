-- Ways from bit to bit, and loops.
use Rattle.std.proofs.Common.{◌≡◌, ◌⊎◌, inl, inr, List, [], ◌∷◌, ◌++◌, refl, sym, subst}
use Rattle.cell_split.specs.Loops.{Bit, Way, OnLoop}

-- one step or more lead from a to b
abbrev pub Comes : (Bit → Bit → Type 0) → Bit → Bit → Type 0
Comes feeds a b = (between : List Bit) × Way feeds a between b

module _ (R : Bit → Bit → Type 0) where
  way_then : (a b c : Bit) (xs ys : List Bit) → Way R a xs b → Way R b ys c → Way R a (xs ++ b ∷ ys) c
  way_then a b c [] ys p q = (p, q)
  way_then a b c (x ∷ xs) ys p q = (p.0, way_then x b c xs ys p.1 q)

  pub comes_then : (a b c : Bit) → Comes R a b → Comes R b c → Comes R a c
  comes_then a b c p q = (p.0 ++ b ∷ q.0, way_then a b c p.0 q.0 p.1 q.1)

  -- the last step of a way, and the way to it
  pub way_last : (a : Bit) (xs : List Bit) (b : Bit) → Way R a xs b → (x : Bit) × R x b × ((x ≡ a) ⊎ Comes R a x)
  way_last a [] b h = (a, h, inl refl)
  way_last a (c ∷ xs) b h =
      let r = way_last c xs b h.1 in
      let to : (r.0 ≡ a) ⊎ Comes R a r.0 = elim r.2 [ inl same ↦ inr ([], subst (λ (z : Bit). R a z) (sym same) h.0) | inr more ↦ inr (c ∷ more.0, (h.0, more.1)) ] in
      (r.0, r.1, to)

  -- where each step is one of another kind too, so are the steps of a way
  pub way_other : (S : Bit → Bit → Type 0) → ((x y : Bit) → R x y → S x y) → (a : Bit) (xs : List Bit) (b : Bit) → Way R a xs b → Way S a xs b
  way_other S step a [] b h = step a b h
  way_other S step a (x ∷ xs) b h = (step a x h.0, way_other S step x xs b h.1)

  pub loop_other : (S : Bit → Bit → Type 0) → ((x y : Bit) → R x y → S x y) → (b : Bit) → OnLoop R b → OnLoop S b
  loop_other S step b h = (h.0, way_other S step b h.0 b h.1)

  module _ (S : Bit → Bit → Type 0) (better : (x y : Bit) → R x y → OnLoop R y → S x y) where
    steps_better : (a : Bit) (xs : List Bit) (b : Bit) → Way R a xs b → Comes R b a → OnLoop R b → Way S a xs b
    steps_better a [] b h back loop = better a b h loop
    steps_better a (x ∷ xs) b h back loop =
        let on = comes_then b a x back ([], h.0) in
        (better a x h.0 (comes_then x b x (xs, h.1) on), steps_better x xs b h.1 on loop)

    -- where each step to a bit on a loop is one of another kind, so is the loop
    pub loop_better : (b : Bit) → OnLoop R b → OnLoop S b
    loop_better b h = (h.0, steps_better b h.0 b h.1 h h)
