-- Two answers for each expression of a pool that go together.
use Rattle.std.specs.Prelude.{ℕ, zero, suc, ⊤, List, [], ◌∷◌, ◌++◌, slice_index_or}
use Rattle.design_ir.specs.declared.expr.Expr.{Expr}
use Rattle.design_ir.specs.Pools.{answers, answer}

-- pairwise related
abbrev pub Pairs : {A B : Type 0} → (A → B → Type 0) → List A → List B → Type 0
Pairs R [] [] = ⊤
Pairs R (x ∷ xs) (y ∷ ys) = R x y × Pairs R xs ys
Pairs R [] (y ∷ ys) = ⊥
Pairs R (x ∷ xs) [] = ⊥

pairs_get : {A B : Type 0} (R : A → B → Type 0) (d : A) (d' : B) → R d d' → (xs : List A) (ys : List B) (k : ℕ) → Pairs R xs ys → R (slice_index_or xs k d) (slice_index_or ys k d')
pairs_get R d d' base [] [] k h = base
pairs_get R d d' base (x ∷ xs) (y ∷ ys) zero h = h.0
pairs_get R d d' base (x ∷ xs) (y ∷ ys) (suc k) h = pairs_get R d d' base xs ys k h.1
pairs_get R d d' base [] (y ∷ ys) k h = absurd h
pairs_get R d d' base (x ∷ xs) [] k h = absurd h

pairs_more : {A B : Type 0} (R : A → B → Type 0) (xs : List A) (ys : List B) (x : A) (y : B) → Pairs R xs ys → R x y → Pairs R (xs ++ x ∷ []) (ys ++ y ∷ [])
pairs_more R [] [] x y h r = (r, tt)
pairs_more R (a ∷ xs) (b ∷ ys) x y h r = (h.0, pairs_more R xs ys x y h.1 r)
pairs_more R [] (b ∷ ys) x y h r = absurd h
pairs_more R (a ∷ xs) [] x y h r = absurd h

-- where each step relates its answers, all answers are related
module _ {A B : Type 0} (d : A) (d' : B) (step : (ℕ → A) → Expr → A) (step' : (ℕ → B) → Expr → B) (R : A → B → Type 0) (base : R d d') (each : (f : ℕ → A) (g : ℕ → B) (e : Expr) → ((k : ℕ) → R (f k) (g k)) → R (step f e) (step' g e)) where
  from_known : (known : List A) (known' : List B) (es : List Expr) → Pairs R known known' → Pairs R (answers d step known es) (answers d' step' known' es)
  from_known known known' [] h = h
  from_known known known' (e ∷ es) h =
      from_known (known ++ step (λ k. slice_index_or known k d) e ∷ []) (known' ++ step' (λ k. slice_index_or known' k d') e ∷ []) es
      (pairs_more R known known' _ _ h (each (λ k. slice_index_or known k d) (λ k. slice_index_or known' k d') e (λ k. pairs_get R d d' base known known' k h)))

  pub related : (es : List Expr) (k : ℕ) → R (answer d step es k) (answer d' step' es k)
  related es k = pairs_get R d d' base (answers d step [] es) (answers d' step' [] es) k (from_known [] [] es tt)
