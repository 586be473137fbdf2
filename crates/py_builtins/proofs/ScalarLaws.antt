-- The turns of the loops over numbers.
use Rattle.std.proofs.Common.{◌≡◌, ℕ, zero, suc, ◌+◌, ◌-◌, ◌<◌, ◌≤◌, ◌^◌, Bool, true, false, cond, List, [], ◌∷◌, length, drop, Result, Ok, Err, refl, ap, sym, ◌∙◌, arith, add-one}
use Rattle.std.specs.Prelude.{nat_lt, slice_index_or, fold}
use Rattle.std.specs.List.{best_of}
use Rattle.py_values.specs.declared.val.Val.{Val}
use Rattle.py_values.specs.declared.val.NumberStop.{NumberStop}
use Rattle.py_builtins.specs.Scalars.{first_from, plus}

-- a test that fails is passed over
pub first_turn : (n m : ℕ) (p : ℕ → Bool) (k : ℕ) → n ≡ suc m → p k ≡ false → first_from n p k ≡ first_from m p (k + 1)
unfolding first_from
first_turn n m p k g h = ap (λ j. first_from j p k) g ∙ rw h refl

pub first_here : (n m : ℕ) (p : ℕ → Bool) (k : ℕ) → n ≡ suc m → p k ≡ true → first_from n p k ≡ k
unfolding first_from
first_here n m p k g h = ap (λ j. first_from j p k) g ∙ rw h refl

pub first_past : (n : ℕ) (p : ℕ → Bool) (k : ℕ) → n ≡ 0 → first_from n p k ≡ k
unfolding first_from
first_past n p k g = ap (λ j. first_from j p k) g

fold_suc : {A B : Type 0} (f : B → A → B) (b : B) (xs : List A) (i : ℕ) (x : A) → i < length xs → x ≡ slice_index_or xs i x → fold f b (drop i xs) ≡ fold f (f b x) (drop (suc i) xs)
fold_suc f b [] i x l h = absurd (omega arith)
fold_suc f b (y ∷ xs) zero x l h = rw h refl
fold_suc f b (y ∷ xs) (suc i) x l h = fold_suc f b xs i x (omega arith) h

-- at one element more
pub fold_turn : {A B : Type 0} (f : B → A → B) (b : B) (xs : List A) (i : ℕ) (x : A) → i < length xs → x ≡ slice_index_or xs i x → fold f b (drop i xs) ≡ fold f (f b x) (drop (i + 1) xs)
fold_turn f b xs i x l h = rw add-one (fold_suc f b xs i x l h)

pub fold_end : {A B : Type 0} (f : B → A → B) (b : B) (xs : List A) (i : ℕ) → length xs ≤ i → fold f b (drop i xs) ≡ b
fold_end f b [] zero l = refl
fold_end f b [] (suc i) l = refl
fold_end f b (x ∷ xs) zero l = absurd (omega arith)
fold_end f b (x ∷ xs) (suc i) l = fold_end f b xs i (omega arith)

-- a partial sum outside the range ends the sum
pub fold-plus-err : (e : NumberStop) (vs : List Val) → fold plus (Err e) vs ≡ Err e
fold-plus-err e [] = refl
fold-plus-err e (v ∷ vs) = fold-plus-err e vs
