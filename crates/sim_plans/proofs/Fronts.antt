-- Lists that go on from where another ends.
use Rattle.std.specs.Prelude.{◌≡◌, ℕ, zero, suc, ◌<◌, ◌≤◌, List, [], ◌∷◌, ◌++◌, length}
use Rattle.std.proofs.Common.{refl, sym, ◌∙◌, ap, arith, subst, append_assoc, append-nil, get_or}
use Rattle.sim_plans.specs.Waiting.{IsFront}

pub front_same : (xs : List ℕ) → IsFront xs xs
front_same xs = record { more = []; is = sym (append-nil xs) }

pub front_both : (xs ys zs : List ℕ) → IsFront xs ys → IsFront ys zs → IsFront xs zs
front_both xs ys zs a b = record { more = a.more ++ b.more; is = b.is ∙ ap (λ l. l ++ b.more) a.is ∙ append_assoc xs a.more b.more }

joined_get : (xs more : List ℕ) (i : ℕ) → i < length xs → get_or (xs ++ more) i 0 ≡ get_or xs i 0
joined_get [] more i h = absurd (omega (arith, h))
joined_get (x ∷ xs) more zero h = refl
joined_get (x ∷ xs) more (suc i) h = joined_get xs more i (omega (arith, h))

joined_length : (xs more : List ℕ) → length xs ≤ length (xs ++ more)
joined_length [] more = omega arith
joined_length (x ∷ xs) more = omega (arith, joined_length xs more)

-- what stands in the front stands there still
pub front_get : (xs ys : List ℕ) → IsFront xs ys → (i : ℕ) → i < length xs → get_or ys i 0 ≡ get_or xs i 0
front_get xs ys f i h = ap (λ l. get_or l i 0) f.is ∙ joined_get xs f.more i h

pub front_length : (xs ys : List ℕ) → IsFront xs ys → length xs ≤ length ys
front_length xs ys f = subst (λ l. length xs ≤ length l) (sym f.is) (joined_length xs f.more)
