-- How many statements modules have.
use Rattle.std.proofs.Common.{◌≡◌, ℕ, zero, suc, ◌+◌, ◌<◌, ◌≤◌, refl, ap, sym, List, [], ◌∷◌, ◌++◌, length, Some, None, arith}
use Rattle.std.specs.Prelude.{slice_get, slice_set, slice_index_or}
use Rattle.module_dsl.specs.Blocks.{blocks_of}
use Rattle.design_ir.specs.declared.expr.Pattern.{Pattern}
use Rattle.module_dsl.specs.Builders.{Built, built_count}
use Rattle.elab_store.specs.Kept.{IsStore}
use Rattle.elab_store.specs.Counts.{statement_count}

pub at_get : (bs : List Built) (m : ℕ) (b : Built) → m < length bs → b ≡ slice_index_or bs m b → slice_get bs m ≡ Some b
at_get [] m b h e = absurd (omega (arith, h))
at_get (x ∷ bs) zero b h e = ap (λ y. Some y) (sym e)
at_get (x ∷ bs) (suc m) b h e = at_get bs m b (omega (arith, h)) e

pub past_get : (bs : List Built) (m : ℕ) → length bs ≤ m → slice_get bs m ≡ None
past_get [] m h = refl
past_get (x ∷ bs) zero h = absurd (omega (arith, h))
past_get (x ∷ bs) (suc m) h = past_get bs m (omega (arith, h))

pub set_same : (bs : List Built) (m : ℕ) (b : Built) → b ≡ slice_index_or bs m b → slice_set bs m b ≡ bs
set_same [] m b e = refl
set_same (x ∷ bs) zero b e = ap (λ y. y ∷ bs) e
set_same (x ∷ bs) (suc m) b e = ap (λ ys. x ∷ ys) (set_same bs m b e)

pub count_set : (bs : List Built) (m : ℕ) (b c : Built) (n : ℕ) → m < length bs → b ≡ slice_index_or bs m b → built_count c ≡ built_count b + n → statement_count (slice_set bs m c) ≡ statement_count bs + n
count_set [] m b c n h e more = absurd (omega (arith, h))
count_set (x ∷ bs) zero b c n h e more = omega (arith, more, ap built_count e)
count_set (x ∷ bs) (suc m) b c n h e more = omega (arith, count_set bs m b c n (omega (arith, h)) e more)

pub count_and : (bs : List Built) (b : Built) → statement_count (bs ++ b ∷ []) ≡ statement_count bs + built_count b
count_and [] b = omega arith
count_and (x ∷ bs) b = omega (arith, count_and bs b)

pub count_none : (name : List ℕ) → built_count (record { name = name; steps = [] }) ≡ 0
unfolding blocks_of
count_none name = refl

-- a module that was told what is no statement counts as before
pub store_same : (statements : ℕ) (bs : List Built) (m : ℕ) (b c : Built) (ps : List (List Pattern)) → m < length bs → b ≡ slice_index_or bs m b → built_count c ≡ built_count b → IsStore statements bs ps → IsStore statements (slice_set bs m c) ps
store_same statements bs m b c ps h e same k = record { count = omega (arith, k.count, count_set bs m b c 0 h e (omega (arith, same))); within = k.within }
