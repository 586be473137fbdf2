-- Lists of sources.
use Rattle.std.specs.Prelude.{◌≡◌, refl, ℕ, zero, suc, ◌+◌, ◌<◌, List, [], ◌∷◌, take, drop, slice_get, slice_index_or, Some, All, Result, Ok, Err, IfOk}
use Rattle.std.proofs.Common.{sym, ◌∙◌, subst}
use Rattle.std.proofs.lemmas.Option.{slice_get-get_or, get_or_from_slice_get, slice_get_within}
use Rattle.design_ir.specs.Pools.{Pooled}
use Rattle.design_ir.specs.PoolRules.{IsPool}
use Rattle.design_ir.proofs.Elements.{get_take_of, get_drop, some_is}
use Rattle.flat_design.specs.declared.sources.Source.{Source}
use Rattle.flat_design.specs.Growing.{IsMore}
use Rattle.flat_design.specs.Sources.{IsSource}
use Rattle.flat_design.proofs.Growing.{source_more}

-- ---- results

-- what follows from three facts of a value
pub if_ok3 : {X Y : Type 0} (r : Result X Y) (P Q R S : X → Type 0) → IfOk r P → IfOk r Q → IfOk r R → ((x : X) → P x → Q x → R x → S x) → IfOk r S
if_ok3 (Ok x) P Q R S p q r follows = follows x p q r
if_ok3 (Err e) P Q R S p q r follows = tt

-- ---- what holds of all

pub all_get : {A : Type 0} (P : A → Type 0) (xs : List A) → All P xs → (j : ℕ) (x : A) → slice_get xs j ≡ Some x → P x
all_get P xs all j x is = subst P (get_or_from_slice_get xs j x x is) (all j x (slice_get_within xs j x is))

pub all_from : {A : Type 0} (P : A → Type 0) (xs : List A) → ((j : ℕ) (x : A) → slice_get xs j ≡ Some x → P x) → All P xs
all_from P xs each j d below = each j (slice_index_or xs j d) (slice_get-get_or xs j d below)

pub all_take : {A : Type 0} (P : A → Type 0) (n : ℕ) (xs : List A) → All P xs → All P (take n xs)
all_take P n xs all = all_from P (take n xs) (λ j x is. all_get P xs all j x (get_take_of n xs j x is).1)

pub all_drop : {A : Type 0} (P : A → Type 0) (n : ℕ) (xs : List A) → All P xs → All P (drop n xs)
all_drop P n xs all = all_from P (drop n xs) (λ j x is. all_get P xs all (n + j) x (sym (get_drop n xs j) ∙ is))

pub sources_more : (p q : Pooled) (xs : List Source) → IsPool p → IsMore p q → All (IsSource p) xs → All (IsSource q) xs
sources_more p q xs rules more all j d below = source_more p q rules more (slice_index_or xs j d) (all j d below)

-- ---- runs

-- each of the first sources is so many bits above the first of all
abbrev pub AreAbove : Source → ℕ → List Source → Type 0
AreAbove x n xs = (j : ℕ) (y : Source) → j < n → slice_get xs j ≡ Some y → y ≡ record { expr = x.expr; bit = x.bit + j }

-- ---- bits of one expression

-- the one element of a list of one
pub only : {A : Type 0} (y : A) (j : ℕ) (x : A) → slice_get (y ∷ []) j ≡ Some x → (j ≡ 0) × (x ≡ y)
only y zero x is = (refl, some_is x y (sym is))
only y (suc j) x is = cc
