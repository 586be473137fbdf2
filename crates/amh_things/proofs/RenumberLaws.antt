-- Things of expressions that got other numbers: what is held of them, and how one thing after the other gets its number.
use Rattle.std.specs.Prelude.{◌≡◌, refl, ℕ, zero, suc, ◌+◌, ◌-◌, ◌<◌, ◌≤◌, Bool, true, false, nat_lt, if◌then◌else◌, List, [], ◌∷◌, length, map, take, slice_index_or, slice_set, get_or}
use Rattle.std.specs.List.{AllByRecursion}
use Rattle.std.proofs.Common.{ap, arith}
use Rattle.std.proofs.lemmas.Bool.{ltb-true, ltb-false}
use Rattle.design_ir.specs.declared.ids.ExprId.{ExprId}
use Rattle.expr_index.specs.Numbers.{number_now}
use Rattle.amh_things.specs.declared.thing.Thing.{Thing}
use Rattle.amh_things.specs.declared.thing.Thing.TheVariants as thing
use Rattle.amh_things.specs.Held.{IsHeld, AreHeld}
use Rattle.amh_things.specs.Renumbered.{thing_now, things_now}

-- ---- what is held

abbrev pub AreBelow : ℕ → List ExprId → Type 0
AreBelow m es = AllByRecursion (λ (x : ExprId). x.0 < m) es

-- one of these is below, where it stands among them
told_below : (m : ℕ) (now : List ExprId) (k : ℕ) (e : ExprId) → k < length now → AreBelow m now → (slice_index_or now k e).0 < m
told_below m [] k e lt h = absurd (omega (arith, lt))
told_below m (x ∷ now) zero e lt h = h.0
told_below m (x ∷ now) (suc k) e lt h = told_below m now k e (omega (arith, lt)) h.1

-- the new number of an expression is below m, where all that are told of are, and none of the n is left out
pub number_below : (before n m : ℕ) (now : List ExprId) → before ≤ m → n ≤ before + length now → AreBelow m now → (e : ExprId) → e.0 < n → (number_now before now e).0 < m
number_below before n m now le room below e lt = by_test (nat_lt e.0 before) refl
  where
    by_test : (b : Bool) → nat_lt e.0 before ≡ b → (if b then e else slice_index_or now (e.0 - before) e).0 < m
    by_test true is = let first = ltb-true e.0 before is in omega (arith, first, le)
    by_test false is = let behind = ltb-false e.0 before is in told_below m now (e.0 - before) e (omega (arith, behind, lt, room)) below

pub thing_held : (n m : ℕ) (f : ExprId → ExprId) → ((e : ExprId) → e.0 < n → (f e).0 < m) → (t : Thing) → IsHeld n t → IsHeld m (thing_now f t)
thing_held n m f g (thing.Value e) h = g e h
thing_held n m f g (thing.Method x e y) h = g e h
thing_held n m f g (thing.Numbered x e) h = g e h
thing_held n m f g (thing.View x e) h = g e h
thing_held n m f g (thing.Layout x) h = tt
thing_held n m f g (thing.Enumeration x) h = tt
thing_held n m f g (thing.Member x) h = h
thing_held n m f g (thing.Name x) h = tt
thing_held n m f g (thing.Shape x) h = tt
thing_held n m f g (thing.Array x) h = tt
thing_held n m f g (thing.Kept x) h = tt

all_held : (n m : ℕ) (f : ExprId → ExprId) → ((e : ExprId) → e.0 < n → (f e).0 < m) → (ts : List Thing) → AreHeld n ts → AreHeld m (map (thing_now f) ts)
all_held n m f g [] h = tt
all_held n m f g (t ∷ ts) h = (thing_held n m f g t h.0, all_held n m f g ts h.1)

-- what was held over n stays held over m, where the new numbers are below m, and so are the first things
pub things_held : (from n m : ℕ) (f : ExprId → ExprId) → ((e : ExprId) → e.0 < n → (f e).0 < m) → (ts : List Thing) → AreHeld m (take from ts) → AreHeld n ts → AreHeld m (things_now from f ts)
things_held zero n m f g ts first h = all_held n m f g ts h
things_held (suc k) n m f g [] first h = tt
things_held (suc k) n m f g (t ∷ ts) first h = (first.0, things_held k n m f g ts first.1 h.1)

-- the same of numbers that are told
pub renumbered_held : (from before n m : ℕ) (now : List ExprId) (ts : List Thing) → before ≤ m → n ≤ before + length now → AreBelow m now → AreHeld m (take from ts) → AreHeld n ts
    → AreHeld m (things_now from (number_now before now) ts)
renumbered_held from before n m now ts le room below first h = things_held from n m (number_now before now) (number_below before n m now le room below) ts first h

-- ---- how many there are, and which stay

map_length : (f : ExprId → ExprId) (ts : List Thing) → length (map (thing_now f) ts) ≡ length ts
map_length f [] = refl
map_length f (t ∷ ts) = ap suc (map_length f ts)

pub things_length : (from : ℕ) (f : ExprId → ExprId) (ts : List Thing) → length (things_now from f ts) ≡ length ts
things_length zero f ts = map_length f ts
things_length (suc k) f [] = refl
things_length (suc k) f (t ∷ ts) = ap suc (things_length k f ts)

pub first_stay : (from : ℕ) (f : ExprId → ExprId) (ts : List Thing) → take from (things_now from f ts) ≡ take from ts
first_stay zero f ts = refl
first_stay (suc k) f [] = refl
first_stay (suc k) f (t ∷ ts) = ap (λ (xs : List Thing). t ∷ xs) (first_stay k f ts)

-- ---- one thing after the other

-- nothing stands behind all of them
pub none_behind : (k : ℕ) (f : ExprId → ExprId) (ts : List Thing) → length ts ≤ k → things_now k f ts ≡ ts
none_behind zero f [] le = refl
none_behind zero f (t ∷ ts) le = absurd (omega (arith, le))
none_behind (suc k) f [] le = refl
none_behind (suc k) f (t ∷ ts) le = ap (λ (xs : List Thing). t ∷ xs) (none_behind k f ts (omega (arith, le)))

-- where one thing has its number, those behind it are left
pub one_more : (k : ℕ) (f : ExprId → ExprId) (ts : List Thing) (d : Thing) → k < length ts → things_now (suc k) f (slice_set ts k (thing_now f (get_or ts k d))) ≡ things_now k f ts
one_more zero f [] d lt = absurd (omega (arith, lt))
one_more zero f (t ∷ ts) d lt = refl
one_more (suc k) f [] d lt = absurd (omega (arith, lt))
one_more (suc k) f (t ∷ ts) d lt = ap (λ (xs : List Thing). t ∷ xs) (one_more k f ts d (omega (arith, lt)))
