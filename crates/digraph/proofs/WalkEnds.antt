-- What a walk has shown when it ends: no node that is done reaches itself, and an order of all nodes is one.
use Rattle.std.proofs.Common.{◌≡◌, ◌≢◌, ◌∙◌, inl, inr, ℕ, zero, suc, ◌+◌, ◌<◌, false, nat_eq, List, [], ◌∷◌, refl, sym, ap, subst, arith, Some, slice_get, take}
use Rattle.std.specs.List.{Contains, AllByRecursion, IsDistinct}
use Rattle.std.proofs.lemmas.Bool.{cases_eq, ne_eqb}
use Rattle.std.proofs.lemmas.Option.{slice_get-get_or, slice_get_within, get_or_from_slice_get}
use Rattle.digraph.specs.declared.walk.Mark.TheVariants.{New, Done}
use Rattle.digraph.specs.Graphs.{Digraph, Path, Reaches, IsBehind, IsSorted}
use Rattle.digraph.specs.Walks.{Walking, mark, Apart, IsIdle, IsSeen, IsLooping, IsExplored}
use Rattle.digraph.proofs.GraphLists.{some-same}
use Rattle.digraph.proofs.WalkPaths.{contains-cons, contains-head}
use Rattle.digraph.proofs.WalkLaws.{marked_inside, done_of}

-- ---- places

-- an element stands at some place
pub at_of : {X : Type 0} (xs : List X) (x : X) → Contains xs x → (k : ℕ) × (slice_get xs k ≡ Some x)
at_of xs x (k, below, is) = (k, slice_get-get_or xs k x below ∙ ap (λ y. Some y) is)

pub of_at : {X : Type 0} (xs : List X) (k : ℕ) (x : X) → slice_get xs k ≡ Some x → Contains xs x
of_at xs k x at = (k, slice_get_within xs k x at, get_or_from_slice_get xs k x x at)

-- what stands in a front stands at the same place in the whole, before the front's end
pub at_front : {X : Type 0} (xs : List X) (k j : ℕ) (x : X) → slice_get (take k xs) j ≡ Some x → (slice_get xs j ≡ Some x) × (j < k)
at_front [] zero j x at = absurd cc
at_front [] (suc k) j x at = absurd cc
at_front (y ∷ xs) zero j x at = absurd cc
at_front (y ∷ xs) (suc k) zero x at = (at, omega arith)
at_front (y ∷ xs) (suc k) (suc j) x at = let more = at_front xs k j x at in (more.0, omega (arith, more.1))

pub front_at : {X : Type 0} (xs : List X) (k j : ℕ) (x : X) → slice_get xs j ≡ Some x → j < k → slice_get (take k xs) j ≡ Some x
front_at [] k j x at below = absurd cc
front_at (y ∷ xs) zero j x at below = absurd (omega (arith, below))
front_at (y ∷ xs) (suc k) zero x at below = at
front_at (y ∷ xs) (suc k) (suc j) x at below = front_at xs k j x at (omega (arith, below))

-- a number stands once
pub apart_at : (xs : List ℕ) (j k n : ℕ) → Apart xs → slice_get xs j ≡ Some n → slice_get xs k ≡ Some n → j ≡ k
apart_at [] j k n h a b = absurd cc
apart_at (x ∷ xs) zero zero n h a b = refl
apart_at (x ∷ xs) zero (suc k) n h a b = absurd (h.0 (subst (λ m. Contains xs m) (sym (some-same x n a)) (of_at xs k n b)))
apart_at (x ∷ xs) (suc j) zero n h a b = absurd (h.0 (subst (λ m. Contains xs m) (sym (some-same x n b)) (of_at xs j n a)))
apart_at (x ∷ xs) (suc j) (suc k) n h a b = ap suc (apart_at xs j k n h.1 a b)

-- ---- orders

path_before : (g : Digraph) (order : List ℕ) (between : List ℕ) (k n x : ℕ) → IsBehind g order → slice_get order k ≡ Some n → Path g n between x → Contains (take k order) x
path_before g order [] k n x h at path = h k n x at path
path_before g order (y ∷ ys) k n x h at path =
    let found = at_of (take k order) y (h k n y at path.0) in
    let place = at_front order k found.0 y found.1 in
    let more = path_before g order ys found.0 y x h place.0 path.1 in
    let last = at_of (take found.0 order) x more in
    let there = at_front order found.0 last.0 x last.1 in
    of_at (take k order) last.0 x (front_at order k last.0 x there.0 (omega (arith, there.1, place.1)))

-- a node of an order stands behind all that it reaches
pub reached_before : (g : Digraph) (order : List ℕ) (k n x : ℕ) → IsBehind g order → slice_get order k ≡ Some n → Reaches g n x → Contains (take k order) x
reached_before g order k n x h at (between, path) = path_before g order between k n x h at path

-- no node of an order reaches itself
pub order_no_loop : (g : Digraph) (order : List ℕ) (n : ℕ) → Apart order → IsBehind g order → Contains order n → Reaches g n n → ⊥
order_no_loop g order n once h in' loops =
    let at = at_of order n in' in
    let found = at_of (take at.0 order) n (reached_before g order at.0 n n h at.1 loops) in
    let before = at_front order at.0 found.0 n found.1 in
    omega (arith, before.1, apart_at order found.0 at.0 n once before.0 at.1)

-- ---- the ends of the walk

pub seen_of : (g : Digraph) (w : Walking) (n : ℕ) → IsLooping g w n → IsSeen g w.marks
seen_of g w n h = record {
  node = n;
  loops = h.loops;
  size = h.closed.size;
  done = λ k done loops. order_no_loop g w.order k h.closed.once h.closed.behind (h.closed.ordered k done) loops;
}

other_all : (x : ℕ) (xs : List ℕ) → (Contains xs x → ⊥) → AllByRecursion (λ y. nat_eq x y ≡ false) xs
other_all x [] other = tt
other_all x (y ∷ ys) other =
    (ne_eqb x y (λ same. other (subst (λ z. Contains (y ∷ ys) z) (sym same) (contains-head y ys))), other_all x ys (λ in'. other (contains-cons y x ys in')))

pub distinct_of : (xs : List ℕ) → Apart xs → IsDistinct nat_eq xs
unfolding IsDistinct
distinct_of [] h = tt
distinct_of (x ∷ xs) h = (other_all x xs h.0, distinct_of xs h.1)

all_by : {X : Type 0} (P : X → Type 0) (xs : List X) → ((x : X) → Contains xs x → P x) → AllByRecursion P xs
all_by P [] h = tt
all_by P (x ∷ xs) h = (h x (contains-head x xs), all_by P xs (λ y in'. h y (contains-cons x y xs in')))

-- all nodes were walked
pub sorted_of : (g : Digraph) (w : Walking) → IsIdle g w → ((n : ℕ) → n < g.size → mark w.marks n ≡ Done) → IsSorted g w.order
sorted_of g w h all = record {
  all = λ n inside. h.closed.ordered n (all n inside);
  only = all_by (λ n. n < g.size) w.order (λ n in'. omega (arith, h.closed.size, marked_inside w.marks n Done (h.closed.done n in') (λ q. cc)));
  once = distinct_of w.order h.closed.once;
  behind = h.closed.behind;
}

-- a node that was marked is done between two roots
pub done_before : (g : Digraph) (w : Walking) (n : ℕ) → IsIdle g w → mark w.marks n ≢ New → mark w.marks n ≡ Done
done_before g w n h old = done_of (mark w.marks n) old (h.none_open n)

-- after one root more
pub done_more : (g : Digraph) (root : ℕ) (old w : Walking) → IsIdle g old → ((n : ℕ) → n < root → mark old.marks n ≡ Done) → IsExplored g root old w
    → (n : ℕ) → n < root + 1 → mark w.marks n ≡ Done
done_more g root old w idle all h n below =
    elim (cases_eq n root) [
      | inl same ↦ subst (λ k. mark w.marks k ≡ Done) (sym same) h.done
      | inr other ↦ done_before g w n h.over.idle (λ new. let was : mark old.marks n ≡ New = h.over.kept n new in let done : mark old.marks n ≡ Done = all n (omega arith) in cc)
    ]
