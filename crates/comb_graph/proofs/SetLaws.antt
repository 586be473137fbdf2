-- The bits of numbers that stand for sets of places.
use Rattle.std.specs.Prelude.{◌≡◌, refl, ℕ, zero, suc, ◌+◌, ◌-◌, ◌*◌, ◌/◌, ◌%◌, ◌^◌, ◌<◌, ◌≤◌, ◌==◌, ◌&&◌, ◌||◌, nat_lt, nat_le, Bool, true, false, [], ◌∷◌, bit_or, pos}
use Rattle.std.specs.List.{list_any, range_with_len}
use Rattle.std.proofs.Common.{sym, ◌∙◌, ap, arith, ⊎_elim}
use Rattle.std.proofs.lemmas.Bool.{cases_lt, cases_eq, and_left, lt-ltb, le-ltb, le-leb, lt-leb, eq-eqb, ne_eqb}
use Rattle.std.proofs.lemmas.Nat.{mod_below, pow_pos, or_shr, or_mod}
use Rattle.std.proofs.lemmas.List.Folds.{list_any-append}
use Rattle.std.proofs.Math.Nat.{div-eq_of_lt, pow-le-pow_right, mod-eq_of_lt}
use Rattle.std.proofs.Math.Pow.{pow-lt}
use Rattle.amh_bits.specs.Patterns.{nat_bit}
use Rattle.amh_bits.proofs.BitsOf.{nat_bit_low, nat_bit_mod, int_bit_up, int_bit_up_below, int_bit_down, nat_bit_zero}
use Rattle.comb_graph.specs.Sets.{has}
use Rattle.digraph.proofs.GraphLists.{range_more}

same_has : (m n j k : ℕ) → nat_bit m j ≡ nat_bit n k → has m j ≡ has n k
same_has m n j k e = ap (λ b. b == 1) e

-- past its width a number has no bit
far : (n w k : ℕ) → n < 2 ^ w → w ≤ k → has n k ≡ false
far n w k small past =
    let h : n < 2 ^ k = omega (arith, small, pow-le-pow_right {n = 2} (omega arith) past) in
    ap (λ x. x % 2 == 1) (div-eq_of_lt h)

pub none : (k : ℕ) → has 0 k ≡ false
none k = ap (λ b. b == 1) (nat_bit_zero k)

low_mod : (n w k : ℕ) → k < w → has (n % 2 ^ w) k ≡ has n k
low_mod n w k h = same_has (n % 2 ^ w) n k k (nat_bit_mod n w k h)

far_mod : (n w k : ℕ) → w ≤ k → has (n % 2 ^ w) k ≡ false
far_mod n w k h = far (n % 2 ^ w) w k (mod_below n (2 ^ w) (pow_pos w)) h

shifted_low : (n j k : ℕ) → k < j → has (n * 2 ^ j) k ≡ false
shifted_low n j k h = ap (λ b. b == 1) (int_bit_up_below (pos n) j k h)

shifted_high : (n j k : ℕ) → j ≤ k → has (n * 2 ^ j) k ≡ has n (k - j)
shifted_high n j k h =
    let d : j + (k - j) ≡ k = omega arith in
    same_has (n * 2 ^ j) n k (k - j) (ap (nat_bit (n * 2 ^ j)) (sym d) ∙ int_bit_up (pos n) j (k - j))

-- ---- one place

one_only : (j : ℕ) → 0 < j → has 1 j ≡ false
one_only j h = far 1 1 j (omega arith) h

pub only_one : (p k : ℕ) → p < 128 → has (1 * 2 ^ p % 2 ^ 128) k ≡ (p == k)
only_one p k h =
    ⊎_elim
    (λ (inside : k < 128).
    low_mod (1 * 2 ^ p) 128 k inside
    ∙ ⊎_elim
    (λ (below : k < p). shifted_low 1 p k below ∙ sym (ne_eqb p k (λ e. omega (arith, e, below))))
    (λ (from : p ≤ k).
    shifted_high 1 p k from
    ∙ ⊎_elim (λ (e : p ≡ k). let z : k - p ≡ 0 = omega (arith, e) in ap (has 1) z ∙ sym (eq-eqb p k e)) (λ (other : p ≡ k → ⊥). one_only (k - p) (omega (arith, other, from)) ∙ sym (ne_eqb p k other)) (cases_eq p k))
    (cases_lt k p))
    (λ (past : 128 ≤ k). far_mod (1 * 2 ^ p) 128 k past ∙ sym (ne_eqb p k (λ e. omega (arith, e, past, h))))
    (cases_lt k 128)

-- ---- higher and lower

and_false : (a b : Bool) → (b ≡ true → ⊥) → (a && b) ≡ false
and_false a true h = absurd (h refl)
and_false true false h = refl
and_false false false h = refl

pub moved_up : (set by k : ℕ) → ((j : ℕ) → has set j ≡ true → by + j < 128) → has (set * 2 ^ by % 2 ^ 128) k ≡ (nat_le by k && has set (k - by))
moved_up set by k room =
    ⊎_elim
    (λ (inside : k < 128).
    low_mod (set * 2 ^ by) 128 k inside
    ∙ ⊎_elim
    (λ (below : k < by). shifted_low set by k below ∙ sym (and_left (nat_le by k) (has set (k - by)) (lt-leb by k below)))
    (λ (from : by ≤ k). shifted_high set by k from ∙ ap (λ t. t && has set (k - by)) (sym (le-leb by k from)))
    (cases_lt k by))
    (λ (past : 128 ≤ k).
    far_mod (set * 2 ^ by) 128 k past ∙ sym (and_false (nat_le by k) (has set (k - by)) (λ e. let r = room (k - by) e in omega (arith, r, past))))
    (cases_lt k 128)

pub moved_down : (set by k : ℕ) → has (set / 2 ^ by) k ≡ has set (by + k)
moved_down set by k = same_has (set / 2 ^ by) set k (by + k) (int_bit_down (pos set) by k)

-- far down nothing is left
pub all_gone : (set by k : ℕ) → set < 2 ^ 128 → 128 ≤ by → has 0 k ≡ has set (by + k)
all_gone set by k small h = none k ∙ sym (far set 128 (by + k) small (omega (arith, h)))

-- ---- below a width

pub kept_below : (set width k : ℕ) → width < 128 → has (set % (1 * 2 ^ width % 2 ^ 128)) k ≡ (nat_lt k width && has set k)
kept_below set width k h =
    let one : 1 * 2 ^ width % 2 ^ 128 ≡ 2 ^ width = ap (λ n. n % 2 ^ 128) (let e : 1 * 2 ^ width ≡ 2 ^ width = omega arith in e) ∙ mod-eq_of_lt (pow-lt h) in
    ap (λ n. has (set % n) k) one
    ∙ ⊎_elim (λ (inside : k < width). low_mod set width k inside ∙ ap (λ t. t && has set k) (sym (lt-ltb k width inside)))
    (λ (past : width ≤ k). far_mod set width k past ∙ ap (λ t. t && has set k) (sym (le-ltb k width past)))
    (cases_lt k width)

pub all_below : (set width k : ℕ) → set < 2 ^ 128 → 128 ≤ width → has set k ≡ (nat_lt k width && has set k)
all_below set width k small h =
    ⊎_elim (λ (inside : k < width). ap (λ t. t && has set k) (sym (lt-ltb k width inside)))
    (λ (past : width ≤ k). far set 128 k small (omega (arith, h, past)) ∙ ap (λ t. t && has set k) (sym (le-ltb k width past)))
    (cases_lt k width)

-- ---- of an offset's numbers one after another

bit_values : (P : ℕ → Type 0) (b : ℕ) → b < 2 → P 0 → P 1 → P b
bit_values P zero h p q = p
bit_values P (suc zero) h p q = q
bit_values P (suc (suc n)) h p q = absurd (omega arith)

one_or : (x y : ℕ) → x < 2 → y < 2 → (bit_or x y == 1) ≡ ((x == 1) || (y == 1))
one_or x y p q =
    bit_values (λ x. (bit_or x y == 1) ≡ ((x == 1) || (y == 1))) x p (bit_values (λ y. (bit_or 0 y == 1) ≡ ((0 == 1) || (y == 1))) y q refl refl)
    (bit_values (λ y. (bit_or 1 y == 1) ≡ ((1 == 1) || (y == 1))) y q refl refl)

has_or : (a b k : ℕ) → has (bit_or a b) k ≡ (has a k || has b k)
has_or a b k =
    let bits : nat_bit (bit_or a b) k ≡ bit_or (nat_bit a k) (nat_bit b k) = rw (or_shr a b k) (or_mod (a / 2 ^ k) (b / 2 ^ k) 1) in
    ap (λ n. n == 1) bits ∙ one_or (nat_bit a k) (nat_bit b k) (nat_bit_low a k) (nat_bit_low b k)

or_nothing : (t : Bool) → (t || false) ≡ t
or_nothing true = refl
or_nothing false = refl

pub spread_more : (all one least i : ℕ) (test : ℕ → Bool) (k : ℕ) → has all k ≡ list_any test (range_with_len least i) → has one k ≡ test (least + i) → has (bit_or all one) k ≡ list_any test (range_with_len least (i + 1))
spread_more all one least i test k was new =
    let next : i + 1 ≡ suc i = omega arith in
    has_or all one k ∙ ap (λ t. t || has one k) was ∙ ap (λ t. list_any test (range_with_len least i) || t) (new ∙ sym (or_nothing (test (least + i))))
    ∙ sym (ap (λ n. list_any test (range_with_len least n)) next ∙ ap (list_any test) (range_more least i) ∙ list_any-append test (range_with_len least i) ((least + i) ∷ []))

pub spread_begins : (least : ℕ) (test : ℕ → Bool) (k : ℕ) → has 0 k ≡ list_any test (range_with_len least 0)
spread_begins least test k = none k

-- a number and a stride that lead past the set
pub far_along : (set number stride k : ℕ) → set < 2 ^ 128 → 128 ≤ number * stride → has 0 k ≡ has set (number * stride + k)
far_along set number stride k small h = none k ∙ sym (far set 128 (number * stride + k) small (omega (arith, h)))
