-- The bits of nodes, and the nodes among these whose bits are of combinational signals.
use Rattle.std.proofs.Common.{◌≡◌, ◌∙◌, ◌⊎◌, inl, inr, ℕ, suc, ◌/◌, ◌%◌, ◌<◌, nat_lt, nat_eq, ◌==◌, Bool, true, false, cond, List, [], ◌∷◌, ◌++◌, map, Some, slice_get, take, refl, sym, ap, subst, arith, ⊎_elim}
use Rattle.std.specs.List.{Contains, AllByRecursion, IsDistinct, filter}
use Rattle.std.proofs.lemmas.Bool.{and_from, and_parts, cases_Bool, false≢true, ltb-true, lt-ltb, eqb-true, eq-eqb}
use Rattle.std.proofs.lemmas.List.Elements.{All-contains, All-from_recursion}
use Rattle.std.proofs.Math.Nat.{mod-lt, div-add-mod}
use Rattle.design_ir.specs.Targets.{Bit}
use Rattle.design_ir.specs.Values.{signal_form}
use Rattle.design_ir.specs.PoolRules.{IsPool}
use Rattle.design_ir.specs.Circuits.{Circuit}
use Rattle.comb_graph.specs.Orders.{is_comb, IsCombBit, same_bit}
use Rattle.comb_graph.specs.Meanings.{node_of}
use Rattle.comb_graph.specs.CombNodes.{bit_at, is_comb_bit, is_comb_node, comb_bits}
use Rattle.digraph.proofs.WalkPaths.{contains-cons, contains-head, contains-cases}
use Rattle.design_ir.proofs.Elements.{map_of}
use Rattle.comb_graph.proofs.GraphNeeds.{map_has}
use Rattle.digraph.proofs.Members.{all_from_contains}
use Rattle.comb_graph.proofs.RankPaths.{bit_same, comb_node}

-- ---- nodes and bits

pub node_at : (n : ℕ) → node_of (bit_at n) ≡ n
node_at n = div-add-mod n 128

pub low_at : (n : ℕ) → (bit_at n).index < 128
low_at n = mod-lt n (omega arith)

pub at_node : (b : Bit) → b.index < 128 → bit_at (node_of b) ≡ b
at_node b low = bit_same (bit_at (node_of b)) b (low_at (node_of b)) low (node_at (node_of b))

pub comb_of_test : (c : Circuit) (b : Bit) → is_comb_bit c b ≡ true → IsCombBit c b
comb_of_test c b h =
    let parts = and_parts (is_comb c b.sig) (nat_lt b.index (signal_form c.pool.signals b.sig).width) h in
    record { comb = parts.0; inside = ltb-true b.index (signal_form c.pool.signals b.sig).width parts.1 }

pub test_of_comb : (c : Circuit) (b : Bit) → IsCombBit c b → is_comb_bit c b ≡ true
test_of_comb c b h = and_from (is_comb c b.sig) (nat_lt b.index (signal_form c.pool.signals b.sig).width) h.comb (lt-ltb b.index (signal_form c.pool.signals b.sig).width h.inside)

-- ---- lists

-- the first elements are the same, and the others
first_same : {X : Type 0} {x y : X} {xs ys : List X} → x ∷ xs ≡ y ∷ ys → x ≡ y
first_same same = cc

rest_same : {X : Type 0} {x y : X} {xs ys : List X} → x ∷ xs ≡ y ∷ ys → xs ≡ ys
rest_same same = cc

kept_has : (b : Bool) (x n : ℕ) (ys : List ℕ) → ((x ≡ n) × (b ≡ true)) ⊎ Contains ys n → Contains (cond b (x ∷ ys) ys) n
kept_has true x n ys (inl (same, is)) = subst (λ k. Contains (x ∷ ys) k) same (contains-head x ys)
kept_has true x n ys (inr in') = contains-cons x n ys in'
kept_has false x n ys (inl (same, is)) = absurd (false≢true is)
kept_has false x n ys (inr in') = in'

kept_of : (b : Bool) (x n : ℕ) (ys : List ℕ) → Contains (cond b (x ∷ ys) ys) n → ((x ≡ n) × (b ≡ true)) ⊎ Contains ys n
kept_of true x n ys in' = elim (contains-cases x n ys in') [ inl same ↦ inl (same, refl) | inr more ↦ inr more ]
kept_of false x n ys in' = inr in'

filter_has : (p : ℕ → Bool) (xs : List ℕ) (n : ℕ) → Contains xs n → p n ≡ true → Contains (filter p xs) n
filter_has p [] n in' is = absurd (omega (arith, in'.1))
filter_has p (x ∷ xs) n in' is =
    elim (contains-cases x n xs in') [
      | inl same ↦ kept_has (p x) x n (filter p xs) (inl (same, ap p same ∙ is))
      | inr more ↦ kept_has (p x) x n (filter p xs) (inr (filter_has p xs n more is))
    ]

filter_of : (p : ℕ → Bool) (xs : List ℕ) (n : ℕ) → Contains (filter p xs) n → Contains xs n × (p n ≡ true)
filter_of p [] n in' = absurd (omega (arith, in'.1))
filter_of p (x ∷ xs) n in' =
    elim (kept_of (p x) x n (filter p xs) in') [
      | inl (same, is) ↦ (subst (λ k. Contains (x ∷ xs) k) same (contains-head x xs), ap p (sym same) ∙ is)
      | inr more ↦ let rest = filter_of p xs n more in (contains-cons x n xs rest.0, rest.1)
    ]

-- ---- the bits of combinational signals among nodes

pub bits_have : (c : Circuit) (ns : List ℕ) (b : Bit) → IsPool c.pool → IsCombBit c b → Contains ns (node_of b) → Contains (comb_bits c ns) b
bits_have c ns b pool comb in' =
    let same : bit_at (node_of b) ≡ b = at_node b (comb_node c b pool comb).1 in
    let is : is_comb_node c (node_of b) ≡ true = ap (is_comb_bit c) same ∙ test_of_comb c b comb in
    subst (λ x. Contains (comb_bits c ns) x) same (map_has bit_at (filter (is_comb_node c) ns) (node_of b) (filter_has (is_comb_node c) ns (node_of b) in' is))

-- such a bit has a node among these
pub bits_of : (c : Circuit) (ns : List ℕ) (b : Bit) → Contains (comb_bits c ns) b → Contains ns (node_of b) × IsCombBit c b
bits_of c ns b in' =
    let found = map_of bit_at (filter (is_comb_node c) ns) b in' in
    let rest = filter_of (is_comb_node c) ns found.0 found.1 in
    let node : found.0 ≡ node_of b = sym (node_at found.0) ∙ ap node_of found.2 in
    (subst (λ n. Contains ns n) node rest.0, subst (IsCombBit c) found.2 (comb_of_test c (bit_at found.0) rest.1))

-- the nodes before a bit
pub record IsSplit (c : Circuit) (order : List ℕ) (before : List Bit) (b : Bit) : Type 0 where
  pub place : ℕ
  pub at : slice_get order place ≡ Some (node_of b)
  pub bits : comb_bits c (take place order) ≡ before

split_step : (c : Circuit) (x : ℕ) (xs : List ℕ) (t : Bool) (before after : List Bit) (b : Bit) → is_comb_node c x ≡ t
    → ((front back : List Bit) → comb_bits c xs ≡ front ++ b ∷ back → IsSplit c xs front b)
    → map bit_at (cond t (x ∷ filter (is_comb_node c) xs) (filter (is_comb_node c) xs)) ≡ before ++ b ∷ after → IsSplit c (x ∷ xs) before b
split_step c x xs true [] after b is more same = record {
  place = 0;
  at = ap (λ n. Some n) (sym (node_at x) ∙ ap node_of (first_same same));
  bits = refl;
}
split_step c x xs true (y ∷ ys) after b is more same =
    let rest = more ys after (rest_same same) in
    record {
      place = suc rest.place;
      at = rest.at;
      bits = ap (λ t. map bit_at (cond t (x ∷ filter (is_comb_node c) (take rest.place xs)) (filter (is_comb_node c) (take rest.place xs)))) is ∙ ap (λ zs. bit_at x ∷ zs) rest.bits ∙ ap (λ z. z ∷ ys) (first_same same);
    }
split_step c x xs false before after b is more same =
    let rest = more before after same in
    record {
      place = suc rest.place;
      at = rest.at;
      bits = ap (λ t. map bit_at (cond t (x ∷ filter (is_comb_node c) (take rest.place xs)) (filter (is_comb_node c) (take rest.place xs)))) is ∙ rest.bits;
    }

pub split_bits : (c : Circuit) (order : List ℕ) (before after : List Bit) (b : Bit) → comb_bits c order ≡ before ++ b ∷ after → IsSplit c order before b
split_bits c [] [] after b same = cc
split_bits c [] (y ∷ ys) after b same = cc
split_bits c (x ∷ xs) before after b same = split_step c x xs (is_comb_node c x) before after b refl (λ front back. split_bits c xs front back b) same

-- ---- each bit once

other_bit : (n m : ℕ) → nat_eq n m ≡ false → same_bit (bit_at n) (bit_at m) ≡ false
other_bit n m other =
    ⊎_elim
    (λ (is : same_bit (bit_at n) (bit_at m) ≡ true).
    let parts = and_parts (n / 128 == m / 128) (n % 128 == m % 128) is in
    let same : n ≡ m = omega (arith, div-add-mod n 128, div-add-mod m 128, eqb-true (n / 128) (m / 128) parts.0, eqb-true (n % 128) (m % 128) parts.1) in
    absurd (false≢true (sym other ∙ eq-eqb n m same)))
    (λ (is : same_bit (bit_at n) (bit_at m) ≡ false). is)
    (cases_Bool (same_bit (bit_at n) (bit_at m)))

others : (c : Circuit) (n : ℕ) (xs : List ℕ) → AllByRecursion (λ m. nat_eq n m ≡ false) xs → AllByRecursion (λ x. same_bit (bit_at n) x ≡ false) (comb_bits c xs)
others c n xs h =
    all_from_contains (λ x. same_bit (bit_at n) x ≡ false) (comb_bits c xs)
    (λ x in'.
    let found = map_of bit_at (filter (is_comb_node c) xs) x in' in
    let P : ℕ → Type 0 = λ m. nat_eq n m ≡ false in
    let other = All-contains P xs found.0 (All-from_recursion P xs h) (filter_of (is_comb_node c) xs found.0 found.1).0 in
    subst (λ y. same_bit (bit_at n) y ≡ false) found.2 (other_bit n found.0 other))

once_step : (c : Circuit) (x : ℕ) (xs : List ℕ) (t : Bool) → AllByRecursion (λ y. same_bit (bit_at x) y ≡ false) (comb_bits c xs) → IsDistinct same_bit (comb_bits c xs)
    → IsDistinct same_bit (map bit_at (cond t (x ∷ filter (is_comb_node c) xs) (filter (is_comb_node c) xs)))
unfolding IsDistinct
once_step c x xs true other more = (other, more)
once_step c x xs false other more = more

pub bits_once : (c : Circuit) (xs : List ℕ) → IsDistinct nat_eq xs → IsDistinct same_bit (comb_bits c xs)
unfolding IsDistinct
bits_once c [] h = tt
bits_once c (x ∷ xs) h = once_step c x xs (is_comb_node c x) (others c x xs h.0) (bits_once c xs h.1)
