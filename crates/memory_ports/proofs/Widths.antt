-- The width of the range of so many rows.
use Rattle.std.proofs.Common.{◌≡◌, ℕ, zero, suc, ◌+◌, ◌*◌, ◌%◌, ◌^◌, ◌<◌, ◌≤◌, Bool, true, false, if◌then◌else◌, refl, subst, arith}
use Rattle.std.proofs.lemmas.Bool.{leb-true, leb-false, le-leb, lt-leb}
use Rattle.std.proofs.lemmas.Nat.{one_shl}
use Rattle.std.proofs.Math.Dec.{leb}
use Rattle.design_ir.specs.Designs.{IsAddressWidth}
use Rattle.memory_ports.specs.Ports.{least_width, address_width}

-- a width that does not have so many numbers is passed over
pub least_width-next : (k w c : ℕ) → k < 16 → w < 32 → (1 * 2 ^ w) % 4294967296 < c → least_width (suc k) w c ≡ least_width k (w + 1) c
unfolding least_width
least_width-next k w c few narrow more = rw (lt-leb c (2 ^ w) (subst (λ (x : ℕ). x < c) (one_shl w 32 narrow) more)) refl

pub least_width-here : (k w c : ℕ) → w < 32 → c ≤ (1 * 2 ^ w) % 4294967296 → least_width k w c ≡ w
unfolding least_width
least_width-here zero w c narrow enough = refl
least_width-here (suc k) w c narrow enough = rw (le-leb c (2 ^ w) (subst (λ (x : ℕ). c ≤ x) (one_shl w 32 narrow) enough)) refl

pub least_width-none : (k w c : ℕ) → k ≡ 0 → least_width k w c ≡ w
unfolding least_width
least_width-none zero w c e = refl
least_width-none (suc k) w c e = absurd (omega (arith, e))

pub least_width-most : (k w c : ℕ) → least_width k w c ≤ w + k
unfolding least_width
least_width-most zero w c = omega arith
least_width-most (suc k) w c = go (leb c (2 ^ w)) (least_width-most k (w + 1) c)
  where
    go : (b : Bool) → least_width k (w + 1) c ≤ w + 1 + k → (if b then w else least_width k (w + 1) c) ≤ w + suc k
    go true h = omega arith
    go false h = omega arith

pub least_width-has : (k w c : ℕ) → c ≤ 2 ^ (w + k) → c ≤ 2 ^ least_width k w c
unfolding least_width
least_width-has zero w c h = subst (λ (x : ℕ). c ≤ 2 ^ x) (omega arith) h
least_width-has (suc k) w c h = go (leb c (2 ^ w)) refl (least_width-has k (w + 1) c (subst (λ (x : ℕ). c ≤ 2 ^ x) (omega arith) h))
  where
    go : (b : Bool) → leb c (2 ^ w) ≡ b → c ≤ 2 ^ least_width k (w + 1) c → c ≤ 2 ^ (if b then w else least_width k (w + 1) c)
    go true e h = leb-true c (2 ^ w) e
    go false e h = h

pub address_width-few : (c : ℕ) → address_width c ≤ 16
address_width-few c = least_width-most 16 0 c

-- each row has a number of the width
pub address_width-has : (c : ℕ) → c ≤ 65536 → c ≤ 2 ^ address_width c
address_width-has c few = least_width-has 16 0 c (omega arith)

below-other : (w v c : ℕ) → w ≤ v → 2 ^ w < c → c ≤ 2 ^ v → w + 1 ≤ v
below-other w v c le more h = go (leb v w) refl
  where
    go : (b : Bool) → leb v w ≡ b → w + 1 ≤ v
    go true e = absurd (let same : v ≡ w = (let low : v ≤ w = leb-true v w e in omega (arith, low, le)) in let again : c ≤ 2 ^ w = subst (λ (x : ℕ). c ≤ 2 ^ x) same h in omega (arith, more, again))
    go false e = let high : w < v = leb-false v w e in omega (arith, high)

least_width-least : (k w c v : ℕ) → w ≤ v → c ≤ 2 ^ v → least_width k w c ≤ v
unfolding least_width
least_width-least zero w c v le h = le
least_width-least (suc k) w c v le h = go (leb c (2 ^ w)) refl (λ more. least_width-least k (w + 1) c v (below-other w v c le more h) h)
  where
    go : (b : Bool) → leb c (2 ^ w) ≡ b → (2 ^ w < c → least_width k (w + 1) c ≤ v) → (if b then w else least_width k (w + 1) c) ≤ v
    go true e more = le
    go false e more = more (leb-false c (2 ^ w) e)

pub address_width-least : (count : ℕ) → count ≤ 65536 → IsAddressWidth count (address_width count)
address_width-least count few = record { enough = address_width-has count few; least = λ w h. least_width-least 16 0 count w (omega arith) h }
