-- The enable of a write port: each of its bits stands for the bits of a granule.
use Rattle.std.proofs.Common.{◌≡◌, ℕ, zero, suc, ◌+◌, ◌-◌, ◌*◌, ◌≤◌, ◌<◌, ◌^◌, ◌/◌, ◌%◌, ◌==◌, ◌++◌, length, replicate, refl, sym, ◌∙◌, ap, subst, arith, ⊎_elim}
use Rattle.std.specs.Prelude.{Some, slice_get}
use Rattle.std.specs.List.{flat_map}
use Rattle.std.proofs.lemmas.Bool.{cases_lt}
use Rattle.std.proofs.lemmas.Nat.{pow_pos, mod_below}
use Rattle.std.proofs.Math.Nat.{mul_comm, mul-suc}
use Rattle.amh_bits.specs.Patterns.{nat_bit}
use Rattle.amh_bits.proofs.BitsOf.{nat_bit_zero, nat_bit_joined_low, nat_bit_joined_high}
use Rattle.amh_bits.proofs.Reductions.{nat_bit_ones}
use Rattle.amh_bits.proofs.Joins.{joined_below}
use Rattle.design_ir.specs.Rows.{enabled}
use Rattle.design_ir.proofs.Elements.{get_append_left, get_append_right}
use Rattle.rtlil_text.specs.Cells.{number_bits}
use Rattle.memory_cells.specs.Bits.{is_set}
use Rattle.memory_cells.specs.Laws.{EnablesSpread}
use Rattle.memory_cells.proofs.Disjoint.{one_bit}

-- one granule, all of it or nothing
granule_below : (g e : ℕ) → e % 2 * (2 ^ g - 1) < 2 ^ g
granule_below g e = let p = pow_pos g in one_bit (λ b. b * (2 ^ g - 1) < 2 ^ g) (e % 2) (mod_below e 2 (omega arith)) (omega (arith, p)) (omega (arith, p))

granule_bit : (g e k : ℕ) → k < g → nat_bit (e % 2 * (2 ^ g - 1)) k ≡ e % 2
granule_bit g e k h =
    let none : 0 * (2 ^ g - 1) ≡ 0 = omega arith in
    let all : 1 * (2 ^ g - 1) ≡ 2 ^ g - 1 = omega arith in
    one_bit (λ b. nat_bit (b * (2 ^ g - 1)) k ≡ b) (e % 2) (mod_below e 2 (omega arith)) (ap (λ n. nat_bit n k) none ∙ nat_bit_zero k) (ap (λ n. nat_bit n k) all ∙ nat_bit_ones g k h)

-- the others above it
above : (g n e : ℕ) → enabled g (suc n) e ≡ enabled g n (e / 2) * 2 ^ g + e % 2 * (2 ^ g - 1)
above g n e = let c = mul_comm (2 ^ g) (enabled g n (e / 2)) in omega (arith, c)

pub enabled_below : (g n e : ℕ) → enabled g n e < 2 ^ (g * n)
enabled_below g zero e = let z : g * zero ≡ 0 = omega arith in subst (λ j. 0 < 2 ^ j) (sym z) (pow_pos 0)
enabled_below g (suc n) e =
    let j : g + g * n ≡ g * suc n = let m = mul-suc g n in omega (arith, m) in
    subst (λ x. x < 2 ^ (g * suc n)) (sym (above g n e)) (subst (λ i. enabled g n (e / 2) * 2 ^ g + e % 2 * (2 ^ g - 1) < 2 ^ i) j
    (joined_below (e % 2 * (2 ^ g - 1)) (enabled g n (e / 2)) g (g * n) (granule_below g e) (enabled_below g n (e / 2))))

pub length-replicate : {A : Type 0} (n : ℕ) (a : A) → length (replicate n a) ≡ n
length-replicate zero a = refl
length-replicate (suc n) a = ap suc (length-replicate n a)

pub get-replicate : {A : Type 0} (n k : ℕ) (a : A) → k < n → slice_get (replicate n a) k ≡ Some a
get-replicate zero k a h = absurd (omega (arith, h))
get-replicate (suc n) zero a h = refl
get-replicate (suc n) (suc k) a h = get-replicate n k a (omega (arith, h))

-- one granule and those above it, as bits one after another
spread_from : (g n e k : ℕ) → k < g * suc n → ((j : ℕ) → j < g * n → slice_get (flat_map (λ b. replicate g b) (number_bits n (e / 2))) j ≡ Some (is_set (enabled g n (e / 2)) j))
    → slice_get (replicate g (e % 2 == 1) ++ flat_map (λ b. replicate g b) (number_bits n (e / 2))) k ≡ Some (is_set (enabled g (suc n) e) k)
spread_from g n e k h more = ⊎_elim low high (cases_lt k g)
  where
    low : k < g → slice_get (replicate g (e % 2 == 1) ++ flat_map (λ b. replicate g b) (number_bits n (e / 2))) k ≡ Some (is_set (enabled g (suc n) e) k)
    low l =
        get_append_left (replicate g (e % 2 == 1)) (flat_map (λ b. replicate g b) (number_bits n (e / 2))) k (e % 2 == 1) (get-replicate g k (e % 2 == 1) l)
        ∙ ap (λ b. Some (b == 1)) (sym (ap (λ x. nat_bit x k) (above g n e)
        ∙ nat_bit_joined_low (record { width = g; bits = e % 2 * (2 ^ g - 1) }) (record { width = g * n; bits = enabled g n (e / 2) }) k (granule_below g e) l ∙ granule_bit g e k l))

    high : g ≤ k → slice_get (replicate g (e % 2 == 1) ++ flat_map (λ b. replicate g b) (number_bits n (e / 2))) k ≡ Some (is_set (enabled g (suc n) e) k)
    high l =
        let xs = replicate g (e % 2 == 1) in
        let ys = flat_map (λ b. replicate g b) (number_bits n (e / 2)) in
        let j : ℕ = k - g in
        let long = length-replicate g (e % 2 == 1) in
        let size = mul-suc g n in
        let behind : k ≡ length xs + j = omega (arith, l, long) in
        let over : k ≡ g + j = omega (arith, l) in
        ap (slice_get (xs ++ ys)) behind
        ∙ get_append_right xs ys j
        ∙ more j (omega (arith, h, l, size))
        ∙ ap (λ b. Some (b == 1)) (sym (ap (λ x. nat_bit x k) (above g n e)
        ∙ ap (nat_bit (enabled g n (e / 2) * 2 ^ g + e % 2 * (2 ^ g - 1))) over
        ∙ nat_bit_joined_high (record { width = g; bits = e % 2 * (2 ^ g - 1) }) (record { width = g * n; bits = enabled g n (e / 2) }) j (granule_below g e)))

pub spread : EnablesSpread
spread g zero e k h = absurd (omega (arith, h))
spread g (suc n) e k h = spread_from g n e k h (λ j q. spread g n (e / 2) j q)
