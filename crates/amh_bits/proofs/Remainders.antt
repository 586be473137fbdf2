-- Floor remainders, by sign and size.
use Rattle.std.proofs.Common.{◌≡◌, ℕ, suc, ◌-◌, ◌*◌, ◌/◌, ◌%◌, pos, negsuc, neg_ℤ, arith}
use Rattle.std.proofs.lemmas.Int.{ints}
use Rattle.std.proofs.lemmas.Nat.{mod_below, div-add-mod'}
use Rattle.std.proofs.Math.Nat.{suc-mul, div-mul-le_self}
use Rattle.amh_bits.specs.Integers.{floor_rem}

pub floor_rem-pos_pos : (n m : ℕ) → floor_rem (pos n) (pos (suc m)) ≡ pos (n % suc m)
floor_rem-pos_pos n m = omega (arith, ints, div-add-mod' n (suc m))

pub floor_rem-negsuc_pos : (n m : ℕ) → floor_rem (negsuc n) (pos (suc m)) ≡ pos (m - n % suc m)
floor_rem-negsuc_pos n m = omega (arith, ints, div-add-mod' n (suc m), suc-mul (n / suc m) (suc m), mod_below n (suc m) (omega arith))

pub floor_rem-pos_negsuc : (n m : ℕ) → floor_rem (pos (suc n)) (negsuc m) ≡ neg_ℤ (pos (m - n % suc m))
floor_rem-pos_negsuc n m = omega (arith, ints, div-add-mod' n (suc m), suc-mul (n / suc m) (suc m), mod_below n (suc m) (omega arith))

pub floor_rem-negsuc_negsuc : (n m : ℕ) → floor_rem (negsuc n) (negsuc m) ≡ neg_ℤ (pos (suc n % suc m))
floor_rem-negsuc_negsuc n m = omega (arith, ints, div-add-mod' (suc n) (suc m))

pub floor_rem-zero_negsuc : (m : ℕ) → floor_rem (pos 0) (negsuc m) ≡ pos 0
floor_rem-zero_negsuc m =
    let e : 0 / suc m * suc m ≡ 0 = omega (arith, div-mul-le_self 0 (suc m)) in
    rw e
