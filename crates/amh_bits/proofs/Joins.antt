-- The bits of two bit vectors, one above the other.
use Rattle.std.proofs.Common.{◌≡◌, ℕ, ◌+◌, ◌*◌, ◌≤◌, ◌<◌, ◌^◌, ◌%◌, ◌∙◌, ap, arith, bit_or}
use Rattle.std.proofs.lemmas.Nat.{shl_whole, or_shifted, mul-add-lt, pow-add}

pub joined_below : (low high lw hw : ℕ) → low < 2 ^ lw → high < 2 ^ hw → high * 2 ^ lw + low < 2 ^ (lw + hw)
joined_below low high lw hw p q = rw (pow-add 2 lw hw) (mul-add-lt high (2 ^ lw) low (2 ^ hw) q p)

-- the shift loses no bit, and the lower bits fill what it leaves free
pub joined_bits : (low high lw hw : ℕ) → low < 2 ^ lw → high < 2 ^ hw → lw + hw ≤ 128 → bit_or (high * 2 ^ lw % 2 ^ 128) low ≡ high * 2 ^ lw + low
joined_bits low high lw hw p q narrow =
    ap (λ x. bit_or x low) (shl_whole high hw lw 128 q (omega arith)) ∙ or_shifted high lw low p
